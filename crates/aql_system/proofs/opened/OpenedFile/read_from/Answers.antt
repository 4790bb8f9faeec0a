use Rattle.std.proofs.Common.{subst, sym}
use Rattle.aql_system.specs.Filling.{StandsAt, StandsWhere}
use Rattle.aql_system.proofs.Given.{stands_where}
use Rattle.aql_system.proofs.opened.OpenedFile.read_from.Goals as goal

pub returns-clause-stands : goal.returns-clause-stands
returns-clause-stands g c =
    subst (λ b. StandsWhere b c.checked_add-self.result (g.F.DiskFile.left c.read_full.new.reader)) (sym c.read_full.ensures.kept)
    (stands_where _ (g.F.DiskFile.left c.go_to.new.self.file) _ _ _ c.read_full.new.into _ _ c.in_ok-count.ensures.bound c.in_ok-go_to.ensures.there
    c.in_ok-count.ensures.consumed c.checked_add-self.ensures)
