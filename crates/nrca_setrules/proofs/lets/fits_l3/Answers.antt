use Rattle.std.proofs.Common.{rules, ap, ◌∙◌}
use Rattle.nrca_term.specs.View.{term_of}
use Rattle.nrca_term.specs.Laws.Equations.{term_of-Let}
use Rattle.nrca_term.specs.Laws.WellFormed.{well_formed-Core}
use Rattle.nrca_setrules.proofs.LetSides.{fits_let}
use Rattle.nrca_setrules.proofs.lets.fits_l3.Goals as goal

pub returns-in-Let : goal.returns-in-Let
returns-in-Let c =
    fits_let (term_of c.args.term.now) (term_of c.in-Let.field-0.value) (term_of c.in-Let.body.value) c.uses.result
    (ap term_of c.in-Let.is ∙ term_of-Let c.in-Let.field-0 c.in-Let.body) (well_formed-Core c.in-Let.body.value) (search rules)
