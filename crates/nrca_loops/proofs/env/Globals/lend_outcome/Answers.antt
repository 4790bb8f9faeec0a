use Rattle.std.proofs.Common.{◌≡◌, suc, ◌-◌, ◌∙◌, ap, arith}
use Rattle.nrca_term.specs.Meaning.{outcome}
use Rattle.nrca_loops.proofs.Looked.{outcome_there, outcome_lent}
use Rattle.nrca_loops.proofs.env.Globals.lend_outcome.Goals as goal

pub returns-then-i-len : goal.returns-then-i-len
returns-then-i-len c =
    let n : c.args.n ≡ suc (c.args.n - 1) = omega arith in
    let there = outcome_there c.self.inside.list.items c.args.n (c.args.n - 1) c.index.result.now n (omega arith) c.index.ensures in
    outcome_lent c.as_ref.result c.index.result.now (outcome c.args.self.now c.args.n) c.as_ref.ensures.value
    (there ∙ ap (λ V. outcome V c.args.n) c.self.view_is)
