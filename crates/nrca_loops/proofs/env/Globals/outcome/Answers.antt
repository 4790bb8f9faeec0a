use Rattle.std.proofs.Common.{◌≡◌, suc, ◌-◌, ◌∙◌, ap, arith}
use Rattle.std.proofs.lemmas.Result.{IfOk-weaker}
use Rattle.nrca_term.specs.Meaning.{outcome}
use Rattle.nrca_loops.specs.Values.{held_value}
use Rattle.nrca_loops.proofs.Looked.{outcome_there, outcome_past}
use Rattle.nrca_loops.proofs.env.Globals.outcome.Goals as goal

pub returns-then-i-len : goal.returns-then-i-len
returns-then-i-len c =
    let n : c.args.n ≡ suc (c.args.n - 1) = omega arith in
    let there = outcome_there c.self.inside.list.items c.args.n (c.args.n - 1) c.index.result.now n (omega arith) c.index.ensures in
    IfOk-weaker c.copy_env.result (λ v. held_value v ≡ held_value c.index.result.now) (λ v. held_value v ≡ outcome c.args.self.now c.args.n)
    (λ v e. e ∙ there ∙ ap (λ V. outcome V c.args.n) c.self.view_is) c.copy_env.ensures

pub returns-else-i-len : goal.returns-else-i-len
returns-else-i-len c =
    let n : c.args.n ≡ suc (c.args.n - 1) = omega arith in
    outcome_past c.self.inside.list.items c.args.n (c.args.n - 1) n (omega arith)
    ∙ ap (λ V. outcome V c.args.n) c.self.view_is
