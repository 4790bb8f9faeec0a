use Rattle.std.proofs.Common.{sym, ◌∙◌, []}
use Rattle.aql_types.specs.Steps.{bare}
use Rattle.aql_types.proofs.Bare.{same_end, end_link, end_self}
use Rattle.aql_types.proofs.measure.end_of.Goals as goal

pub returns-in-Some : goal.returns-in-Some
returns-in-Some c = λ ps. sym (same_end ps [] c.args.ns.now c.args.i ∙ end_link (bare c.args.ns.now) c.args.i c.in-Some.j (sym c.in-Some.ensures))

pub returns-in-None : goal.returns-in-None
returns-in-None c = λ ps. sym (same_end ps [] c.args.ns.now c.args.i ∙ end_self (bare c.args.ns.now) c.args.i (sym c.in-None.ensures))
