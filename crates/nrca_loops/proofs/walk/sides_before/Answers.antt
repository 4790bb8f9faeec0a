use Rattle.std.proofs.Common.{◌++◌, sym, ◌∙◌, arith}
use Rattle.aql_value.specs.Canon.{canon}
use Rattle.nrca_loops.specs.Walks.{both_rest}
use Rattle.nrca_loops.proofs.Merged.{drop_is, drop_none}
use Rattle.nrca_loops.proofs.walk.sides_before.Goals as goal

pub returns-in-None : goal.returns-in-None
returns-in-None c =
    c.in-None.ensures ∙ sym (drop_none (canon (c.args.left.now ++ c.args.right.now)) c.loop-i._i c.args.number (omega arith) (sym c.loop-i.invariant ∙ c.in-None.ensures))

pub loop-i-preserved : goal.loop-i-preserved
loop-i-preserved c =
    let t = c.in-Some.ensures in
    sym (drop_is (canon (c.args.left.now ++ c.args.right.now)) c.loop-i._i t.member (both_rest c.args.left.now c.args.right.now c.in-Some.taken.left c.in-Some.taken.right) (sym c.loop-i.invariant ∙ t.rest)).1
