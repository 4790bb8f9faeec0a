use Rattle.std.proofs.Common.{◌-◌, sym, ◌∙◌, arith}
use Rattle.aql_desugar.proofs.Scoping.{found_at, passed_at, none_left}
use Rattle.aql_desugar.proofs.names.index_of.Goals as goal

pub returns-then-is_named : goal.returns-then-is_named
returns-then-is_named c =
    found_at (λ x. x.now) c.args.name.now c.args.names.now c.loop-i.i (c.loop-i.i - 1) c.index-names-i.result (omega arith) c.loop-i.invariant.low c.index-names-i.is
    (sym c.is_named.ensures ∙ c.if-is_named.true) c.loop-i.invariant.same

pub loop-i-preserved : goal.loop-i-preserved
loop-i-preserved c = record {
  low = omega arith;
  same = passed_at (λ x. x.now) c.args.name.now c.args.names.now c.loop-i.i (c.loop-i.i - 1) c.index-names-i.result (omega arith) c.loop-i.invariant.low c.index-names-i.is
      (sym c.is_named.ensures ∙ c.if-is_named.false) c.loop-i.invariant.same;
}

pub returns : goal.returns
returns c = none_left (λ x. x.now) c.args.name.now c.args.names.now c.loop-i.i c.loop-i-test.false c.loop-i.invariant.same
