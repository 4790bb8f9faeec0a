use Rattle.std.proofs.Common.{below_more, not, ap, ◌∙◌, subst, arith}
use Rattle.std.specs.Prelude.{IsSome}
use Rattle.aql_types.specs.Forms.{forms}
use Rattle.aql_types.specs.Extents.{extent}
use Rattle.aql_types.proofs.Bare.{forms_length}
use Rattle.aql_types.proofs.measure.are_within.Goals as goal

pub loop-i-preserved : goal.loop-i-preserved
loop-i-preserved c =
    let fs = forms c.args.ps.now c.args.ns.now in
    record {
      known = below_more (λ k. IsSome (extent c.args.most c.args.limit fs k)) c.loop-i.i c.loop-i.invariant.known
          (subst IsSome c.extent.ensures.found (c.is_none.ensures ∙ ap not c.if-is_none.false));
      memo = c.extent.ensures.memo;
    }

pub returns : goal.returns
returns c = λ i lt. c.loop-i.invariant.known i (omega (arith, lt, forms_length c.args.ps.now c.args.ns.now))
