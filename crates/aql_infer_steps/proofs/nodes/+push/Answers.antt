use Rattle.std.proofs.Common.{arith, refl, ap, sym, ◌∙◌}
use denote.Param.Weighed.{at_most}
use Rattle.aql_ty.specs.Types as types
use Rattle.aql_ty.specs.View.{type_of}
use Rattle.aql_types.specs.Shapes as shape
use Rattle.aql_types.specs.Laws.Pushing.{set_ok, array_ok, tuple_ok}
use Rattle.aql_infer_steps.specs.View.{sketch_type, sketch_types}
use Rattle.aql_infer_steps.proofs.sketch.Sketch.TheLaws.{the_size}
use Rattle.aql_infer_steps.proofs.Sketching.{sketch_row_is}
use Rattle.aql_infer_steps.proofs.Noting.{plain_ok, joined_made, next_sketch}
use Rattle.aql_infer_steps.proofs.nodes.+push.Goals as goal

pub push_sketches-loop-t-preserved : goal.push_sketches-loop-t-preserved
push_sketches-loop-t-preserved t c = record {
  under = c.in_ok-i.ensures.1;
  pushes = next_sketch c.args.positions.now c.loop-t.made.items c.push.new.self.items c.in_ok-i.i c.loop-t.t-index c.in_ok-i.more.graph c.loop-t.w.graph c.args.w.graph c.args.ts.now
      c.t-item.result c.t-item.result c.in_ok-push.ensures.items c.loop-t-test.true c.t-item.is c.loop-t.invariant.pushes c.in_ok-i.ensures.0;
}

pub push_sketches-push_sketch-requires : goal.push_sketches-push_sketch-requires
push_sketches-push_sketch-requires t c =
    let h = at_most the_size c.args.ts.now c.loop-t.t-index c.t-item.result c.loop-t-test.true in
    let e = ap the_size c.t-item.is in
    (omega (arith, h, e, c.decreases), c.loop-t.invariant.under)

pub push_sketch-returns-in-Plain : goal.push_sketch-returns-in-Plain
push_sketch-returns-in-Plain t c =
    plain_ok c.args.positions.now c.push_type.result c.with_known.result c.args.w (type_of c.in-Plain.t) (sketch_type c.args.positions.now c.args.t.now)
    (ap (sketch_type c.args.positions.now) c.in-Plain.is) c.requires c.push_type.ensures c.with_known.ensures

pub push_sketch-returns-in_ok-parts-in-Tuple : goal.push_sketch-returns-in_ok-parts-in-Tuple
push_sketch-returns-in_ok-parts-in-Tuple t c =
    joined_made c.args.positions.now c.push_tuple.result c.with_known-in-Tuple.result c.in_ok-parts-in-Tuple.w c.args.w (shape.product c.deref-in-Tuple.result.now)
    (sketch_type c.args.positions.now c.args.t.now) c.in_ok-parts-in-Tuple.ensures.1 c.push_tuple.ensures
    (tuple_ok c.push_tuple.result c.deref-in-Tuple.result.now c.in_ok-parts-in-Tuple.parts.items c.in_ok-parts-in-Tuple.w.graph c.args.w.graph
    (sketch_types c.args.positions.now c.deref.result.now) (sketch_type c.args.positions.now c.args.t.now)
    (ap (sketch_type c.args.positions.now) c.in-Tuple.is ∙ sketch_row_is c.args.positions.now c.in-Tuple.ts
    ∙ ap (λ xs. types.product (sketch_types c.args.positions.now xs)) (sym c.deref.ensures.value))
    c.deref-in-Tuple.ensures.value c.in_ok-parts-in-Tuple.ensures.0 c.push_tuple.ensures)
    c.with_known-in-Tuple.ensures

pub push_sketch-returns-in_ok-member-in-SetOf : goal.push_sketch-returns-in_ok-member-in-SetOf
push_sketch-returns-in_ok-member-in-SetOf t c =
    joined_made c.args.positions.now c.push_set.result c.with_known-in-SetOf.result c.in_ok-member-in-SetOf.w c.args.w (shape.set_of c.in_ok-member-in-SetOf.member)
    (sketch_type c.args.positions.now c.args.t.now) c.in_ok-member-in-SetOf.ensures.1 c.push_set.ensures
    (set_ok c.push_set.result c.in_ok-member-in-SetOf.member c.in_ok-member-in-SetOf.w.graph c.args.w.graph
    (sketch_type c.args.positions.now c.deref-in-SetOf.result.now) (sketch_type c.args.positions.now c.args.t.now)
    (ap (sketch_type c.args.positions.now) c.in-SetOf.is ∙ ap (λ x. types.set_of (sketch_type c.args.positions.now x)) (sym c.deref-in-SetOf.ensures))
    c.in_ok-member-in-SetOf.ensures.0 c.push_set.ensures)
    c.with_known-in-SetOf.ensures

pub push_sketch-returns-in_ok-cell-in-ArrayOf : goal.push_sketch-returns-in_ok-cell-in-ArrayOf
push_sketch-returns-in_ok-cell-in-ArrayOf t c =
    joined_made c.args.positions.now c.push_array_of.result c.with_known-in-ArrayOf.result c.in_ok-cell-in-ArrayOf.w c.args.w
    (shape.array_of c.in-ArrayOf.rank c.in_ok-cell-in-ArrayOf.cell) (sketch_type c.args.positions.now c.args.t.now) c.in_ok-cell-in-ArrayOf.ensures.1
    c.push_array_of.ensures
    (array_ok c.push_array_of.result c.in-ArrayOf.rank c.in-ArrayOf.rank c.in_ok-cell-in-ArrayOf.cell c.in_ok-cell-in-ArrayOf.w.graph c.args.w.graph
    (sketch_type c.args.positions.now c.deref-in-ArrayOf.result.now) (sketch_type c.args.positions.now c.args.t.now)
    (ap (sketch_type c.args.positions.now) c.in-ArrayOf.is
    ∙ ap (λ x. types.array_of c.in-ArrayOf.rank (sketch_type c.args.positions.now x)) (sym c.deref-in-ArrayOf.ensures))
    refl c.in_ok-cell-in-ArrayOf.ensures.0 c.push_array_of.ensures)
    c.with_known-in-ArrayOf.ensures
