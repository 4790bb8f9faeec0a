use Rattle.std.proofs.Common.{ap, sym, ◌∙◌}
use Rattle.aql_ty.specs.Types as types
use Rattle.aql_ty.specs.Types.{apply, apply_all}
use Rattle.aql_ty.specs.View.{type_of, types_of}
use Rattle.aql_ty.specs.Laws.View.{type_of_row}
use Rattle.aql_types.specs.Shapes as shape
use Rattle.aql_types.specs.Pushed.{shift}
use Rattle.aql_types.specs.Laws.Pushing.{kept_numbered, leaf_ok, set_ok, array_ok, tuple_ok, next_type}
use Rattle.aql_types.proofs.push.+push.Goals as goal

pub push_type-returns-in-Nat : goal.push_type-returns-in-Nat
push_type-returns-in-Nat t c =
    leaf_ok c.push_natural.result c.args.g shape.natural (apply (shift c.args.by) (type_of c.args.t.now)) tt (ap (λ x. apply (shift c.args.by) (type_of x)) c.in-Nat.is) c.push_natural.ensures

pub push_type-returns-in-Bool : goal.push_type-returns-in-Bool
push_type-returns-in-Bool t c =
    leaf_ok c.push_truth.result c.args.g shape.truth (apply (shift c.args.by) (type_of c.args.t.now)) tt (ap (λ x. apply (shift c.args.by) (type_of x)) c.in-Bool.is) c.push_truth.ensures

pub push_type-returns-in-Text : goal.push_type-returns-in-Text
push_type-returns-in-Text t c =
    leaf_ok c.push_text.result c.args.g shape.text (apply (shift c.args.by) (type_of c.args.t.now)) tt (ap (λ x. apply (shift c.args.by) (type_of x)) c.in-Text.is) c.push_text.ensures

pub push_type-returns-in_ok-parts-in-Tuple : goal.push_type-returns-in_ok-parts-in-Tuple
push_type-returns-in_ok-parts-in-Tuple t c =
    tuple_ok c.push_tuple.result c.deref-in-Tuple.result.now c.in_ok-parts-in-Tuple.parts.items c.in_ok-parts-in-Tuple.g c.args.g
    (apply_all (shift c.args.by) (types_of c.deref.result.now)) (apply (shift c.args.by) (type_of c.args.t.now))
    (ap (λ x. apply (shift c.args.by) (type_of x)) c.in-Tuple.is ∙ ap (apply (shift c.args.by)) (type_of_row c.in-Tuple.ts) ∙ ap (λ xs. types.product (apply_all (shift c.args.by) (types_of xs))) (sym c.deref.ensures.value))
    c.deref-in-Tuple.ensures.value c.in_ok-parts-in-Tuple.ensures c.push_tuple.ensures

pub push_type-returns-in_ok-member-in-SetOf : goal.push_type-returns-in_ok-member-in-SetOf
push_type-returns-in_ok-member-in-SetOf t c =
    set_ok c.push_set.result c.in_ok-member-in-SetOf.member c.in_ok-member-in-SetOf.g c.args.g (apply (shift c.args.by) (type_of c.deref-in-SetOf.result.now)) (apply (shift c.args.by) (type_of c.args.t.now))
    (ap (λ x. apply (shift c.args.by) (type_of x)) c.in-SetOf.is ∙ ap (λ x. types.set_of (apply (shift c.args.by) (type_of x))) (sym c.deref-in-SetOf.ensures)) c.in_ok-member-in-SetOf.ensures c.push_set.ensures

pub push_type-returns-in_ok-cell-in-ArrayOf : goal.push_type-returns-in_ok-cell-in-ArrayOf
push_type-returns-in_ok-cell-in-ArrayOf t c =
    array_ok c.push_array.result c.in_ok-rank-in-ArrayOf.rank c.in-ArrayOf.rank c.in_ok-cell-in-ArrayOf.cell c.in_ok-cell-in-ArrayOf.g c.args.g
    (apply (shift c.args.by) (type_of c.deref-in-ArrayOf.result.now)) (apply (shift c.args.by) (type_of c.args.t.now))
    (ap (λ x. apply (shift c.args.by) (type_of x)) c.in-ArrayOf.is ∙ ap (λ x. types.array_of c.in-ArrayOf.rank (apply (shift c.args.by) (type_of x))) (sym c.deref-in-ArrayOf.ensures)) c.in_ok-rank-in-ArrayOf.ensures
    c.in_ok-cell-in-ArrayOf.ensures c.push_array.ensures

pub push_types-loop-t-preserved : goal.push_types-loop-t-preserved
push_types-loop-t-preserved t c =
    let h = c.loop-t.invariant in
    record {
      numbered = kept_numbered c.in_ok-i.more c.loop-t.g c.in_ok-i.ensures.extends h.numbered;
      pushes = next_type (shift c.args.by) c.loop-t.made.items c.push.new.self.items c.in_ok-i.i c.loop-t.t-index c.in_ok-i.more c.loop-t.g c.args.g c.args.ts.now c.t-item.result c.t-item.result
          c.in_ok-push.ensures.items c.loop-t-test.true c.t-item.is h.pushes c.in_ok-i.ensures;
    }
