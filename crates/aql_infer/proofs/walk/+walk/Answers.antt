use Rattle.std.proofs.Common.{List, subst, ◌∙◌}
use Rattle.aql_infer_steps.specs.declared.names.Local.{Local}
use Rattle.aql_syntax.specs.declared.ast.Expr as code
use Rattle.aql_infer_steps.specs.Constraints.{made_arith, made_compare, made_dim, made_either, made_gen, made_get, made_index, made_truth, made_truths, made_union}
use Rattle.aql_infer_steps.specs.View.{Extends, locals_of, schemes_of, sketch_type, state_of}
use Rattle.aql_infer_steps.specs.Laws.Growing.{extends_extends}
use Rattle.aql_infer.proofs.Walking.{all_more, along, binds_more, bounds_more, comp_arm, count_more, each_more, follows_kept, if_arm, let_arm, literal_arm, make-And, make-Arith, make-Compare, make-Default, make-Dim, make-Gen, make-Get, make-Index, make-Len, make-Not, make-Or, make-Union, members_arm, one_made, rows_fail, rows_more, sub_arm, tab_arm, two_made}
use Rattle.aql_infer.proofs.walk.+walk.Goals as goal

pub infer_form-returns-in-Comp-clause-made : goal.infer_form-returns-in-Comp-clause-made
infer_form-returns-in-Comp-clause-made t c =
    along c.args.positions.now _ _ _ (comp_arm c.args.e.now c.in-Comp.head c.in-Comp.quals _ _ (schemes_of c.args.positions.now) (locals_of c.args.positions.now c.args.env.now.items) (state_of c.args.positions.now c.args.s)
    c.in-Comp.is c.deref-in-Comp.ensures c.deref-in-Comp-2.ensures.value) c.infer_comprehension.ensures.made

pub infer_form-returns-in-Sub-clause-made : goal.infer_form-returns-in-Sub-clause-made
infer_form-returns-in-Sub-clause-made t c =
    along c.args.positions.now _ _ _ (sub_arm c.args.e.now c.in-Sub.array c.in-Sub.at _ _ (schemes_of c.args.positions.now) (locals_of c.args.positions.now c.args.env.now.items) (state_of c.args.positions.now c.args.s)
    c.in-Sub.is c.deref-in-Sub.ensures c.deref-in-Sub-2.ensures.value) c.infer_subscript.ensures.made

pub infer_form-returns-in-Literal-clause-made : goal.infer_form-returns-in-Literal-clause-made
infer_form-returns-in-Literal-clause-made t c =
    along c.args.positions.now _ _ _ (literal_arm c.args.e.now c.in-Literal.dims c.in-Literal.cells _ _ (schemes_of c.args.positions.now) (locals_of c.args.positions.now c.args.env.now.items) (state_of c.args.positions.now c.args.s)
    c.in-Literal.is c.deref-in-Literal.ensures.value c.deref-in-Literal-2.ensures.value) c.infer_literal.ensures.made

pub infer_rows-returns-in-Err-clause-made : goal.infer_rows-returns-in-Err-clause-made
infer_rows-returns-in-Err-clause-made t c =
    rows_fail c.in-Err.fault c.args.quals.now c.loop-q.q-index c.q-item.result (schemes_of c.args.positions.now) _ _ _ c.loop-q-test.true c.q-item.is
    c.in-Err.ensures.made c.loop-q.invariant.made

pub infer_rows-loop-q-preserved : goal.infer_rows-loop-q-preserved
infer_rows-loop-q-preserved t c = record {
  made = rows_more c.args.quals.now c.loop-q.q-index c.q-item.result (schemes_of c.args.positions.now) _ _ _ _ _ c.loop-q-test.true c.q-item.is c.in-Ok.ensures.made c.loop-q.invariant.made;
  extends = extends_extends _ _ _ c.loop-q.invariant.extends c.in-Ok.ensures.extends;
}

pub infer_all-loop-e-preserved : goal.infer_all-loop-e-preserved
infer_all-loop-e-preserved t c = record {
  made = all_more c.args.positions.now c.args.es.now c.loop-e.e-index c.e-item.result (schemes_of c.args.positions.now) _ _ _ _ _ _ _ _ c.loop-e-test.true c.e-item.is
      c.in_ok-t.ensures.made c.in_ok-t.ensures.kept c.in_ok-push.ensures.items c.loop-e.invariant.made;
  count = count_more _ _ _ _ c.loop-e.invariant.count c.in_ok-push.ensures.items;
  kept = c.in_ok-t.ensures.kept ∙ c.loop-e.invariant.kept;
}

pub infer_each-loop-e-preserved : goal.infer_each-loop-e-preserved
infer_each-loop-e-preserved t c = record {
  made = each_more c.args.positions.now c.args.es.now c.loop-e.e-index c.e-item.result (schemes_of c.args.positions.now) _ _ _ _ _ _ _ _ c.loop-e-test.true c.e-item.is
      c.in_ok-y.ensures.made c.in_ok-y.ensures.kept c.in_ok-s.ensures c.loop-e.invariant.made;
  kept = c.in_ok-y.ensures.kept ∙ c.loop-e.invariant.kept;
}

pub infer_bounds-loop-b-preserved : goal.infer_bounds-loop-b-preserved
infer_bounds-loop-b-preserved t c = record {
  made = bounds_more c.args.positions.now c.args.binds.now c.loop-b.b-index c.b-item.result (schemes_of c.args.positions.now) _ _ _ _ _ _ _ c.loop-b-test.true c.b-item.is
      c.in_ok-y.ensures.made c.in_ok-y.ensures.kept c.in_ok-s.ensures c.loop-b.invariant.made;
  kept = c.in_ok-y.ensures.kept ∙ c.loop-b.invariant.kept;
}

pub infer_binds-loop-b-preserved : goal.infer_binds-loop-b-preserved
infer_binds-loop-b-preserved t c =
    let new = c.match_pattern.new.env.items in
    record {
      made = binds_more c.args.positions.now c.args.binds.now c.loop-b.b-index c.b-item.result (schemes_of c.args.positions.now) c.loop-b.env.items c.infer.new.env.items new
          (state_of c.args.positions.now c.loop-b.s) (state_of c.args.positions.now c.in_ok-y.then) (state_of c.args.positions.now c.in_ok-s.s) (sketch_type c.args.positions.now c.in_ok-y.y) _ c.loop-b-test.true c.b-item.is
          c.in_ok-y.ensures.made c.in_ok-y.ensures.kept c.in_ok-s.ensures.made c.loop-b.invariant.made;
      extends = extends_extends _ _ _ c.loop-b.invariant.extends (subst (λ (l : List Local). Extends l new) c.in_ok-y.ensures.kept c.in_ok-s.ensures.extends);
    }

pub infer_form-returns-in-Not-clause-made : goal.infer_form-returns-in-Not-clause-made
infer_form-returns-in-Not-clause-made t c =
    one_made c.args.positions.now (schemes_of c.args.positions.now) (locals_of c.args.positions.now c.args.env.now.items) (state_of c.args.positions.now c.args.s) code.Not made_truth (make-Not (schemes_of c.args.positions.now) (locals_of c.args.positions.now c.args.env.now.items) (state_of c.args.positions.now c.args.s))
    c.args.e.now c.in-Not.a _ c.infer.result c.truth_of.result c.in-Not.is c.deref-in-Not.ensures c.infer.ensures.made c.truth_of.ensures

pub infer_form-returns-in-Gen-clause-made : goal.infer_form-returns-in-Gen-clause-made
infer_form-returns-in-Gen-clause-made t c =
    one_made c.args.positions.now (schemes_of c.args.positions.now) (locals_of c.args.positions.now c.args.env.now.items) (state_of c.args.positions.now c.args.s) code.Gen made_gen (make-Gen (schemes_of c.args.positions.now) (locals_of c.args.positions.now c.args.env.now.items) (state_of c.args.positions.now c.args.s))
    c.args.e.now c.in-Gen.a _ c.infer-in-Gen.result c.generated_of.result c.in-Gen.is c.deref-in-Gen.ensures c.infer-in-Gen.ensures.made c.generated_of.ensures

pub infer_form-returns-in-Get-clause-made : goal.infer_form-returns-in-Get-clause-made
infer_form-returns-in-Get-clause-made t c =
    one_made c.args.positions.now (schemes_of c.args.positions.now) (locals_of c.args.positions.now c.args.env.now.items) (state_of c.args.positions.now c.args.s) code.Get made_get (make-Get (schemes_of c.args.positions.now) (locals_of c.args.positions.now c.args.env.now.items) (state_of c.args.positions.now c.args.s))
    c.args.e.now c.in-Get.a _ c.infer-in-Get.result c.member_of.result c.in-Get.is c.deref-in-Get.ensures c.infer-in-Get.ensures.made c.member_of.ensures

pub infer_form-returns-in-Len-clause-made : goal.infer_form-returns-in-Len-clause-made
infer_form-returns-in-Len-clause-made t c =
    one_made c.args.positions.now (schemes_of c.args.positions.now) (locals_of c.args.positions.now c.args.env.now.items) (state_of c.args.positions.now c.args.s) code.Len (made_dim 1) (make-Len (schemes_of c.args.positions.now) (locals_of c.args.positions.now c.args.env.now.items) (state_of c.args.positions.now c.args.s))
    c.args.e.now c.in-Len.a _ c.infer-in-Len.result c.dimensions_of.result c.in-Len.is c.deref-in-Len.ensures c.infer-in-Len.ensures.made c.dimensions_of.ensures

pub infer_form-returns-in-Dim-clause-made : goal.infer_form-returns-in-Dim-clause-made
infer_form-returns-in-Dim-clause-made t c =
    one_made c.args.positions.now (schemes_of c.args.positions.now) (locals_of c.args.positions.now c.args.env.now.items) (state_of c.args.positions.now c.args.s) (code.Dim c.in-Dim.rank) (made_dim c.in-Dim.rank) (make-Dim (schemes_of c.args.positions.now) (locals_of c.args.positions.now c.args.env.now.items) (state_of c.args.positions.now c.args.s) c.in-Dim.rank)
    c.args.e.now c.in-Dim.array _ c.infer-in-Dim.result c.dimensions_of-in-Dim.result c.in-Dim.is c.deref-in-Dim.ensures c.infer-in-Dim.ensures.made c.dimensions_of-in-Dim.ensures

pub infer_form-returns-in-Index-clause-made : goal.infer_form-returns-in-Index-clause-made
infer_form-returns-in-Index-clause-made t c =
    one_made c.args.positions.now (schemes_of c.args.positions.now) (locals_of c.args.positions.now c.args.env.now.items) (state_of c.args.positions.now c.args.s) (code.Index c.in-Index.rank) (made_index c.in-Index.rank) (make-Index (schemes_of c.args.positions.now) (locals_of c.args.positions.now c.args.env.now.items) (state_of c.args.positions.now c.args.s) c.in-Index.rank)
    c.args.e.now c.in-Index.pairs _ c.infer-in-Index.result c.grouped_of.result c.in-Index.is c.deref-in-Index.ensures c.infer-in-Index.ensures.made c.grouped_of.ensures

pub infer_form-returns-in-And-clause-made : goal.infer_form-returns-in-And-clause-made
infer_form-returns-in-And-clause-made t c =
    two_made c.args.positions.now (schemes_of c.args.positions.now) (locals_of c.args.positions.now c.args.env.now.items) (state_of c.args.positions.now c.args.s) code.And made_truths (make-And (schemes_of c.args.positions.now) (locals_of c.args.positions.now c.args.env.now.items) (state_of c.args.positions.now c.args.s))
    c.args.e.now c.in-And.a c.in-And.b _ _ c.infer_two.result c.truths_of.result c.in-And.is c.deref-in-And.ensures c.deref-in-And-2.ensures c.infer_two.ensures.made c.truths_of.ensures

pub infer_form-returns-in-Or-clause-made : goal.infer_form-returns-in-Or-clause-made
infer_form-returns-in-Or-clause-made t c =
    two_made c.args.positions.now (schemes_of c.args.positions.now) (locals_of c.args.positions.now c.args.env.now.items) (state_of c.args.positions.now c.args.s) code.Or made_truths (make-Or (schemes_of c.args.positions.now) (locals_of c.args.positions.now c.args.env.now.items) (state_of c.args.positions.now c.args.s))
    c.args.e.now c.in-Or.a c.in-Or.b _ _ c.infer_two-in-Or.result c.truths_of-in-Or.result c.in-Or.is c.deref-in-Or.ensures c.deref-in-Or-2.ensures c.infer_two-in-Or.ensures.made c.truths_of-in-Or.ensures

pub infer_form-returns-in-Compare-clause-made : goal.infer_form-returns-in-Compare-clause-made
infer_form-returns-in-Compare-clause-made t c =
    two_made c.args.positions.now (schemes_of c.args.positions.now) (locals_of c.args.positions.now c.args.env.now.items) (state_of c.args.positions.now c.args.s) (code.Compare c.in-Compare.field-0) made_compare (make-Compare (schemes_of c.args.positions.now) (locals_of c.args.positions.now c.args.env.now.items) (state_of c.args.positions.now c.args.s) c.in-Compare.field-0)
    c.args.e.now c.in-Compare.a c.in-Compare.b _ _ c.infer_two-in-Compare.result c.comparison_of.result c.in-Compare.is c.deref-in-Compare.ensures c.deref-in-Compare-2.ensures c.infer_two-in-Compare.ensures.made c.comparison_of.ensures

pub infer_form-returns-in-Arith-clause-made : goal.infer_form-returns-in-Arith-clause-made
infer_form-returns-in-Arith-clause-made t c =
    two_made c.args.positions.now (schemes_of c.args.positions.now) (locals_of c.args.positions.now c.args.env.now.items) (state_of c.args.positions.now c.args.s) (code.Arith c.in-Arith.field-0) made_arith (make-Arith (schemes_of c.args.positions.now) (locals_of c.args.positions.now c.args.env.now.items) (state_of c.args.positions.now c.args.s) c.in-Arith.field-0)
    c.args.e.now c.in-Arith.a c.in-Arith.b _ _ c.infer_two-in-Arith.result c.arith_of.result c.in-Arith.is c.deref-in-Arith.ensures c.deref-in-Arith-2.ensures c.infer_two-in-Arith.ensures.made c.arith_of.ensures

pub infer_form-returns-in-Union-clause-made : goal.infer_form-returns-in-Union-clause-made
infer_form-returns-in-Union-clause-made t c =
    two_made c.args.positions.now (schemes_of c.args.positions.now) (locals_of c.args.positions.now c.args.env.now.items) (state_of c.args.positions.now c.args.s) code.Union made_union (make-Union (schemes_of c.args.positions.now) (locals_of c.args.positions.now c.args.env.now.items) (state_of c.args.positions.now c.args.s))
    c.args.e.now c.in-Union.a c.in-Union.b _ _ c.infer_two-in-Union.result c.union_of.result c.in-Union.is c.deref-in-Union.ensures c.deref-in-Union-2.ensures c.infer_two-in-Union.ensures.made c.union_of.ensures

pub infer_form-returns-in-Default-clause-made : goal.infer_form-returns-in-Default-clause-made
infer_form-returns-in-Default-clause-made t c =
    two_made c.args.positions.now (schemes_of c.args.positions.now) (locals_of c.args.positions.now c.args.env.now.items) (state_of c.args.positions.now c.args.s) code.Default made_either (make-Default (schemes_of c.args.positions.now) (locals_of c.args.positions.now c.args.env.now.items) (state_of c.args.positions.now c.args.s))
    c.args.e.now c.in-Default.a c.in-Default.b _ _ c.infer_two-in-Default.result c.either_of.result c.in-Default.is c.deref-in-Default.ensures c.deref-in-Default-2.ensures c.infer_two-in-Default.ensures.made c.either_of.ensures

pub infer_form-returns-in-Not-clause-kept : goal.infer_form-returns-in-Not-clause-kept
infer_form-returns-in-Not-clause-kept t c = follows_kept c.infer.result c.truth_of.result _ _ c.infer.ensures.kept c.truth_of.ensures

pub infer_form-returns-in-Gen-clause-kept : goal.infer_form-returns-in-Gen-clause-kept
infer_form-returns-in-Gen-clause-kept t c = follows_kept c.infer-in-Gen.result c.generated_of.result _ _ c.infer-in-Gen.ensures.kept c.generated_of.ensures

pub infer_form-returns-in-Get-clause-kept : goal.infer_form-returns-in-Get-clause-kept
infer_form-returns-in-Get-clause-kept t c = follows_kept c.infer-in-Get.result c.member_of.result _ _ c.infer-in-Get.ensures.kept c.member_of.ensures

pub infer_form-returns-in-Len-clause-kept : goal.infer_form-returns-in-Len-clause-kept
infer_form-returns-in-Len-clause-kept t c = follows_kept c.infer-in-Len.result c.dimensions_of.result _ _ c.infer-in-Len.ensures.kept c.dimensions_of.ensures

pub infer_form-returns-in-Dim-clause-kept : goal.infer_form-returns-in-Dim-clause-kept
infer_form-returns-in-Dim-clause-kept t c = follows_kept c.infer-in-Dim.result c.dimensions_of-in-Dim.result _ _ c.infer-in-Dim.ensures.kept c.dimensions_of-in-Dim.ensures

pub infer_form-returns-in-Index-clause-kept : goal.infer_form-returns-in-Index-clause-kept
infer_form-returns-in-Index-clause-kept t c = follows_kept c.infer-in-Index.result c.grouped_of.result _ _ c.infer-in-Index.ensures.kept c.grouped_of.ensures

pub infer_form-returns-in-And-clause-kept : goal.infer_form-returns-in-And-clause-kept
infer_form-returns-in-And-clause-kept t c = follows_kept c.infer_two.result c.truths_of.result _ _ c.infer_two.ensures.kept c.truths_of.ensures

pub infer_form-returns-in-Or-clause-kept : goal.infer_form-returns-in-Or-clause-kept
infer_form-returns-in-Or-clause-kept t c = follows_kept c.infer_two-in-Or.result c.truths_of-in-Or.result _ _ c.infer_two-in-Or.ensures.kept c.truths_of-in-Or.ensures

pub infer_form-returns-in-Compare-clause-kept : goal.infer_form-returns-in-Compare-clause-kept
infer_form-returns-in-Compare-clause-kept t c = follows_kept c.infer_two-in-Compare.result c.comparison_of.result _ _ c.infer_two-in-Compare.ensures.kept c.comparison_of.ensures

pub infer_form-returns-in-Arith-clause-kept : goal.infer_form-returns-in-Arith-clause-kept
infer_form-returns-in-Arith-clause-kept t c = follows_kept c.infer_two-in-Arith.result c.arith_of.result _ _ c.infer_two-in-Arith.ensures.kept c.arith_of.ensures

pub infer_form-returns-in-Union-clause-kept : goal.infer_form-returns-in-Union-clause-kept
infer_form-returns-in-Union-clause-kept t c = follows_kept c.infer_two-in-Union.result c.union_of.result _ _ c.infer_two-in-Union.ensures.kept c.union_of.ensures

pub infer_form-returns-in-Default-clause-kept : goal.infer_form-returns-in-Default-clause-kept
infer_form-returns-in-Default-clause-kept t c = follows_kept c.infer_two-in-Default.result c.either_of.result _ _ c.infer_two-in-Default.ensures.kept c.either_of.ensures

pub infer_form-returns-in-Members-clause-made : goal.infer_form-returns-in-Members-clause-made
infer_form-returns-in-Members-clause-made t c =
    along c.args.positions.now _ _ _ (members_arm c.args.e.now c.in-Members.es _ (schemes_of c.args.positions.now) (locals_of c.args.positions.now c.args.env.now.items) (state_of c.args.positions.now c.args.s) c.in-Members.is c.deref-in-Members.ensures.value) c.infer_members.ensures.made

pub infer_form-returns-in-Tab-clause-made : goal.infer_form-returns-in-Tab-clause-made
infer_form-returns-in-Tab-clause-made t c =
    along c.args.positions.now _ _ _ (tab_arm c.args.e.now c.in-Tab.body c.in-Tab.binds _ _ (schemes_of c.args.positions.now) (locals_of c.args.positions.now c.args.env.now.items) (state_of c.args.positions.now c.args.s) c.in-Tab.is c.deref-in-Tab.ensures c.deref-in-Tab-2.ensures.value) c.infer_tabulation.ensures.made

pub infer_form-returns-in-Let-clause-made : goal.infer_form-returns-in-Let-clause-made
infer_form-returns-in-Let-clause-made t c =
    along c.args.positions.now _ _ _ (let_arm c.args.e.now c.in-Let.body c.in-Let.binds _ _ (schemes_of c.args.positions.now) (locals_of c.args.positions.now c.args.env.now.items) (state_of c.args.positions.now c.args.s) c.in-Let.is c.deref-in-Let.ensures c.deref-in-Let-2.ensures.value) c.infer_let.ensures.made

pub infer_form-returns-in-If-clause-made : goal.infer_form-returns-in-If-clause-made
infer_form-returns-in-If-clause-made t c =
    along c.args.positions.now _ _ _ (if_arm c.args.e.now c.in-If.c c.in-If.a c.in-If.b _ _ _ (schemes_of c.args.positions.now) (locals_of c.args.positions.now c.args.env.now.items) (state_of c.args.positions.now c.args.s) c.in-If.is c.deref-in-If.ensures c.deref-in-If-2.ensures c.deref-in-If-3.ensures) c.infer_choice.ensures.made
