-- The arms of the cycle: each term is that of its parts, and each part has fewer levels.
use Rattle.std.proofs.Common.{◌≡◌, suc, ◌-◌, true, false, length, map, Some, refl, sym, ap, ◌∙◌, arith}
use Rattle.std.proofs.lemmas.Result.{IfOk-weaker}
use Rattle.aql_syntax.specs.Tree as tree
use Rattle.aql_syntax.specs.Names.{find}
use Rattle.aql_syntax.specs.Size.{greatest, quals_greatest, count_quals, defs_greatest, count_defs, levels, extent, extents_of, extent_of}
use Rattle.aql_syntax.specs.View.{tree_of, trees_of, quals_of, qual_of, axes_in, defs_in, pat_of, pats_of, decl_of}
use Rattle.aql_syntax.specs.Laws.View.{tree_of-Row, tree_of-Members, tree_of-Comp, tree_of-Tab, tree_of-Literal, tree_of-Let, tree_of-Sub}
use Rattle.aql_syntax.specs.Measured.{latest}
use Rattle.aql_syntax.specs.Laws.Measuring.{greatest-append}
use Rattle.nrca_term.specs.Laws.Equations.{term_of-Bool, term_of-Bottom}
use Rattle.nrca_term.specs.Nodes.{truth_term, bottom_term, let_term, if_term, default_term, tuple_term, arith_term, compare_term, empty_term, single_term, union_term, big_union_term, sum_term, gen_term, get_term, dim_term, index_term, tab_term, sub_term, literal_term}
use Rattle.nrca_term.specs.View.{term_of}
use Rattle.nrca_term.specs.declared.term.Core as core
use Rattle.aql_desugar_spec.specs.Start.{index_of, macro_term, call_term, known_of, knowns_of, balanced_union, matching, array_term, start, starts, bound_terms, under_axes, quals_term, defs_term}
use Rattle.aql_desugar.specs.Names.{binders_of}
use Rattle.aql_desugar.specs.Laws.Knowns.{known_none, known_some}
use Rattle.aql_desugar.specs.Laws.Parts.{one_made}
use Rattle.aql_desugar.specs.Laws.Scopes.{length-binders_of}
use Rattle.aql_desugar.proofs.QueryNodes.{kept_map, kept_of, kept_then, made_as}
use Rattle.aql_desugar.proofs.Querying.{one_arm, two_arm, list_arm, text_arm, then_made, then_two, walk_of, matched_made, matched_kept, starts_next, greatest_next, starts_done, bounds_next, bounds_greatest, bounds_done, literal_made, extent_some, grid_made, grid_kept, no_quals, no_defs}
use Rattle.aql_desugar.proofs.queries.+start.Goals as goal

pub start-returns-in-Not-clause-made : goal.start-returns-in-Not-clause-made
start-returns-in-Not-clause-made t c =
    one_arm (knowns_of (latest c.args.earlier.now)) (binders_of (λ x. x.now) c.args.names.now.items c.args.base) c.choose-in-Not.result c.start-test-in-Not.result (λ x. if_term x (term_of (core.Bool false)) (term_of (core.Bool true))) c.args.e.now _ _ c.in-Not.a.value c.choose-in-Not.ensures c.start-test-in-Not.ensures.made c.deref-in-Not.ensures c.in-Not.is (ap (λ u. if_term (start (tree_of c.in-Not.a.value) (knowns_of (latest c.args.earlier.now)) (binders_of (λ x. x.now) c.args.names.now.items c.args.base)) u (term_of (core.Bool true))) (term_of-Bool false) ∙ ap (if_term (start (tree_of c.in-Not.a.value) (knowns_of (latest c.args.earlier.now)) (binders_of (λ x. x.now) c.args.names.now.items c.args.base)) (truth_term false)) (term_of-Bool true))

pub start-returns-in-Not-clause-kept : goal.start-returns-in-Not-clause-kept
start-returns-in-Not-clause-kept t c =
    kept_of c.choose-in-Not.result c.start-test-in-Not.result _ _ _ c.choose-in-Not.ensures c.start-test-in-Not.ensures.kept (λ k. k)

pub start-returns-in-Gen-clause-made : goal.start-returns-in-Gen-clause-made
start-returns-in-Gen-clause-made t c =
    one_arm (knowns_of (latest c.args.earlier.now)) (binders_of (λ x. x.now) c.args.names.now.items c.args.base) c.generate.result c.start.result gen_term c.args.e.now _ _ c.in-Gen.a.value c.generate.ensures c.start.ensures.made c.deref-in-Gen.ensures c.in-Gen.is refl

pub start-returns-in-Gen-clause-kept : goal.start-returns-in-Gen-clause-kept
start-returns-in-Gen-clause-kept t c =
    kept_of c.generate.result c.start.result _ _ _ c.generate.ensures c.start.ensures.kept (λ k. k)

pub start-returns-in-Get-clause-made : goal.start-returns-in-Get-clause-made
start-returns-in-Get-clause-made t c =
    one_arm (knowns_of (latest c.args.earlier.now)) (binders_of (λ x. x.now) c.args.names.now.items c.args.base) c.get.result c.start-in-Get.result get_term c.args.e.now _ _ c.in-Get.a.value c.get.ensures c.start-in-Get.ensures.made c.deref-in-Get.ensures c.in-Get.is refl

pub start-returns-in-Get-clause-kept : goal.start-returns-in-Get-clause-kept
start-returns-in-Get-clause-kept t c =
    kept_of c.get.result c.start-in-Get.result _ _ _ c.get.ensures c.start-in-Get.ensures.kept (λ k. k)

pub start-returns-in-Len-clause-made : goal.start-returns-in-Len-clause-made
start-returns-in-Len-clause-made t c =
    one_arm (knowns_of (latest c.args.earlier.now)) (binders_of (λ x. x.now) c.args.names.now.items c.args.base) c.dim.result c.start-in-Len.result (dim_term 1) c.args.e.now _ _ c.in-Len.a.value c.dim.ensures c.start-in-Len.ensures.made c.deref-in-Len.ensures c.in-Len.is refl

pub start-returns-in-Len-clause-kept : goal.start-returns-in-Len-clause-kept
start-returns-in-Len-clause-kept t c =
    kept_of c.dim.result c.start-in-Len.result _ _ _ c.dim.ensures c.start-in-Len.ensures.kept (λ k. k)

pub start-returns-in-Dim-clause-made : goal.start-returns-in-Dim-clause-made
start-returns-in-Dim-clause-made t c =
    one_arm (knowns_of (latest c.args.earlier.now)) (binders_of (λ x. x.now) c.args.names.now.items c.args.base) c.dim-in-Dim.result c.start-in-Dim.result (dim_term c.in-Dim.rank) c.args.e.now _ _ c.in-Dim.array.value c.dim-in-Dim.ensures c.start-in-Dim.ensures.made c.deref-in-Dim.ensures c.in-Dim.is refl

pub start-returns-in-Dim-clause-kept : goal.start-returns-in-Dim-clause-kept
start-returns-in-Dim-clause-kept t c =
    kept_of c.dim-in-Dim.result c.start-in-Dim.result _ _ _ c.dim-in-Dim.ensures c.start-in-Dim.ensures.kept (λ k. k)

pub start-returns-in-Index-clause-made : goal.start-returns-in-Index-clause-made
start-returns-in-Index-clause-made t c =
    one_arm (knowns_of (latest c.args.earlier.now)) (binders_of (λ x. x.now) c.args.names.now.items c.args.base) c.index.result c.start-in-Index.result (index_term c.in-Index.rank) c.args.e.now _ _ c.in-Index.pairs.value c.index.ensures c.start-in-Index.ensures.made c.deref-in-Index.ensures c.in-Index.is refl

pub start-returns-in-Index-clause-kept : goal.start-returns-in-Index-clause-kept
start-returns-in-Index-clause-kept t c =
    kept_of c.index.result c.start-in-Index.result _ _ _ c.index.ensures c.start-in-Index.ensures.kept (λ k. k)

pub start-returns-in-And-clause-made : goal.start-returns-in-And-clause-made
start-returns-in-And-clause-made t c =
    two_arm (knowns_of (latest c.args.earlier.now)) (binders_of (λ x. x.now) c.args.names.now.items c.args.base) c.conjunction.result c.pair-in-And.result (λ x y. if_term x y (truth_term false)) c.args.e.now _ _ _ c.in-And.a.value c.in-And.b.value c.conjunction.ensures c.pair-in-And.ensures.first c.pair-in-And.ensures.second c.deref-in-And.ensures c.deref-in-And-2.ensures c.in-And.is refl

pub start-returns-in-And-clause-kept : goal.start-returns-in-And-clause-kept
start-returns-in-And-clause-kept t c =
    kept_of c.conjunction.result c.pair-in-And.result _ _ _ c.conjunction.ensures c.pair-in-And.ensures.kept (λ k. k)

pub start-returns-in-Or-clause-made : goal.start-returns-in-Or-clause-made
start-returns-in-Or-clause-made t c =
    two_arm (knowns_of (latest c.args.earlier.now)) (binders_of (λ x. x.now) c.args.names.now.items c.args.base) c.disjunction.result c.pair-in-Or.result (λ x y. if_term x (truth_term true) y) c.args.e.now _ _ _ c.in-Or.a.value c.in-Or.b.value c.disjunction.ensures c.pair-in-Or.ensures.first c.pair-in-Or.ensures.second c.deref-in-Or.ensures c.deref-in-Or-2.ensures c.in-Or.is refl

pub start-returns-in-Or-clause-kept : goal.start-returns-in-Or-clause-kept
start-returns-in-Or-clause-kept t c =
    kept_of c.disjunction.result c.pair-in-Or.result _ _ _ c.disjunction.ensures c.pair-in-Or.ensures.kept (λ k. k)

pub start-returns-in-Compare-clause-made : goal.start-returns-in-Compare-clause-made
start-returns-in-Compare-clause-made t c =
    two_arm (knowns_of (latest c.args.earlier.now)) (binders_of (λ x. x.now) c.args.names.now.items c.args.base) c.compare.result c.pair-in-Compare.result (compare_term c.in-Compare.op) c.args.e.now _ _ _ c.in-Compare.a.value c.in-Compare.b.value c.compare.ensures c.pair-in-Compare.ensures.first c.pair-in-Compare.ensures.second c.deref-in-Compare.ensures c.deref-in-Compare-2.ensures c.in-Compare.is refl

pub start-returns-in-Compare-clause-kept : goal.start-returns-in-Compare-clause-kept
start-returns-in-Compare-clause-kept t c =
    kept_of c.compare.result c.pair-in-Compare.result _ _ _ c.compare.ensures c.pair-in-Compare.ensures.kept (λ k. k)

pub start-returns-in-Arith-clause-made : goal.start-returns-in-Arith-clause-made
start-returns-in-Arith-clause-made t c =
    two_arm (knowns_of (latest c.args.earlier.now)) (binders_of (λ x. x.now) c.args.names.now.items c.args.base) c.arith.result c.pair-in-Arith.result (arith_term c.in-Arith.op) c.args.e.now _ _ _ c.in-Arith.a.value c.in-Arith.b.value c.arith.ensures c.pair-in-Arith.ensures.first c.pair-in-Arith.ensures.second c.deref-in-Arith.ensures c.deref-in-Arith-2.ensures c.in-Arith.is refl

pub start-returns-in-Arith-clause-kept : goal.start-returns-in-Arith-clause-kept
start-returns-in-Arith-clause-kept t c =
    kept_of c.arith.result c.pair-in-Arith.result _ _ _ c.arith.ensures c.pair-in-Arith.ensures.kept (λ k. k)

pub start-returns-in-Union-clause-made : goal.start-returns-in-Union-clause-made
start-returns-in-Union-clause-made t c =
    two_arm (knowns_of (latest c.args.earlier.now)) (binders_of (λ x. x.now) c.args.names.now.items c.args.base) c.union.result c.pair-in-Union.result union_term c.args.e.now _ _ _ c.in-Union.a.value c.in-Union.b.value c.union.ensures c.pair-in-Union.ensures.first c.pair-in-Union.ensures.second c.deref-in-Union.ensures c.deref-in-Union-2.ensures c.in-Union.is refl

pub start-returns-in-Union-clause-kept : goal.start-returns-in-Union-clause-kept
start-returns-in-Union-clause-kept t c =
    kept_of c.union.result c.pair-in-Union.result _ _ _ c.union.ensures c.pair-in-Union.ensures.kept (λ k. k)

pub start-returns-in-Default-clause-made : goal.start-returns-in-Default-clause-made
start-returns-in-Default-clause-made t c =
    two_arm (knowns_of (latest c.args.earlier.now)) (binders_of (λ x. x.now) c.args.names.now.items c.args.base) c.default.result c.pair-in-Default.result default_term c.args.e.now _ _ _ c.in-Default.a.value c.in-Default.b.value c.default.ensures c.pair-in-Default.ensures.first c.pair-in-Default.ensures.second c.deref-in-Default.ensures c.deref-in-Default-2.ensures c.in-Default.is refl

pub start-returns-in-Default-clause-kept : goal.start-returns-in-Default-clause-kept
start-returns-in-Default-clause-kept t c =
    kept_of c.default.result c.pair-in-Default.result _ _ _ c.default.ensures c.pair-in-Default.ensures.kept (λ k. k)

pub start-returns-in-Row-clause-made : goal.start-returns-in-Row-clause-made
start-returns-in-Row-clause-made t c =
    list_arm (knowns_of (latest c.args.earlier.now)) (binders_of (λ x. x.now) c.args.names.now.items c.args.base) c.tuple.result c.all.result tuple_term c.args.e.now _ _ c.in-Row.es.items.items c.tuple.ensures c.all.ensures.made c.deref-in-Row.ensures.value c.in-Row.is (sym (ap (λ x. start x (knowns_of (latest c.args.earlier.now)) (binders_of (λ x. x.now) c.args.names.now.items c.args.base)) (tree_of-Row c.in-Row.es)))

pub start-returns-in-Row-clause-kept : goal.start-returns-in-Row-clause-kept
start-returns-in-Row-clause-kept t c =
    kept_of c.tuple.result c.all.result _ _ _ c.tuple.ensures c.all.ensures.kept (λ k. k)

pub start-returns-in-Members-clause-made : goal.start-returns-in-Members-clause-made
start-returns-in-Members-clause-made t c =
    list_arm (knowns_of (latest c.args.earlier.now)) (binders_of (λ x. x.now) c.args.names.now.items c.args.base) c.unite.result c.all-in-Members.result (λ l. balanced_union (length l) l) c.args.e.now _ _ c.in-Members.es.items.items c.unite.ensures c.all-in-Members.ensures.made c.deref-in-Members.ensures.value c.in-Members.is (sym (ap (λ x. start x (knowns_of (latest c.args.earlier.now)) (binders_of (λ x. x.now) c.args.names.now.items c.args.base)) (tree_of-Members c.in-Members.es)))

pub start-returns-in-Members-clause-kept : goal.start-returns-in-Members-clause-kept
start-returns-in-Members-clause-kept t c =
    kept_of c.unite.result c.all-in-Members.result _ _ _ c.unite.ensures c.all-in-Members.ensures.kept (λ k. k)

pub start-returns-in-If-clause-made : goal.start-returns-in-If-clause-made
start-returns-in-If-clause-made t c =
    then_two c.args.names.now.items c.start-test.new.names.items if_term (λ us. (start (tree_of c.deref-in-If-2.result.now) (knowns_of (latest c.args.earlier.now)) (binders_of (λ x. x.now) us c.args.base))) (λ us. (start (tree_of c.deref-in-If-3.result.now) (knowns_of (latest c.args.earlier.now)) (binders_of (λ x. x.now) us c.args.base))) c.choose.result c.start-test.result c.pair.result (start (tree_of c.deref-in-If.result.now) (knowns_of (latest c.args.earlier.now)) (binders_of (λ x. x.now) c.args.names.now.items c.args.base)) _ c.choose.ensures c.start-test.ensures.made
    c.pair.ensures.first c.pair.ensures.second c.start-test.ensures.kept
    (ap (λ x. if_term (start (tree_of x) (knowns_of (latest c.args.earlier.now)) (binders_of (λ x. x.now) c.args.names.now.items c.args.base)) (start (tree_of c.deref-in-If-2.result.now) (knowns_of (latest c.args.earlier.now)) (binders_of (λ x. x.now) c.args.names.now.items c.args.base)) (start (tree_of c.deref-in-If-3.result.now) (knowns_of (latest c.args.earlier.now)) (binders_of (λ x. x.now) c.args.names.now.items c.args.base))) c.deref-in-If.ensures ∙ ap (λ x. if_term (start (tree_of c.in-If.c.value) (knowns_of (latest c.args.earlier.now)) (binders_of (λ x. x.now) c.args.names.now.items c.args.base)) (start (tree_of x) (knowns_of (latest c.args.earlier.now)) (binders_of (λ x. x.now) c.args.names.now.items c.args.base)) (start (tree_of c.deref-in-If-3.result.now) (knowns_of (latest c.args.earlier.now)) (binders_of (λ x. x.now) c.args.names.now.items c.args.base))) c.deref-in-If-2.ensures ∙ ap (λ x. if_term (start (tree_of c.in-If.c.value) (knowns_of (latest c.args.earlier.now)) (binders_of (λ x. x.now) c.args.names.now.items c.args.base)) (start (tree_of c.in-If.a.value) (knowns_of (latest c.args.earlier.now)) (binders_of (λ x. x.now) c.args.names.now.items c.args.base)) (start (tree_of x) (knowns_of (latest c.args.earlier.now)) (binders_of (λ x. x.now) c.args.names.now.items c.args.base))) c.deref-in-If-3.ensures ∙ sym (ap (λ x. start (tree_of x) (knowns_of (latest c.args.earlier.now)) (binders_of (λ x. x.now) c.args.names.now.items c.args.base)) c.in-If.is))

pub start-returns-in-If-clause-kept : goal.start-returns-in-If-clause-kept
start-returns-in-If-clause-kept t c =
    kept_then c.choose.result c.start-test.result c.pair.result _ _ _ _ c.choose.ensures c.start-test.ensures.kept c.pair.ensures.kept (λ k i. i ∙ k)

pub start-returns-in-Sub-clause-made : goal.start-returns-in-Sub-clause-made
start-returns-in-Sub-clause-made t c =
    then_made c.args.names.now.items c.start-array.new.names.items term_of (λ v. map term_of v.items) sub_term (λ us. (starts (trees_of c.deref-in-Sub-2.result.now) (knowns_of (latest c.args.earlier.now)) (binders_of (λ x. x.now) us c.args.base))) c.sub.result c.start-array.result c.all-at.result (start (tree_of c.deref-in-Sub.result.now) (knowns_of (latest c.args.earlier.now)) (binders_of (λ x. x.now) c.args.names.now.items c.args.base)) _ c.sub.ensures c.start-array.ensures.made c.all-at.ensures.made c.start-array.ensures.kept
    (ap (λ x. sub_term (start (tree_of x) (knowns_of (latest c.args.earlier.now)) (binders_of (λ x. x.now) c.args.names.now.items c.args.base)) (starts (trees_of c.deref-in-Sub-2.result.now) (knowns_of (latest c.args.earlier.now)) (binders_of (λ x. x.now) c.args.names.now.items c.args.base))) c.deref-in-Sub.ensures ∙ ap (λ l. sub_term (start (tree_of c.in-Sub.array.value) (knowns_of (latest c.args.earlier.now)) (binders_of (λ x. x.now) c.args.names.now.items c.args.base)) (starts (trees_of l) (knowns_of (latest c.args.earlier.now)) (binders_of (λ x. x.now) c.args.names.now.items c.args.base))) c.deref-in-Sub-2.ensures.value ∙ sym ((ap (λ x. start (tree_of x) (knowns_of (latest c.args.earlier.now)) (binders_of (λ x. x.now) c.args.names.now.items c.args.base)) c.in-Sub.is) ∙ ap (λ x. start x (knowns_of (latest c.args.earlier.now)) (binders_of (λ x. x.now) c.args.names.now.items c.args.base)) (tree_of-Sub c.in-Sub.array c.in-Sub.at)))

pub start-returns-in-Sub-clause-kept : goal.start-returns-in-Sub-clause-kept
start-returns-in-Sub-clause-kept t c =
    kept_then c.sub.result c.start-array.result c.all-at.result _ _ _ _ c.sub.ensures c.start-array.ensures.kept c.all-at.ensures.kept (λ k i. i ∙ k)

pub start-returns-in-Literal-clause-made : goal.start-returns-in-Literal-clause-made
start-returns-in-Literal-clause-made t c =
    then_made c.args.names.now.items c.all-dims.new.names.items (λ v. map term_of v.items) (λ v. map term_of v.items) literal_term (λ us. (starts (trees_of c.deref-in-Literal-2.result.now) (knowns_of (latest c.args.earlier.now)) (binders_of (λ x. x.now) us c.args.base))) c.literal.result c.all-dims.result c.all-in-Literal.result (starts (trees_of c.deref-in-Literal.result.now) (knowns_of (latest c.args.earlier.now)) (binders_of (λ x. x.now) c.args.names.now.items c.args.base)) _ c.literal.ensures c.all-dims.ensures.made c.all-in-Literal.ensures.made c.all-dims.ensures.kept
    (ap (λ l. literal_term (starts (trees_of l) (knowns_of (latest c.args.earlier.now)) (binders_of (λ x. x.now) c.args.names.now.items c.args.base)) (starts (trees_of c.deref-in-Literal-2.result.now) (knowns_of (latest c.args.earlier.now)) (binders_of (λ x. x.now) c.args.names.now.items c.args.base))) c.deref-in-Literal.ensures.value ∙ ap (λ l. literal_term (starts (trees_of c.in-Literal.dims.items.items) (knowns_of (latest c.args.earlier.now)) (binders_of (λ x. x.now) c.args.names.now.items c.args.base)) (starts (trees_of l) (knowns_of (latest c.args.earlier.now)) (binders_of (λ x. x.now) c.args.names.now.items c.args.base))) c.deref-in-Literal-2.ensures.value ∙ literal_made (trees_of c.in-Literal.dims.items.items) (trees_of c.in-Literal.cells.items.items) (knowns_of (latest c.args.earlier.now)) (binders_of (λ x. x.now) c.args.names.now.items c.args.base) ∙ sym ((ap (λ x. start (tree_of x) (knowns_of (latest c.args.earlier.now)) (binders_of (λ x. x.now) c.args.names.now.items c.args.base)) c.in-Literal.is) ∙ ap (λ x. start x (knowns_of (latest c.args.earlier.now)) (binders_of (λ x. x.now) c.args.names.now.items c.args.base)) (tree_of-Literal c.in-Literal.dims c.in-Literal.cells)))

pub start-returns-in-Literal-clause-kept : goal.start-returns-in-Literal-clause-kept
start-returns-in-Literal-clause-kept t c =
    kept_then c.literal.result c.all-dims.result c.all-in-Literal.result _ _ _ _ c.literal.ensures c.all-dims.ensures.kept c.all-in-Literal.ensures.kept (λ k i. i ∙ k)

pub start-returns-in-Tab-clause-made : goal.start-returns-in-Tab-clause-made
start-returns-in-Tab-clause-made t c =
    then_made c.args.names.now.items c.bounds-limits.new.names.items (λ v. map term_of v.items) term_of tab_term (λ us. (start (tree_of c.deref-in-Tab.result.now) (knowns_of (latest c.args.earlier.now)) (under_axes (axes_in c.indices_in-axes.result.now) (binders_of (λ x. x.now) us c.args.base)))) c.tab.result c.bounds-limits.result c.index_body-inner.result (bound_terms (axes_in c.indices_in-axes.result.now) (knowns_of (latest c.args.earlier.now)) (binders_of (λ x. x.now) c.args.names.now.items c.args.base)) _ c.tab.ensures
    c.bounds-limits.ensures.made c.index_body-inner.ensures.made c.bounds-limits.ensures.kept
    (ap (λ x. tab_term (bound_terms (axes_in c.indices_in-axes.result.now) (knowns_of (latest c.args.earlier.now)) (binders_of (λ x. x.now) c.args.names.now.items c.args.base)) (start (tree_of x) (knowns_of (latest c.args.earlier.now)) (under_axes (axes_in c.indices_in-axes.result.now) (binders_of (λ x. x.now) c.args.names.now.items c.args.base)))) c.deref-in-Tab.ensures ∙ sym (ap (λ x. start x (knowns_of (latest c.args.earlier.now)) (binders_of (λ x. x.now) c.args.names.now.items c.args.base)) (ap tree_of c.in-Tab.is ∙ tree_of-Tab c.in-Tab.body c.in-Tab.binds ∙ ap (λ a. tree.tab a (tree_of c.in-Tab.body.value)) (sym c.indices_in-axes.ensures))))

pub start-returns-in-Tab-clause-kept : goal.start-returns-in-Tab-clause-kept
start-returns-in-Tab-clause-kept t c =
    kept_then c.tab.result c.bounds-limits.result c.index_body-inner.result _ _ _ _ c.tab.ensures c.bounds-limits.ensures.kept c.index_body-inner.ensures.kept (λ k i. i ∙ k)

pub start-returns-in-Apply-clause-made : goal.start-returns-in-Apply-clause-made
start-returns-in-Apply-clause-made t c =
    then_made c.args.names.now.items c.deref-in-Apply-2.result.now term_of term_of let_term (λ us. (call_term (index_of c.in-Apply.name (binders_of (λ x. x.now) us c.args.base)) (find c.in-Apply.name (knowns_of (latest c.args.earlier.now))) (length (binders_of (λ x. x.now) us c.args.base)))) c.let_in.result c.start-a.result c.call.result (start (tree_of c.deref-in-Apply.result.now) (knowns_of (latest c.args.earlier.now)) (binders_of (λ x. x.now) c.args.names.now.items c.args.base)) _ c.let_in.ensures c.start-a.ensures.made c.call.ensures
    (kept_map c.start-a.result _ _ (λ k. c.deref-in-Apply-2.ensures.value ∙ k) c.start-a.ensures.kept) (ap (λ x. let_term (start (tree_of x) (knowns_of (latest c.args.earlier.now)) (binders_of (λ x. x.now) c.args.names.now.items c.args.base)) (call_term (index_of c.in-Apply.name (binders_of (λ x. x.now) c.args.names.now.items c.args.base)) (find c.in-Apply.name (knowns_of (latest c.args.earlier.now))) (length (binders_of (λ x. x.now) c.args.names.now.items c.args.base)))) c.deref-in-Apply.ensures ∙ sym (ap (λ x. start (tree_of x) (knowns_of (latest c.args.earlier.now)) (binders_of (λ x. x.now) c.args.names.now.items c.args.base)) c.in-Apply.is))

pub start-returns-in-Apply-clause-kept : goal.start-returns-in-Apply-clause-kept
start-returns-in-Apply-clause-kept t c =
    kept_of c.let_in.result c.start-a.result _ _ _ c.let_in.ensures c.start-a.ensures.kept (λ k. k)

pub start-returns-in-Fun-clause-made : goal.start-returns-in-Fun-clause-made
start-returns-in-Fun-clause-made t c =
    then_made c.args.names.now.items c.start-a-in-Fun.new.names.items term_of term_of let_term (λ us. (matching (pat_of c.in-Fun.pattern) (knowns_of (latest c.args.earlier.now)) (binders_of (λ x. x.now) us c.args.base) (start (tree_of c.deref-in-Fun-2.result.now) (knowns_of (latest c.args.earlier.now))) bottom_term)) c.let_in-in-Fun.result c.start-a-in-Fun.result c.match_body-body.result (start (tree_of c.deref-in-Fun.result.now) (knowns_of (latest c.args.earlier.now)) (binders_of (λ x. x.now) c.args.names.now.items c.args.base)) _ c.let_in-in-Fun.ensures c.start-a-in-Fun.ensures.made c.match_body-body.ensures.made c.start-a-in-Fun.ensures.kept
    (ap (λ x. let_term (start (tree_of x) (knowns_of (latest c.args.earlier.now)) (binders_of (λ x. x.now) c.args.names.now.items c.args.base)) (matching (pat_of c.in-Fun.pattern) (knowns_of (latest c.args.earlier.now)) (binders_of (λ x. x.now) c.args.names.now.items c.args.base) (start (tree_of c.deref-in-Fun-2.result.now) (knowns_of (latest c.args.earlier.now))) bottom_term)) c.deref-in-Fun.ensures ∙ ap (λ x. let_term (start (tree_of c.in-Fun.argument.value) (knowns_of (latest c.args.earlier.now)) (binders_of (λ x. x.now) c.args.names.now.items c.args.base)) (matching (pat_of c.in-Fun.pattern) (knowns_of (latest c.args.earlier.now)) (binders_of (λ x. x.now) c.args.names.now.items c.args.base) (start (tree_of x) (knowns_of (latest c.args.earlier.now))) bottom_term)) c.deref-in-Fun-2.ensures ∙ sym (ap (λ x. start (tree_of x) (knowns_of (latest c.args.earlier.now)) (binders_of (λ x. x.now) c.args.names.now.items c.args.base)) c.in-Fun.is))

pub start-returns-in-Fun-clause-kept : goal.start-returns-in-Fun-clause-kept
start-returns-in-Fun-clause-kept t c =
    kept_then c.let_in-in-Fun.result c.start-a-in-Fun.result c.match_body-body.result _ _ _ _ c.let_in-in-Fun.ensures c.start-a-in-Fun.ensures.kept c.match_body-body.ensures.kept (λ k i. i ∙ k)

pub start-returns-in-SumMap-clause-made : goal.start-returns-in-SumMap-clause-made
start-returns-in-SumMap-clause-made t c =
    then_made c.args.names.now.items c.start-a-in-SumMap.new.names.items term_of term_of sum_term (λ us. (matching (pat_of c.in-SumMap.pattern) (knowns_of (latest c.args.earlier.now)) (binders_of (λ x. x.now) us c.args.base) (start (tree_of c.deref-in-SumMap-2.result.now) (knowns_of (latest c.args.earlier.now))) bottom_term)) c.sum.result c.start-a-in-SumMap.result c.match_body-body-in-SumMap.result (start (tree_of c.deref-in-SumMap.result.now) (knowns_of (latest c.args.earlier.now)) (binders_of (λ x. x.now) c.args.names.now.items c.args.base)) _ c.sum.ensures c.start-a-in-SumMap.ensures.made c.match_body-body-in-SumMap.ensures.made c.start-a-in-SumMap.ensures.kept
    (ap (λ x. sum_term (start (tree_of x) (knowns_of (latest c.args.earlier.now)) (binders_of (λ x. x.now) c.args.names.now.items c.args.base)) (matching (pat_of c.in-SumMap.pattern) (knowns_of (latest c.args.earlier.now)) (binders_of (λ x. x.now) c.args.names.now.items c.args.base) (start (tree_of c.deref-in-SumMap-2.result.now) (knowns_of (latest c.args.earlier.now))) bottom_term)) c.deref-in-SumMap.ensures ∙ ap (λ x. sum_term (start (tree_of c.in-SumMap.over.value) (knowns_of (latest c.args.earlier.now)) (binders_of (λ x. x.now) c.args.names.now.items c.args.base)) (matching (pat_of c.in-SumMap.pattern) (knowns_of (latest c.args.earlier.now)) (binders_of (λ x. x.now) c.args.names.now.items c.args.base) (start (tree_of x) (knowns_of (latest c.args.earlier.now))) bottom_term)) c.deref-in-SumMap-2.ensures ∙ sym (ap (λ x. start (tree_of x) (knowns_of (latest c.args.earlier.now)) (binders_of (λ x. x.now) c.args.names.now.items c.args.base)) c.in-SumMap.is))

pub start-returns-in-SumMap-clause-kept : goal.start-returns-in-SumMap-clause-kept
start-returns-in-SumMap-clause-kept t c =
    kept_then c.sum.result c.start-a-in-SumMap.result c.match_body-body-in-SumMap.result _ _ _ _ c.sum.ensures c.start-a-in-SumMap.ensures.kept c.match_body-body-in-SumMap.ensures.kept (λ k i. i ∙ k)

pub start-returns-in-Comp-clause-made : goal.start-returns-in-Comp-clause-made
start-returns-in-Comp-clause-made t c =
    made_as c.comprehend.result _ _ c.comprehend.ensures.made
    (ap (λ q. quals_term (quals_of q) (start (tree_of c.deref-in-Comp-2.result.now) (knowns_of (latest c.args.earlier.now))) (knowns_of (latest c.args.earlier.now)) (binders_of (λ x. x.now) c.args.names.now.items c.args.base)) c.deref-in-Comp.ensures.value ∙ ap (λ x. quals_term (quals_of c.in-Comp.quals.items.items) (start (tree_of x) (knowns_of (latest c.args.earlier.now))) (knowns_of (latest c.args.earlier.now)) (binders_of (λ x. x.now) c.args.names.now.items c.args.base)) c.deref-in-Comp-2.ensures ∙ sym ((ap (λ x. start (tree_of x) (knowns_of (latest c.args.earlier.now)) (binders_of (λ x. x.now) c.args.names.now.items c.args.base)) c.in-Comp.is) ∙ ap (λ x. start x (knowns_of (latest c.args.earlier.now)) (binders_of (λ x. x.now) c.args.names.now.items c.args.base)) (tree_of-Comp c.in-Comp.head c.in-Comp.quals)))

pub start-returns-in-Comp-clause-kept : goal.start-returns-in-Comp-clause-kept
start-returns-in-Comp-clause-kept t c =
    c.comprehend.ensures.kept

pub start-returns-in-Let-clause-made : goal.start-returns-in-Let-clause-made
start-returns-in-Let-clause-made t c =
    made_as c.bind_all.result _ _ c.bind_all.ensures.made
    (ap (λ x. defs_term (defs_in c.bindings_in-defs.result.now) (start (tree_of x) (knowns_of (latest c.args.earlier.now))) (knowns_of (latest c.args.earlier.now)) (binders_of (λ x. x.now) c.args.names.now.items c.args.base)) c.deref-in-Let.ensures ∙ sym (ap (λ x. start x (knowns_of (latest c.args.earlier.now)) (binders_of (λ x. x.now) c.args.names.now.items c.args.base)) (ap tree_of c.in-Let.is ∙ tree_of-Let c.in-Let.binds c.in-Let.body ∙ ap (λ d. tree.bindings d (tree_of c.in-Let.body.value)) (sym c.bindings_in-defs.ensures))))

pub start-returns-in-Let-clause-kept : goal.start-returns-in-Let-clause-kept
start-returns-in-Let-clause-kept t c =
    c.bind_all.ensures.kept

pub comprehend-returns-in-None-clause-made : goal.comprehend-returns-in-None-clause-made
comprehend-returns-in-None-clause-made t c =
    one_made c.single.result c.start.result single_term (start (tree_of c.args.head.now) (knowns_of (latest c.args.earlier.now)) (binders_of (λ x. x.now) c.args.names.now.items c.args.base)) _ c.single.ensures c.start.ensures.made (sym (ap (λ q. quals_term q (start (tree_of c.args.head.now) (knowns_of (latest c.args.earlier.now))) (knowns_of (latest c.args.earlier.now)) (binders_of (λ x. x.now) c.args.names.now.items c.args.base)) (no_quals c.args.quals.now c.in-None.ensures.cases)))

pub comprehend-returns-in-None-clause-kept : goal.comprehend-returns-in-None-clause-kept
comprehend-returns-in-None-clause-kept t c =
    kept_of c.single.result c.start.result _ _ _ c.single.ensures c.start.ensures.kept (λ k. k)

pub comprehend-returns-in-From-clause-made : goal.comprehend-returns-in-From-clause-made
comprehend-returns-in-From-clause-made t c =
    then_made c.args.names.now.items c.start-members.new.names.items term_of term_of big_union_term (λ us. (matching (pat_of c.in-From.pattern) (knowns_of (latest c.args.earlier.now)) (binders_of (λ x. x.now) us c.args.base) (quals_term (quals_of c.in-Some.rest.now) (start (tree_of c.args.head.now) (knowns_of (latest c.args.earlier.now))) (knowns_of (latest c.args.earlier.now))) empty_term)) c.big_union.result c.start-members.result c.match_qualifiers-body.result (start (tree_of c.in-From.over) (knowns_of (latest c.args.earlier.now)) (binders_of (λ x. x.now) c.args.names.now.items c.args.base)) _ c.big_union.ensures c.start-members.ensures.made c.match_qualifiers-body.ensures.made c.start-members.ensures.kept (sym (ap (λ q. quals_term q (start (tree_of c.args.head.now) (knowns_of (latest c.args.earlier.now))) (knowns_of (latest c.args.earlier.now)) (binders_of (λ x. x.now) c.args.names.now.items c.args.base)) (ap quals_of c.in-Some.ensures.cases.0 ∙ ap (λ q. qual_of q (quals_of c.in-Some.rest.now)) c.in-From.is)))

pub comprehend-returns-in-From-clause-kept : goal.comprehend-returns-in-From-clause-kept
comprehend-returns-in-From-clause-kept t c =
    kept_then c.big_union.result c.start-members.result c.match_qualifiers-body.result _ _ _ _ c.big_union.ensures c.start-members.ensures.kept c.match_qualifiers-body.ensures.kept (λ k i. i ∙ k)

pub comprehend-returns-in-Match-clause-made : goal.comprehend-returns-in-Match-clause-made
comprehend-returns-in-Match-clause-made t c =
    then_made c.args.names.now.items c.start-value.new.names.items term_of term_of let_term (λ us. (matching (pat_of c.in-Match.pattern) (knowns_of (latest c.args.earlier.now)) (binders_of (λ x. x.now) us c.args.base) (quals_term (quals_of c.in-Some.rest.now) (start (tree_of c.args.head.now) (knowns_of (latest c.args.earlier.now))) (knowns_of (latest c.args.earlier.now))) empty_term)) c.let_in-in-Match.result c.start-value.result c.match_qualifiers-body-in-Match.result (start (tree_of c.in-Match.of) (knowns_of (latest c.args.earlier.now)) (binders_of (λ x. x.now) c.args.names.now.items c.args.base)) _ c.let_in-in-Match.ensures c.start-value.ensures.made c.match_qualifiers-body-in-Match.ensures.made c.start-value.ensures.kept (sym (ap (λ q. quals_term q (start (tree_of c.args.head.now) (knowns_of (latest c.args.earlier.now))) (knowns_of (latest c.args.earlier.now)) (binders_of (λ x. x.now) c.args.names.now.items c.args.base)) (ap quals_of c.in-Some.ensures.cases.0 ∙ ap (λ q. qual_of q (quals_of c.in-Some.rest.now)) c.in-Match.is)))

pub comprehend-returns-in-Match-clause-kept : goal.comprehend-returns-in-Match-clause-kept
comprehend-returns-in-Match-clause-kept t c =
    kept_then c.let_in-in-Match.result c.start-value.result c.match_qualifiers-body-in-Match.result _ _ _ _ c.let_in-in-Match.ensures c.start-value.ensures.kept c.match_qualifiers-body-in-Match.ensures.kept (λ k i. i ∙ k)

pub comprehend-returns-in-Cells-clause-made : goal.comprehend-returns-in-Cells-clause-made
comprehend-returns-in-Cells-clause-made t c =
    walk_of c.args.names.now.items c.start-array.new.names.items (λ us a. (array_term (pats_of c.index_parts-ps.result.now) (knowns_of (latest c.args.earlier.now)) (binders_of (λ x. x.now) us c.args.base) a (λ inner. matching (pat_of c.in-Cells.cell) (knowns_of (latest c.args.earlier.now)) inner (quals_term (quals_of c.in-Some.rest.now) (start (tree_of c.args.head.now) (knowns_of (latest c.args.earlier.now))) (knowns_of (latest c.args.earlier.now))) empty_term) empty_term)) c.let_in.result c.start-array.result c.grid-walked.result (start (tree_of c.in-Cells.over) (knowns_of (latest c.args.earlier.now)) (binders_of (λ x. x.now) c.args.names.now.items c.args.base)) _ c.let_in.ensures c.start-array.ensures.made c.grid-walked.ensures.made c.start-array.ensures.kept
    (ap (λ q. (array_term q (knowns_of (latest c.args.earlier.now)) (binders_of (λ x. x.now) c.args.names.now.items c.args.base) (start (tree_of c.in-Cells.over) (knowns_of (latest c.args.earlier.now)) (binders_of (λ x. x.now) c.args.names.now.items c.args.base)) (λ inner. matching (pat_of c.in-Cells.cell) (knowns_of (latest c.args.earlier.now)) inner (quals_term (quals_of c.in-Some.rest.now) (start (tree_of c.args.head.now) (knowns_of (latest c.args.earlier.now))) (knowns_of (latest c.args.earlier.now))) empty_term) empty_term)) c.index_parts-ps.ensures ∙ (sym (ap (λ q. quals_term q (start (tree_of c.args.head.now) (knowns_of (latest c.args.earlier.now))) (knowns_of (latest c.args.earlier.now)) (binders_of (λ x. x.now) c.args.names.now.items c.args.base)) (ap quals_of c.in-Some.ensures.cases.0 ∙ ap (λ q. qual_of q (quals_of c.in-Some.rest.now)) c.in-Cells.is))))

pub comprehend-returns-in-Cells-clause-kept : goal.comprehend-returns-in-Cells-clause-kept
comprehend-returns-in-Cells-clause-kept t c =
    kept_then c.let_in.result c.start-array.result c.grid-walked.result _ _ _ _ c.let_in.ensures c.start-array.ensures.kept c.grid-walked.ensures.kept (λ k i. i ∙ k)

pub comprehend-returns-in-Test-clause-made : goal.comprehend-returns-in-Test-clause-made
comprehend-returns-in-Test-clause-made t c =
    then_made c.args.names.now.items c.start-test.new.names.items term_of term_of (λ x y. if_term x y empty_term) (λ us. quals_term (quals_of c.in-Some.rest.now) (start (tree_of c.args.head.now) (knowns_of (latest c.args.earlier.now))) (knowns_of (latest c.args.earlier.now)) (binders_of (λ x. x.now) us c.args.base)) c.guard.result c.start-test.result c.comprehend-body.result (start (tree_of c.in-Test.e) (knowns_of (latest c.args.earlier.now)) (binders_of (λ x. x.now) c.args.names.now.items c.args.base)) _ c.guard.ensures c.start-test.ensures.made c.comprehend-body.ensures.made c.start-test.ensures.kept
    (sym (ap (λ q. quals_term q (start (tree_of c.args.head.now) (knowns_of (latest c.args.earlier.now))) (knowns_of (latest c.args.earlier.now)) (binders_of (λ x. x.now) c.args.names.now.items c.args.base)) (ap quals_of c.in-Some.ensures.cases.0 ∙ ap (λ q. qual_of q (quals_of c.in-Some.rest.now)) c.in-Test.is)))

pub comprehend-returns-in-Test-clause-kept : goal.comprehend-returns-in-Test-clause-kept
comprehend-returns-in-Test-clause-kept t c =
    kept_then c.guard.result c.start-test.result c.comprehend-body.result _ _ _ _ c.guard.ensures c.start-test.ensures.kept c.comprehend-body.ensures.kept (λ k i. i ∙ k)

pub bind_all-returns-in-Some-clause-made : goal.bind_all-returns-in-Some-clause-made
bind_all-returns-in-Some-clause-made t c =
    then_made c.args.names.now.items c.start-value.new.names.items term_of term_of let_term (λ us. (matching (pat_of c.in-Some.b.now.pattern) (knowns_of (latest c.args.earlier.now)) (binders_of (λ x. x.now) us c.args.base) (defs_term (defs_in c.in-Some.rest.now) (start (tree_of c.args.body.now) (knowns_of (latest c.args.earlier.now))) (knowns_of (latest c.args.earlier.now))) bottom_term)) c.let_in.result c.start-value.result c.bind_rest-matched.result (start (tree_of c.in-Some.b.now.expr) (knowns_of (latest c.args.earlier.now)) (binders_of (λ x. x.now) c.args.names.now.items c.args.base)) _ c.let_in.ensures c.start-value.ensures.made c.bind_rest-matched.ensures.made c.start-value.ensures.kept
    (sym (ap (λ d. defs_term d (start (tree_of c.args.body.now) (knowns_of (latest c.args.earlier.now))) (knowns_of (latest c.args.earlier.now)) (binders_of (λ x. x.now) c.args.names.now.items c.args.base)) (ap defs_in c.in-Some.ensures.cases.0)))

pub bind_all-returns-in-Some-clause-kept : goal.bind_all-returns-in-Some-clause-kept
bind_all-returns-in-Some-clause-kept t c =
    kept_then c.let_in.result c.start-value.result c.bind_rest-matched.result _ _ _ _ c.let_in.ensures c.start-value.ensures.kept c.bind_rest-matched.ensures.kept (λ k i. i ∙ k)

pub start-returns-in-Text-clause-made : goal.start-returns-in-Text-clause-made
start-returns-in-Text-clause-made t c =
    text_arm (knowns_of (latest c.args.earlier.now)) (binders_of (λ x. x.now) c.args.names.now.items c.args.base) c.text.result c.copy.result c.args.e.now c.in-Text.s c.text.ensures c.copy.ensures c.in-Text.is

pub start-all-requires : goal.start-all-requires
start-all-requires t c =
    (omega (arith, (ap (λ x. levels (tree_of x) (extents_of (latest c.args.earlier.now))) c.in-Row.is ∙ ap (λ x. levels x (extents_of (latest c.args.earlier.now))) (tree_of-Row c.in-Row.es)), ap (λ l. greatest (trees_of l) (extents_of (latest c.args.earlier.now))) c.deref-in-Row.ensures.value, c.decreases), tt)

pub start-start-a-requires-in-SumMap : goal.start-start-a-requires-in-SumMap
start-start-a-requires-in-SumMap t c =
    (omega (arith, ap (λ x. levels (tree_of x) (extents_of (latest c.args.earlier.now))) c.in-SumMap.is, ap (λ x. levels (tree_of x) (extents_of (latest c.args.earlier.now))) c.deref-in-SumMap.ensures, c.decreases), tt)

pub start-start-a-requires-in-Fun : goal.start-start-a-requires-in-Fun
start-start-a-requires-in-Fun t c =
    (omega (arith, ap (λ x. levels (tree_of x) (extents_of (latest c.args.earlier.now))) c.in-Fun.is, ap (λ x. levels (tree_of x) (extents_of (latest c.args.earlier.now))) c.deref-in-Fun.ensures, c.decreases), tt)

pub start-start-a-requires : goal.start-start-a-requires
start-start-a-requires t c =
    (omega (arith, ap (λ x. levels (tree_of x) (extents_of (latest c.args.earlier.now))) c.in-Apply.is, ap (λ x. levels (tree_of x) (extents_of (latest c.args.earlier.now))) c.deref-in-Apply.ensures, c.decreases), tt)

pub start-pair-requires : goal.start-pair-requires
start-pair-requires t c =
    (omega (arith, ap (λ x. levels (tree_of x) (extents_of (latest c.args.earlier.now))) c.in-If.is, ap (λ x. levels (tree_of x) (extents_of (latest c.args.earlier.now))) c.deref-in-If-2.ensures, ap (λ x. levels (tree_of x) (extents_of (latest c.args.earlier.now))) c.deref-in-If-3.ensures, c.decreases), tt)

pub start-start-test-requires : goal.start-start-test-requires
start-start-test-requires t c =
    (omega (arith, ap (λ x. levels (tree_of x) (extents_of (latest c.args.earlier.now))) c.in-If.is, ap (λ x. levels (tree_of x) (extents_of (latest c.args.earlier.now))) c.deref-in-If.ensures, c.decreases), tt)

pub start-pair-requires-in-Default : goal.start-pair-requires-in-Default
start-pair-requires-in-Default t c =
    (omega (arith, ap (λ x. levels (tree_of x) (extents_of (latest c.args.earlier.now))) c.in-Default.is, ap (λ x. levels (tree_of x) (extents_of (latest c.args.earlier.now))) c.deref-in-Default.ensures, ap (λ x. levels (tree_of x) (extents_of (latest c.args.earlier.now))) c.deref-in-Default-2.ensures, c.decreases), tt)

pub start-pair-requires-in-Union : goal.start-pair-requires-in-Union
start-pair-requires-in-Union t c =
    (omega (arith, ap (λ x. levels (tree_of x) (extents_of (latest c.args.earlier.now))) c.in-Union.is, ap (λ x. levels (tree_of x) (extents_of (latest c.args.earlier.now))) c.deref-in-Union.ensures, ap (λ x. levels (tree_of x) (extents_of (latest c.args.earlier.now))) c.deref-in-Union-2.ensures, c.decreases), tt)

pub start-pair-requires-in-Arith : goal.start-pair-requires-in-Arith
start-pair-requires-in-Arith t c =
    (omega (arith, ap (λ x. levels (tree_of x) (extents_of (latest c.args.earlier.now))) c.in-Arith.is, ap (λ x. levels (tree_of x) (extents_of (latest c.args.earlier.now))) c.deref-in-Arith.ensures, ap (λ x. levels (tree_of x) (extents_of (latest c.args.earlier.now))) c.deref-in-Arith-2.ensures, c.decreases), tt)

pub start-pair-requires-in-Compare : goal.start-pair-requires-in-Compare
start-pair-requires-in-Compare t c =
    (omega (arith, ap (λ x. levels (tree_of x) (extents_of (latest c.args.earlier.now))) c.in-Compare.is, ap (λ x. levels (tree_of x) (extents_of (latest c.args.earlier.now))) c.deref-in-Compare.ensures, ap (λ x. levels (tree_of x) (extents_of (latest c.args.earlier.now))) c.deref-in-Compare-2.ensures, c.decreases), tt)

pub start-pair-requires-in-Or : goal.start-pair-requires-in-Or
start-pair-requires-in-Or t c =
    (omega (arith, ap (λ x. levels (tree_of x) (extents_of (latest c.args.earlier.now))) c.in-Or.is, ap (λ x. levels (tree_of x) (extents_of (latest c.args.earlier.now))) c.deref-in-Or.ensures, ap (λ x. levels (tree_of x) (extents_of (latest c.args.earlier.now))) c.deref-in-Or-2.ensures, c.decreases), tt)

pub start-pair-requires-in-And : goal.start-pair-requires-in-And
start-pair-requires-in-And t c =
    (omega (arith, ap (λ x. levels (tree_of x) (extents_of (latest c.args.earlier.now))) c.in-And.is, ap (λ x. levels (tree_of x) (extents_of (latest c.args.earlier.now))) c.deref-in-And.ensures, ap (λ x. levels (tree_of x) (extents_of (latest c.args.earlier.now))) c.deref-in-And-2.ensures, c.decreases), tt)

pub start-start-requires-in-Index : goal.start-start-requires-in-Index
start-start-requires-in-Index t c =
    (omega (arith, ap (λ x. levels (tree_of x) (extents_of (latest c.args.earlier.now))) c.in-Index.is, ap (λ x. levels (tree_of x) (extents_of (latest c.args.earlier.now))) c.deref-in-Index.ensures, c.decreases), tt)

pub start-start-requires-in-Dim : goal.start-start-requires-in-Dim
start-start-requires-in-Dim t c =
    (omega (arith, ap (λ x. levels (tree_of x) (extents_of (latest c.args.earlier.now))) c.in-Dim.is, ap (λ x. levels (tree_of x) (extents_of (latest c.args.earlier.now))) c.deref-in-Dim.ensures, c.decreases), tt)

pub start-start-requires-in-Len : goal.start-start-requires-in-Len
start-start-requires-in-Len t c =
    (omega (arith, ap (λ x. levels (tree_of x) (extents_of (latest c.args.earlier.now))) c.in-Len.is, ap (λ x. levels (tree_of x) (extents_of (latest c.args.earlier.now))) c.deref-in-Len.ensures, c.decreases), tt)

pub start-start-requires-in-Get : goal.start-start-requires-in-Get
start-start-requires-in-Get t c =
    (omega (arith, ap (λ x. levels (tree_of x) (extents_of (latest c.args.earlier.now))) c.in-Get.is, ap (λ x. levels (tree_of x) (extents_of (latest c.args.earlier.now))) c.deref-in-Get.ensures, c.decreases), tt)

pub start-start-requires : goal.start-start-requires
start-start-requires t c =
    (omega (arith, ap (λ x. levels (tree_of x) (extents_of (latest c.args.earlier.now))) c.in-Gen.is, ap (λ x. levels (tree_of x) (extents_of (latest c.args.earlier.now))) c.deref-in-Gen.ensures, c.decreases), tt)

pub start-start-test-requires-in-Not : goal.start-start-test-requires-in-Not
start-start-test-requires-in-Not t c =
    (omega (arith, ap (λ x. levels (tree_of x) (extents_of (latest c.args.earlier.now))) c.in-Not.is, ap (λ x. levels (tree_of x) (extents_of (latest c.args.earlier.now))) c.deref-in-Not.ensures, c.decreases), tt)

pub start-all-requires-in-Members : goal.start-all-requires-in-Members
start-all-requires-in-Members t c =
    (omega (arith, (ap (λ x. levels (tree_of x) (extents_of (latest c.args.earlier.now))) c.in-Members.is ∙ ap (λ x. levels x (extents_of (latest c.args.earlier.now))) (tree_of-Members c.in-Members.es)), ap (λ l. greatest (trees_of l) (extents_of (latest c.args.earlier.now))) c.deref-in-Members.ensures.value, c.decreases), tt)

pub start-all-dims-requires : goal.start-all-dims-requires
start-all-dims-requires t c =
    (omega (arith, (ap (λ x. levels (tree_of x) (extents_of (latest c.args.earlier.now))) c.in-Literal.is ∙ ap (λ x. levels x (extents_of (latest c.args.earlier.now))) (tree_of-Literal c.in-Literal.dims c.in-Literal.cells)), greatest-append (trees_of c.in-Literal.dims.items.items) (trees_of c.in-Literal.cells.items.items) (extents_of (latest c.args.earlier.now)), ap (λ l. greatest (trees_of l) (extents_of (latest c.args.earlier.now))) c.deref-in-Literal.ensures.value, c.decreases), tt)

pub start-all-requires-in-Literal : goal.start-all-requires-in-Literal
start-all-requires-in-Literal t c =
    (omega (arith, (ap (λ x. levels (tree_of x) (extents_of (latest c.args.earlier.now))) c.in-Literal.is ∙ ap (λ x. levels x (extents_of (latest c.args.earlier.now))) (tree_of-Literal c.in-Literal.dims c.in-Literal.cells)), greatest-append (trees_of c.in-Literal.dims.items.items) (trees_of c.in-Literal.cells.items.items) (extents_of (latest c.args.earlier.now)), ap (λ l. greatest (trees_of l) (extents_of (latest c.args.earlier.now))) c.deref-in-Literal-2.ensures.value, c.decreases), tt)

pub start-all-at-requires : goal.start-all-at-requires
start-all-at-requires t c =
    (omega (arith, (ap (λ x. levels (tree_of x) (extents_of (latest c.args.earlier.now))) c.in-Sub.is ∙ ap (λ x. levels x (extents_of (latest c.args.earlier.now))) (tree_of-Sub c.in-Sub.array c.in-Sub.at)), ap (λ l. greatest (trees_of l) (extents_of (latest c.args.earlier.now))) c.deref-in-Sub-2.ensures.value, c.decreases), tt)

pub start-start-array-requires : goal.start-start-array-requires
start-start-array-requires t c =
    (omega (arith, (ap (λ x. levels (tree_of x) (extents_of (latest c.args.earlier.now))) c.in-Sub.is ∙ ap (λ x. levels x (extents_of (latest c.args.earlier.now))) (tree_of-Sub c.in-Sub.array c.in-Sub.at)), ap (λ x. levels (tree_of x) (extents_of (latest c.args.earlier.now))) c.deref-in-Sub.ensures, c.decreases), tt)

pub start-comprehend-requires : goal.start-comprehend-requires
start-comprehend-requires t c =
    (omega (arith, (ap (λ x. levels (tree_of x) (extents_of (latest c.args.earlier.now))) c.in-Comp.is ∙ ap (λ x. levels x (extents_of (latest c.args.earlier.now))) (tree_of-Comp c.in-Comp.head c.in-Comp.quals)), ap (λ l. quals_greatest (quals_of l) (extents_of (latest c.args.earlier.now))) c.deref-in-Comp.ensures.value, ap (λ l. count_quals (quals_of l)) c.deref-in-Comp.ensures.value, ap (λ x. levels (tree_of x) (extents_of (latest c.args.earlier.now))) c.deref-in-Comp-2.ensures, c.decreases), tt)

pub start-bounds-limits-requires : goal.start-bounds-limits-requires
start-bounds-limits-requires t c =
    (omega (arith, ap (λ x. levels x (extents_of (latest c.args.earlier.now))) (ap tree_of c.in-Tab.is ∙ tree_of-Tab c.in-Tab.body c.in-Tab.binds ∙ ap (λ a. tree.tab a (tree_of c.in-Tab.body.value)) (sym c.indices_in-axes.ensures)), c.decreases), tt)

pub start-index_body-inner-requires : goal.start-index_body-inner-requires
start-index_body-inner-requires t c =
    (omega (arith, ap (λ x. levels x (extents_of (latest c.args.earlier.now))) (ap tree_of c.in-Tab.is ∙ tree_of-Tab c.in-Tab.body c.in-Tab.binds ∙ ap (λ a. tree.tab a (tree_of c.in-Tab.body.value)) (sym c.indices_in-axes.ensures)), ap (λ x. levels (tree_of x) (extents_of (latest c.args.earlier.now))) c.deref-in-Tab.ensures, c.decreases), tt)

pub start-bind_all-requires : goal.start-bind_all-requires
start-bind_all-requires t c =
    (omega (arith, ap (λ x. levels x (extents_of (latest c.args.earlier.now))) (ap tree_of c.in-Let.is ∙ tree_of-Let c.in-Let.binds c.in-Let.body ∙ ap (λ d. tree.bindings d (tree_of c.in-Let.body.value)) (sym c.bindings_in-defs.ensures)), ap (λ x. levels (tree_of x) (extents_of (latest c.args.earlier.now))) c.deref-in-Let.ensures, c.decreases), tt)

pub start-call-requires : goal.start-call-requires
start-call-requires t c =
    (omega (arith, ap (λ x. levels (tree_of x) (extents_of (latest c.args.earlier.now))) c.in-Apply.is, c.decreases), tt)

pub start-match_body-body-requires : goal.start-match_body-body-requires
start-match_body-body-requires t c =
    (omega (arith, ap (λ x. levels (tree_of x) (extents_of (latest c.args.earlier.now))) c.in-Fun.is, ap (λ x. levels (tree_of x) (extents_of (latest c.args.earlier.now))) c.deref-in-Fun-2.ensures, c.decreases), tt)

pub start-match_body-body-requires-in-SumMap : goal.start-match_body-body-requires-in-SumMap
start-match_body-body-requires-in-SumMap t c =
    (omega (arith, ap (λ x. levels (tree_of x) (extents_of (latest c.args.earlier.now))) c.in-SumMap.is, ap (λ x. levels (tree_of x) (extents_of (latest c.args.earlier.now))) c.deref-in-SumMap-2.ensures, c.decreases), tt)

pub all-loop-e-preserved : goal.all-loop-e-preserved
all-loop-e-preserved t c =
    record {
      made = starts_next (knowns_of (latest c.args.earlier.now)) (binders_of (λ x. x.now) c.args.names.now.items c.args.base) c.args.es.now c.loop-e.e-index c.e-item.result c.loop-e.made.items c.push.new.self.items c.in_ok-term.term c.loop-e-test.true c.e-item.is c.in_ok-push.ensures.items
          (c.in_ok-term.ensures.made ∙ ap (λ us. start (tree_of c.e-item.result) (knowns_of (latest c.args.earlier.now)) (binders_of (λ x. x.now) us c.args.base)) c.loop-e.invariant.kept) c.loop-e.invariant.made;
      kept = c.in_ok-term.ensures.kept ∙ c.loop-e.invariant.kept;
      below = omega (arith, greatest_next (extents_of (latest c.args.earlier.now)) c.args.es.now c.loop-e.e-index c.e-item.result c.loop-e-test.true c.e-item.is, c.loop-e.invariant.below);
    }

pub all-start-requires : goal.all-start-requires
all-start-requires t c =
    (omega (arith, greatest_next (extents_of (latest c.args.earlier.now)) c.args.es.now c.loop-e.e-index c.e-item.result c.loop-e-test.true c.e-item.is, c.loop-e.invariant.below, c.decreases), tt)

pub all-returns-clause-made : goal.all-returns-clause-made
all-returns-clause-made t c =
    starts_done (knowns_of (latest c.args.earlier.now)) (binders_of (λ x. x.now) c.args.names.now.items c.args.base) c.args.es.now c.loop-e.e-index c.loop-e.made.items c.loop-e-test.false c.loop-e.invariant.made

pub index_body-returns-clause-made : goal.index_body-returns-clause-made
index_body-returns-clause-made t c =
    c.in_ok-inner.ensures.made ∙ ap (start (tree_of c.args.body.now) (knowns_of (latest c.args.earlier.now))) (c.in_ok-enter_binds.ensures.inside c.args.base)

pub index_body-returns-clause-kept : goal.index_body-returns-clause-kept
index_body-returns-clause-kept t c =
    matched_kept _ _ _ _ c.len-mark.result c.in_ok-enter_binds.ensures.around (c.len-mark.ensures ∙ c.args.names.now.ok.0) c.in_ok-inner.ensures.kept c.truncate.ensures.items

pub bounds-loop-b-preserved : goal.bounds-loop-b-preserved
bounds-loop-b-preserved t c =
    record {
      made = bounds_next (knowns_of (latest c.args.earlier.now)) (binders_of (λ x. x.now) c.args.names.now.items c.args.base) c.args.binds.now c.loop-b.b-index c.b-item.result c.loop-b.made.items c.push.new.self.items c.in_ok-term.term c.loop-b-test.true c.b-item.is c.in_ok-push.ensures.items
          (c.in_ok-term.ensures.made ∙ ap (λ us. start (tree_of c.b-item.result.bound) (knowns_of (latest c.args.earlier.now)) (binders_of (λ x. x.now) us c.args.base)) c.loop-b.invariant.kept) c.loop-b.invariant.made;
      kept = c.in_ok-term.ensures.kept ∙ c.loop-b.invariant.kept;
      below = omega (arith, bounds_greatest (extents_of (latest c.args.earlier.now)) c.args.binds.now c.loop-b.b-index c.b-item.result c.loop-b-test.true c.b-item.is, c.loop-b.invariant.below);
    }

pub bounds-start-requires : goal.bounds-start-requires
bounds-start-requires t c =
    (omega (arith, bounds_greatest (extents_of (latest c.args.earlier.now)) c.args.binds.now c.loop-b.b-index c.b-item.result c.loop-b-test.true c.b-item.is, c.loop-b.invariant.below, c.decreases), tt)

pub bounds-returns-clause-made : goal.bounds-returns-clause-made
bounds-returns-clause-made t c =
    bounds_done (knowns_of (latest c.args.earlier.now)) (binders_of (λ x. x.now) c.args.names.now.items c.args.base) c.args.binds.now c.loop-b.b-index c.loop-b.made.items c.loop-b-test.false c.loop-b.invariant.made

pub match_body-returns-clause-made : goal.match_body-returns-clause-made
match_body-returns-clause-made t c =
    IfOk-weaker c.close.result _ _ (λ made h. matched_made (λ x. x.now) (pat_of c.args.p.now) (knowns_of (latest c.args.earlier.now)) c.args.names.now.items c.open.new.names.items c.start.new.names.items c.len-mark.result c.args.base (start (tree_of c.args.body.now) (knowns_of (latest c.args.earlier.now))) (term_of c.in_ok-term.term) bottom_term (term_of made) c.in_ok-open.ensures.inside c.in_ok-open.ensures.around (c.len-mark.ensures ∙ c.args.names.now.ok.0) c.in_ok-term.ensures.made c.in_ok-term.ensures.kept h) c.close.ensures.made

pub match_body-returns-clause-kept : goal.match_body-returns-clause-kept
match_body-returns-clause-kept t c =
    kept_map c.close.result _ _ (matched_kept c.args.names.now.items c.open.new.names.items c.start.new.names.items c.close.new.names.items c.len-mark.result c.in_ok-open.ensures.around (c.len-mark.ensures ∙ c.args.names.now.ok.0) c.in_ok-term.ensures.kept) c.close.ensures.kept

pub match_qualifiers-returns-clause-made : goal.match_qualifiers-returns-clause-made
match_qualifiers-returns-clause-made t c =
    IfOk-weaker c.close.result _ _ (λ made h. matched_made (λ x. x.now) (pat_of c.args.p.now) (knowns_of (latest c.args.earlier.now)) c.args.names.now.items c.open.new.names.items c.comprehend.new.names.items c.len-mark.result c.args.base (quals_term (quals_of c.args.rest.now) (start (tree_of c.args.head.now) (knowns_of (latest c.args.earlier.now))) (knowns_of (latest c.args.earlier.now))) (term_of c.in_ok-term.term) empty_term (term_of made) c.in_ok-open.ensures.inside c.in_ok-open.ensures.around (c.len-mark.ensures ∙ c.args.names.now.ok.0) c.in_ok-term.ensures.made c.in_ok-term.ensures.kept h) c.close.ensures.made

pub match_qualifiers-returns-clause-kept : goal.match_qualifiers-returns-clause-kept
match_qualifiers-returns-clause-kept t c =
    kept_map c.close.result _ _ (matched_kept c.args.names.now.items c.open.new.names.items c.comprehend.new.names.items c.close.new.names.items c.len-mark.result c.in_ok-open.ensures.around (c.len-mark.ensures ∙ c.args.names.now.ok.0) c.in_ok-term.ensures.kept) c.close.ensures.kept

pub call-returns-in-Some : goal.call-returns-in-Some
call-returns-in-Some t c =
    term_of-Bottom ∙ ap (λ o. call_term o (find c.args.name.now (knowns_of (latest c.args.earlier.now))) (length (binders_of (λ x. x.now) c.args.names.now c.args.base))) (c.in-Some.ensures c.args.base)

pub call-returns-in_ok-depth-in-None : goal.call-returns-in_ok-depth-in-None
call-returns-in_ok-depth-in-None t c =
    IfOk-weaker c.expand.result _ _ (λ made h. h ∙ ap (macro_term (find c.args.name.now (knowns_of (latest c.args.earlier.now)))) (let z : c.in_ok-depth-in-None.depth ≡ length (binders_of (λ x. x.now) c.args.names.now c.args.base) = omega (arith, c.in_ok-depth-in-None.ensures, length-binders_of (λ x. x.now) c.args.names.now c.args.base) in z)
    ∙ ap (λ o. call_term o (find c.args.name.now (knowns_of (latest c.args.earlier.now))) (length (binders_of (λ x. x.now) c.args.names.now c.args.base))) (c.in-None.ensures c.args.base)) c.expand.ensures

pub expand-returns-in-None : goal.expand-returns-in-None
expand-returns-in-None t c =
    term_of-Bottom ∙ sym (ap (λ o. macro_term o c.args.depth) (known_none c.args.name.now (latest c.args.earlier.now) c.in-None.ensures.found))

pub expand-returns-in-Val : goal.expand-returns-in-Val
expand-returns-in-Val t c =
    term_of-Bottom ∙ sym (ap (λ o. macro_term o c.args.depth) (known_some c.args.name.now (latest c.args.earlier.now) (decl_of c.in-Some.d.now) (latest c.in-Some.before) c.in-Some.ensures.found ∙ ap (λ e. Some (known_of (decl_of e) (knowns_of (latest c.in-Some.before)) (suc (length (latest c.in-Some.before))))) c.in-Val.is))

pub expand-returns-in-Read : goal.expand-returns-in-Read
expand-returns-in-Read t c =
    term_of-Bottom ∙ sym (ap (λ o. macro_term o c.args.depth) (known_some c.args.name.now (latest c.args.earlier.now) (decl_of c.in-Some.d.now) (latest c.in-Some.before) c.in-Some.ensures.found ∙ ap (λ e. Some (known_of (decl_of e) (knowns_of (latest c.in-Some.before)) (suc (length (latest c.in-Some.before))))) c.in-Read.is))

pub expand-returns-in-Bare : goal.expand-returns-in-Bare
expand-returns-in-Bare t c =
    term_of-Bottom ∙ sym (ap (λ o. macro_term o c.args.depth) (known_some c.args.name.now (latest c.args.earlier.now) (decl_of c.in-Some.d.now) (latest c.in-Some.before) c.in-Some.ensures.found ∙ ap (λ e. Some (known_of (decl_of e) (knowns_of (latest c.in-Some.before)) (suc (length (latest c.in-Some.before))))) c.in-Bare.is))

pub expand-returns-in_ok-made-in-Macro : goal.expand-returns-in_ok-made-in-Macro
expand-returns-in_ok-made-in-Macro t c =
    c.in_ok-made-in-Macro.ensures.made ∙ ap (λ us. matching (pat_of c.in-Macro.pattern) (knowns_of (latest c.in-Some.before)) (binders_of (λ x. x.now) us c.args.depth) (start (tree_of c.in-Macro.body) (knowns_of (latest c.in-Some.before))) bottom_term) c.new-names.ensures.items ∙ sym (ap (λ o. macro_term o c.args.depth) (known_some c.args.name.now (latest c.args.earlier.now) (decl_of c.in-Some.d.now) (latest c.in-Some.before) c.in-Some.ensures.found ∙ ap (λ e. Some (known_of (decl_of e) (knowns_of (latest c.in-Some.before)) (suc (length (latest c.in-Some.before))))) c.in-Macro.is))

pub expand-match_body-requires : goal.expand-match_body-requires
expand-match_body-requires t c =
    (omega (arith, ap (λ o. (extent_of o).levels) (extent_some c.args.name.now (latest c.args.earlier.now) (decl_of c.in-Some.d.now) (latest c.in-Some.before) c.in-Some.ensures.found ∙ ap (λ e. Some (extent (decl_of e) (extents_of (latest c.in-Some.before)))) c.in-Macro.is), c.decreases), tt)

pub comprehend-start-members-requires : goal.comprehend-start-members-requires
comprehend-start-members-requires t c =
    (omega (arith, ap (λ q. quals_greatest q (extents_of (latest c.args.earlier.now))) (ap quals_of c.in-Some.ensures.cases.0 ∙ ap (λ q. qual_of q (quals_of c.in-Some.rest.now)) c.in-From.is), ap count_quals (ap quals_of c.in-Some.ensures.cases.0 ∙ ap (λ q. qual_of q (quals_of c.in-Some.rest.now)) c.in-From.is), c.decreases), tt)

pub comprehend-match_qualifiers-body-requires : goal.comprehend-match_qualifiers-body-requires
comprehend-match_qualifiers-body-requires t c =
    (omega (arith, ap (λ q. quals_greatest q (extents_of (latest c.args.earlier.now))) (ap quals_of c.in-Some.ensures.cases.0 ∙ ap (λ q. qual_of q (quals_of c.in-Some.rest.now)) c.in-From.is), ap count_quals (ap quals_of c.in-Some.ensures.cases.0 ∙ ap (λ q. qual_of q (quals_of c.in-Some.rest.now)) c.in-From.is), c.decreases), tt)

pub comprehend-start-array-requires : goal.comprehend-start-array-requires
comprehend-start-array-requires t c =
    (omega (arith, ap (λ q. quals_greatest q (extents_of (latest c.args.earlier.now))) (ap quals_of c.in-Some.ensures.cases.0 ∙ ap (λ q. qual_of q (quals_of c.in-Some.rest.now)) c.in-Cells.is), ap count_quals (ap quals_of c.in-Some.ensures.cases.0 ∙ ap (λ q. qual_of q (quals_of c.in-Some.rest.now)) c.in-Cells.is), c.decreases), tt)

pub comprehend-grid-walked-requires : goal.comprehend-grid-walked-requires
comprehend-grid-walked-requires t c =
    (omega (arith, ap (λ q. quals_greatest q (extents_of (latest c.args.earlier.now))) (ap quals_of c.in-Some.ensures.cases.0 ∙ ap (λ q. qual_of q (quals_of c.in-Some.rest.now)) c.in-Cells.is), ap count_quals (ap quals_of c.in-Some.ensures.cases.0 ∙ ap (λ q. qual_of q (quals_of c.in-Some.rest.now)) c.in-Cells.is), c.decreases), tt)

pub comprehend-start-value-requires : goal.comprehend-start-value-requires
comprehend-start-value-requires t c =
    (omega (arith, ap (λ q. quals_greatest q (extents_of (latest c.args.earlier.now))) (ap quals_of c.in-Some.ensures.cases.0 ∙ ap (λ q. qual_of q (quals_of c.in-Some.rest.now)) c.in-Match.is), ap count_quals (ap quals_of c.in-Some.ensures.cases.0 ∙ ap (λ q. qual_of q (quals_of c.in-Some.rest.now)) c.in-Match.is), c.decreases), tt)

pub comprehend-match_qualifiers-body-requires-in-Match : goal.comprehend-match_qualifiers-body-requires-in-Match
comprehend-match_qualifiers-body-requires-in-Match t c =
    (omega (arith, ap (λ q. quals_greatest q (extents_of (latest c.args.earlier.now))) (ap quals_of c.in-Some.ensures.cases.0 ∙ ap (λ q. qual_of q (quals_of c.in-Some.rest.now)) c.in-Match.is), ap count_quals (ap quals_of c.in-Some.ensures.cases.0 ∙ ap (λ q. qual_of q (quals_of c.in-Some.rest.now)) c.in-Match.is), c.decreases), tt)

pub comprehend-start-test-requires : goal.comprehend-start-test-requires
comprehend-start-test-requires t c =
    (omega (arith, ap (λ q. quals_greatest q (extents_of (latest c.args.earlier.now))) (ap quals_of c.in-Some.ensures.cases.0 ∙ ap (λ q. qual_of q (quals_of c.in-Some.rest.now)) c.in-Test.is), ap count_quals (ap quals_of c.in-Some.ensures.cases.0 ∙ ap (λ q. qual_of q (quals_of c.in-Some.rest.now)) c.in-Test.is), c.decreases), tt)

pub comprehend-comprehend-body-requires : goal.comprehend-comprehend-body-requires
comprehend-comprehend-body-requires t c =
    (omega (arith, ap (λ q. quals_greatest q (extents_of (latest c.args.earlier.now))) (ap quals_of c.in-Some.ensures.cases.0 ∙ ap (λ q. qual_of q (quals_of c.in-Some.rest.now)) c.in-Test.is), ap count_quals (ap quals_of c.in-Some.ensures.cases.0 ∙ ap (λ q. qual_of q (quals_of c.in-Some.rest.now)) c.in-Test.is), c.decreases), tt)

pub grid-returns-clause-made : goal.grid-returns-clause-made
grid-returns-clause-made t c array =
    grid_made (λ x. x.now) c.args.ps.now (pat_of c.args.p.now) (knowns_of (latest c.args.earlier.now)) c.args.names.now.items c.push.new.self.items c.hide.new.names.items c.enter_axes.new.names.items c.match_qualifiers.new.names.items c.args.base c.len-low.result (c.len.result - c.len-low.result) (quals_term (quals_of c.args.rest.now) (start (tree_of c.args.head.now) (knowns_of (latest c.args.earlier.now))) (knowns_of (latest c.args.earlier.now))) array (term_of c.in_ok-body.body) (term_of c.in_ok-walked.walked) empty_term
    c.in_ok-push.ensures.items c.in_ok-hide.ensures.inside c.in_ok-enter_axes.ensures.inside c.in_ok-enter_axes.ensures.around (c.len-low.ensures ∙ c.hide.new.names.ok.0) (ap (λ n. n - c.len-low.result) (c.len.ensures ∙ c.enter_axes.new.names.ok.0)) c.in_ok-body.ensures.made c.in_ok-body.ensures.kept c.in_ok-walked.ensures.made

pub grid-returns-clause-kept : goal.grid-returns-clause-kept
grid-returns-clause-kept t c =
    grid_kept c.args.names.now.items c.push.new.self.items c.hide.new.names.items c.enter_axes.new.names.items c.match_qualifiers.new.names.items c.walk.new.names.items c.truncate.new.self.items c.len-low.result c.len-mark.result c.in_ok-push.ensures.items c.in_ok-hide.ensures.around c.in_ok-enter_axes.ensures.around (c.len-low.ensures ∙ c.hide.new.names.ok.0) (c.len-mark.ensures ∙ c.args.names.now.ok.0) c.in_ok-body.ensures.kept c.in_ok-walked.ensures.kept c.truncate.ensures.items

pub bind_all-returns-in-None-clause-made : goal.bind_all-returns-in-None-clause-made
bind_all-returns-in-None-clause-made t c =
    made_as c.start.result _ _ c.start.ensures.made
    (sym (ap (λ d. defs_term d (start (tree_of c.args.body.now) (knowns_of (latest c.args.earlier.now))) (knowns_of (latest c.args.earlier.now)) (binders_of (λ x. x.now) c.args.names.now.items c.args.base)) (no_defs c.args.binds.now c.in-None.ensures.cases)))

pub bind_all-returns-in-None-clause-kept : goal.bind_all-returns-in-None-clause-kept
bind_all-returns-in-None-clause-kept t c =
    c.start.ensures.kept

pub bind_all-start-value-requires : goal.bind_all-start-value-requires
bind_all-start-value-requires t c =
    (omega (arith, ap (λ d. defs_greatest d (extents_of (latest c.args.earlier.now))) (ap defs_in c.in-Some.ensures.cases.0), ap count_defs (ap defs_in c.in-Some.ensures.cases.0), c.decreases), tt)

pub bind_all-bind_rest-matched-requires : goal.bind_all-bind_rest-matched-requires
bind_all-bind_rest-matched-requires t c =
    (omega (arith, ap (λ d. defs_greatest d (extents_of (latest c.args.earlier.now))) (ap defs_in c.in-Some.ensures.cases.0), ap count_defs (ap defs_in c.in-Some.ensures.cases.0), c.decreases), tt)

pub bind_rest-returns-clause-made : goal.bind_rest-returns-clause-made
bind_rest-returns-clause-made t c =
    IfOk-weaker c.close.result _ _ (λ made h. matched_made (λ x. x.now) (pat_of c.args.p.now) (knowns_of (latest c.args.earlier.now)) c.args.names.now.items c.open.new.names.items c.bind_all.new.names.items c.len-mark.result c.args.base (defs_term (defs_in c.args.rest.now) (start (tree_of c.args.body.now) (knowns_of (latest c.args.earlier.now))) (knowns_of (latest c.args.earlier.now))) (term_of c.in_ok-term.term) bottom_term (term_of made) c.in_ok-open.ensures.inside c.in_ok-open.ensures.around (c.len-mark.ensures ∙ c.args.names.now.ok.0) c.in_ok-term.ensures.made c.in_ok-term.ensures.kept h) c.close.ensures.made

pub bind_rest-returns-clause-kept : goal.bind_rest-returns-clause-kept
bind_rest-returns-clause-kept t c =
    kept_map c.close.result _ _ (matched_kept c.args.names.now.items c.open.new.names.items c.bind_all.new.names.items c.close.new.names.items c.len-mark.result c.in_ok-open.ensures.around (c.len-mark.ensures ∙ c.args.names.now.ok.0) c.in_ok-term.ensures.kept) c.close.ensures.kept
