-- The arms of the cycle.
use Rattle.std.proofs.Common.{◌≡◌, ◌<◌, ◌≤◌, ◌∷◌, ◌++◌, [], length, Some, ℕ, List, drop, refl, sym, ap, ◌∙◌, arith, rules}
use Rattle.std.specs.Option.{option_map}
use Rattle.std.specs.Prelude.{slice_get}
use Rattle.std.proofs.lemmas.Option.{slice_get_within}
use Rattle.aql_value.specs.Canon.{canon}
use Rattle.aql_value.specs.Datum.{Datum, natural, set, data_of}
use Rattle.aql_value.specs.Indices.{product, indices}
use Rattle.aql_value.specs.Operations.{push_index}
use Rattle.aql_value.specs.Partial.{each, total}
use Rattle.aql_value.specs.Strict.{strict_turns}
use Rattle.nrca_array.specs.Held.{held_datum}
use Rattle.nrca_term.specs.Laws.Equations.{term_of-BigUnion, term_of-Sum, term_of-Sub, term_of-Tab}
use Rattle.nrca_term.specs.Meaning.{cden}
use Rattle.nrca_term.specs.Laws.Measure.{weight_of-child}
use Rattle.nrca_term.specs.Nodes.{big_union_term, sum_term}
use Rattle.nrca_term.specs.Term.{form_of, parts_of, weight_of, terms_in}
use Rattle.nrca_term.specs.Turns.{settle}
use Rattle.nrca_term.specs.Laws.Variants.{settle-tab}
use Rattle.nrca_term.specs.View.{term_of, terms_of}
use Rattle.nrca_term.specs.Laws.WellFormed.{well_formed-Core}
use Rattle.nrca_loops.specs.Parts.{numbers_in, parts_value, strict_of, strict_in, table_in}
use Rattle.nrca_loops.specs.Laws.Run.{range_none, range_whole, each-range_more, each-range_split, total-range_more, total-range_split, sum_value-with, sum_value-join, union_value-join}
use Rattle.nrca_loops.specs.Runs.{member_list, members_value, list_with, lists_join, sets_join, sum_value, sum_with, sums_join, union_value}
use Rattle.nrca_loops.specs.Values.{values, boxed_value, held_value, set_in}
use Rattle.nrca_loops.specs.Within.{itself}
use Rattle.nrca_loops.specs.Laws.Within.{err_within, same_within}
use Rattle.nrca_numbers.specs.Laws.Union.{sets_more, sets_nothing}
use Rattle.nrca_eval.specs.Laws.Form.{count-terms_in, child_of-terms_in, strict_whole, strict_taken, sum_whole, sum_taken, union_whole, union_taken, tab_none, tab_whole, tab_idle, tab_taken}
use Rattle.nrca_eval.specs.Runs.{run_values, run_turns, cell_values, cell_turns}
use Rattle.nrca_eval.proofs.Evaluated.{at_answer, at_fault, member_weight, sub_weight, tab_weight, strict_form, spent_within, spent_whole, written}
use Rattle.nrca_eval.proofs.Gathering.{spent_block, sets_first, lists_more}
use Rattle.nrca_eval.proofs.Joined.{total_wider, whole_within}
use Rattle.nrca_numbers.specs.Laws.Few.{few_in}
use Rattle.nrca_numbers.specs.Lending.{lent_datum}
use Rattle.nrca_numbers.specs.Laws.Lent.{term_at, sub_lent, sub_free}
use denote.Param.Send.{sendable}
use Rattle.std.proofs.Crossing.{crosses}
use Rattle.nrca_loops.proofs.Crosses.{env-sync, globals-sync, members-sync}
use Rattle.nrca_term.proofs.term.Core.TheLaws.TheKnot.{sync-Core}
use Rattle.nrca_eval.proofs.+eval.Goals as goal
use Rattle.nrca_term.specs.Laws.Entering.{child-there}

pub evaluator::node-eval_tab-requires : goal.evaluator::node-eval_tab-requires
evaluator::node-eval_tab-requires g t c κs within =
    let w = ap (λ x. weight_of (term_of x)) c.in-Tab.is ∙ ap weight_of (term_of-Tab c.in-Tab.bounds c.in-Tab.body) in
    (omega (arith, c.decreases, w, tab_weight (terms_of c.in-Tab.bounds) (term_of c.in-Tab.body.value), ap (λ x. weight_of (term_of x)) c.deref-in-Tab.ensures), search rules)

pub evaluator::node-returns-in-BigUnion : goal.evaluator::node-returns-in-BigUnion
evaluator::node-returns-in-BigUnion g t c =
    let whole = ap term_of c.in-BigUnion.is ∙ term_of-BigUnion c.in-BigUnion.over c.in-BigUnion.body ∙ (λ k. big_union_term (term_of (sym c.deref-in-BigUnion.ensures k)) (term_of (sym c.deref-in-BigUnion-2.ensures k))) in
    same_within boxed_value c.eval_union.result c.args.budget _ _ _ _ (ap (cden c.args.machine.now.globals.now (values c.args.env.now)) (sym whole)) (ap (settle c.args.machine.now.globals.now (values c.args.env.now)) (sym whole)) c.eval_union.ensures

pub evaluator::node-returns-in-Sum : goal.evaluator::node-returns-in-Sum
evaluator::node-returns-in-Sum g t c =
    let whole = ap term_of c.in-Sum.is ∙ term_of-Sum c.in-Sum.over c.in-Sum.body ∙ (λ k. sum_term (term_of (sym c.deref-in-Sum.ensures k)) (term_of (sym c.deref-in-Sum-2.ensures k))) in
    same_within boxed_value c.eval_sum.result c.args.budget _ _ _ _ (ap (cden c.args.machine.now.globals.now (values c.args.env.now)) (sym whole)) (ap (settle c.args.machine.now.globals.now (values c.args.env.now)) (sym whole)) c.eval_sum.ensures

pub evaluator::node-eval_cell-requires : goal.evaluator::node-eval_cell-requires
evaluator::node-eval_cell-requires g t c κs within =
    let w = ap (λ x. weight_of (term_of x)) c.in-Sub.is ∙ ap weight_of (term_of-Sub c.in-Sub.array c.in-Sub.at) in
    (omega (arith, c.decreases, w, sub_weight (term_of c.in-Sub.array.value) (terms_of c.in-Sub.at)), search rules)

pub evaluator::node-returns-in-Some : goal.evaluator::node-returns-in-Some
evaluator::node-returns-in-Some g t c =
    let V = c.args.machine.now.globals.now in
    let vals = values c.args.env.now in
    let a = term_of c.in-Sub.array.value in
    let ts = terms_of c.in-Sub.at in
    let v = lent_datum c.in-Some.array in
    let whole = ap term_of c.in-Sub.is ∙ term_of-Sub c.in-Sub.array c.in-Sub.at in
    let same = ap term_of c.deref-in-Sub.ensures in
    let holds : cden V vals a ≡ Some v = ap (cden V vals) (sym same) ∙ c.in-Some.ensures.value in
    let free : settle V vals a ≡ 0 = ap (settle V vals) (sym same) ∙ c.in-Some.ensures.turns in
    same_within boxed_value c.eval_cell.result c.args.budget _ _ _ _
    (sym (ap (cden V vals) whole ∙ sub_lent V vals a v holds free ts)) (sym (ap (settle V vals) whole ∙ sub_free V vals a v holds free ts)) c.eval_cell.ensures

pub evaluator::eval_all-node-requires : goal.evaluator::eval_all-node-requires
evaluator::eval_all-node-requires g t c κs within =
    (omega (arith, c.decreases, member_weight c.deref-term-items.result.now c.args.terms.now.0.items c.loop-term.term-index c.term-item.result c.deref-term-items.ensures.value (omega arith) c.term-item.is), search rules)

pub evaluator::eval_all-returns-in_err-done : goal.evaluator::eval_all-returns-in_err-done
evaluator::eval_all-returns-in_err-done g t c =
    let V = c.args.machine.now.globals.now in
    let vals = values c.args.env.now in
    let inv = c.loop-term.invariant in
    let at = term_at c.deref-term-items.result.now c.args.terms.now.0.items c.loop-term.term-index c.term-item.result c.deref-term-items.ensures.value (omega arith) c.term-item.is in
    let high : c.loop-term.term-index < length (terms_of c.args.terms.now) = slice_get_within (terms_of c.args.terms.now) c.loop-term.term-index (term_of c.term-item.result) at in
    err_within parts_value _ _ _ _ c.in_err-done.field-0.0 c.from_residual.ensures.0 c.from_residual.ensures.1
    (λ s. spent_whole (settle V vals) (terms_of c.args.terms.now) c.loop-term.term-index (term_of c.term-item.result) c.args.budget c.loop-term.turns high at inv.1 inv.2 (c.in_err-done.ensures s))

pub evaluator::eval_all-loop-term-preserved : goal.evaluator::eval_all-loop-term-preserved
evaluator::eval_all-loop-term-preserved g t c =
    let f = cden c.args.machine.now.globals.now (values c.args.env.now) in
    let g = settle c.args.machine.now.globals.now (values c.args.env.now) in
    let inv = c.loop-term.invariant in
    let done = c.in_ok-done.ensures in
    let at = term_at c.deref-term-items.result.now c.args.terms.now.0.items c.loop-term.term-index c.term-item.result c.deref-term-items.ensures.value (omega arith) c.term-item.is in (
      c.in_ok-parts.ensures ∙ (λ k. list_with (inv.0 k) (done.0 k)) ∙ sym (each-range_more f g (terms_of c.args.terms.now) 0 c.loop-term.term-index (term_of c.term-item.result) (omega arith) at),
      omega (arith, total-range_more f g (terms_of c.args.terms.now) 0 c.loop-term.term-index (term_of c.term-item.result) (omega arith) at, inv.1, done.1),
      omega (arith, inv.2, done.1, done.2),
    )

pub evaluator::eval_parts-node-requires : goal.evaluator::eval_parts-node-requires
evaluator::eval_parts-node-requires g t c κs within =
    (omega (arith, c.decreases, weight_of-child (term_of c.args.term.now) c.loop-i.i (term_of c.in-Some.part.now) (sym c.in-Some.ensures)), search rules)

pub evaluator::eval_parts-unreachable-requires : goal.evaluator::eval_parts-unreachable-requires
evaluator::eval_parts-unreachable-requires g t c =
    child-there (parts_of (term_of c.args.term.now)) c.loop-i.i (omega (arith, c.parts-i-end.ensures)) c.in-None.ensures

pub evaluator::eval_parts-returns-in_err-done-in-Some : goal.evaluator::eval_parts-returns-in_err-done-in-Some
evaluator::eval_parts-returns-in_err-done-in-Some g t c =
    let V = c.args.machine.now.globals.now in
    let vals = values c.args.env.now in
    let inv = c.loop-i.invariant in
    let ts = terms_in (parts_of (term_of c.args.term.now)) in
    let at : slice_get ts c.loop-i.i ≡ Some (term_of c.in-Some.part.now) = sym (child_of-terms_in (parts_of (term_of c.args.term.now)) c.loop-i.i) ∙ sym c.in-Some.ensures in
    err_within parts_value _ _ _ _ c.in_err-done-in-Some.field-0.0 c.from_residual.ensures.0 c.from_residual.ensures.1
    (λ s. spent_whole (settle V vals) ts c.loop-i.i (term_of c.in-Some.part.now) c.args.budget c.loop-i.turns (slice_get_within ts c.loop-i.i (term_of c.in-Some.part.now) at) at inv.1 inv.2 (c.in_err-done-in-Some.ensures s))

pub evaluator::eval_parts-loop-i-preserved : goal.evaluator::eval_parts-loop-i-preserved
evaluator::eval_parts-loop-i-preserved g t c =
    let f = cden c.args.machine.now.globals.now (values c.args.env.now) in
    let g = settle c.args.machine.now.globals.now (values c.args.env.now) in
    let inv = c.loop-i.invariant in
    let done = c.in_ok-done-in-Some.ensures in
    let ts = terms_in (parts_of (term_of c.args.term.now)) in
    let at : slice_get ts c.loop-i.i ≡ Some (term_of c.in-Some.part.now) = sym (child_of-terms_in (parts_of (term_of c.args.term.now)) c.loop-i.i) ∙ sym c.in-Some.ensures in (
      c.in_ok-keep_part-in-Some.ensures ∙ (λ k. list_with (inv.0 k) (done.0 k)) ∙ sym (each-range_more f g ts 0 c.loop-i.i (term_of c.in-Some.part.now) (omega arith) at),
      omega (arith, total-range_more f g ts 0 c.loop-i.i (term_of c.in-Some.part.now) (omega arith) at, inv.1, done.1),
      omega (arith, inv.2, done.1, done.2),
    )

pub evaluator::eval_parts-returns : goal.evaluator::eval_parts-returns
evaluator::eval_parts-returns g t c =
    let V = c.args.machine.now.globals.now in
    let vals = values c.args.env.now in
    let inv = c.loop-i.invariant in
    let ts = terms_in (parts_of (term_of c.args.term.now)) in
    let whole = range_whole ts c.loop-i.i (omega (arith, c.parts-i-end.ensures, count-terms_in (parts_of (term_of c.args.term.now)))) in
    (inv.0 ∙ ap (each (cden V vals)) whole, inv.1 ∙ ap (total (settle V vals)) whole, omega (arith, inv.1, inv.2, ap (total (settle V vals)) whole))

pub evaluator::eval_strict-returns-in_err-parts : goal.evaluator::eval_strict-returns-in_err-parts
evaluator::eval_strict-returns-in_err-parts g t c =
    let V = c.args.machine.now.globals.now in
    let vals = values c.args.env.now in
    let s = strict_of (form_of (term_of c.args.term.now)) in
    let form = strict_form (form_of (term_of c.args.term.now)) c.requires in
    let taken = strict_taken V vals (term_of c.args.term.now) s (well_formed-Core c.args.term.now) form in
    err_within boxed_value _ _ _ _ c.in_err-parts.field-0.0 c.from_residual.ensures.0 c.from_residual.ensures.1 (λ e. let h = c.in_err-parts.ensures e in omega (arith, h, taken))

pub evaluator::eval_strict-returns : goal.evaluator::eval_strict-returns
evaluator::eval_strict-returns g t c =
    let V = c.args.machine.now.globals.now in
    let vals = values c.args.env.now in
    let s = strict_of (form_of (term_of c.args.term.now)) in
    let form = strict_form (form_of (term_of c.args.term.now)) c.requires in
    let taken = strict_taken V vals (term_of c.args.term.now) s (well_formed-Core c.args.term.now) form in
    let parts = c.in_ok-parts.ensures in
    let whole = c.in_ok-whole.ensures in (
      whole.0 ∙ ap (strict_in s) parts.0 ∙ sym (strict_whole V vals (term_of c.args.term.now) s (well_formed-Core c.args.term.now) form),
      omega (arith, whole.1, ap (strict_turns s) parts.0, parts.1, taken),
      omega (arith, whole.1, whole.2, ap (strict_turns s) parts.0, parts.1, parts.2, taken),
    )

pub evaluator::eval_sum-returns-in_err-run : goal.evaluator::eval_sum-returns-in_err-run
evaluator::eval_sum-returns-in_err-run g t c =
    let V = c.args.machine.now.globals.now in
    let vals = values c.args.env.now in
    let e = term_of c.args.over.now in
    let b = term_of c.args.body.now in
    let ms = member_list c.in-Some.members in
    let found = c.in_ok-answer.ensures in
    let some : c.in_ok-answer.field-0.answer ≡ Some c.in-Some.members = cc in
    let is = sym found.0 ∙ ap members_value some in
    let taken = sum_taken V vals e b ms is in
    let inner = ap (λ n. run_turns V vals b ms 0 n) c.len-count.ensures in
    err_within boxed_value _ _ _ _ c.in_err-run.field-0.0 c.from_residual-in_err-run.ensures.0 c.from_residual-in_err-run.ensures.1
    (λ s. let h = c.in_err-run.ensures s in omega (arith, h, taken, inner, found.1, found.2, c.len-count.ensures, c.in_ok-answer.turns-is, c.if-count-from.false, c.from.ensures))

pub evaluator::eval_sum-returns : goal.evaluator::eval_sum-returns
evaluator::eval_sum-returns g t c =
    let V = c.args.machine.now.globals.now in
    let vals = values c.args.env.now in
    let e = term_of c.args.over.now in
    let b = term_of c.args.body.now in
    let ms = member_list c.in-Some.members in
    let found = c.in_ok-answer.ensures in
    let some : c.in_ok-answer.field-0.answer ≡ Some c.in-Some.members = cc in
    let is = sym found.0 ∙ ap members_value some in
    let taken = sum_taken V vals e b ms is in
    let inner = ap (λ n. run_turns V vals b ms 0 n) c.len-count.ensures in
    let run = c.in_ok-run.ensures in (
      c.in_ok-to_box.ensures ∙ c.sum_of.ensures ∙ ap (option_map natural) (run.0 ∙ ap (λ n. sum_value (run_values V vals b ms 0 n)) c.len-count.ensures) ∙ sym (sum_whole V vals e b ms is),
      omega (arith, run.1, taken, inner, found.1, c.len-count.ensures),
      omega (arith, run.1, run.2, taken, inner, found.1, found.2, c.len-count.ensures, c.in_ok-answer.turns-is, c.if-count-from.false, c.from.ensures),
    )

pub evaluator::eval_union-returns-in_err-run : goal.evaluator::eval_union-returns-in_err-run
evaluator::eval_union-returns-in_err-run g t c =
    let V = c.args.machine.now.globals.now in
    let vals = values c.args.env.now in
    let e = term_of c.args.over.now in
    let b = term_of c.args.body.now in
    let ms = member_list c.in-Some.members in
    let found = c.in_ok-answer.ensures in
    let some : c.in_ok-answer.field-0.answer ≡ Some c.in-Some.members = cc in
    let is = sym found.0 ∙ ap members_value some in
    let taken = union_taken V vals e b ms is in
    let inner = ap (λ n. run_turns V vals b ms 0 n) c.len-count.ensures in
    err_within boxed_value _ _ _ _ c.in_err-run.field-0.0 c.from_residual-in_err-run.ensures.0 c.from_residual-in_err-run.ensures.1
    (λ s. let h = c.in_err-run.ensures s in omega (arith, h, taken, inner, found.1, found.2, c.len-count.ensures, c.in_ok-answer.turns-is, c.if-count-from.false, c.from.ensures))

pub evaluator::eval_union-returns : goal.evaluator::eval_union-returns
evaluator::eval_union-returns g t c =
    let V = c.args.machine.now.globals.now in
    let vals = values c.args.env.now in
    let e = term_of c.args.over.now in
    let b = term_of c.args.body.now in
    let ms = member_list c.in-Some.members in
    let found = c.in_ok-answer.ensures in
    let some : c.in_ok-answer.field-0.answer ≡ Some c.in-Some.members = cc in
    let is = sym found.0 ∙ ap members_value some in
    let taken = union_taken V vals e b ms is in
    let inner = ap (λ n. run_turns V vals b ms 0 n) c.len-count.ensures in
    let run = c.in_ok-run.ensures in (
      c.in_ok-to_box.ensures ∙ c.union_of.ensures ∙ ap (option_map (λ xs. set (data_of xs))) (run.0 ∙ ap (λ n. union_value (run_values V vals b ms 0 n)) c.len-count.ensures) ∙ sym (union_whole V vals e b ms is),
      omega (arith, run.1, taken, inner, found.1, c.len-count.ensures),
      omega (arith, run.1, run.2, taken, inner, found.1, found.2, c.len-count.ensures, c.in_ok-answer.turns-is, c.if-count-from.false, c.from.ensures),
    )

pub evaluator::eval_tab-returns-in_err-answer : goal.evaluator::eval_tab-returns-in_err-answer
evaluator::eval_tab-returns-in_err-answer g t c =
    let V = c.args.machine.now.globals.now in
    let vals = values c.args.env.now in
    let ds = terms_of c.args.bounds.now in
    let b = term_of c.args.body.now in
    err_within boxed_value _ _ _ _ c.in_err-answer.field-0.0 c.from_residual.ensures.0 c.from_residual.ensures.1
    (λ s. let h = c.in_err-answer.ensures s in omega (arith, h, settle-tab V vals ds b))

pub evaluator::eval_tab-returns-in_default : goal.evaluator::eval_tab-returns-in_default
evaluator::eval_tab-returns-in_default g t c =
    let V = c.args.machine.now.globals.now in
    let vals = values c.args.env.now in
    let ds = terms_of c.args.bounds.now in
    let b = term_of c.args.body.now in
    let found = c.in_ok-answer.ensures in
    let read = ap numbers_in (sym found.0) ∙ sym c.in_ok-dims.ensures in
    let is = read ∙ c.in_default.is in
    let idle = tab_idle V vals ds b is in
    (sym (tab_none V vals ds b is), omega (arith, idle, found.1), omega (arith, idle, found.2))

pub evaluator::eval_tab-returns-then-count-from : goal.evaluator::eval_tab-returns-then-count-from
evaluator::eval_tab-returns-then-count-from g t c =
    let V = c.args.machine.now.globals.now in
    let vals = values c.args.env.now in
    let ds = terms_of c.args.bounds.now in
    let b = term_of c.args.body.now in
    let found = c.in_ok-answer.ensures in
    let read = ap numbers_in (sym found.0) ∙ sym c.in_ok-dims.ensures in
    let ms = c.in-Some.dims in
    let is = read ∙ c.in-Some.is in
    let taken = tab_taken V vals ds b ms is in
    let all = ap product (c.as_slice.ensures.value ∙ c.dims.view_is) in
    λ s. omega (arith, taken, all, found.1, found.2, c.saturating_product-count.ensures, c.in_ok-answer.turns-is, c.if-count-from.true, c.from.ensures)

pub evaluator::eval_tab-returns-in_err-run : goal.evaluator::eval_tab-returns-in_err-run
evaluator::eval_tab-returns-in_err-run g t c =
    let V = c.args.machine.now.globals.now in
    let vals = values c.args.env.now in
    let ds = terms_of c.args.bounds.now in
    let b = term_of c.args.body.now in
    let found = c.in_ok-answer.ensures in
    let read = ap numbers_in (sym found.0) ∙ sym c.in_ok-dims.ensures in
    let ms = c.in-Some.dims in
    let is = read ∙ c.in-Some.is in
    let taken = tab_taken V vals ds b ms is in
    let all = ap product (c.as_slice.ensures.value ∙ c.dims.view_is) in
    let count : c.saturating_product-count.result ≡ product ms = omega (arith, all, c.saturating_product-count.ensures, c.if-count-from.false, c.from.ensures) in
    let inner = ap (λ n. cell_turns V vals b ms 0 n) count in
    err_within boxed_value _ _ _ _ c.in_err-run.field-0.0 c.from_residual-in_err-run.ensures.0 c.from_residual-in_err-run.ensures.1
    (λ s. let h = c.in_err-run.ensures s in omega (arith, h, taken, inner, count, found.1, found.2, c.in_ok-answer.turns-is, c.if-count-from.false, c.from.ensures))

pub evaluator::eval_tab-returns : goal.evaluator::eval_tab-returns
evaluator::eval_tab-returns g t c =
    let V = c.args.machine.now.globals.now in
    let vals = values c.args.env.now in
    let ds = terms_of c.args.bounds.now in
    let b = term_of c.args.body.now in
    let found = c.in_ok-answer.ensures in
    let read = ap numbers_in (sym found.0) ∙ sym c.in_ok-dims.ensures in
    let ms = c.in-Some.dims in
    let is = read ∙ c.in-Some.is in
    let taken = tab_taken V vals ds b ms is in
    let all = ap product (c.as_slice.ensures.value ∙ c.dims.view_is) in
    let count : c.saturating_product-count.result ≡ product ms = omega (arith, all, c.saturating_product-count.ensures, c.if-count-from.false, c.from.ensures) in
    let inner = ap (λ n. cell_turns V vals b ms 0 n) count in
    let run = c.in_ok-run.ensures in (
      c.in_ok-to_box.ensures ∙ c.in_ok-table_of.ensures ∙ ap (table_in ms) (run.0 ∙ ap (λ n. cell_values V vals b ms 0 n) count) ∙ sym (tab_whole V vals ds b ms is),
      omega (arith, run.1, taken, inner, count, found.1),
      omega (arith, run.1, run.2, taken, inner, count, found.1, found.2, c.in_ok-answer.turns-is, c.if-count-from.false, c.from.ensures),
    )

pub loops::sum_run-returns-in_err-done : goal.loops::sum_run-returns-in_err-done
loops::sum_run-returns-in_err-done g t c =
    let V = c.args.machine.now.globals.now in
    let vals = values c.args.env.now in
    let b = term_of c.args.body.now in
    let ms = member_list c.args.members.now in
    let f = λ (m : Datum). cden V (m ∷ vals) b in
    let g = λ (m : Datum). settle V (m ∷ vals) b in
    let inv = c.by_blocks.invariant in
    err_within itself _ _ _ _ c.in_err-done.field-0.0 c.from_residual.ensures.0 c.from_residual.ensures.1
    (λ s. spent_block g ms c.args.from c.by_blocks.at c.block_end-end.result c.args.to c.args.budget c.by_blocks.turns inv.3 (omega (arith, c.block_end-end.ensures)) (omega (arith, c.block_end-end.ensures)) inv.1 inv.2 (c.in_err-done.ensures s))

pub loops::sum_run-by_blocks-preserved : goal.loops::sum_run-by_blocks-preserved
loops::sum_run-by_blocks-preserved g t c =
    let V = c.args.machine.now.globals.now in
    let vals = values c.args.env.now in
    let b = term_of c.args.body.now in
    let ms = member_list c.args.members.now in
    let f = λ (m : Datum). cden V (m ∷ vals) b in
    let g = λ (m : Datum). settle V (m ∷ vals) b in
    let inv = c.by_blocks.invariant in
    let done = c.in_ok-done.ensures in
    let mid : c.by_blocks.at ≤ c.block_end-end.result = omega (arith, c.block_end-end.ensures) in (
      c.join_sums-sum.ensures ∙ (λ k. sums_join (inv.0 k) (done.0 k)) ∙ sum_value-join (run_values V vals b ms c.args.from c.by_blocks.at) (run_values V vals b ms c.by_blocks.at c.block_end-end.result) ∙ ap sum_value (each-range_split ms c.args.from c.by_blocks.at c.block_end-end.result inv.3 mid f),
      omega (arith, total-range_split ms c.args.from c.by_blocks.at c.block_end-end.result inv.3 mid g, inv.1, done.1),
      omega (arith, inv.2, done.1, done.2),
      omega (arith, inv.3, c.block_end-end.ensures),
      omega (arith, c.block_end-end.ensures),
    )

pub loops::members_run-returns-in_err-done : goal.loops::members_run-returns-in_err-done
loops::members_run-returns-in_err-done g t c =
    let V = c.args.machine.now.globals.now in
    let vals = values c.args.env.now in
    let b = term_of c.args.body.now in
    let ms = member_list c.args.members.now in
    let f = λ (m : Datum). cden V (m ∷ vals) b in
    let g = λ (m : Datum). settle V (m ∷ vals) b in
    let inv = c.by_blocks.invariant in
    err_within (option_map canon) _ _ _ _ c.in_err-done.field-0.0 c.from_residual.ensures.0 c.from_residual.ensures.1
    (λ s. spent_block g ms c.args.from c.by_blocks.at c.block_end.result c.args.to c.args.budget c.by_blocks.turns inv.3 (omega (arith, c.block_end.ensures)) (omega (arith, c.block_end.ensures)) inv.1 inv.2 (c.in_err-done.ensures s))

pub loops::members_run-by_blocks-preserved : goal.loops::members_run-by_blocks-preserved
loops::members_run-by_blocks-preserved g t c =
    let V = c.args.machine.now.globals.now in
    let vals = values c.args.env.now in
    let b = term_of c.args.body.now in
    let ms = member_list c.args.members.now in
    let f = λ (m : Datum). cden V (m ∷ vals) b in
    let g = λ (m : Datum). settle V (m ∷ vals) b in
    let inv = c.by_blocks.invariant in
    let done = c.in_ok-done.ensures in
    let mid : c.by_blocks.at ≤ c.block_end.result = omega (arith, c.block_end.ensures) in (
      done.0 ∙ (λ k. sets_join (inv.0 k) (union_value (run_values V vals b ms c.by_blocks.at c.block_end.result))) ∙ union_value-join (run_values V vals b ms c.args.from c.by_blocks.at) (run_values V vals b ms c.by_blocks.at c.block_end.result) ∙ ap union_value (each-range_split ms c.args.from c.by_blocks.at c.block_end.result inv.3 mid f),
      omega (arith, total-range_split ms c.args.from c.by_blocks.at c.block_end.result inv.3 mid g, inv.1, done.1),
      omega (arith, inv.2, done.1, done.2),
      omega (arith, inv.3, c.block_end.ensures),
      omega (arith, c.block_end.ensures),
    )

pub loops::cells_run-returns-in_err-done : goal.loops::cells_run-returns-in_err-done
loops::cells_run-returns-in_err-done g t c =
    let V = c.args.machine.now.globals.now in
    let vals = values c.args.env.now in
    let b = term_of c.args.body.now in
    let is = indices c.args.dims.now in
    let f = λ (at : List ℕ). cden V (push_index at [] ++ vals) b in
    let g = λ (at : List ℕ). settle V (push_index at [] ++ vals) b in
    let inv = c.by_blocks.invariant in
    err_within itself _ _ _ _ c.in_err-done.field-0.0 c.from_residual.ensures.0 c.from_residual.ensures.1
    (λ s. spent_block g is c.args.from c.by_blocks.at c.row_end.result c.args.to c.args.budget c.by_blocks.turns inv.3 (omega (arith, c.row_end.ensures)) (omega (arith, c.row_end.ensures)) inv.1 inv.2 (c.in_err-done.ensures s))

pub loops::cells_run-by_blocks-preserved : goal.loops::cells_run-by_blocks-preserved
loops::cells_run-by_blocks-preserved g t c =
    let V = c.args.machine.now.globals.now in
    let vals = values c.args.env.now in
    let b = term_of c.args.body.now in
    let is = indices c.args.dims.now in
    let f = λ (at : List ℕ). cden V (push_index at [] ++ vals) b in
    let g = λ (at : List ℕ). settle V (push_index at [] ++ vals) b in
    let inv = c.by_blocks.invariant in
    let done = c.in_ok-done.ensures in
    let mid : c.by_blocks.at ≤ c.row_end.result = omega (arith, c.row_end.ensures) in (
      done.0 ∙ (λ k. lists_join (inv.0 k) (cell_values V vals b c.args.dims.now c.by_blocks.at c.row_end.result)) ∙ each-range_split is c.args.from c.by_blocks.at c.row_end.result inv.3 mid f,
      omega (arith, total-range_split is c.args.from c.by_blocks.at c.row_end.result inv.3 mid g, inv.1, done.1),
      omega (arith, inv.2, done.1, done.2),
      omega (arith, inv.3, c.row_end.ensures),
      omega (arith, c.row_end.ensures),
    )

pub loops::sum_each-returns-in_err-done : goal.loops::sum_each-returns-in_err-done
loops::sum_each-returns-in_err-done g t c =
    let V = c.args.machine.now.globals.now in
    let vals = values c.args.env.now in
    let b = term_of c.args.body.now in
    let ms = member_list c.args.members.now in
    let f = λ (m : Datum). cden V (m ∷ vals) b in
    let g = λ (m : Datum). settle V (m ∷ vals) b in
    let m = held_datum c.in_ok-member.field-0.member in
    let inv = c.loop-i.invariant in
    let at = c.in_ok-member.ensures.0 in
    err_within itself _ _ _ _ c.in_err-done.field-0.0 c.from_residual-in_err-done.ensures.0 c.from_residual-in_err-done.ensures.1
    (λ s. spent_within g ms c.args.from c.loop-i.i c.args.to m c.args.budget c.loop-i.turns (omega arith) (omega arith) at inv.1 inv.2 (c.in_err-done.ensures s))

pub loops::sum_each-loop-i-preserved : goal.loops::sum_each-loop-i-preserved
loops::sum_each-loop-i-preserved g t c =
    let V = c.args.machine.now.globals.now in
    let vals = values c.args.env.now in
    let b = term_of c.args.body.now in
    let ms = member_list c.args.members.now in
    let f = λ (m : Datum). cden V (m ∷ vals) b in
    let g = λ (m : Datum). settle V (m ∷ vals) b in
    let m = held_datum c.in_ok-member.field-0.member in
    let inv = c.loop-i.invariant in
    let at = c.in_ok-member.ensures.0 in
    let done = c.in_ok-done.ensures in (
      c.sum_and-sum.ensures ∙ (λ k. sum_with (inv.0 k) (done.0 k)) ∙ sym (sum_value-with (run_values V vals b ms c.args.from c.loop-i.i) (f m)) ∙ ap sum_value (sym (each-range_more f g ms c.args.from c.loop-i.i m (omega arith) at)),
      omega (arith, total-range_more f g ms c.args.from c.loop-i.i m (omega arith) at, inv.1, done.1),
      omega (arith, inv.2, done.1, done.2),
      c.in_ok-member.ensures.1,
    )

pub loops::members_run-returns-then-not-in_blocks : goal.loops::members_run-returns-then-not-in_blocks
loops::members_run-returns-then-not-in_blocks g t c =
    let run = run_values c.args.machine.now.globals.now (values c.args.env.now) (term_of c.args.body.now) (member_list c.args.members.now) c.args.from c.args.to in
    same_within (option_map canon) c.members_each.result c.args.budget _ _ _ _ ((λ k. sets_join (option_map canon (Some (c.new.ensures k))) (union_value run)) ∙ sets_first run) refl c.members_each.ensures

pub loops::members_each-returns-in_err-done : goal.loops::members_each-returns-in_err-done
loops::members_each-returns-in_err-done g t c =
    let V = c.args.machine.now.globals.now in
    let vals = values c.args.env.now in
    let b = term_of c.args.body.now in
    let ms = member_list c.args.members.now in
    let f = λ (m : Datum). cden V (m ∷ vals) b in
    let g = λ (m : Datum). settle V (m ∷ vals) b in
    let m = held_datum c.in_ok-member.field-0.member in
    let inv = c.loop-i.invariant in
    let at = c.in_ok-member.ensures.0 in
    let turns : settle V (m ∷ vals) (term_of c.chosen_branch-branch.result.now) ≡ settle V (m ∷ vals) b = c.chosen_branch-branch.ensures.turns in
    err_within (option_map canon) _ _ _ _ c.in_err-done.field-0.0 c.from_residual-in_err-done.ensures.0 c.from_residual-in_err-done.ensures.1
    (λ s. spent_within g ms c.args.span.from c.loop-i.i c.args.span.to m c.args.budget c.loop-i.turns (omega arith) (omega arith) at inv.1 inv.2 (let h = c.in_err-done.ensures s in omega (arith, h, turns)))

pub loops::members_each-loop-i-preserved : goal.loops::members_each-loop-i-preserved
loops::members_each-loop-i-preserved g t c =
    let all = option_map canon c.args.all in
    let V = c.args.machine.now.globals.now in
    let vals = values c.args.env.now in
    let b = term_of c.args.body.now in
    let ms = member_list c.args.members.now in
    let f = λ (m : Datum). cden V (m ∷ vals) b in
    let g = λ (m : Datum). settle V (m ∷ vals) b in
    let m = held_datum c.in_ok-member.field-0.member in
    let inv = c.loop-i.invariant in
    let at = c.in_ok-member.ensures.0 in
    let turns : settle V (m ∷ vals) (term_of c.chosen_branch-branch.result.now) ≡ settle V (m ∷ vals) b = c.chosen_branch-branch.ensures.turns in
    let done = c.in_ok-done.ensures in (
      sets_more all (run_values V vals b ms c.args.span.from c.loop-i.i) _ _ _ (f m) inv.0 c.in_ok-all-2.ensures (done.0 ∙ ap set_in c.chosen_branch-branch.ensures.value)
          ∙ ap (λ o. sets_join all (union_value o)) (sym (each-range_more f g ms c.args.span.from c.loop-i.i m (omega arith) at)),
      omega (arith, total-range_more f g ms c.args.span.from c.loop-i.i m (omega arith) at, inv.1, done.1, turns),
      omega (arith, inv.2, done.1, done.2),
      c.in_ok-member.ensures.1,
    )

pub loops::members_each-loop-i-preserved-in-Some : goal.loops::members_each-loop-i-preserved-in-Some
loops::members_each-loop-i-preserved-in-Some g t c =
    let all = option_map canon c.args.all in
    let V = c.args.machine.now.globals.now in
    let vals = values c.args.env.now in
    let b = term_of c.args.body.now in
    let ms = member_list c.args.members.now in
    let f = λ (m : Datum). cden V (m ∷ vals) b in
    let g = λ (m : Datum). settle V (m ∷ vals) b in
    let m = held_datum c.in_ok-member.field-0.member in
    let inv = c.loop-i.invariant in
    let at = c.in_ok-member.ensures.0 in
    let turns : settle V (m ∷ vals) (term_of c.chosen_branch-branch.result.now) ≡ settle V (m ∷ vals) b = c.chosen_branch-branch.ensures.turns in (
      sets_more all (run_values V vals b ms c.args.span.from c.loop-i.i) _ _ _ (f m) inv.0 c.in_ok-all.ensures (few_in c.in-Some.set ∙ ap set_in (sym c.in-Some.ensures.value ∙ c.chosen_branch-branch.ensures.value))
          ∙ ap (λ o. sets_join all (union_value o)) (sym (each-range_more f g ms c.args.span.from c.loop-i.i m (omega arith) at)),
      omega (arith, total-range_more f g ms c.args.span.from c.loop-i.i m (omega arith) at, inv.1, c.in-Some.ensures.turns, turns),
      omega (arith, inv.2),
      c.in_ok-member.ensures.1,
    )

pub loops::cells_each-returns-in_err-kept : goal.loops::cells_each-returns-in_err-kept
loops::cells_each-returns-in_err-kept g t c =
    let V = c.args.machine.now.globals.now in
    let vals = values c.args.env.now in
    let b = term_of c.args.body.now in
    let f = λ (at : List ℕ). cden V (push_index at [] ++ vals) b in
    let g = λ (at : List ℕ). settle V (push_index at [] ++ vals) b in
    let here = c.set_index.new.at in
    let inv = c.loop-place.invariant in
    let whole = written c.loop-place.at.len here (drop (length here) c.loop-place.at.items) (omega (arith, c.set_index.auto.at, c.as_mut_slice.ensures.value, c.as_mut_slice.ensures.len, c.loop-place.at.ok.0)) in
    let seen = c.as_slice-in-loop-place.ensures.value ∙ whole in
    let at : slice_get (indices c.args.dims.now) c.loop-place.place ≡ Some here =
    (λ k. slice_get (indices ((sym c.dims.view_is ∙ sym c.as_slice.ensures.value) k)) (sym c.from.ensures k)) ∙ c.set_index.ensures in
    err_within itself _ _ _ _ c.in_err-kept.field-0.0 c.from_residual-in_err-kept.ensures.0 c.from_residual-in_err-kept.ensures.1
    (λ s. let h = at_fault held_value c.body_value-done.result _ _ _ _ c.body_value-done.ensures c.in_err-kept.ensures s in
    spent_within g (indices c.args.dims.now) c.args.span.from c.loop-place.place c.args.span.to here c.args.budget c.loop-place.turns (omega arith) (omega arith) at inv.1 inv.2 (omega (arith, h, ap g seen)))

pub loops::cells_each-loop-place-preserved : goal.loops::cells_each-loop-place-preserved
loops::cells_each-loop-place-preserved g t c =
    let V = c.args.machine.now.globals.now in
    let vals = values c.args.env.now in
    let b = term_of c.args.body.now in
    let f = λ (at : List ℕ). cden V (push_index at [] ++ vals) b in
    let g = λ (at : List ℕ). settle V (push_index at [] ++ vals) b in
    let here = c.set_index.new.at in
    let inv = c.loop-place.invariant in
    let whole = written c.loop-place.at.len here (drop (length here) c.loop-place.at.items) (omega (arith, c.set_index.auto.at, c.as_mut_slice.ensures.value, c.as_mut_slice.ensures.len, c.loop-place.at.ok.0)) in
    let seen = c.as_slice-in-loop-place.ensures.value ∙ whole in
    let at : slice_get (indices c.args.dims.now) c.loop-place.place ≡ Some here =
    (λ k. slice_get (indices ((sym c.dims.view_is ∙ sym c.as_slice.ensures.value) k)) (sym c.from.ensures k)) ∙ c.set_index.ensures in
    let done = at_answer held_value c.body_value-done.result _ _ _ _ c.body_value-done.ensures c.in_ok-kept.ensures.1 in (
      c.in_ok-cells.ensures ∙ (λ k. list_with ((c.in_ok-kept.ensures.0 ∙ inv.0) k) ((done.0 ∙ ap f seen) k)) ∙ lists_more c.args.cells (cell_values V vals b c.args.dims.now c.args.span.from c.loop-place.place) (f here)
          ∙ ap (lists_join c.args.cells) (sym (each-range_more f g (indices c.args.dims.now) c.args.span.from c.loop-place.place here (omega arith) at)),
      omega (arith, total-range_more f g (indices c.args.dims.now) c.args.span.from c.loop-place.place here (omega arith) at, inv.1, done.1, ap g seen),
      omega (arith, inv.2, done.1, done.2),
      ap length whole ∙ omega (arith, c.set_index.auto.at, c.as_mut_slice.ensures.value, inv.3),
    )

pub loops::members_each-loop-i-init : goal.loops::members_each-loop-i-init
loops::members_each-loop-i-init g t c =
    let V = c.args.machine.now.globals.now in
    let vals = values c.args.env.now in
    let b = term_of c.args.body.now in
    let ms = member_list c.args.members.now in
    let f = λ (m : Datum). cden V (m ∷ vals) b in
    let g = λ (m : Datum). settle V (m ∷ vals) b in
    let all = option_map canon c.args.all in (
      sets_nothing c.args.all ∙ ap (λ l. sets_join all (union_value (each f l))) (sym (range_none ms c.args.span.from)),
      sym (ap (total g) (range_none ms c.args.span.from)),
      omega arith,
      c.sides-sides.ensures,
    )

pub loops::sum_members-returns-in_err-sums : goal.loops::sum_members-returns-in_err-sums
loops::sum_members-returns-in_err-sums g t c =
    err_within itself _ _ _ _ c.in_err-sums.field-0.0 c.from_residual.ensures.0 c.from_residual.ensures.1
    (λ s. let ran = c.in_err-sums.ensures.ran s in
    let passed = ran.4 refl in
    omega (arith, passed, total_wider (λ (m : Datum). settle c.args.machine.now.globals.now (m ∷ values c.args.env.now) (term_of c.args.body.now)) (member_list c.args.members.now) ran.0 ran.1 c.args.count (omega (arith, ran.2)) ran.3))

pub loops::sum_members-returns : goal.loops::sum_members-returns
loops::sum_members-returns g t c =
    let V = c.args.machine.now.globals.now in
    let vals = values c.args.env.now in
    let b = term_of c.args.body.now in
    let ms = member_list c.args.members.now in
    let f = λ (m : Datum). cden V (m ∷ vals) b in
    whole_within itself sums_join (λ i j. sum_value (run_values V vals b ms i j)) (λ (m : Datum). settle V (m ∷ vals) b) ms c.args.budget c.args.count
    (λ i m j low high. sum_value-join (run_values V vals b ms i m) (run_values V vals b ms m j) ∙ ap sum_value (each-range_split ms i m j low high f))
    (Some 0) refl c.deref.result.now c.in_ok-sums.sums.items c.deref.ensures.value c.in_ok-sums.ensures.joined c.joined_sums.result c.joined_sums.ensures

pub loops::union_members-returns-in_err-sets : goal.loops::union_members-returns-in_err-sets
loops::union_members-returns-in_err-sets g t c =
    err_within itself _ _ _ _ c.in_err-sets.field-0.0 c.from_residual-in_err-sets.ensures.0 c.from_residual-in_err-sets.ensures.1
    (λ s. let ran = c.in_err-sets.ensures.ran s in
    let passed = ran.4 refl in
    omega (arith, passed, total_wider (λ (m : Datum). settle c.args.machine.now.globals.now (m ∷ values c.args.env.now) (term_of c.args.body.now)) (member_list c.args.members.now) ran.0 ran.1 c.args.count (omega (arith, ran.2)) ran.3))

pub loops::union_members-returns : goal.loops::union_members-returns
loops::union_members-returns g t c =
    let V = c.args.machine.now.globals.now in
    let vals = values c.args.env.now in
    let b = term_of c.args.body.now in
    let ms = member_list c.args.members.now in
    let f = λ (m : Datum). cden V (m ∷ vals) b in
    whole_within itself sets_join (λ i j. union_value (run_values V vals b ms i j)) (λ (m : Datum). settle V (m ∷ vals) b) ms c.args.budget c.args.count
    (λ i m j low high. union_value-join (run_values V vals b ms i m) (run_values V vals b ms m j) ∙ ap union_value (each-range_split ms i m j low high f))
    (Some []) refl c.in_ok-sets.sets.items c.in_ok-sets.sets.items refl c.in_ok-sets.ensures.joined c.joined_sets.result c.joined_sets.ensures

pub loops::fill_cells-returns-in_err-runs : goal.loops::fill_cells-returns-in_err-runs
loops::fill_cells-returns-in_err-runs g t c =
    err_within itself _ _ _ _ c.in_err-runs.field-0.0 c.from_residual.ensures.0 c.from_residual.ensures.1
    (λ s. let ran = c.in_err-runs.ensures.ran s in
    let passed = ran.4 refl in
    omega (arith, passed, total_wider (λ (at : List ℕ). settle c.args.machine.now.globals.now (push_index at [] ++ values c.args.env.now) (term_of c.args.body.now)) (indices c.args.dims.now) ran.0 ran.1 c.args.count (omega (arith, ran.2)) ran.3))

pub loops::fill_cells-returns : goal.loops::fill_cells-returns
loops::fill_cells-returns g t c =
    let V = c.args.machine.now.globals.now in
    let vals = values c.args.env.now in
    let b = term_of c.args.body.now in
    let ds = c.args.dims.now in
    let f = λ (at : List ℕ). cden V (push_index at [] ++ vals) b in
    whole_within itself lists_join (λ i j. cell_values V vals b ds i j) (λ (at : List ℕ). settle V (push_index at [] ++ vals) b) (indices ds) c.args.budget c.args.count
    (λ i m j low high. each-range_split (indices ds) i m j low high f)
    (Some []) refl c.in_ok-runs.runs.items c.in_ok-runs.runs.items refl c.in_ok-runs.ensures.joined c.joined_cells.result c.joined_cells.ensures

-- what a piece is lent may be lent to several threads
pub loops::sum_members-in_pieces-requires-sync-F : goal.loops::sum_members-in_pieces-requires-sync-F
loops::sum_members-in_pieces-requires-sync-F g t c κs within = search (globals-sync, members-sync, env-sync, sendable, crosses, sync-Core) depth 40 fits 5000

pub loops::union_members-in_pieces-requires-sync-F : goal.loops::union_members-in_pieces-requires-sync-F
loops::union_members-in_pieces-requires-sync-F g t c κs within = search (globals-sync, members-sync, env-sync, sendable, crosses, sync-Core) depth 40 fits 5000

pub loops::fill_cells-in_pieces-requires-sync-F : goal.loops::fill_cells-in_pieces-requires-sync-F
loops::fill_cells-in_pieces-requires-sync-F g t c κs within = search (globals-sync, env-sync, sendable, crosses, sync-Core) depth 40 fits 5000
