use Rattle.std.proofs.Common.{ℕ, List, [], ◌∷◌, ◌++◌, map, ap, ◌∙◌, sym, subst, arith}
use Rattle.std.proofs.lemmas.List.{take_all}
use Rattle.aql_value.specs.Datum.{Table, data_of}
use Rattle.aql_value.specs.Meaning.{datum}
use Rattle.aql_value.specs.Laws.Meaning.{length_meaning}
use Rattle.aql_print.specs.Appends.{AppendsPrefix}
use Rattle.aql_print.specs.Joined.{join_texts}
use Rattle.aql_print.specs.ValueText.{text, texts, dims_text}
use Rattle.aql_print.specs.Laws.Prefix.{prefix_first, prefix_second, prefix_whole, prefix_before, prefix_text, both_whole, text_at, length-texts}
use Rattle.aql_print.proofs.value.+print_value.Goals as goal

pub put_items-returns-in_err-put_before-clause-prefix : goal.put_items-returns-in_err-put_before-clause-prefix
put_items-returns-in_err-put_before-clause-prefix t c =
    let p = ap (map datum) c.deref-x-items.ensures.value ∙ c.items.view_is in
    prefix_before (44 ∷ 32 ∷ []) (texts (data_of c.args.items.now)) c.loop-i.i _ _ _ _ [] _ c.loop-i.invariant
    (omega (arith, length-texts c.args.items.now, length_meaning _ _ p, c.loop-i-test.true)) (text_at _ _ c.loop-i.i c.x-item.result p c.x-item.is) c.put_before.ensures.prefix

pub put_items-returns-in_err-print_value-clause-prefix : goal.put_items-returns-in_err-print_value-clause-prefix
put_items-returns-in_err-print_value-clause-prefix t c =
    let p = ap (map datum) c.deref-x-items.ensures.value ∙ c.items.view_is in
    prefix_text (44 ∷ 32 ∷ []) (texts (data_of c.args.items.now)) c.loop-i.i _ _ _ _ _ _ c.loop-i.invariant
    (omega (arith, length-texts c.args.items.now, length_meaning _ _ p, c.loop-i-test.true)) (text_at _ _ c.loop-i.i c.x-item.result p c.x-item.is)
    c.in_ok-put_before.ensures.ok c.print_value.ensures.prefix

pub put_items-loop-i-preserved : goal.put_items-loop-i-preserved
put_items-loop-i-preserved t c =
    let p = ap (map datum) c.deref-x-items.ensures.value ∙ c.items.view_is in
    both_whole (44 ∷ 32 ∷ []) (texts (data_of c.args.items.now)) c.loop-i.i _ _ _ _ _ _ c.loop-i.invariant
    (omega (arith, length-texts c.args.items.now, length_meaning _ _ p, c.loop-i-test.true)) (text_at _ _ c.loop-i.i c.x-item.result p c.x-item.is)
    c.in_ok-put_before.ensures.ok c.in_ok-print_value.ensures.ok

pub put_items-returns-clause-ok : goal.put_items-returns-clause-ok
put_items-returns-clause-ok t c =
    let p = ap (map datum) c.deref-x-items.ensures.value ∙ c.items.view_is in
    c.loop-i.invariant
    ∙ ap (λ l. c.args.out.now.items ++ join_texts (44 ∷ 32 ∷ []) l)
    (take_all c.loop-i.i (texts (data_of c.args.items.now)) (omega (arith, length-texts c.args.items.now, length_meaning _ _ p, c.loop-i-test.false)))

pub put_items-returns-clause-prefix : goal.put_items-returns-clause-prefix
put_items-returns-clause-prefix t c = prefix_whole _ _ _ (put_items-returns-clause-ok t c)

pub put_enclosed-returns-in_err-put-clause-prefix : goal.put_enclosed-returns-in_err-put-clause-prefix
put_enclosed-returns-in_err-put-clause-prefix t c = prefix_first _ _ c.args.left.now _ c.put.ensures.prefix

pub put_enclosed-returns-in_err-put_items-clause-prefix : goal.put_enclosed-returns-in_err-put_items-clause-prefix
put_enclosed-returns-in_err-put_items-clause-prefix t c =
    prefix_second _ _ _ c.args.left.now _ c.in_ok-put.ensures.ok (prefix_first _ _ (join_texts (44 ∷ 32 ∷ []) (texts (data_of c.args.items.now))) c.args.right.now c.put_items.ensures.prefix)

pub put_enclosed-returns-clause-prefix : goal.put_enclosed-returns-clause-prefix
put_enclosed-returns-clause-prefix t c =
    prefix_second _ _ _ c.args.left.now _ c.in_ok-put.ensures.ok
    (prefix_second _ _ _ (join_texts (44 ∷ 32 ∷ []) (texts (data_of c.args.items.now))) c.args.right.now c.in_ok-put_items.ensures.ok c.put-2.ensures.prefix)

-- an array's text behind its brackets
abbrev cells_text : Table → List ℕ
cells_text c = 59 ∷ 32 ∷ (join_texts (44 ∷ 32 ∷ []) (texts (data_of c.cells)) ++ 93 ∷ 93 ∷ [])

pub print_value-returns-in_err-put-in-Grid-clause-prefix : goal.print_value-returns-in_err-put-in-Grid-clause-prefix
print_value-returns-in_err-put-in-Grid-clause-prefix t c =
    subst (λ v. AppendsPrefix c.args.out.now.items c.put-in-Grid.new.out.items (text (datum v))) (sym c.in-Grid.is)
    (prefix_first _ _ (91 ∷ 91 ∷ []) (dims_text c.in-Grid.c.dims ++ cells_text c.in-Grid.c) c.put-in-Grid.ensures.prefix)

pub print_value-returns-in_err-put_dims-in-Grid-clause-prefix : goal.print_value-returns-in_err-put_dims-in-Grid-clause-prefix
print_value-returns-in_err-put_dims-in-Grid-clause-prefix t c =
    subst (λ v. AppendsPrefix c.args.out.now.items c.put_dims.new.out.items (text (datum v))) (sym c.in-Grid.is)
    (prefix_second _ _ _ (91 ∷ 91 ∷ []) (dims_text c.in-Grid.c.dims ++ cells_text c.in-Grid.c) c.in_ok-put-in-Grid.ensures.ok
    (prefix_first _ _ (dims_text c.in-Grid.c.dims) (cells_text c.in-Grid.c) (subst (λ ds. AppendsPrefix c.put-in-Grid.new.out.items c.put_dims.new.out.items (dims_text ds)) c.dims.ensures c.put_dims.ensures.prefix)))

pub print_value-returns-in_ok-put_dims-in-Grid-clause-prefix : goal.print_value-returns-in_ok-put_dims-in-Grid-clause-prefix
print_value-returns-in_ok-put_dims-in-Grid-clause-prefix t c =
    subst (λ v. AppendsPrefix c.args.out.now.items c.put_enclosed-in-Grid.new.out.items (text (datum v))) (sym c.in-Grid.is)
    (prefix_second _ _ _ (91 ∷ 91 ∷ []) (dims_text c.in-Grid.c.dims ++ cells_text c.in-Grid.c) c.in_ok-put-in-Grid.ensures.ok
    (prefix_second _ _ _ (dims_text c.in-Grid.c.dims) (cells_text c.in-Grid.c) (c.in_ok-put_dims-in-Grid.ensures.ok ∙ ap (λ ds. c.put-in-Grid.new.out.items ++ dims_text ds) c.dims.ensures)
    (subst (λ vs. AppendsPrefix c.put_dims.new.out.items c.put_enclosed-in-Grid.new.out.items (59 ∷ 32 ∷ (join_texts (44 ∷ 32 ∷ []) (texts (data_of vs)) ++ 93 ∷ 93 ∷ []))) c.items-in-Grid.ensures.items c.put_enclosed-in-Grid.ensures.prefix)))
