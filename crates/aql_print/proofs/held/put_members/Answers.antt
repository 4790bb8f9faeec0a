use Rattle.std.proofs.Common.{◌++◌, ◌∷◌, [], get_or, ap, ◌∙◌, refl, arith}
use Rattle.std.proofs.lemmas.List.{take_all}
use Rattle.aql_value.specs.Datum.{data_of}
use Rattle.aql_value.specs.Meaning.{datum}
use Rattle.aql_print.specs.Joined.{join_texts}
use Rattle.aql_print.specs.ValueText.{text, texts}
use Rattle.aql_print.specs.Laws.Prefix.{prefix_whole, prefix_before, prefix_text, both_whole, length-texts, text_in}
use Rattle.aql_print.proofs.held.put_members.Goals as goal

pub returns-in_err-put_before-clause-prefix : goal.returns-in_err-put_before-clause-prefix
returns-in_err-put_before-clause-prefix c =
    let xs = texts (data_of c.args.s.now) in
    prefix_before (44 ∷ 32 ∷ []) xs c.loop-i.i (get_or xs c.loop-i.i []) [] _ _ [] _ c.loop-i.invariant
    (omega (arith, length-texts c.args.s.now, c.count-i-end.ensures.count, c.loop-i-test.true)) refl c.put_before.ensures.prefix

pub returns-in_err-member-clause-prefix : goal.returns-in_err-member-clause-prefix
returns-in_err-member-clause-prefix c =
    let xs = texts (data_of c.args.s.now) in
    prefix_before (44 ∷ 32 ∷ []) xs c.loop-i.i (get_or xs c.loop-i.i []) [] _ _ [] _ c.loop-i.invariant
    (omega (arith, length-texts c.args.s.now, c.count-i-end.ensures.count, c.loop-i-test.true)) refl c.put_before.ensures.prefix

pub returns-in_err-print_value-clause-prefix : goal.returns-in_err-print_value-clause-prefix
returns-in_err-print_value-clause-prefix c =
    let v = datum c.in_ok-member.member in
    prefix_text (44 ∷ 32 ∷ []) (texts (data_of c.args.s.now)) c.loop-i.i (text v) (text v) _ _ _ _ c.loop-i.invariant
    (omega (arith, length-texts c.args.s.now, c.count-i-end.ensures.count, c.loop-i-test.true)) (text_in c.args.s.now c.loop-i.i v c.in_ok-member.ensures)
    c.in_ok-put_before.ensures.ok c.print_value.ensures.prefix

pub loop-i-preserved : goal.loop-i-preserved
loop-i-preserved c =
    let v = datum c.in_ok-member.member in
    both_whole (44 ∷ 32 ∷ []) (texts (data_of c.args.s.now)) c.loop-i.i (text v) (text v) _ _ _ _ c.loop-i.invariant
    (omega (arith, length-texts c.args.s.now, c.count-i-end.ensures.count, c.loop-i-test.true)) (text_in c.args.s.now c.loop-i.i v c.in_ok-member.ensures)
    c.in_ok-put_before.ensures.ok c.in_ok-print_value.ensures.ok

pub returns-clause-ok : goal.returns-clause-ok
returns-clause-ok c =
    c.loop-i.invariant
    ∙ ap (λ l. c.args.out.now.items ++ join_texts (44 ∷ 32 ∷ []) l)
    (take_all c.loop-i.i (texts (data_of c.args.s.now)) (omega (arith, length-texts c.args.s.now, c.count-i-end.ensures.count, c.loop-i-test.false)))

pub returns-clause-prefix : goal.returns-clause-prefix
returns-clause-prefix c = prefix_whole _ _ _ (returns-clause-ok c)
