use Rattle.std.proofs.Common.{[], ◌∷◌, ◌++◌, ap, ◌∙◌, sym, arith}
use Rattle.std.proofs.lemmas.List.{take_all}
use Rattle.aql_ty.specs.View.{type_of, types_of}
use Rattle.aql_print.specs.Joined.{join_texts}
use Rattle.aql_print.specs.TypeText.{part_text, part_texts, type_text}
use Rattle.aql_print.specs.Laws.Prefix.{both_whole}
use Rattle.aql_print.proofs.TypeParts.{length-parts, part_at}
use Rattle.aql_print.proofs.scheme.+add_type.Goals as goal

pub add_parts-loop-i-preserved : goal.add_parts-loop-i-preserved
add_parts-loop-i-preserved t c =
    both_whole (32 ∷ 42 ∷ 32 ∷ []) (part_texts (types_of c.args.ts.now) c.args.names.now) c.loop-i.i _
    (part_text (type_of c.index-ts-i.result) (type_text (type_of c.index-ts-i.result) c.args.names.now)) _ _ _ _ c.loop-i.invariant
    (omega (arith, length-parts c.args.ts.now c.args.names.now, c.loop-i-test.true))
    (ap (λ x. part_text (type_of x) (type_text (type_of x) c.args.names.now)) c.index-ts-i.is ∙ sym (part_at c.args.ts.now c.args.names.now c.loop-i.i c.index-ts-i.result))
    c.in_ok-put_before.ensures.ok c.in_ok-text.ensures

pub add_parts-returns : goal.add_parts-returns
add_parts-returns t c =
    c.loop-i.invariant
    ∙ ap (λ l. c.args.text.items ++ join_texts (32 ∷ 42 ∷ 32 ∷ []) l)
    (take_all c.loop-i.i (part_texts (types_of c.args.ts.now) c.args.names.now)
    (omega (arith, length-parts c.args.ts.now c.args.names.now, c.loop-i-test.false)))
