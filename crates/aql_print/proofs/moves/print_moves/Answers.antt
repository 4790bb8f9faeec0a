use Rattle.std.proofs.Common.{◌≡◌, ◌<◌, ◌++◌, ◌∷◌, [], List, ℕ, get_or, length, ap, ◌∙◌, refl, arith, subst}
use Rattle.nrca_motion.specs.declared.moves.Move.{Move}
use Rattle.aql_print.specs.Appends.{AppendsPrefix}
use Rattle.aql_print.specs.Joined.{join_texts}
use Rattle.aql_print.specs.MovesText.{move_text, move_texts, moves_text}
use Rattle.aql_print.specs.Laws.Prefix.{prefix_before, prefix_text, both_whole}
use Rattle.aql_print.proofs.Named.{named_at, count_named}
use Rattle.aql_print.proofs.moves.print_moves.Goals as goal

-- the name of a move
abbrev name_of : Move → List ℕ
name_of s = move_text s.rule

some_move : (moves : List Move) (i : ℕ) → i < length moves → join_texts (32 ∷ []) (move_texts moves) ≡ moves_text moves
some_move [] i h = absurd (omega (arith, h))
some_move (s ∷ rest) i h = refl

pub returns-in_err-put_before-clause-prefix : goal.returns-in_err-put_before-clause-prefix
returns-in_err-put_before-clause-prefix c =
    let xs = move_texts c.args.moves.now in
    let e = c.deref-made-items.ensures.value ∙ c.moves.view_is in
    subst (AppendsPrefix c.args.out.now.items c.put_before.new.out.items) (some_move c.args.moves.now c.loop-i.i (omega (arith, ap length e, c.loop-i-test.true)))
    (prefix_before (32 ∷ []) xs c.loop-i.i (get_or xs c.loop-i.i []) [] _ _ [] _ c.loop-i.invariant (omega (arith, count_named name_of _ _ e, c.loop-i-test.true)) refl c.put_before.ensures.prefix)

pub returns-in_err-put-clause-prefix : goal.returns-in_err-put-clause-prefix
returns-in_err-put-clause-prefix c =
    let xs = move_texts c.args.moves.now in
    let e = c.deref-made-items.ensures.value ∙ c.moves.view_is in
    let name = move_text c.made-item.result.rule in
    subst (AppendsPrefix c.args.out.now.items c.put-in-loop-i.new.out.items) (some_move c.args.moves.now c.loop-i.i (omega (arith, ap length e, c.loop-i-test.true)))
    (prefix_text (32 ∷ []) xs c.loop-i.i name name _ _ _ _ c.loop-i.invariant (omega (arith, count_named name_of _ _ e, c.loop-i-test.true))
    (named_at name_of _ _ c.loop-i.i c.made-item.result e c.made-item.is) c.in_ok-put_before.ensures.ok
    (subst (AppendsPrefix c.put_before.new.out.items c.put-in-loop-i.new.out.items) c.move_name.ensures c.put-in-loop-i.ensures.prefix))

pub loop-i-preserved : goal.loop-i-preserved
loop-i-preserved c =
    let xs = move_texts c.args.moves.now in
    let e = c.deref-made-items.ensures.value ∙ c.moves.view_is in
    let name = move_text c.made-item.result.rule in
    both_whole (32 ∷ []) xs c.loop-i.i name name _ _ _ _ c.loop-i.invariant (omega (arith, count_named name_of _ _ e, c.loop-i-test.true))
    (named_at name_of _ _ c.loop-i.i c.made-item.result e c.made-item.is) c.in_ok-put_before.ensures.ok
    (c.in_ok-put.ensures.ok ∙ ap (λ l. c.put_before.new.out.items ++ l) c.move_name.ensures)
