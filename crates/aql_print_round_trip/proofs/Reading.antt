-- The grammar reads what a value's text says as the value's expression.
use Rattle.std.proofs.Common.{◌≡◌, ℕ, suc, true, false, List, [], ◌∷◌, length, refl, ap, arith}
use Rattle.aql_value.specs.Datum as datum
use Rattle.aql_value.specs.Datum.{Datum, natural, truth, tuple, set, array, Data, nil, cons}
use Rattle.aql_value.specs.Strict.{Strict}
use Rattle.aql_value.specs.Valid.{IsValue, AreValues}
use Rattle.aql_syntax.specs.declared.sign.Sign.TheVariants as signs
use Rattle.aql_syntax.specs.Lexis.{Lexeme, numeral, mark}
use Rattle.aql_syntax.specs.Tree.{Tree, op, no_tree, tree, count_trees}
use Rattle.aql_syntax.specs.Grammar.{Reads, primary, whole, reads_number, reads_text, reads_true, reads_false, reads_tuple, reads_empty, reads_members, reads_literal, reads_primary, reads_postfix, reads_tighter, reads_union, reads_comparison, reads_looser, reads_or, ReadsList, list_last, list_more, ReadsMaybe, maybe_none, maybe_list}
use Rattle.aql_print_round_trip.proofs.Said.{said, said_after, said_list, said_numbers, numbers, expression, expressions}

-- a primary expression is an expression
pub as_whole : (e : Tree) (s r : List Lexeme) → Reads primary e s r → Reads whole e s r
as_whole e s r d = reads_or (reads_looser (reads_looser (reads_comparison (reads_union (reads_tighter (reads_tighter (reads_tighter (reads_postfix (reads_primary d)))))))))

pub count-numbers : (ds : List ℕ) → count_trees (numbers ds) ≡ length ds
count-numbers [] = refl
count-numbers (d ∷ ds) = ap suc (count-numbers ds)

-- a dimension and those behind it
reads_numbers : (ds : List ℕ) (d : ℕ) (k : List Lexeme) → ReadsList (tree (op (Strict.nat d) no_tree) (numbers ds)) (numeral d ∷ said_numbers ds k) k
reads_numbers [] d k = list_last (as_whole (op (Strict.nat d) no_tree) (numeral d ∷ k) k reads_number)
reads_numbers (b ∷ ds) d k =
    list_more (as_whole (op (Strict.nat d) no_tree) (numeral d ∷ mark signs.Comma ∷ numeral b ∷ said_numbers ds k) (mark signs.Comma ∷ numeral b ∷ said_numbers ds k) reads_number)
    (reads_numbers ds b k)

mutual
  pub reads : (v : Datum) → IsValue v → (k : List Lexeme) → Reads primary (expression v) (said v k) k
  reads (natural n) h k = reads_number
  reads (truth true) h k = reads_true
  reads (truth false) h k = reads_false
  reads (datum.text s) h k = reads_text
  reads (tuple nil) h k = absurd (omega (arith, h.0))
  reads (tuple (cons v nil)) h k = absurd (omega (arith, h.0))
  reads (tuple (cons v (cons w vs))) h k =
      reads_tuple (as_whole (expression v) _ _ (reads v h.1.0 (mark signs.Comma ∷ said w (said_after vs (mark signs.Close ∷ k)))))
      (reads_after vs h.1.1.1 (expression w) (said w (said_after vs (mark signs.Close ∷ k))) (mark signs.Close ∷ k)
      (as_whole (expression w) _ _ (reads w h.1.1.0 (said_after vs (mark signs.Close ∷ k)))))
  reads (set nil) h k = reads_empty
  reads (set (cons v vs)) h k =
      reads_members (reads_after vs h.1.1 (expression v) (said v (said_after vs (mark signs.CloseBrace ∷ k))) (mark signs.CloseBrace ∷ k)
      (as_whole (expression v) _ _ (reads v h.1.0 (said_after vs (mark signs.CloseBrace ∷ k)))))
  reads (array [] vs) h k = absurd (omega (arith, h.1.some))
  reads (array (d ∷ ds) vs) h k =
      reads_literal (reads_numbers ds d _) (omega (arith, count-numbers (d ∷ ds), h.1.few)) (reads_cells vs h.2 (mark signs.CloseBracket ∷ mark signs.CloseBracket ∷ k))

  -- the values behind one that is read
  reads_after : (vs : Data) → AreValues vs → (e : Tree) (s k : List Lexeme) → Reads whole e s (said_after vs k) → ReadsList (tree e (expressions vs)) s k
  reads_after nil h e s k d = list_last d
  reads_after (cons w vs) h e s k d =
      list_more d (reads_after vs h.1 (expression w) (said w (said_after vs k)) k (as_whole (expression w) _ _ (reads w h.0 (said_after vs k))))

  reads_cells : (vs : Data) → AreValues vs → (k : List Lexeme) → ReadsMaybe (expressions vs) (said_list vs k) k
  reads_cells nil h k = maybe_none
  reads_cells (cons v vs) h k =
      maybe_list (reads_after vs h.1 (expression v) (said v (said_after vs k)) k (as_whole (expression v) _ _ (reads v h.0 (said_after vs k))))
