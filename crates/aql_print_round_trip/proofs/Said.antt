-- What the text of a value says, lexeme by lexeme, and the expression that it is.
use Rattle.std.specs.Prelude.{ℕ, true, false, List, [], ◌∷◌}
use Rattle.aql_value.specs.Datum as datum
use Rattle.aql_value.specs.Datum.{Datum, natural, truth, tuple, set, array, Data, nil, cons}
use Rattle.aql_value.specs.Strict.{Strict}
use Rattle.aql_syntax.specs.declared.sign.Sign.TheVariants as signs
use Rattle.aql_syntax.specs.Lexis.{Lexeme, numeral, quoted, mark}
use Rattle.aql_syntax.specs.Tree.{Tree, op, members, Trees, no_tree, tree, count_trees, append}

-- the numbers behind the first, each behind a comma
abbrev pub said_numbers : List ℕ → List Lexeme → List Lexeme
said_numbers [] k = k
said_numbers (d ∷ ds) k = mark signs.Comma ∷ numeral d ∷ said_numbers ds k

-- dimensions, with commas between them
abbrev pub said_dims : List ℕ → List Lexeme → List Lexeme
said_dims [] k = k
said_dims (d ∷ ds) k = numeral d ∷ said_numbers ds k

abbrev mutual
  -- the lexemes of a value's text, and then others
  pub said : Datum → List Lexeme → List Lexeme
  said (natural n) k = numeral n ∷ k
  said (truth true) k = mark signs.True ∷ k
  said (truth false) k = mark signs.False ∷ k
  said (datum.text s) k = quoted s ∷ k
  said (tuple vs) k = mark signs.Open ∷ said_list vs (mark signs.Close ∷ k)
  said (set vs) k = mark signs.OpenBrace ∷ said_list vs (mark signs.CloseBrace ∷ k)
  said (array ds vs) k =
      mark signs.OpenBracket ∷ mark signs.OpenBracket ∷ said_dims ds (mark signs.Semicolon ∷ said_list vs (mark signs.CloseBracket ∷ mark signs.CloseBracket ∷ k))

  -- of values, with commas between them
  pub said_list : Data → List Lexeme → List Lexeme
  said_list nil k = k
  said_list (cons v vs) k = said v (said_after vs k)

  -- of the values behind the first, each behind a comma
  pub said_after : Data → List Lexeme → List Lexeme
  said_after nil k = k
  said_after (cons v vs) k = mark signs.Comma ∷ said v (said_after vs k)

-- constants, one after another
abbrev pub numbers : List ℕ → Trees
numbers [] = no_tree
numbers (d ∷ ds) = tree (op (Strict.nat d) no_tree) (numbers ds)

abbrev mutual
  -- the expression that a value's text is
  pub expression : Datum → Tree
  expression (natural n) = op (Strict.nat n) no_tree
  expression (truth b) = op (Strict.bool b) no_tree
  expression (datum.text s) = op (Strict.text s) no_tree
  expression (tuple vs) = op Strict.tuple (expressions vs)
  expression (set nil) = op Strict.empty no_tree
  expression (set (cons v vs)) = members (tree (expression v) (expressions vs))
  expression (array ds vs) = op (Strict.literal (count_trees (numbers ds))) (append (numbers ds) (expressions vs))

  pub expressions : Data → Trees
  expressions nil = no_tree
  expressions (cons v vs) = tree (expression v) (expressions vs)
