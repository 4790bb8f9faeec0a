-- Parts of readings that hold no expression in the making.
use Rattle.std.specs.Prelude.{List, [], ◌∷◌, Option, Some, None, true, false}
use Rattle.aql_value.specs.Strict.{Strict}
use Rattle.aql_syntax.specs.declared.sign.Sign.TheVariants as signs
use Rattle.aql_syntax.specs.Lexis.{Lexeme, named, numeral, quoted, mark}
use Rattle.aql_syntax.specs.Tree.{Tree, name, op, Trees, no_tree, count_trees}
use Rattle.aql_parse_spec.specs.Parsing.{Parser, short, only}

-- no more than 8 expressions
unfoldable pub few_of : Trees → Option Trees
few_of es = short (count_trees es) es

-- the one expression of a list
unfoldable pub one_of : Trees → Option Tree
one_of es = only es

-- an expression of one word
unfoldable pub leaf_at : Parser
leaf_at [] = None
leaf_at (named x ∷ s) = Some (name x, s)
leaf_at (numeral n ∷ s) = Some (op (Strict.nat n) no_tree, s)
leaf_at (quoted t ∷ s) = Some (op (Strict.text t) no_tree, s)
leaf_at (mark signs.True ∷ s) = Some (op (Strict.bool true) no_tree, s)
leaf_at (mark signs.False ∷ s) = Some (op (Strict.bool false) no_tree, s)
leaf_at (mark _ ∷ s) = None
