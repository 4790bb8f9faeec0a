-- The trees that the constants of the code stand for.
use Rattle.std.specs.Prelude.{List, [], ◌∷◌}
use Rattle.aql_value.specs.Strict.{Strict}
use Rattle.aql_syntax.specs.Tree.{Pat, bind, any, refers, tuple, no_pat, pat, Tree, name, op, comp, tab, choice, negation, apply, summap, no_tree, tree, no_axis, axis, Quals, no_qual, from, cells, test, Declaration, mac}
use Rattle.aql_syntax.specs.View.{of_one, of_two}
use Rattle.aql_syntax.specs.Nodes.{operation_form, joined_of}
use Rattle.aql_prelude.specs.declared.constants.ConstPattern as const_pattern
use Rattle.aql_prelude.specs.declared.constants.ConstExpr as const
use Rattle.aql_prelude.specs.declared.constants.ConstQual as const_qual
use Rattle.aql_prelude.specs.declared.constants.ConstMacro.{ConstMacro}

-- the pattern that a constant stands for
abbrev pub pat_of_constant : const_pattern.ConstPattern → Pat
pat_of_constant const_pattern.Any = any
pat_of_constant (const_pattern.Bind x) = bind x.now
pat_of_constant (const_pattern.Name x) = refers x.now
pat_of_constant (const_pattern.Pair' i p j q) = tuple (pat (pat_of_constant p) (pat (pat_of_constant q) no_pat))
pat_of_constant (const_pattern.Triple' i p j q k r) =
    tuple (pat (pat_of_constant p) (pat (pat_of_constant q) (pat (pat_of_constant r) no_pat)))

abbrev mutual
  -- the tree that a constant stands for
  pub tree_of_constant : const.ConstExpr → Tree
  tree_of_constant (const.Name x) = name x.now
  tree_of_constant (const.Nat n) = op (Strict.nat n) no_tree
  tree_of_constant const.Empty = op Strict.empty no_tree
  tree_of_constant (const.Pair' i a j b) = of_two Strict.tuple (tree_of_constant a) (tree_of_constant b)
  tree_of_constant (const.Operator' o i a j b) = joined_of o (tree_of_constant a) (tree_of_constant b)
  tree_of_constant (const.Operation' o i a) = of_one (operation_form o) (tree_of_constant a)
  tree_of_constant (const.Not' i a) = negation (tree_of_constant a)
  tree_of_constant (const.If' i c j a k b) = choice (tree_of_constant c) (tree_of_constant a) (tree_of_constant b)
  tree_of_constant (const.Apply' f i a) = apply f.now (tree_of_constant a)
  tree_of_constant (const.Sum' p i body j over) = summap (pat_of_constant p) (tree_of_constant body) (tree_of_constant over)
  tree_of_constant (const.Comp' i head j q) = comp (tree_of_constant head) (qual_of_constant q no_qual)
  tree_of_constant (const.CompOfTwo' i head j q k r) = comp (tree_of_constant head) (qual_of_constant q (qual_of_constant r no_qual))
  tree_of_constant (const.Tab' i body x j bound) = tab (axis x.now (tree_of_constant bound) no_axis) (tree_of_constant body)
  tree_of_constant (const.TabOfTwo' i body x j outer y k inner) =
      tab (axis x.now (tree_of_constant outer) (axis y.now (tree_of_constant inner) no_axis)) (tree_of_constant body)
  tree_of_constant (const.Cell' i array j at) = op Strict.sub (tree (tree_of_constant array) (tree (tree_of_constant at) no_tree))
  tree_of_constant (const.CellOfTwo' i array j at k then) =
      op Strict.sub (tree (tree_of_constant array) (tree (tree_of_constant at) (tree (tree_of_constant then) no_tree)))

  -- the qualifier that a constant stands for, before others
  pub qual_of_constant : const_qual.ConstQual → Quals → Quals
  qual_of_constant (const_qual.From' p i e) rest = from (pat_of_constant p) (tree_of_constant e) rest
  qual_of_constant (const_qual.Cells' p q i e) rest = cells (pat_of_constant p) (pat_of_constant q) (tree_of_constant e) rest
  qual_of_constant (const_qual.Test' i e) rest = test (tree_of_constant e) rest

-- the declaration of a macro
abbrev pub decl_of_constant : ConstMacro → Declaration
decl_of_constant m = mac m.name.now (pat_of_constant m.pattern) (tree_of_constant m.body)

-- the declarations of macros, in order
abbrev pub decls_of_constants : List ConstMacro → List Declaration
decls_of_constants [] = []
decls_of_constants (m ∷ ms) = decl_of_constant m ∷ decls_of_constants ms
