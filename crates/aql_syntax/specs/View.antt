-- What the trees of the code are, without pointers and capacities.
use Rattle.std.specs.Prelude.{List, [], ◌∷◌}
use Rattle.aql_value.specs.Strict.{Strict}
use Rattle.aql_syntax.specs.Tree.{Pat, bind, any, equals, refers, tuple, Pats, no_pat, pat, number, truth, bytes, Tree, name, op, members, comp, tab, bindings, choice, conjunction, disjunction, negation, default, apply, function, summap, Trees, no_tree, tree, Axes, no_axis, axis, Quals, no_qual, from, cells, same, test, Defs, no_def, def, Reader, plain, signed, strided, records, Declaration, val, mac, read, bare, count_trees, append}
use Rattle.aql_syntax.specs.declared.ast.Expr as code
use Rattle.aql_syntax.specs.declared.ast.Expr.{Row_of-Expr, end_of-Expr, more_of-Expr, Row_of-Qual, end_of-Qual, more_of-Qual}
use Rattle.aql_syntax.specs.declared.ast.Binds.{Binds, Binds', Row_of-Bind, end_of-Bind, more_of-Bind}
use Rattle.aql_syntax.specs.declared.ast.Lets.{Lets, Lets', Row_of-LetBind, end_of-LetBind, more_of-LetBind}
use Rattle.aql_syntax.specs.declared.ast.Qual as code_qual
use Rattle.aql_syntax.specs.declared.ast.Bind as code_bind
use Rattle.aql_syntax.specs.declared.ast.LetBind as code_let
use Rattle.aql_syntax.specs.declared.ast.Pattern as code_pattern
use Rattle.aql_syntax.specs.declared.ast.Pattern.{Row_of-Pattern, end_of-Pattern, more_of-Pattern}
use Rattle.aql_syntax.specs.declared.ast.Decl.{Decl}
use Rattle.aql_syntax.specs.declared.ast.Decl.TheVariants as code_decl
use Rattle.aql_syntax.specs.declared.ast.Reader as code_reader
use Rattle.aql_syntax.specs.declared.ast.Reader.TheVariants as readers

abbrev mutual
  -- the pattern that a pattern of the code is
  pub pat_of : code_pattern.Pattern → Pat
  pat_of (code_pattern.Bind x) = bind x
  pat_of code_pattern.Any = any
  pat_of (code_pattern.Nat n) = equals (number n)
  pat_of (code_pattern.Bool b) = equals (truth b)
  pat_of (code_pattern.Text s) = equals (bytes s)
  pat_of (code_pattern.Name x) = refers x
  pat_of (code_pattern.Row' shape ps) = tuple (pat_row ps)

  -- the patterns inside a tuple pattern
  pub pat_row : {n : _} → Row_of-Pattern n → Pats
  pat_row end_of-Pattern = no_pat
  pat_row (more_of-Pattern p ps) = pat (pat_of p) (pat_row ps)

-- the forms of one, two and three parts
abbrev pub of_one : Strict → Tree → Tree
of_one s a = op s (tree a no_tree)

-- an operation of two operands
abbrev pub of_two : Strict → Tree → Tree → Tree
of_two s a b = op s (tree a (tree b no_tree))

abbrev mutual
  -- the tree that an expression of the code is
  pub tree_of : code.Expr → Tree
  tree_of (code.Nat n) = op (Strict.nat n) no_tree
  tree_of (code.Bool b) = op (Strict.bool b) no_tree
  tree_of (code.Text s) = op (Strict.text s) no_tree
  tree_of (code.Name x) = name x
  tree_of (code.Row' shape es) = op Strict.tuple (tree_row es)
  tree_of code.Empty = op Strict.empty no_tree
  tree_of (code.Members' shape es) = members (tree_row es)
  tree_of (code.Comp' p head shape quals) = comp (tree_of head) (qual_row quals)
  tree_of (code.Tab' p body binds) = tab (axes_of binds) (tree_of body)
  tree_of (code.Literal' shape dims shape2 cs) = op (Strict.literal (count_trees (tree_row dims))) (append (tree_row dims) (tree_row cs))
  tree_of (code.Let' binds p body) = bindings (defs_of binds) (tree_of body)
  tree_of (code.Sub' p array shape at) = op Strict.sub (tree (tree_of array) (tree_row at))
  tree_of (code.If' p a q b r c) = choice (tree_of a) (tree_of b) (tree_of c)
  tree_of (code.And' p a q b) = conjunction (tree_of a) (tree_of b)
  tree_of (code.Or' p a q b) = disjunction (tree_of a) (tree_of b)
  tree_of (code.Not' p a) = negation (tree_of a)
  tree_of (code.Compare' o p a q b) = of_two (Strict.compare o) (tree_of a) (tree_of b)
  tree_of (code.Arith' o p a q b) = of_two (Strict.arith o) (tree_of a) (tree_of b)
  tree_of (code.Union' p a q b) = of_two Strict.union (tree_of a) (tree_of b)
  tree_of (code.Gen' p a) = of_one Strict.gen (tree_of a)
  tree_of (code.Get' p a) = of_one Strict.get (tree_of a)
  tree_of (code.Len' p a) = of_one (Strict.dim 1) (tree_of a)
  tree_of (code.Dim' k p a) = of_one (Strict.dim k) (tree_of a)
  tree_of (code.Index' k p a) = of_one (Strict.index k) (tree_of a)
  tree_of (code.Apply' f p a) = apply f (tree_of a)
  tree_of (code.Fun' x p body q a) = function (pat_of x) (tree_of body) (tree_of a)
  tree_of (code.SumMap' x p body q a) = summap (pat_of x) (tree_of body) (tree_of a)
  tree_of (code.Default' p a q b) = default (tree_of a) (tree_of b)

  -- the expressions inside an expression
  pub tree_row : {n : _} → Row_of-Expr n → Trees
  tree_row end_of-Expr = no_tree
  tree_row (more_of-Expr e es) = tree (tree_of e) (tree_row es)

  -- the qualifiers inside a comprehension
  pub qual_row : {n : _} → Row_of-Qual n → Quals
  qual_row end_of-Qual = no_qual
  qual_row (more_of-Qual q qs) = qual_of q (qual_row qs)

  -- a qualifier before others
  pub qual_of : code_qual.Qual → Quals → Quals
  qual_of (code_qual.From p e) rest = from (pat_of p) (tree_of e) rest
  qual_of (code_qual.Cells p q e) rest = cells (pat_of p) (pat_of q) (tree_of e) rest
  qual_of (code_qual.Match p e) rest = same (pat_of p) (tree_of e) rest
  qual_of (code_qual.Test e) rest = test (tree_of e) rest

  -- the indices of a tabulation
  pub axes_of : Binds → Axes
  axes_of (Binds' shape bs) = axis_row bs

  -- the indices that a row of the code holds
  pub axis_row : {n : _} → Row_of-Bind n → Axes
  axis_row end_of-Bind = no_axis
  axis_row (more_of-Bind x e bs) = axis x (tree_of e) (axis_row bs)

  -- the bindings of a let
  pub defs_of : Lets → Defs
  defs_of (Lets' shape bs) = def_row bs

  -- the bindings that a row of the code holds
  pub def_row : {n : _} → Row_of-LetBind n → Defs
  def_row end_of-LetBind = no_def
  def_row (more_of-LetBind p e bs) = def (pat_of p) (tree_of e) (def_row bs)

-- the trees of a list
abbrev pub trees_of : List code.Expr → Trees
trees_of [] = no_tree
trees_of (e ∷ es) = tree (tree_of e) (trees_of es)

-- the patterns of a list
abbrev pub pats_of : List code_pattern.Pattern → Pats
pats_of [] = no_pat
pats_of (p ∷ ps) = pat (pat_of p) (pats_of ps)

-- the indices of a list, with their bounds
abbrev pub axes_in : List code_bind.Bind → Axes
axes_in [] = no_axis
axes_in (b ∷ bs) = axis b.name (tree_of b.bound) (axes_in bs)

-- the bindings of a list
abbrev pub defs_in : List code_let.LetBind → Defs
defs_in [] = no_def
defs_in (b ∷ bs) = def (pat_of b.pattern) (tree_of b.expr) (defs_in bs)

-- the qualifiers of a list
abbrev pub quals_of : List code_qual.Qual → Quals
quals_of [] = no_qual
quals_of (q ∷ qs) = qual_of q (quals_of qs)

-- the reader that a reader of the code is
abbrev pub reader_of : code_reader.Reader → Reader
reader_of (readers.Plain k) = plain k
reader_of (readers.Signed k) = signed k
reader_of (readers.Strided k) = strided k
reader_of (readers.Csv r) = records r.header r.kinds.items.items

-- the declaration that a declaration of the code is
abbrev pub decl_of : Decl → Declaration
decl_of (code_decl.Val x e) = val x (tree_of e)
decl_of (code_decl.Macro f p e) = mac f (pat_of p) (tree_of e)
decl_of (code_decl.Read x r e) = read x (reader_of r) (tree_of e)
decl_of (code_decl.Bare e) = bare (tree_of e)

-- the declarations of a list, in order
abbrev pub decls_of : List Decl → List Declaration
decls_of [] = []
decls_of (d ∷ ds) = decl_of d ∷ decls_of ds
