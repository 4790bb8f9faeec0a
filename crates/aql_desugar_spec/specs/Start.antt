-- The start term of a query: the core term that it is translated to, one case for each form.
-- A term is made in the scope in which it stands, so that nothing moves under a binder and nothing is shifted.
use Rattle.std.specs.Prelude.{ℕ, zero, suc, ◌+◌, ◌/◌, true, false, List, [], ◌∷◌, length, take, drop, Option, Some, None, if◌then◌else◌}
use Rattle.aql_value.specs.declared.ops.CompareOp.TheVariants as compare_op
use Rattle.aql_syntax.specs.Tree.{Name, Constant, number, truth, bytes, Pat, bind, any, equals, refers, tuple, Pats, no_pat, pat, Tree, name, op, members, comp, tab, bindings, choice, conjunction, disjunction, negation, default, apply, function, summap, Trees, no_tree, tree, Axes, no_axis, axis, Quals, no_qual, from, cells, same, test, Defs, no_def, def, Declaration, val, mac, read, bare, declared_name, count_pats, axes}
use Rattle.aql_syntax.specs.Names.{names_equal, find}
use Rattle.nrca_term.specs.Term.{Term, node, none, plain, Form}
use Rattle.nrca_term.specs.Nodes as nodes
use Rattle.nrca_term.specs.Nodes.{variable, position, truth_term, text_term, bottom_term, let_term, if_term, default_term, proj_term, compare_term, empty_term, single_term, union_term, big_union_term, sum_term, gen_term, tab_term, sub_term, dim_term}

-- the variables around a term, the innermost first, each with its name if it has one
abbrev pub Binders : Type 0
Binders = List (Option Name)

-- What a position is to the terms after it: its number, or for a macro the term of its body under the match of its argument,
-- which is variable 0, by the number of variables around the application.
pub data Resolved : Type 0 where
  numbered : ℕ → Resolved
  inlined : (ℕ → Term) → Resolved

-- the positions with their names, the latest first
abbrev pub Resolutions : Type 0
Resolutions = List (Name × Resolved)

-- the number of a variable under one more
abbrev pub index_under : Option ℕ → Option ℕ
index_under None = None
index_under (Some i) = Some (suc i)

-- the number of the innermost variable of that name
abbrev pub index_of : Name → Binders → Option ℕ
index_of x [] = None
index_of x (None ∷ s) = index_under (index_of x s)
index_of x (Some y ∷ s) = if names_equal x y then Some 0 else index_under (index_of x s)

-- a macro, and a name that nothing declares, are undefined
abbrev pub position_term : Option Resolved → Term
position_term None = bottom_term
position_term (Some (numbered n)) = position n
position_term (Some (inlined t)) = bottom_term

-- a name: the variable, else the position
abbrev pub name_term : Option ℕ → Option Resolved → Term
name_term (Some i) k = variable i
name_term None k = position_term k

-- what a name in head position stands for, under the variable of its argument: the macro's body. A local name, a value and a
-- name that nothing declares are undefined.
abbrev pub macro_term : Option Resolved → ℕ → Term
macro_term None n = bottom_term
macro_term (Some (numbered m)) n = bottom_term
macro_term (Some (inlined t)) n = t n

-- the body of an application: a local name in head position denotes nothing
abbrev pub call_term : Option ℕ → Option Resolved → ℕ → Term
call_term (Some i) k n = bottom_term
call_term None k n = macro_term k n

-- the term of a constant in a pattern
abbrev pub constant_term : Constant → Term
constant_term (number n) = nodes.number n
constant_term (truth b) = truth_term b
constant_term (bytes s) = text_term s

abbrev mutual
  -- the scope inside a match
  pub bind_pattern : Pat → Binders → Binders
  bind_pattern (bind x) s = Some x ∷ s
  bind_pattern any s = s
  bind_pattern (equals c) s = s
  bind_pattern (refers x) s = s
  bind_pattern (tuple ps) s = bind_patterns ps s

  -- the variables around what follows these patterns
  pub bind_patterns : Pats → Binders → Binders
  bind_patterns no_pat s = s
  bind_patterns (pat p ps) s = bind_patterns ps (bind_pattern p (None ∷ s))

abbrev mutual
  -- the number of variables that a match adds
  pub count_binders : Pat → ℕ
  count_binders (bind x) = 1
  count_binders any = 0
  count_binders (equals c) = 0
  count_binders (refers x) = 0
  count_binders (tuple ps) = count_all_binders ps

  -- how many variables the matches of these patterns add
  pub count_all_binders : Pats → ℕ
  count_all_binders no_pat = 0
  count_all_binders (pat p ps) = count_all_binders ps + (count_binders p + 1)

-- whether variable `at` equals a term
abbrev pub equal_term : (at : ℕ) → Term → Term
equal_term at c = compare_term compare_op.Equal (variable at) c

abbrev mutual
  -- the match of variable `at`: `inside`, which is a term in the scope inside the match, where it matches, and else `other`
  pub match_term : Pat → Resolutions → Binders → (at : ℕ) → (inside other : Term) → Term
  match_term (bind x) known s at inside other = let_term (variable at) inside
  match_term any known s at inside other = inside
  match_term (equals c) known s at inside other = if_term (equal_term at (constant_term c)) inside other
  match_term (refers x) known s at inside other = if_term (equal_term at (name_term (index_of x s) (find x known))) inside other
  match_term (tuple ps) known s at inside other = parts_term ps known s at 1 (count_pats ps) inside other

  -- the match of the parts of variable `at` from part j on, it being a tuple of n parts; each part is bound to a variable
  pub parts_term : Pats → Resolutions → Binders → (at j n : ℕ) → (inside other : Term) → Term
  parts_term no_pat known s at j n inside other = inside
  parts_term (pat p ps) known s at j n inside other =
      let_term (proj_term j n (variable at))
      (match_term p known (None ∷ s) 0 (parts_term ps known (bind_pattern p (None ∷ s)) (at + (count_binders p + 1)) (suc j) n inside other) other)

-- the match of the variable that the node around it binds, around what `inside` makes in the scope inside the match
abbrev pub matching : Pat → Resolutions → Binders → (inside : Binders → Term) → (other : Term) → Term
matching p known s inside other = match_term p known (None ∷ s) 0 (inside (bind_pattern p (None ∷ s))) other

-- the sets of one member each, united as a balanced tree with the smaller half on the left, for at most n terms
abbrev pub balanced_union : ℕ → List Term → Term
balanced_union zero ts = empty_term
balanced_union (suc n) [] = empty_term
balanced_union (suc n) (t ∷ []) = single_term t
balanced_union (suc n) (t ∷ u ∷ ts) =
    union_term (balanced_union n (take (length (t ∷ u ∷ ts) / 2) (t ∷ u ∷ ts))) (balanced_union n (drop (length (t ∷ u ∷ ts) / 2) (t ∷ u ∷ ts)))

-- Array generators: inside the variable of the array stand the loops over its dimensions, then the matches of the numbers of
-- the index, then the variable of the cell and its match.

-- dimension j, counted from 1, of the array in variable `at`
abbrev pub dimension : (rank j at : ℕ) → Term
dimension zero j at = proj_term j 0 (dim_term 0 (variable at))
dimension (suc zero) j at = dim_term 1 (variable at)
dimension (suc (suc r)) j at = proj_term j (suc (suc r)) (dim_term (suc (suc r)) (variable at))

-- m loops over the dimensions of the array in variable j, from the one with j before it on
abbrev pub loops_term : (m j rank : ℕ) → Term → Term
loops_term zero j rank inside = inside
loops_term (suc m) j rank inside = big_union_term (gen_term (dimension rank (suc j) j)) (loops_term m (suc j) rank inside)

-- s under n variables without a name
abbrev pub under : ℕ → Binders → Binders
under zero s = s
under (suc n) s = under n (None ∷ s)

-- the variables around what follows these index patterns
abbrev pub bound_axes : Pats → Binders → Binders
bound_axes no_pat s = s
bound_axes (pat p ps) s = bound_axes ps (bind_pattern p s)

-- how many variables the matches of these index patterns add
abbrev pub grown_axes : Pats → ℕ
grown_axes no_pat = 0
grown_axes (pat p ps) = grown_axes ps + count_binders p

-- the matches of the numbers of an index, which stand under `added` further variables, the last number the innermost
abbrev pub axes_term : Pats → Resolutions → Binders → (added : ℕ) → (inside other : Term) → Term
axes_term no_pat known s added inside other = inside
axes_term (pat p ps) known s added inside other =
    match_term p known s (added + count_pats ps) (axes_term ps known (bind_pattern p s) (added + count_binders p) inside other) other

-- the m variables of an index under `added` further ones
abbrev pub index_terms : (m added : ℕ) → List Term
index_terms zero added = []
index_terms (suc m) added = variable (added + m) ∷ index_terms m added

-- the cell at the index of m numbers under `added` further variables, the array being the variable before them
abbrev pub cell_term : (m added : ℕ) → Term
cell_term m added = sub_term (variable (added + m)) (index_terms m added)

-- the scope of the variable of the cell
abbrev pub cell_binders : Pats → Binders → Binders
cell_binders ps s = bound_axes ps (under (count_pats ps) (None ∷ s))

-- the loops over an array: at each index that matches, what `inside` makes stands under a variable that holds the cell
abbrev pub array_term : Pats → Resolutions → Binders → (array : Term) → (inside : Binders → Term) → (other : Term) → Term
array_term ps known s array inside other =
    let_term array
    (loops_term (count_pats ps) 0 (count_pats ps)
    (axes_term ps known (under (count_pats ps) (None ∷ s)) 0
    (let_term (cell_term (count_pats ps) (grown_axes ps)) (inside (cell_binders ps s))) other))

-- the scope of a tabulation's body
abbrev pub under_axes : Axes → Binders → Binders
under_axes no_axis s = s
under_axes (axis x e rest) s = under_axes rest (Some x ∷ s)

abbrev mutual
  -- the start term, over what the positions before are and in a scope
  pub start : Tree → Resolutions → Binders → Term
  start (name x) known s = name_term (index_of x s) (find x known)
  start (op o es) known s = node (Form.strict o) (plain (starts es known s) none)
  start (members es) known s = balanced_union (length (starts es known s)) (starts es known s)
  start (comp head quals) known s = quals_term quals (start head known) known s
  start (tab xs body) known s = tab_term (bound_terms xs known s) (start body known (under_axes xs s))
  start (bindings ds body) known s = defs_term ds (start body known) known s
  start (choice c a b) known s = if_term (start c known s) (start a known s) (start b known s)
  start (conjunction a b) known s = if_term (start a known s) (start b known s) (truth_term false)
  start (disjunction a b) known s = if_term (start a known s) (truth_term true) (start b known s)
  start (negation a) known s = if_term (start a known s) (truth_term false) (truth_term true)
  start (default a b) known s = default_term (start a known s) (start b known s)
  start (apply f a) known s = let_term (start a known s) (call_term (index_of f s) (find f known) (length s))
  start (function p body a) known s = let_term (start a known s) (matching p known s (start body known) bottom_term)
  start (summap p body e) known s = sum_term (start e known s) (matching p known s (start body known) bottom_term)

  -- the start terms of several expressions
  pub starts : Trees → Resolutions → Binders → List Term
  starts no_tree known s = []
  starts (tree e es) known s = start e known s ∷ starts es known s

  -- the bounds of a tabulation, which see none of its indices
  pub bound_terms : Axes → Resolutions → Binders → List Term
  bound_terms no_axis known s = []
  bound_terms (axis x e rest) known s = start e known s ∷ bound_terms rest known s

  -- qualifiers around the set of the head
  pub quals_term : Quals → (head : Binders → Term) → Resolutions → Binders → Term
  quals_term no_qual head known s = single_term (head s)
  quals_term (from p e rest) head known s = big_union_term (start e known s) (matching p known s (quals_term rest head known) empty_term)
  quals_term (cells p q e rest) head known s =
      array_term (axes p) known s (start e known s) (λ inner. matching q known inner (quals_term rest head known) empty_term) empty_term
  quals_term (same p e rest) head known s = let_term (start e known s) (matching p known s (quals_term rest head known) empty_term)
  quals_term (test e rest) head known s = if_term (start e known s) (quals_term rest head known s) empty_term

  -- the bindings of a let around its body
  pub defs_term : Defs → (body : Binders → Term) → Resolutions → Binders → Term
  defs_term no_def body known s = body s
  defs_term (def p e rest) body known s = let_term (start e known s) (matching p known s (defs_term rest body known) bottom_term)

-- n variables without a name
abbrev pub unnamed_binders : ℕ → Binders
unnamed_binders zero = []
unnamed_binders (suc n) = None ∷ unnamed_binders n

-- a macro's body under the match of its argument: none of the names around the application is in its scope
abbrev pub inline : Pat → Tree → Resolutions → ℕ → Term
inline p body known n = matching p known (unnamed_binders n) (start body known) bottom_term

-- what a position is to the terms after it, by the positions before it and its number
abbrev pub known_of : Declaration → Resolutions → ℕ → Resolved
known_of (val x e) earlier n = numbered n
known_of (mac f p body) earlier n = inlined (inline p body earlier)
known_of (read x reader e) earlier n = numbered n
known_of (bare e) earlier n = numbered n

-- of declarations, the latest first; positions are numbered from 1
abbrev pub knowns_of : List Declaration → Resolutions
knowns_of [] = []
knowns_of (d ∷ earlier) = (declared_name d, known_of d (knowns_of earlier) (suc (length earlier))) ∷ knowns_of earlier

-- the expression of a position: of a readval its argument. A macro has none.
abbrev pub query : Declaration → Option Tree
query (val x e) = Some e
query (mac f p body) = None
query (read x reader e) = Some e
query (bare e) = Some e
