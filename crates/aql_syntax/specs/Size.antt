-- The size and the levels of a declaration in which every application of a macro has the macro's pattern and body in it.
use Rattle.std.specs.Prelude.{ℕ, zero, suc, ◌+◌, ◌-◌, ◌*◌, ◌/◌, ◌==◌, ◌≤◌, ◌<◌, ◌⊎◌, max, List, [], ◌∷◌, Option, Some, None, if◌then◌else◌, reverse, take}
use Rattle.std.specs.List.{slice_get}
use Rattle.aql_syntax.specs.Tree.{Name, Pat, bind, any, equals, refers, tuple, Pats, no_pat, pat, Tree, name, op, members, comp, tab, bindings, choice, conjunction, disjunction, negation, default, apply, function, summap, Trees, no_tree, tree, Axes, no_axis, axis, Quals, no_qual, from, cells, same, test, Defs, no_def, def, Declaration, val, mac, read, bare, declared_name, count_trees, count_axes}
use Rattle.aql_syntax.specs.Names.{find}

-- of a macro: its pattern's nodes, its body's size, its body's levels
pub record Extent : Type 0 where
  pub pattern : ℕ
  pub size : ℕ
  pub levels : ℕ

-- the macros of earlier positions, the latest first; a position that is no macro has no extent
abbrev pub Extents : Type 0
Extents = List (Name × Option Extent)

-- the extent of a name that is no macro
abbrev pub no_extent : Extent
no_extent = record { pattern = 0; size = 0; levels = 0 }

-- what a name in head position stands for; nothing where it is no macro
abbrev pub extent_of : Option (Option Extent) → Extent
extent_of None = no_extent
extent_of (Some None) = no_extent
extent_of (Some (Some x)) = x

abbrev mutual
  -- each pattern node counts 1
  pub pat_nodes : Pat → ℕ
  pat_nodes (bind x) = 1
  pat_nodes any = 1
  pat_nodes (equals c) = 1
  pat_nodes (refers x) = 1
  pat_nodes (tuple ps) = 1 + pats_nodes ps

  -- the nodes of several patterns
  pub pats_nodes : Pats → ℕ
  pats_nodes no_pat = 0
  pats_nodes (pat p ps) = pat_nodes p + pats_nodes ps

-- the number of qualifiers
abbrev pub count_quals : Quals → ℕ
count_quals no_qual = 0
count_quals (from p e rest) = suc (count_quals rest)
count_quals (cells p q e rest) = suc (count_quals rest)
count_quals (same p e rest) = suc (count_quals rest)
count_quals (test e rest) = suc (count_quals rest)

-- the number of bindings
abbrev pub count_defs : Defs → ℕ
count_defs no_def = 0
count_defs (def p e rest) = suc (count_defs rest)

-- the nodes of all patterns
abbrev pub quals_patterns : Quals → ℕ
quals_patterns no_qual = 0
quals_patterns (from p e rest) = pat_nodes p + quals_patterns rest
quals_patterns (cells p q e rest) = pat_nodes p + pat_nodes q + quals_patterns rest
quals_patterns (same p e rest) = pat_nodes p + quals_patterns rest
quals_patterns (test e rest) = quals_patterns rest

-- the nodes of the patterns of bindings
abbrev pub defs_patterns : Defs → ℕ
defs_patterns no_def = 0
defs_patterns (def p e rest) = pat_nodes p + defs_patterns rest

abbrev mutual
  -- the expanded size of an expression: its nodes, each application of a macro counted with the macro's body
  pub size : Tree → Extents → ℕ
  size (name x) ms = 1
  size (op o es) ms = 1 + sizes es ms
  size (members es) ms = 1 + sizes es ms
  size (comp head quals) ms = 1 + count_quals quals + quals_patterns quals + quals_sizes quals ms + size head ms
  size (tab xs body) ms = 1 + count_axes xs + axes_sizes xs ms + size body ms
  size (bindings ds body) ms = 1 + count_defs ds + defs_patterns ds + defs_sizes ds ms + size body ms
  size (choice c a b) ms = 1 + size c ms + size a ms + size b ms
  size (conjunction a b) ms = 1 + size a ms + size b ms
  size (disjunction a b) ms = 1 + size a ms + size b ms
  size (negation a) ms = 1 + size a ms
  size (default a b) ms = 1 + size a ms + size b ms
  size (apply f a) ms = 1 + (extent_of (find f ms)).pattern + (extent_of (find f ms)).size + size a ms
  size (function p body a) ms = 1 + pat_nodes p + size body ms + size a ms
  size (summap p body e) ms = 1 + pat_nodes p + size body ms + size e ms

  -- the sizes of parts together
  pub sizes : Trees → Extents → ℕ
  sizes no_tree ms = 0
  sizes (tree e es) ms = size e ms + sizes es ms

  -- the sizes of the bounds of indices, together
  pub axes_sizes : Axes → Extents → ℕ
  axes_sizes no_axis ms = 0
  axes_sizes (axis x e rest) ms = size e ms + axes_sizes rest ms

  -- the sizes of the expressions of qualifiers, together
  pub quals_sizes : Quals → Extents → ℕ
  quals_sizes no_qual ms = 0
  quals_sizes (from p e rest) ms = size e ms + quals_sizes rest ms
  quals_sizes (cells p q e rest) ms = size e ms + quals_sizes rest ms
  quals_sizes (same p e rest) ms = size e ms + quals_sizes rest ms
  quals_sizes (test e rest) ms = size e ms + quals_sizes rest ms

  -- the sizes of the expressions of bindings, together
  pub defs_sizes : Defs → Extents → ℕ
  defs_sizes no_def ms = 0
  defs_sizes (def p e rest) ms = size e ms + defs_sizes rest ms

-- how many binary digits a number has, among the first k
abbrev pub digits_among : ℕ → ℕ → ℕ
digits_among zero n = 0
digits_among (suc k) n = if n == 0 then 0 else 1 + digits_among k (n / 2)

-- how many binary digits a number has
abbrev pub binary_digits : ℕ → ℕ
binary_digits n = digits_among n n

abbrev mutual
  -- the levels of an expression, each application of a macro with those of its body
  pub levels : Tree → Extents → ℕ
  levels (name x) ms = 1
  levels (op o es) ms = 1 + greatest es ms
  levels (members es) ms = 1 + binary_digits (count_trees es) + greatest es ms
  levels (comp head quals) ms = 1 + 4 * count_quals quals + quals_patterns quals + max (quals_greatest quals ms) (levels head ms)
  levels (tab xs body) ms = 1 + max (axes_greatest xs ms) (levels body ms)
  levels (bindings ds body) ms = 1 + count_defs ds + defs_patterns ds + max (defs_greatest ds ms) (levels body ms)
  levels (choice c a b) ms = 1 + max (levels c ms) (max (levels a ms) (levels b ms))
  levels (conjunction a b) ms = 1 + max (levels a ms) (levels b ms)
  levels (disjunction a b) ms = 1 + max (levels a ms) (levels b ms)
  levels (negation a) ms = 1 + levels a ms
  levels (default a b) ms = 1 + max (levels a ms) (levels b ms)
  levels (apply f a) ms = 1 + (extent_of (find f ms)).pattern + max (extent_of (find f ms)).levels (levels a ms)
  levels (function p body a) ms = 1 + pat_nodes p + max (levels body ms) (levels a ms)
  levels (summap p body e) ms = 1 + pat_nodes p + max (levels body ms) (levels e ms)

  -- the levels of the greatest part
  pub greatest : Trees → Extents → ℕ
  greatest no_tree ms = 0
  greatest (tree e es) ms = max (levels e ms) (greatest es ms)

  -- the most levels among the bounds of indices
  pub axes_greatest : Axes → Extents → ℕ
  axes_greatest no_axis ms = 0
  axes_greatest (axis x e rest) ms = max (levels e ms) (axes_greatest rest ms)

  -- the most levels among the expressions of qualifiers
  pub quals_greatest : Quals → Extents → ℕ
  quals_greatest no_qual ms = 0
  quals_greatest (from p e rest) ms = max (levels e ms) (quals_greatest rest ms)
  quals_greatest (cells p q e rest) ms = max (levels e ms) (quals_greatest rest ms)
  quals_greatest (same p e rest) ms = max (levels e ms) (quals_greatest rest ms)
  quals_greatest (test e rest) ms = max (levels e ms) (quals_greatest rest ms)

  -- the most levels among the expressions of bindings
  pub defs_greatest : Defs → Extents → ℕ
  defs_greatest no_def ms = 0
  defs_greatest (def p e rest) ms = max (levels e ms) (defs_greatest rest ms)

-- what a position gives to those after it
abbrev pub extent : Declaration → Extents → Option Extent
extent (val x e) earlier = None
extent (mac f p body) earlier = Some (record { pattern = pat_nodes p; size = size body earlier; levels = levels body earlier })
extent (read x reader e) earlier = None
extent (bare e) earlier = None

-- of declarations, the latest first
abbrev pub extents_of : List Declaration → Extents
extents_of [] = []
extents_of (d ∷ earlier) = (declared_name d, extent d (extents_of earlier)) ∷ extents_of earlier

-- a declaration's size: that of its expression, or for a macro the pattern's and the body's
abbrev pub decl_size : Declaration → Extents → ℕ
decl_size (val x e) ms = size e ms
decl_size (mac f p body) ms = pat_nodes p + size body ms
decl_size (read x reader e) ms = size e ms
decl_size (bare e) ms = size e ms

-- a declaration's levels: those of its expression, or for a macro the pattern's nodes and the body's levels
abbrev pub decl_levels : Declaration → Extents → ℕ
decl_levels (val x e) ms = levels e ms
decl_levels (mac f p body) ms = pat_nodes p + levels body ms
decl_levels (read x reader e) ms = levels e ms
decl_levels (bare e) ms = levels e ms

-- the declarations before the one of that number, counted from 1, the latest first
abbrev pub before : List Declaration → ℕ → List Declaration
before ds n = reverse (take (n - 1) ds)

-- the size of a declaration that is there
abbrev pub size_at : Option Declaration → Extents → ℕ
size_at None ms = 0
size_at (Some d) ms = decl_size d ms

-- the levels of a declaration that is there
abbrev pub levels_at : Option Declaration → Extents → ℕ
levels_at None ms = 0
levels_at (Some d) ms = decl_levels d ms

-- the expanded size of declaration n, counted from 1
abbrev pub expanded_size : List Declaration → ℕ → ℕ
expanded_size ds n = size_at (slice_get ds (n - 1)) (extents_of (before ds n))

-- the expanded levels of declaration n, counted from 1
abbrev pub expanded_levels : List Declaration → ℕ → ℕ
expanded_levels ds n = levels_at (slice_get ds (n - 1)) (extents_of (before ds n))

-- The limits.

-- the most nodes of a declaration, every macro in its place
abbrev pub most_nodes : ℕ
most_nodes = 20000

-- the most levels of it
abbrev pub most_levels : ℕ
most_levels = 1000

-- a size and levels within the limits
abbrev pub AreWithin : (size levels : ℕ) → Type 0
AreWithin size levels = (size ≤ most_nodes) × (levels ≤ most_levels)

-- one of the two passes its limit
abbrev pub PassLimits : (size levels : ℕ) → Type 0
PassLimits size levels = (most_nodes < size) ⊎ (most_levels < levels)

-- declaration n, counted from 1, is within the limits
abbrev pub IsWithinLimits : List Declaration → ℕ → Type 0
IsWithinLimits ds n = AreWithin (expanded_size ds n) (expanded_levels ds n)

-- each declaration from 1 up to n
abbrev pub AreWithinLimits : List Declaration → ℕ → Type 0
AreWithinLimits ds n = (k : ℕ) → 1 ≤ k → k ≤ n → IsWithinLimits ds k

-- declaration n, counted from 1, passes a limit
abbrev pub IsLarge : List Declaration → ℕ → Type 0
IsLarge ds n = PassLimits (expanded_size ds n) (expanded_levels ds n)
