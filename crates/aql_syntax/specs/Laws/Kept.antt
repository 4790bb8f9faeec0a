-- What follows from the definitions of `Kept`: sizes and levels by what is kept are those of the definition, as far as a limit.
use Rattle.std.proofs.Common.{ℕ, ◌≡◌, ◌+◌, ◌-◌, ◌*◌, ◌^◌, min, max, Bool, true, false, List, [], ◌∷◌, Some, refl, ap, ◌∙◌, arith, if◌then◌else◌}
use Rattle.aql_syntax.specs.Names.{names_equal, find}
use Rattle.aql_syntax.specs.Tree.{Name, Tree, name, op, members, comp, tab, bindings, choice, conjunction, disjunction, negation, default, apply, function, summap, Trees, no_tree, tree, Axes, no_axis, axis, Quals, no_qual, from, cells, same, test, Defs, no_def, def, Declaration, val, mac, read, bare, declared_name, count_trees, count_axes}
use Rattle.aql_syntax.specs.Size.{Extent, Extents, extent_of, extent, extents_of, pat_nodes, count_quals, count_defs, quals_patterns, defs_patterns, binary_digits, size, sizes, axes_sizes, quals_sizes, defs_sizes, levels, greatest, axes_greatest, quals_greatest, defs_greatest}
use Rattle.aql_syntax.specs.View.{decl_of}
use Rattle.aql_syntax.specs.Measured.{onto, latest}
use Rattle.aql_syntax.specs.declared.ast.Decl.{Decl}
use Rattle.aql_syntax.specs.Kept.{saturate_extent, kept_of, extents_after, kept_onto}

-- two numbers that are one as far as m
record Alike (m a b : ℕ) : Type 0 where
  pub alike : min a m ≡ min b m

itself : (m a : ℕ) → Alike m a a
itself m a = record { alike = refl }

sum : {m a b c d : ℕ} → Alike m a b → Alike m c d → Alike m (a + c) (b + d)
sum h k = record { alike = omega (arith, h.alike, k.alike) }

greater : {m a b c d : ℕ} → Alike m a b → Alike m c d → Alike m (max a c) (max b d)
greater h k = record { alike = omega (arith, h.alike, k.alike) }

cut : {m a b : ℕ} → Alike m a b → Alike m (min a m) b
cut h = record { alike = omega (arith, h.alike) }

-- two extents whose numbers are
record AlikeExtent (m : ℕ) (a b : Extent) : Type 0 where
  pub pattern : Alike m a.pattern b.pattern
  pub size : Alike m a.size b.size
  pub levels : Alike m a.levels b.levels

-- each name stands for such extents
abbrev AreAlike : ℕ → Extents → Extents → Type 0
AreAlike m x y = (f : Name) → AlikeExtent m (extent_of (find f x)) (extent_of (find f y))

module _ (m : ℕ) (x y : Extents) (h : AreAlike m x y) where
  mutual
    size-alike : (t : Tree) → Alike m (size t x) (size t y)
    size-alike (name z) = itself m 1
    size-alike (op o es) = sum (itself m 1) (sizes-alike es)
    size-alike (members es) = sum (itself m 1) (sizes-alike es)
    size-alike (comp head quals) = sum (sum (itself m (1 + count_quals quals + quals_patterns quals)) (quals_sizes-alike quals)) (size-alike head)
    size-alike (tab xs body) = sum (sum (itself m (1 + count_axes xs)) (axes_sizes-alike xs)) (size-alike body)
    size-alike (bindings ds body) = sum (sum (itself m (1 + count_defs ds + defs_patterns ds)) (defs_sizes-alike ds)) (size-alike body)
    size-alike (choice c a b) = sum (sum (sum (itself m 1) (size-alike c)) (size-alike a)) (size-alike b)
    size-alike (conjunction a b) = sum (sum (itself m 1) (size-alike a)) (size-alike b)
    size-alike (disjunction a b) = sum (sum (itself m 1) (size-alike a)) (size-alike b)
    size-alike (negation a) = sum (itself m 1) (size-alike a)
    size-alike (default a b) = sum (sum (itself m 1) (size-alike a)) (size-alike b)
    size-alike (apply f a) = sum (sum (sum (itself m 1) (h f).pattern) (h f).size) (size-alike a)
    size-alike (function p body a) = sum (sum (itself m (1 + pat_nodes p)) (size-alike body)) (size-alike a)
    size-alike (summap p body e) = sum (sum (itself m (1 + pat_nodes p)) (size-alike body)) (size-alike e)

    sizes-alike : (es : Trees) → Alike m (sizes es x) (sizes es y)
    sizes-alike no_tree = itself m 0
    sizes-alike (tree e es) = sum (size-alike e) (sizes-alike es)

    axes_sizes-alike : (xs : Axes) → Alike m (axes_sizes xs x) (axes_sizes xs y)
    axes_sizes-alike no_axis = itself m 0
    axes_sizes-alike (axis z e rest) = sum (size-alike e) (axes_sizes-alike rest)

    quals_sizes-alike : (qs : Quals) → Alike m (quals_sizes qs x) (quals_sizes qs y)
    quals_sizes-alike no_qual = itself m 0
    quals_sizes-alike (from p e rest) = sum (size-alike e) (quals_sizes-alike rest)
    quals_sizes-alike (cells p q e rest) = sum (size-alike e) (quals_sizes-alike rest)
    quals_sizes-alike (same p e rest) = sum (size-alike e) (quals_sizes-alike rest)
    quals_sizes-alike (test e rest) = sum (size-alike e) (quals_sizes-alike rest)

    defs_sizes-alike : (ds : Defs) → Alike m (defs_sizes ds x) (defs_sizes ds y)
    defs_sizes-alike no_def = itself m 0
    defs_sizes-alike (def p e rest) = sum (size-alike e) (defs_sizes-alike rest)

  mutual
    levels-alike : (t : Tree) → Alike m (levels t x) (levels t y)
    levels-alike (name z) = itself m 1
    levels-alike (op o es) = sum (itself m 1) (greatest-alike es)
    levels-alike (members es) = sum (itself m (1 + binary_digits (count_trees es))) (greatest-alike es)
    levels-alike (comp head quals) =
        sum (itself m (1 + 4 * count_quals quals + quals_patterns quals)) (greater (quals_greatest-alike quals) (levels-alike head))
    levels-alike (tab xs body) = sum (itself m 1) (greater (axes_greatest-alike xs) (levels-alike body))
    levels-alike (bindings ds body) = sum (itself m (1 + count_defs ds + defs_patterns ds)) (greater (defs_greatest-alike ds) (levels-alike body))
    levels-alike (choice c a b) = sum (itself m 1) (greater (levels-alike c) (greater (levels-alike a) (levels-alike b)))
    levels-alike (conjunction a b) = sum (itself m 1) (greater (levels-alike a) (levels-alike b))
    levels-alike (disjunction a b) = sum (itself m 1) (greater (levels-alike a) (levels-alike b))
    levels-alike (negation a) = sum (itself m 1) (levels-alike a)
    levels-alike (default a b) = sum (itself m 1) (greater (levels-alike a) (levels-alike b))
    levels-alike (apply f a) = sum (sum (itself m 1) (h f).pattern) (greater (h f).levels (levels-alike a))
    levels-alike (function p body a) = sum (itself m (1 + pat_nodes p)) (greater (levels-alike body) (levels-alike a))
    levels-alike (summap p body e) = sum (itself m (1 + pat_nodes p)) (greater (levels-alike body) (levels-alike e))

    greatest-alike : (es : Trees) → Alike m (greatest es x) (greatest es y)
    greatest-alike no_tree = itself m 0
    greatest-alike (tree e es) = greater (levels-alike e) (greatest-alike es)

    axes_greatest-alike : (xs : Axes) → Alike m (axes_greatest xs x) (axes_greatest xs y)
    axes_greatest-alike no_axis = itself m 0
    axes_greatest-alike (axis z e rest) = greater (levels-alike e) (axes_greatest-alike rest)

    quals_greatest-alike : (qs : Quals) → Alike m (quals_greatest qs x) (quals_greatest qs y)
    quals_greatest-alike no_qual = itself m 0
    quals_greatest-alike (from p e rest) = greater (levels-alike e) (quals_greatest-alike rest)
    quals_greatest-alike (cells p q e rest) = greater (levels-alike e) (quals_greatest-alike rest)
    quals_greatest-alike (same p e rest) = greater (levels-alike e) (quals_greatest-alike rest)
    quals_greatest-alike (test e rest) = greater (levels-alike e) (quals_greatest-alike rest)

    defs_greatest-alike : (ds : Defs) → Alike m (defs_greatest ds x) (defs_greatest ds y)
    defs_greatest-alike no_def = itself m 0
    defs_greatest-alike (def p e rest) = greater (levels-alike e) (defs_greatest-alike rest)

-- Numbers of 64 bits.

nothing : (n : ℕ) → AlikeExtent n (record { pattern = 0; size = 0; levels = 0 }) (record { pattern = 0; size = 0; levels = 0 })
nothing n = record { pattern = itself n 0; size = itself n 0; levels = itself n 0 }

-- what is kept of a declaration
extent-alike : (d : Declaration) (x y : Extents) → AreAlike (2 ^ 64 - 1) x y →
    AlikeExtent (2 ^ 64 - 1) (saturate_extent (extent_of (Some (extent d x)))) (extent_of (Some (extent d y)))
extent-alike (val z e) x y h = nothing (2 ^ 64 - 1)
extent-alike (mac f p body) x y h = record {
  pattern = cut (itself (2 ^ 64 - 1) (pat_nodes p));
  size = cut (size-alike (2 ^ 64 - 1) x y h body);
  levels = cut (levels-alike (2 ^ 64 - 1) x y h body);
}
extent-alike (read z reader e) x y h = nothing (2 ^ 64 - 1)
extent-alike (bare e) x y h = nothing (2 ^ 64 - 1)

-- what is kept of declarations: an extent rests on the declarations before its own alone
kept-alike : (ds : List Declaration) → AreAlike (2 ^ 64 - 1) (kept_of ds) (extents_of ds)
kept-alike [] f = nothing (2 ^ 64 - 1)
kept-alike (d ∷ ds) f = go (names_equal f (declared_name d)) (kept-alike ds)
  where
    go : (b : Bool) → AreAlike (2 ^ 64 - 1) (kept_of ds) (extents_of ds) → AlikeExtent (2 ^ 64 - 1) (extent_of (if b then Some (Some (saturate_extent (extent_of (Some (extent d (kept_of ds)))))) else find f (kept_of ds)))
        (extent_of (if b then Some (extent d (extents_of ds)) else find f (extents_of ds)))
    go true h = extent-alike d (kept_of ds) (extents_of ds) h
    go false h = h f

pub size-kept : (t : Tree) (ds : List Decl) → min (size t (extents_after ds)) (2 ^ 64 - 1) ≡ min (size t (extents_of (latest ds))) (2 ^ 64 - 1)
size-kept t ds = (size-alike (2 ^ 64 - 1) (extents_after ds) (extents_of (latest ds)) (kept-alike (latest ds)) t).alike

pub levels-kept : (t : Tree) (ds : List Decl) → min (levels t (extents_after ds)) (2 ^ 64 - 1) ≡ min (levels t (extents_of (latest ds))) (2 ^ 64 - 1)
levels-kept t ds = (levels-alike (2 ^ 64 - 1) (extents_after ds) (extents_of (latest ds)) (kept-alike (latest ds)) t).alike

-- what is kept of declarations one after another

kept_onto-kept : (ds : List Decl) (rest : List Declaration) → kept_onto ds (kept_of rest) ≡ kept_of (onto ds rest)
kept_onto-kept [] rest = refl
kept_onto-kept (d ∷ ds) rest = kept_onto-kept ds (decl_of d ∷ rest)

pub size-onto : (t : Tree) (ds : List Decl) → min (size t (kept_onto ds [])) (2 ^ 64 - 1) ≡ min (size t (extents_of (latest ds))) (2 ^ 64 - 1)
size-onto t ds = ap (λ ms. min (size t ms) (2 ^ 64 - 1)) (kept_onto-kept ds []) ∙ size-kept t ds

pub levels-onto : (t : Tree) (ds : List Decl) → min (levels t (kept_onto ds [])) (2 ^ 64 - 1) ≡ min (levels t (extents_of (latest ds))) (2 ^ 64 - 1)
levels-onto t ds = ap (λ ms. min (levels t ms) (2 ^ 64 - 1)) (kept_onto-kept ds []) ∙ levels-kept t ds
