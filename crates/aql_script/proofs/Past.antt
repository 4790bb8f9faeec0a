-- What the search for a limit finds at one declaration.
use Rattle.std.proofs.Common.{ℕ, suc, [], ◌∷◌, ◌++◌, ◌≡◌, ◌+◌, ◌-◌, ◌<◌, ◌≤◌, ◌⊎◌, inl, inr, List, Some, sym, ap, ◌∙◌, subst, take, get_or, reverse, length, arith}
use Rattle.std.specs.List.{slice_get}
use Rattle.std.proofs.lemmas.Bool.{cases_lt}
use Rattle.std.proofs.Math.Seq.{take-suc}
use Rattle.aql_syntax.specs.Tree.{Declaration}
use Rattle.aql_syntax.specs.View.{decl_of, decls_of}
use Rattle.aql_syntax.specs.Measured.{latest}
use Rattle.aql_syntax.specs.Size.{expanded_size, expanded_levels, size_at, levels_at, decl_size, decl_levels, extents_of, most_nodes, most_levels, AreWithin, PassLimits, IsWithinLimits, IsLarge}
use Rattle.aql_syntax.specs.declared.ast.Decl.{Decl}
use Rattle.aql_syntax.specs.Laws.Measuring.{latest-take, decl-at}
use Rattle.aql_script.specs.Limits.{WithinBetween}

one_more : (i : ℕ) → i + 1 - 1 ≡ i
one_more i = omega arith

there : (ds : List Decl) (i : ℕ) (d : Decl) → i < length ds → d ≡ get_or ds i d → slice_get (decls_of ds) i ≡ Some (decl_of d)
there ds i d h e = decl-at ds i d h ∙ ap (λ x. Some (decl_of x)) (sym e)

-- the sizes of a declaration at a place are those after the declarations before it
size_there : (ds : List Decl) (i : ℕ) (d : Decl) → i < length ds → d ≡ get_or ds i d →
    decl_size (decl_of d) (extents_of (latest (take i ds))) ≡ expanded_size (decls_of ds) (i + 1)
size_there ds i d h e =
    ap (λ l. decl_size (decl_of d) (extents_of l)) (latest-take i ds)
    ∙ ap (λ o. size_at o (extents_of (reverse (take i (decls_of ds))))) (sym (there ds i d h e))
    ∙ ap (λ j. size_at (slice_get (decls_of ds) j) (extents_of (reverse (take j (decls_of ds))))) (sym (one_more i))

levels_there : (ds : List Decl) (i : ℕ) (d : Decl) → i < length ds → d ≡ get_or ds i d →
    decl_levels (decl_of d) (extents_of (latest (take i ds))) ≡ expanded_levels (decls_of ds) (i + 1)
levels_there ds i d h e =
    ap (λ l. decl_levels (decl_of d) (extents_of l)) (latest-take i ds)
    ∙ ap (λ o. levels_at o (extents_of (reverse (take i (decls_of ds))))) (sym (there ds i d h e))
    ∙ ap (λ j. levels_at (slice_get (decls_of ds) j) (extents_of (reverse (take j (decls_of ds))))) (sym (one_more i))

pub within_there : (ds : List Decl) (i : ℕ) (d : Decl) → i < length ds → d ≡ get_or ds i d →
    AreWithin (decl_size (decl_of d) (extents_of (latest (take i ds)))) (decl_levels (decl_of d) (extents_of (latest (take i ds)))) → IsWithinLimits (decls_of ds) (i + 1)
within_there ds i d h e w =
    (subst (λ n. n ≤ most_nodes) (size_there ds i d h e) w.0, subst (λ n. n ≤ most_levels) (levels_there ds i d h e) w.1)

pub large_there : (ds : List Decl) (i : ℕ) (d : Decl) → i < length ds → d ≡ get_or ds i d →
    PassLimits (decl_size (decl_of d) (extents_of (latest (take i ds)))) (decl_levels (decl_of d) (extents_of (latest (take i ds)))) → IsLarge (decls_of ds) (i + 1)
large_there ds i d h e p =
    subst (λ n. PassLimits n (expanded_levels (decls_of ds) (i + 1))) (size_there ds i d h e)
    (subst (PassLimits (decl_size (decl_of d) (extents_of (latest (take i ds))))) (levels_there ds i d h e) p)

-- one declaration more
pub between_more : (all : List Declaration) (a i : ℕ) → WithinBetween all a i → (a < i + 1 → IsWithinLimits all (i + 1)) → WithinBetween all a (i + 1)
between_more all a i h own k low high = at (cases_lt k (i + 1))
  where
    at : (k < i + 1) ⊎ (i + 1 ≤ k) → IsWithinLimits all k
    at (inl lt) = h k low (omega (arith, lt))
    at (inr le) =
        let e : i + 1 ≡ k = omega (arith, le, high) in
        subst (IsWithinLimits all) e (own (subst (λ n. a < n) (sym e) low))

pub take_more : (ds : List Decl) (i : ℕ) (d : Decl) → i < length ds → d ≡ get_or ds i d → take i ds ++ d ∷ [] ≡ take (i + 1) ds
take_more ds i d h e =
    ap (λ x. take i ds ++ x ∷ []) e ∙ sym (take-suc ds i d h) ∙ (let z : suc i ≡ i + 1 = omega arith in ap (λ n. take n ds) z)

-- the number behind the prelude, put behind it again
pub behind_again : (a n : ℕ) → a < n → a + (n - a) ≡ n
behind_again a n h = omega (arith, h)
