-- The names of the positions with what is kept of each: the last that has a name, one more, and the names alone.
use Rattle.std.proofs.Common.{ℕ, suc, ◌≡◌, ◌<◌, Bool, true, false, List, [], ◌∷◌, ◌++◌, length, get_or, Option, Some, None, refl, sym, ap, ◌∙◌, arith, append-nil, if◌then◌else◌}
use Rattle.std.specs.List.{slice_get}
use Rattle.std.specs.Option.{option_map}
use Rattle.std.proofs.lemmas.Option.{slice_get-get_or}
use Rattle.aql_value.specs.Partial.{or_else}
use Rattle.aql_names.specs.Named.{last_named}
use Rattle.aql_names.specs.Laws.Named.{last_named_inside}
use Rattle.aql_syntax.specs.Names.{names_equal, find}
use Rattle.aql_syntax.specs.Tree.{Name, Declaration, declared_name}
use Rattle.aql_syntax.specs.View.{decl_of}
use Rattle.aql_syntax.specs.Size.{Extent, Extents, extent_of, no_extent, extent}
use Rattle.aql_syntax.specs.Measured.{onto, names_of}
use Rattle.aql_syntax.specs.declared.ast.Decl.{Decl}
use Rattle.aql_syntax.specs.Laws.Measuring.{latest_last}
use Rattle.aql_syntax.specs.Kept.{extent_in, saturate_extent, keep, kept_of, extents_after}
use Rattle.aql_script.specs.Entries.{entries_onto, entries}
use Rattle.aql_syntax.specs.declared.walk.Added.{Added}

-- One position more.

entries_onto-last : (xs : List Name) (ks : List Added) (ms : Extents) (x : Name) (k : Added) → length xs ≡ length ks →
    entries_onto (xs ++ x ∷ []) (ks ++ k ∷ []) ms ≡ (x, Some (extent_in k)) ∷ entries_onto xs ks ms
entries_onto-last [] [] ms x k e = refl
entries_onto-last [] (l ∷ ks) ms x k e = absurd (omega (arith, e))
entries_onto-last (y ∷ xs) [] ms x k e = absurd (omega (arith, e))
entries_onto-last (y ∷ xs) (l ∷ ks) ms x k e = entries_onto-last xs ks ((y, Some (extent_in l)) ∷ ms) x k (omega (arith, e))

pub entries-last : (xs : List Name) (ks : List Added) (x : Name) (k : Added) → length xs ≡ length ks →
    entries (xs ++ x ∷ []) (ks ++ k ∷ []) ≡ (x, Some (extent_in k)) ∷ entries xs ks
entries-last xs ks x k e = entries_onto-last xs ks [] x k e

-- The last position that has a name.

abbrev found_at : List Added → Option ℕ → Option (Option Extent) → Option (Option Extent)
found_at ks None o = o
found_at ks (Some i) o = option_map (λ k. Some (extent_in k)) (slice_get ks i)

find-onto : (x : Name) (xs : List Name) (ks : List Added) (ms : Extents) → length xs ≡ length ks →
    find x (entries_onto xs ks ms) ≡ found_at ks (last_named x xs) (find x ms)
find-onto x [] ks ms e = refl
find-onto x (y ∷ xs) [] ms e = absurd (omega (arith, e))
find-onto x (y ∷ xs) (k ∷ ks) ms e =
    find-onto x xs ks ((y, Some (extent_in k)) ∷ ms) (omega (arith, e)) ∙ go (last_named x xs) (names_equal x y)
  where
    go : (o : Option ℕ) (b : Bool) → found_at ks o (if b then Some (Some (extent_in k)) else find x ms)
        ≡ found_at (k ∷ ks) (or_else (option_map suc o) (if b then Some 0 else None)) (find x ms)
    go None true = refl
    go None false = refl
    go (Some i) b = refl

-- no position has the name
pub latest-none : (x : Name) (xs : List Name) (ks : List Added) → length xs ≡ length ks → None ≡ last_named x xs →
    extent_of (find x (entries xs ks)) ≡ no_extent
latest-none x xs ks l e = ap extent_of (find-onto x xs ks [] l ∙ ap (λ o. found_at ks o None) (sym e))

-- the position is one of those that are kept
pub latest-inside : (x : Name) (xs : List Name) (ks : List Added) (i : ℕ) → length xs ≡ length ks → Some i ≡ last_named x xs → i < length ks
latest-inside x xs ks i l e = let within : i < length xs = last_named_inside x xs i (sym e) in omega (arith, within, l)

-- what is kept of that position
pub latest-some : (x : Name) (xs : List Name) (ks : List Added) (i : ℕ) (k : Added) → length xs ≡ length ks → Some i ≡ last_named x xs →
    k ≡ get_or ks i k → extent_of (find x (entries xs ks)) ≡ extent_in k
latest-some x xs ks i k l e is =
    ap extent_of (find-onto x xs ks [] l ∙ ap (λ o. found_at ks o None) (sym e)
    ∙ ap (option_map (λ j. Some (extent_in j))) (slice_get-get_or ks i k (latest-inside x xs ks i l e) ∙ ap Some (sym is)))

-- What is kept of declarations and one more.

pub kept-last : (ds : List Decl) (d : Decl) → extents_after (ds ++ d ∷ []) ≡ keep (decl_of d) (extents_after ds)
kept-last ds d = ap kept_of (latest_last ds d)

-- The names alone.

-- names put before others, the first of them last
abbrev names_back : Extents → List Name → List Name
names_back [] xs = xs
names_back ((x, o) ∷ ms) xs = names_back ms (x ∷ xs)

back-entries : (xs : List Name) (ks : List Added) (ms : Extents) (ys : List Name) → length xs ≡ length ks →
    names_back (entries_onto xs ks ms) ys ≡ names_back ms (xs ++ ys)
back-entries [] ks ms ys e = refl
back-entries (x ∷ xs) [] ms ys e = absurd (omega (arith, e))
back-entries (x ∷ xs) (k ∷ ks) ms ys e = back-entries xs ks ((x, Some (extent_in k)) ∷ ms) ys (omega (arith, e))

back-kept : (ds : List Decl) (rest : List Declaration) (ys : List Name) → names_back (kept_of (onto ds rest)) ys ≡ names_back (kept_of rest) (names_of ds ++ ys)
back-kept [] rest ys = refl
back-kept (d ∷ ds) rest ys = back-kept ds (decl_of d ∷ rest) ys

pub names-kept : (xs : List Name) (ks : List Added) (ds : List Decl) → length xs ≡ length ks → entries xs ks ≡ extents_after ds → xs ≡ names_of ds
names-kept xs ks ds l e =
    sym (append-nil xs) ∙ sym (back-entries xs ks [] [] l) ∙ ap (λ ms. names_back ms []) e ∙ back-kept ds [] [] ∙ append-nil (names_of ds)

-- One declaration more.

pub one-more : (x : Name) (k : Added) (old new : Extents) (d : Decl) → x ≡ declared_name (decl_of d) → extent_in k ≡ saturate_extent (extent_of (Some (extent (decl_of d) old))) →
    new ≡ (x, Some (extent_in k)) ∷ old → (ds : List Decl) → old ≡ extents_after ds → new ≡ extents_after (ds ++ d ∷ [])
one-more x k old new d e h n ds o =
    n ∙ ap (λ y. (y, Some (extent_in k)) ∷ old) e ∙ ap (λ z. (declared_name (decl_of d), Some z) ∷ old) h ∙ ap (keep (decl_of d)) o ∙ sym (kept-last ds d)
