-- The values with which an evaluation comes to a part have the shapes that are told of the variables bound there (`own-shaped`).
use Rattle.std.proofs.Common.{◌≡◌, ℕ, zero, suc, ◌<◌, ◌≤◌, Bool, true, false, nat_lt, List, [], ◌∷◌, ◌++◌, length, map, take, reverse, Option, Some, None, option_to_list, unwrap_or, refl, subst, arith, inl, inr}
use Rattle.std.proofs.lemmas.Bool.{cases_Bool, ltb-true, ltb-false, lt-ltb, and_parts}
use Rattle.std.proofs.lemmas.Option.{same_Some}
use mathlib.Core.List.{reverse_aux}
use Rattle.aql_value.specs.Datum.{Datum, natural, list_of}
use Rattle.std.specs.Cmp.Lexicographic.{pointwise}
use Rattle.aql_value.specs.Indices.{indices}
use Rattle.aql_value.specs.Laws.Lists.{Every-impl, Every-join, Every-onto}
use Rattle.aql_value.specs.Laws.Partial.{then-is}
use Rattle.aql_value.specs.Laws.RowMajor.{indices_below, indices_lengths}
use Rattle.aql_value.specs.Lists.{Every}
use Rattle.aql_value.specs.Operations.{as_natural, as_set, push_index}
use Rattle.aql_value.specs.Partial.{◌>>=◌, each}
use Rattle.nrca_term.specs.Term.{Form}
use Rattle.nrca_term.specs.Meaning.{Part, worth, here, members_value, bounds_value, test_value}
use Rattle.nrca_term.specs.Places.{branch, otherwise, indices_of, entry_values}
use Rattle.nrca_ranges.specs.declared.interval.Interval.{Interval}
use Rattle.nrca_ranges.specs.Bounds.{Bounds, Row, unknown, number, row, members, grid, end, entry, row_of, AreIn, HasShape, HaveShapes}
use Rattle.nrca_ranges.specs.Transfer.{interval_of, member_of, entry_at, index_below, flat, flat_row, kept, own_bounds}
use Rattle.nrca_ranges.specs.Laws.Forms.{Shaped}
use Rattle.nrca_ranges.specs.Laws.Intervals.{before-is}
use Rattle.nrca_ranges.specs.Laws.Strict.{set-shaped, numbers-in}

-- what has a shape has what is kept of it
flat-shaped : (b : Bounds) (v : Datum) → HasShape b v → HasShape (flat b) v
flat-shaped (number i) v h = h
flat-shaped unknown v h = tt
flat-shaped (row bs) v h = tt
flat-shaped (members i b) v h = tt
flat-shaped (grid is b) v h = tt

flat-row-shaped : (bs : Row) (vs : List Datum) → HaveShapes bs vs → HaveShapes (flat_row bs) vs
flat-row-shaped end [] h = tt
flat-row-shaped end (v ∷ vs) h = absurd h
flat-row-shaped (entry b bs) [] h = absurd h
flat-row-shaped (entry b bs) (v ∷ vs) h = (flat-shaped b v h.0, flat-row-shaped bs vs h.1)

kept-shaped : (b : Bounds) (v : Datum) → HasShape b v → HasShape (kept b) v
kept-shaped unknown v h = tt
kept-shaped (number i) v h = h
kept-shaped (row bs) v h = (h.0, h.1, flat-row-shaped bs (list_of h.0) h.2)
kept-shaped (members i b) v h = (h.0, h.1, h.2, Every-impl (HasShape b) (HasShape (flat b)) (λ w k. flat-shaped b w k) (list_of h.0) h.3)
kept-shaped (grid is b) v h = (h.0, h.1, h.2, h.3, Every-impl (HasShape b) (HasShape (flat b)) (λ w k. flat-shaped b w k) (list_of h.1) h.4)

-- shapes of values behind those of others
pub have-append : (as' bs : List Bounds) (vs ws : List Datum) → HaveShapes (row_of as') vs → HaveShapes (row_of bs) ws → HaveShapes (row_of (as' ++ bs)) (vs ++ ws)
have-append [] bs [] ws h k = k
have-append [] bs (v ∷ vs) ws h k = absurd h
have-append (a ∷ as') bs [] ws h k = absurd h
have-append (a ∷ as') bs (v ∷ vs) ws h k = (h.0, have-append as' bs vs ws h.1 k)

-- an index below numbers of the intervals
walked : (is : List Interval) (ds at : List ℕ) (xs : List Bounds) (l : List Datum) → AreIn is ds → length at ≡ length ds → pointwise nat_lt at ds ≡ true → HaveShapes (row_of xs) l →
    HaveShapes (row_of (reverse_aux (map index_below is) xs)) (push_index at l)
walked [] [] [] xs l h n b k = k
walked [] [] (j ∷ at) xs l h n b k = absurd (omega (arith, n))
walked [] (d ∷ ds) at xs l h n b k = absurd h
walked (i ∷ is) [] at xs l h n b k = absurd h
walked (i ∷ is) (d ∷ ds) [] xs l h n b k = absurd (omega (arith, n))
walked (i ∷ is) (d ∷ ds) (j ∷ at) xs l h n b k =
    let r = and_parts (nat_lt j d) (pointwise nat_lt at ds) b in
    walked is ds at (index_below i ∷ xs) (natural j ∷ l) h.1 (omega (arith, n)) r.1 ((j, refl, (omega arith, λ p. before-is i.high d j h.0.1 (ltb-true j d r.0) p)), k)

-- the first n parts, each of its shape
first-some : (n : ℕ) (ps : List Part) (bs : List Bounds) (vs : List Datum) → n ≤ length bs → n ≤ length ps → ((i : ℕ) (v : Datum) → i < n → worth ps i [] ≡ Some v → HasShape (entry_at bs i) v) → each here (take n ps) ≡ Some vs →
    HaveShapes (row_of (take n bs)) vs
first-some zero ps bs vs l m h e = let z : [] ≡ vs = cc in subst (HaveShapes (row_of [])) z tt
first-some (suc n) [] bs vs l m h e = absurd (omega (arith, m))
first-some (suc n) (p ∷ ps) [] vs l m h e = absurd (omega (arith, l))
first-some (suc n) (p ∷ ps) (b ∷ bs) vs l m h e =
    let a = then-is (p []) (λ y. each here (take n ps) >>= λ ys. Some (y ∷ ys)) vs e in
    let r = then-is (each here (take n ps)) (λ ys. Some (a.0 ∷ ys)) vs a.2 in
    subst (HaveShapes (row_of (b ∷ take n bs))) (same_Some (a.0 ∷ r.0) vs r.2)
    (h 0 a.0 (omega arith) a.1, first-some n ps bs r.0 (omega (arith, l)) (omega (arith, m)) (λ i v q k. h (suc i) v (omega (arith, q)) k) r.1)

-- no variable
branch-none : (b : Bool) (o : Option Bool) → Every (λ new. HaveShapes (row_of []) new) (branch b o)
branch-none b None = tt
branch-none true (Some true) = (tt, tt)
branch-none true (Some false) = tt
branch-none false (Some true) = tt
branch-none false (Some false) = (tt, tt)

otherwise-none : (o : Option Datum) → Every (λ new. HaveShapes (row_of []) new) (otherwise o)
otherwise-none None = (tt, tt)
otherwise-none (Some v) = tt

-- a member of a set
member-own : (f : Form) (ps : List Part) (b : Bounds) → ((v : Datum) → worth ps 0 [] ≡ Some v → HasShape b v) →
    Every (λ new. HaveShapes (row_of (kept (member_of b) ∷ [])) new) (map (λ m. m ∷ []) (unwrap_or (members_value ps) []))
member-own f ps b h = go (members_value ps) refl
  where
    go : (o : Option (List Datum)) → members_value ps ≡ o → Every (λ new. HaveShapes (row_of (kept (member_of b) ∷ [])) new) (map (λ m. m ∷ []) (unwrap_or o []))
    go None e = tt
    go (Some ms) e =
        let a = then-is (worth ps 0 []) as_set ms e in
        Every-onto (λ new. HaveShapes (row_of (kept (member_of b) ∷ [])) new) (λ m. m ∷ []) ms
        (Every-impl (HasShape (member_of b)) (λ m. HaveShapes (row_of (kept (member_of b) ∷ [])) (m ∷ [])) (λ m k. (kept-shaped (member_of b) m k, tt)) ms (set-shaped b a.0 ms (h a.0 a.1) a.2).1)

-- the indices of a tabulation
indices-own : (rank : ℕ) (ps : List Part) (bs : List Bounds) → rank ≤ length bs → rank ≤ length ps → ((i : ℕ) (v : Datum) → i < rank → worth ps i [] ≡ Some v → HasShape (entry_at bs i) v) →
    Every (λ new. HaveShapes (row_of (reverse (map index_below (map interval_of (take rank bs))))) new) (map (λ at. push_index at []) (indices_of (bounds_value rank ps)))
indices-own rank ps bs l m h = go (bounds_value rank ps) refl
  where
    go : (o : Option (List ℕ)) → bounds_value rank ps ≡ o → Every (λ new. HaveShapes (row_of (reverse (map index_below (map interval_of (take rank bs))))) new) (map (λ at. push_index at []) (indices_of o))
    go None e = tt
    go (Some ds) e =
        let n = then-is (each here (take rank ps)) (each as_natural) ds e in
        let a = numbers-in (take rank bs) n.0 ds (first-some rank ps bs n.0 l m h n.1) n.2 in
        Every-onto (λ new. HaveShapes (row_of (reverse (map index_below (map interval_of (take rank bs))))) new) (λ at. push_index at []) (indices ds)
        (Every-join (λ at. length at ≡ length ds) (λ at. pointwise nat_lt at ds ≡ true) (λ at. HaveShapes (row_of (reverse (map index_below (map interval_of (take rank bs))))) (push_index at []))
        (λ at k b. walked (map interval_of (take rank bs)) ds at [] [] a k b tt) (indices ds) (indices_lengths ds) (indices_below ds))

-- The values of a part's own variables have the shapes that the shapes of the parts before it tell.
pub own-shaped : (f : Form) (ps : List Part) (bs : List Bounds) (i : ℕ) → length bs ≡ i → i < length ps → ((j : ℕ) → j < i → Shaped f ps j (entry_at bs j)) →
    Every (λ new. HaveShapes (row_of (reverse (own_bounds f i bs))) new) (entry_values f ps i)
own-shaped (Form.var n) ps bs i l m h = (tt, tt)
own-shaped (Form.global n) ps bs i l m h = (tt, tt)
own-shaped Form.bind ps bs zero l m h = (tt, tt)
own-shaped Form.bind ps bs (suc i) l m h = go (worth ps 0 []) (λ v e. (h 0 (omega arith)).0 v e)
  where
    go : (o : Option Datum) → ((v : Datum) → o ≡ Some v → HasShape (entry_at bs 0) v) → Every (λ new. HaveShapes (row_of (kept (entry_at bs 0) ∷ [])) new) (map (λ v. v ∷ []) (option_to_list o))
    go None k = tt
    go (Some v) k = ((kept-shaped (entry_at bs 0) v (k v refl), tt), tt)
own-shaped Form.choose ps bs zero l m h = (tt, tt)
own-shaped Form.choose ps bs (suc zero) l m h = branch-none true (test_value ps)
own-shaped Form.choose ps bs (suc (suc i)) l m h = branch-none false (test_value ps)
own-shaped Form.default ps bs zero l m h = (tt, tt)
own-shaped Form.default ps bs (suc i) l m h = otherwise-none (worth ps 0 [])
own-shaped Form.big_union ps bs zero l m h = (tt, tt)
own-shaped Form.big_union ps bs (suc i) l m h = member-own Form.big_union ps (entry_at bs 0) (λ v e. (h 0 (omega arith)).0 v e)
own-shaped Form.sum ps bs zero l m h = (tt, tt)
own-shaped Form.sum ps bs (suc i) l m h = member-own Form.sum ps (entry_at bs 0) (λ v e. (h 0 (omega arith)).0 v e)
own-shaped (Form.tab rank) ps bs i l m h =
    elim (cases_Bool (nat_lt i rank)) [
      | inl x ↦ rw x (tt, tt)
      | inr x ↦ rw x (indices-own rank ps bs (omega (arith, ltb-false i rank x, l)) (omega (arith, ltb-false i rank x, m)) (λ j v q e. (rw (lt-ltb j rank q) at (h j (omega (arith, ltb-false i rank x, q)))).0 v e))
    ]
own-shaped (Form.strict s) ps bs i l m h = (tt, tt)
