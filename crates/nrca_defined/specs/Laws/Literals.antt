-- A literal array has a value where its dimensions are single numbers and its cells as many as their product (`literal-there`).
use Rattle.std.proofs.Common.{◌≡◌, ℕ, zero, suc, ◌-◌, ◌^◌, ◌<◌, ◌≤◌, true, nat_eq, List, [], ◌∷◌, ◌++◌, length, replicate, take, drop, refl, sym, ap, ◌∙◌, arith}
use Rattle.std.proofs.lemmas.Bool.{and_parts, eqb-true, eq-eqb, lt-ltb}
use Rattle.std.proofs.lemmas.List.{length-drop}
use Rattle.aql_value.specs.Datum.{Datum, array, data_of}
use Rattle.aql_value.specs.Indices.{product}
use Rattle.aql_value.specs.Operations.{as_natural, array_of, literal_of}
use Rattle.aql_value.specs.Laws.Partial.{each-length}
use Rattle.aql_ty.specs.Types.{Ty, natural, IsRank}
use Rattle.aql_ty.specs.ValueTypes.{HaveTypes}
use Rattle.nrca_rule_laws.specs.Operations.{Valued}
use Rattle.nrca_ranges.specs.declared.interval.Interval.{Interval}
use Rattle.nrca_ranges.specs.Bounds.{Bounds, row_of, AreIn, HaveShapes}
use Rattle.nrca_ranges.specs.Certain.{is_full}
use Rattle.nrca_ranges.specs.Intervals.{is_end, is_single, all_single, lows}
use Rattle.nrca_ranges.specs.Transfer.{first_intervals}
use Rattle.nrca_ranges.specs.Laws.Intervals.{end-is}
use Rattle.nrca_ranges.specs.Laws.Strict.{numbers-in, first-shaped}
use Rattle.nrca_defined.specs.Laws.Cells.{naturals}

-- the dimensions are numbers
first-types : (rank : ℕ) (Ts : List Ty) (vs : List Datum) → HaveTypes (replicate rank natural ++ Ts) vs → HaveTypes (replicate rank natural) (take rank vs)
first-types zero Ts vs h = tt
first-types (suc n) Ts [] h = absurd h
first-types (suc n) Ts (v ∷ vs) h = (h.0, first-types n Ts vs h.1)

-- as many values as types
many : (n : ℕ) (vs : List Datum) → HaveTypes (replicate n natural) vs → length vs ≡ n
many zero [] h = refl
many zero (v ∷ vs) h = absurd h
many (suc n) [] h = absurd h
many (suc n) (v ∷ vs) h = ap suc (many n vs h.1)

-- as many shapes as values
same-many : (bs : List Bounds) (vs : List Datum) → HaveShapes (row_of bs) vs → length bs ≡ length vs
same-many [] [] h = refl
same-many [] (v ∷ vs) h = absurd h
same-many (b ∷ bs) [] h = absurd h
same-many (b ∷ bs) (v ∷ vs) h = ap suc (same-many bs vs h.1)

-- a number of an interval that is of one alone
single-is : (i : Interval) (n : ℕ) → (i.low ≤ n) × (i.high < 2 ^ 128 - 1 → n ≤ i.high) → is_single i ≡ true → n ≡ i.low
single-is i n h e =
    let p = and_parts (nat_eq i.low i.high) (is_end i.high) e in
    omega (arith, h.0, h.1 (end-is i.high p.1), eqb-true i.low i.high p.0)

-- and those of a list of such intervals
singles : (is : List Interval) (ns : List ℕ) → AreIn is ns → all_single is ≡ true → ns ≡ lows is
singles [] [] h e = refl
singles [] (n ∷ ns) h e = absurd h
singles (i ∷ is) [] h e = absurd h
singles (i ∷ is) (n ∷ ns) h e =
    let p = and_parts (is_single i) (all_single is) e in
    ap (λ m. m ∷ ns) (single-is i n h.0 p.0) ∙ ap (λ l. i.low ∷ l) (singles is ns h.1 p.1)

-- an array that has a rank and a cell for each index
array-there : (rank : ℕ) (ds : List ℕ) (cs : List Datum) → IsRank rank → length ds ≡ rank → product ds ≡ length cs → Valued (array_of ds cs)
array-there rank ds cs r l p = rw (lt-ltb 0 (length ds) (omega (arith, l, r.0)), lt-ltb (length ds) 9 (omega (arith, l, r.1)), eq-eqb (product ds) (length cs) p) (array ds (data_of cs), refl)

-- a literal array whose cells are as many as its dimensions say
pub literal-there : (A : Ty) (n rank : ℕ) (bs : List Bounds) (vs : List Datum) → IsRank rank → HaveTypes (replicate rank natural ++ replicate n A) vs → HaveShapes (row_of bs) vs → is_full rank bs ≡ true → Valued (literal_of rank vs)
literal-there A n rank bs vs r t h e =
    let p = and_parts (all_single (first_intervals rank bs)) (nat_eq (product (lows (first_intervals rank bs))) (length bs - rank)) e in
    let q = first-types rank (replicate n A) vs t in
    let ns = naturals rank (take rank vs) q in
    let l : length ns.0 ≡ rank = each-length as_natural (take rank vs) ns.0 ns.2 ∙ many rank (take rank vs) q in
    let z : ns.0 ≡ lows (first_intervals rank bs) = singles (first_intervals rank bs) ns.0 (numbers-in (take rank bs) (take rank vs) ns.0 (first-shaped rank bs vs h) ns.2) p.0 in
    let k : product ns.0 ≡ length (drop rank vs) =
    ap product z ∙ eqb-true (product (lows (first_intervals rank bs))) (length bs - rank) p.1 ∙ ap (λ m. m - rank) (same-many bs vs h) ∙ sym (length-drop rank vs) in
    rw ns.2 (rw (eq-eqb (length ns.0) rank l) (array-there rank ns.0 (drop rank vs) r l k))
