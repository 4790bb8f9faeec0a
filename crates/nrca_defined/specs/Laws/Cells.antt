-- The cell at an index below the dimensions of an array.
use Rattle.std.proofs.Common.{◌≡◌, ℕ, zero, suc, ◌+◌, ◌*◌, ◌<◌, true, List, [], ◌∷◌, length, replicate, map, get_or, Some, refl, sym, ap, subst, ◌∙◌, arith}
use Rattle.std.proofs.lemmas.Bool.{lt-ltb, and_parts}
use Rattle.std.proofs.lemmas.Option.{slice_get-get_or}
use Rattle.std.specs.List.{slice_get}
use Rattle.aql_value.specs.Datum as datum
use Rattle.aql_value.specs.Datum.{Datum, Data, array, Table, data_of, list_of}
use Rattle.aql_value.specs.Laws.Datum.{list_of-data_of}
use Rattle.aql_value.specs.Indices.{product, cell, offset_of}
use Rattle.aql_value.specs.Laws.RowMajor.{cell-offset_of, offset_of_within}
use Rattle.aql_value.specs.Operations.{as_natural}
use Rattle.aql_value.specs.Partial.{◌>>=◌, each}
use Rattle.aql_ty.specs.Types.{natural}
use Rattle.aql_ty.specs.ValueTypes.{HaveTypes}
use Rattle.nrca_ranges.specs.declared.interval.Interval.{Interval}
use Rattle.nrca_ranges.specs.Bounds.{Bounds, unknown, number, row, members, grid, row_of, AreIn, HasShape, HaveShapes}
use Rattle.nrca_ranges.specs.Certain.{all_below, is_index}
use Rattle.nrca_ranges.specs.Intervals.{is_below}
use Rattle.nrca_ranges.specs.Transfer.{interval_of}
use Rattle.nrca_ranges.specs.Laws.Bounds.{interval-is, same-dims}
use Rattle.nrca_ranges.specs.Laws.Intervals.{below-is}

-- numbers as values
abbrev pub numbers : List ℕ → List Datum
numbers ns = map datum.natural ns

-- values that are numbers
pub naturals : (n : ℕ) (vs : List Datum) → HaveTypes (replicate n natural) vs → (ns : List ℕ) × (vs ≡ numbers ns) × (each as_natural vs ≡ Some ns)
naturals zero [] h = ([], refl, refl)
naturals zero (v ∷ vs) h = absurd h
naturals (suc n) [] h = absurd h
naturals (suc n) (v ∷ vs) h =
    let r = naturals n vs h.1 in
    (h.0.0 ∷ r.0, ap (λ x. x ∷ vs) h.0.1 ∙ ap (λ l. datum.natural h.0.0 ∷ l) r.1, rw (ap as_natural h.0.1, r.2) refl)

-- numbers of intervals that are below those of the dimensions are an index
pub index-there : (is : List Interval) (bs : List Bounds) (ds ns : List ℕ) → all_below is bs ≡ true → AreIn is ds → HaveShapes (row_of bs) (numbers ns) → (k : ℕ) × (offset_of ds ns ≡ Some k)
index-there [] [] [] [] e h k = (0, refl)
index-there [] [] [] (n ∷ ns) e h k = absurd k
index-there [] [] (d ∷ ds) ns e h k = absurd h
index-there [] (b ∷ bs) ds ns e h k = cc
index-there (i ∷ is) [] ds ns e h k = cc
index-there (i ∷ is) (b ∷ bs) [] ns e h k = absurd h
index-there (i ∷ is) (b ∷ bs) (d ∷ ds) [] e h k = absurd k
index-there (i ∷ is) (b ∷ bs) (d ∷ ds) (n ∷ ns) e h k =
    let p = and_parts (is_below (interval_of b) i) (all_below is bs) e in
    let r = index-there is bs ds ns p.1 h.1 k.1 in
    (n * product ds + r.0, rw (lt-ltb n d (below-is (interval_of b) i n d p.0 (interval-is b n k.0) h.0), r.1) refl)

-- the cell of an array that has the shape, at numbers that are always an index of one
pub cell-there : (b : Bounds) (bs : List Bounds) (ds ns : List ℕ) (vs : List Datum) → is_index b bs ≡ true → HasShape b (array ds (data_of vs)) → HaveShapes (row_of bs) (numbers ns) → product ds ≡ length vs →
    (y : Datum) × (cell (record { dims = ds; cells = list_of (data_of vs) }) ns ≡ Some y)
cell-there (grid is c) bs ds ns vs e h k p =
    let z : h.0 ≡ ds = sym (same-dims ds h.0 (data_of vs) h.1 h.2) in
    let o = index-there is bs ds ns e (subst (AreIn is) z h.3) k in
    let l : o.0 < length vs = omega (arith, offset_of_within ds ns o.0 o.1, p) in (
      get_or vs o.0 (datum.natural 0),
      cell-offset_of (record { dims = ds; cells = list_of (data_of vs) }) ns
          ∙ ap (λ q. q >>= slice_get (list_of (data_of vs))) o.1
          ∙ ap (λ xs. slice_get xs o.0) (list_of-data_of vs)
          ∙ slice_get-get_or vs o.0 (datum.natural 0) l,
    )
cell-there unknown bs ds ns vs e h k p = cc
cell-there (number i) bs ds ns vs e h k p = cc
cell-there (row cs) bs ds ns vs e h k p = cc
cell-there (members i c) bs ds ns vs e h k p = cc
