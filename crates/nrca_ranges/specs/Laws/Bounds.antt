-- What follows from the definitions of `Bounds` and of what is known of parts of values.
use Rattle.std.proofs.Common.{◌≡◌, ℕ, ◌^◌, ◌-◌, Bool, true, false, nat_eq, List, [], ◌∷◌, length, map, refl, sym, ap, subst, arith}
use Rattle.std.proofs.lemmas.Bool.{eqb-true}
use Rattle.std.proofs.lemmas.Option.{same_Some}
use Rattle.aql_value.specs.Canon.{IsAscending}
use Rattle.aql_value.specs.Laws.Canon.{canon_ascending}
use Rattle.aql_value.specs.Datum.{Datum, Data, natural, set, array, list_of}
use Rattle.aql_value.specs.Lists.{Every}
use Rattle.aql_value.specs.Laws.Lists.{Every-all, Every-impl}
use Rattle.aql_value.specs.Operations.{as_natural, index_value}
use Rattle.aql_value.specs.Laws.Datum.{list_of-data_of}
use Rattle.aql_value.specs.Datum.{data_of}
use Rattle.nrca_ranges.specs.declared.interval.Interval.{Interval}
use Rattle.nrca_ranges.specs.Bounds.{Bounds, unknown, number, row, members, grid, row_of, IsIn, AreIn, IsCount, HasShape, HaveShapes}
use Rattle.nrca_ranges.specs.Intervals.{hull, hulls}
use Rattle.nrca_ranges.specs.Transfer.{interval_of, count_of, member_of, cell_of, index_bounds, dimensions_of, join_bounds, join_grids}

-- every number is one of all
pub in-all : (n : ℕ) → IsIn (record { low = 0; high = 2 ^ 128 - 1 }) n
in-all n = (omega arith, λ l. omega (arith, l))

-- a number that has a shape is in the shape's interval
pub interval-is : (b : Bounds) (n : ℕ) → HasShape b (natural n) → IsIn (interval_of b) n
interval-is (number i) n h = let z : h.0 ≡ n = sym (same_Some n h.0 (ap as_natural h.1)) in subst (IsIn i) z h.2
interval-is unknown n h = in-all n
interval-is (row bs) n h = in-all n
interval-is (members i b) n h = in-all n
interval-is (grid is b) n h = in-all n

-- any list has so many members
pub count-all : (ms : List Datum) → IsCount (record { low = 0; high = 2 ^ 128 - 1 }) ms
count-all ms = (omega arith, λ l. omega (arith, l))

same-set : (xs ys : Data) → set xs ≡ set ys → xs ≡ ys
same-set xs ys e = cc

-- a set that has a shape has as many members as the shape says
pub count-shaped : (b : Bounds) (ms : Data) → HasShape b (set ms) → IsCount (count_of b) (list_of ms)
count-shaped (members i b) ms h = let z : h.0 ≡ ms = same-set h.0 ms (sym h.1) in subst (λ l. IsCount i (list_of l)) z h.2
count-shaped unknown ms h = count-all (list_of ms)
count-shaped (number i) ms h = count-all (list_of ms)
count-shaped (row bs) ms h = count-all (list_of ms)
count-shaped (grid is b) ms h = count-all (list_of ms)

-- nothing is known of any value
pub nothing-known : (vs : List Datum) → Every (HasShape unknown) vs
nothing-known vs = Every-all (HasShape unknown) (λ v. tt) vs

-- and each member is as the shape says
pub member-shaped : (b : Bounds) (ms : Data) → HasShape b (set ms) → Every (HasShape (member_of b)) (list_of ms)
member-shaped (members i b) ms h = let z : h.0 ≡ ms = same-set h.0 ms (sym h.1) in subst (λ l. Every (HasShape b) (list_of l)) z h.3
member-shaped unknown ms h = nothing-known (list_of ms)
member-shaped (number i) ms h = nothing-known (list_of ms)
member-shaped (row bs) ms h = nothing-known (list_of ms)
member-shaped (grid is b) ms h = nothing-known (list_of ms)

same-cells : (ds es : List ℕ) (xs ys : Data) → array ds xs ≡ array es ys → xs ≡ ys
same-cells ds es xs ys e = cc

pub same-dims : (ds es : List ℕ) (xs ys : Data) → array ds xs ≡ array es ys → ds ≡ es
same-dims ds es xs ys e = cc

-- each cell of an array is as the array's shape says
pub cell-shaped : (b : Bounds) (ds : List ℕ) (cs : Data) → HasShape b (array ds cs) → Every (HasShape (cell_of b)) (list_of cs)
cell-shaped (grid is b) ds cs h = let z : h.1 ≡ cs = same-cells h.0 ds h.1 cs (sym h.2) in subst (λ l. Every (HasShape b) (list_of l)) z h.4
cell-shaped unknown ds cs h = nothing-known (list_of cs)
cell-shaped (number i) ds cs h = nothing-known (list_of cs)
cell-shaped (row bs) ds cs h = nothing-known (list_of cs)
cell-shaped (members i b) ds cs h = nothing-known (list_of cs)

-- numbers, each of its interval, as values
numbers-shaped : (is : List Interval) (ns : List ℕ) → AreIn is ns → HaveShapes (row_of (map number is)) (map natural ns)
numbers-shaped [] [] h = tt
numbers-shaped [] (n ∷ ns) h = absurd h
numbers-shaped (i ∷ is) [] h = absurd h
numbers-shaped (i ∷ is) (n ∷ ns) h = ((n, refl, h.0), numbers-shaped is ns h.1)

-- an index whose numbers are in the intervals has their shape
pub index-shaped : (is : List Interval) (ds : List ℕ) → AreIn is ds → HasShape (index_bounds is) (index_value ds)
index-shaped [] [] h = (data_of [], refl, tt)
index-shaped [] (d ∷ ds) h = absurd h
index-shaped (i ∷ []) [] h = absurd h
index-shaped (i ∷ []) (d ∷ []) h = (d, refl, h.0)
index-shaped (i ∷ []) (d ∷ e ∷ ds) h = absurd h.1
index-shaped (i ∷ j ∷ is) [] h = absurd h
index-shaped (i ∷ j ∷ is) (d ∷ []) h = absurd h.1
index-shaped (i ∷ j ∷ is) (d ∷ e ∷ ds) h =
    (data_of (map natural (d ∷ e ∷ ds)), refl, subst (HaveShapes (row_of (map number (i ∷ j ∷ is)))) (sym (list_of-data_of (map natural (d ∷ e ∷ ds)))) (numbers-shaped (i ∷ j ∷ is) (d ∷ e ∷ ds) h))

-- the dimensions of an array are as its shape says
pub dims-shaped : (b : Bounds) (ds : List ℕ) (cs : Data) → HasShape b (array ds cs) → HasShape (dimensions_of b) (index_value ds)
dims-shaped (grid is b) ds cs h = let z : h.0 ≡ ds = same-dims h.0 ds h.1 cs (sym h.2) in index-shaped is ds (subst (AreIn is) z h.3)
dims-shaped unknown ds cs h = tt
dims-shaped (number i) ds cs h = tt
dims-shaped (row bs) ds cs h = tt
dims-shaped (members i b) ds cs h = tt

-- the least interval that holds both holds the numbers of each
pub in-first : (i j : Interval) (n : ℕ) → IsIn i n → IsIn (hull i j) n
in-first i j n h = (omega (arith, h.0), λ l. omega (arith, l, h.1))

pub in-second : (i j : Interval) (n : ℕ) → IsIn j n → IsIn (hull i j) n
in-second i j n h = (omega (arith, h.0), λ l. omega (arith, l, h.1))

pub count-first : (i j : Interval) (ms : List Datum) → IsCount i ms → IsCount (hull i j) ms
count-first i j ms h = (omega (arith, h.0), λ l. omega (arith, l, h.1))

pub count-second : (i j : Interval) (ms : List Datum) → IsCount j ms → IsCount (hull i j) ms
count-second i j ms h = (omega (arith, h.0), λ l. omega (arith, l, h.1))

are-first : (is js : List Interval) (ns : List ℕ) → length is ≡ length js → AreIn is ns → AreIn (hulls is js) ns
are-first [] js ns e h = h
are-first (i ∷ is) [] ns e h = absurd (omega (arith, e))
are-first (i ∷ is) (j ∷ js) [] e h = absurd h
are-first (i ∷ is) (j ∷ js) (n ∷ ns) e h = (in-first i j n h.0, are-first is js ns (omega (arith, e)) h.1)

are-second : (is js : List Interval) (ns : List ℕ) → length is ≡ length js → AreIn js ns → AreIn (hulls is js) ns
are-second [] [] ns e h = h
are-second [] (j ∷ js) ns e h = absurd (omega (arith, e))
are-second (i ∷ is) [] ns e h = absurd (omega (arith, e))
are-second (i ∷ is) (j ∷ js) [] e h = absurd h
are-second (i ∷ is) (j ∷ js) (n ∷ ns) e h = (in-second i j n h.0, are-second is js ns (omega (arith, e)) h.1)

-- a value of either shape has the joined one
pub joined-first : (a b : Bounds) (v : Datum) → HasShape a v → HasShape (join_bounds a b) v
joined-first unknown b v h = tt
joined-first (number i) (number j) v h = (h.0, h.1, in-first i j h.0 h.2)
joined-first (number i) unknown v h = tt
joined-first (number i) (row bs) v h = tt
joined-first (number i) (members j b) v h = tt
joined-first (number i) (grid js b) v h = tt
joined-first (row cs) b v h = tt
joined-first (members i a) unknown v h = tt
joined-first (members i a) (number j) v h = tt
joined-first (members i a) (row bs) v h = tt
joined-first (members i a) (members j b) v h = (h.0, h.1, count-first i j (list_of h.0) h.2, Every-impl (HasShape a) (HasShape (join_bounds a b)) (λ w k. joined-first a b w k) (list_of h.0) h.3)
joined-first (members i a) (grid js b) v h = tt
joined-first (grid is a) unknown v h = tt
joined-first (grid is a) (number j) v h = tt
joined-first (grid is a) (row bs) v h = tt
joined-first (grid is a) (members j b) v h = tt
joined-first (grid is a) (grid js b) v h =
    go (nat_eq (length is) (length js)) (λ e. (h.0, h.1, h.2, are-first is js h.0 (eqb-true (length is) (length js) e) h.3, Every-impl (HasShape a) (HasShape (join_bounds a b)) (λ w k. joined-first a b w k) (list_of h.1) h.4))
  where
    go : (t : Bool) → (t ≡ true → HasShape (grid (hulls is js) (join_bounds a b)) v) → HasShape (join_grids t (hulls is js) (join_bounds a b)) v
    go true k = k refl
    go false k = tt

pub joined-second : (a b : Bounds) (v : Datum) → HasShape b v → HasShape (join_bounds a b) v
joined-second unknown b v h = tt
joined-second (number i) (number j) v h = (h.0, h.1, in-second i j h.0 h.2)
joined-second (number i) unknown v h = tt
joined-second (number i) (row bs) v h = tt
joined-second (number i) (members j b) v h = tt
joined-second (number i) (grid js b) v h = tt
joined-second (row cs) b v h = tt
joined-second (members i a) unknown v h = tt
joined-second (members i a) (number j) v h = tt
joined-second (members i a) (row bs) v h = tt
joined-second (members i a) (members j b) v h = (h.0, h.1, count-second i j (list_of h.0) h.2, Every-impl (HasShape b) (HasShape (join_bounds a b)) (λ w k. joined-second a b w k) (list_of h.0) h.3)
joined-second (members i a) (grid js b) v h = tt
joined-second (grid is a) unknown v h = tt
joined-second (grid is a) (number j) v h = tt
joined-second (grid is a) (row bs) v h = tt
joined-second (grid is a) (members j b) v h = tt
joined-second (grid is a) (grid js b) v h =
    go (nat_eq (length is) (length js)) (λ e. (h.0, h.1, h.2, are-second is js h.0 (eqb-true (length is) (length js) e) h.3, Every-impl (HasShape b) (HasShape (join_bounds a b)) (λ w k. joined-second a b w k) (list_of h.1) h.4))
  where
    go : (t : Bool) → (t ≡ true → HasShape (grid (hulls is js) (join_bounds a b)) v) → HasShape (join_grids t (hulls is js) (join_bounds a b)) v
    go true k = k refl
    go false k = tt

-- an ascending list has as many different members as it has members
pub count-is : (i : Interval) (ms : List Datum) (n : ℕ) → IsAscending ms → length ms ≡ n → IsIn i n → IsCount i ms
count-is i ms n a e h = (omega (arith, h.0, e, ap length (canon_ascending ms a)), λ l. omega (arith, e, h.1 l))
