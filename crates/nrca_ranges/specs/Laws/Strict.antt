-- The value of an operation has the shape that the shapes of its operands tell (`strict-shaped`).
use Rattle.std.proofs.Common.{◌≡◌, ℕ, zero, suc, ◌≤◌, Bool, true, false, nat_eq, List, [], ◌∷◌, ◌++◌, length, map, take, drop, Option, Some, None, refl, sym, ap, subst, ◌∙◌, arith, length-append, inl, inr, if◌then◌else◌}
use Rattle.std.specs.List.{slice_get}
use Rattle.std.specs.declared.cmp.Ordering.{Ordering}
use Rattle.std.specs.declared.cmp.Ordering.TheVariants.{Less, Equal, Greater}
use Rattle.std.specs.Ordering.{match_ordering}
use Rattle.std.proofs.lemmas.List.{length-map}
use Rattle.std.proofs.lemmas.Option.{same_Some}
use Rattle.aql_value.specs.Canon.{IsMember, put, canon}
use Rattle.aql_value.specs.Datum.{Datum, Data, Table, natural, tuple, set, array, nil, data_of, list_of}
use Rattle.aql_value.specs.Indices as indices
use Rattle.aql_value.specs.Indices.{offset_of}
use Rattle.aql_value.specs.Laws.Datum.{list_of-data_of}
use Rattle.aql_value.specs.Laws.Lists.{Every-all, Every-impl, Every-append, Every-below, Every-onto, Every-get, length-below}
use Rattle.aql_value.specs.Laws.Operations.{array_of-is}
use Rattle.aql_value.specs.Laws.Partial.{then-is}
use Rattle.aql_value.specs.Laws.RowMajor.{cell-offset_of}
use Rattle.aql_value.specs.Laws.Set.{member_left, member_right, member_split, canon_same, canon_canon, length_canon, ascending_below, Every-canon}
use Rattle.aql_value.specs.Lists.{Every, below}
use Rattle.aql_value.specs.Operations.{as_natural, as_set, as_array, tuple_of, set_of, nth, part_of, only, array_of, dims_of, index_value}
use Rattle.aql_value.specs.Order.{datum_cmp}
use Rattle.aql_value.specs.Partial.{◌>>=◌, each}
use Rattle.aql_value.specs.Strict.{Strict, strict_value, unary, binary}
use Rattle.aql_value.specs.Operations as operations
use Rattle.nrca_term.specs.Laws.Facts.{natural-is}
use Rattle.nrca_rule_laws.specs.Laws.Spans.{two-numbers}
use Rattle.nrca_ranges.specs.declared.interval.Interval.{Interval}
use Rattle.nrca_ranges.specs.Bounds.{Bounds, Row, unknown, number, row, members, grid, end, entry, row_of, IsIn, AreIn, IsCount, HasShape, HaveShapes}
use Rattle.nrca_ranges.specs.Intervals.{before, union_count}
use Rattle.nrca_ranges.specs.Transfer.{interval_of, count_of, member_of, cell_of, dimensions_of, part_at, part_bounds, join_bounds, entry_at, first_intervals, union_bounds, below_bounds, strict_bounds}
use Rattle.nrca_ranges.specs.Laws.Bounds.{interval-is, count-shaped, member-shaped, cell-shaped, dims-shaped, joined-first, joined-second, count-is}
use Rattle.nrca_ranges.specs.Laws.Intervals.{before-is, arith-in}

-- the operand of an operation of one, and those of an operation of two
pub unary-shaped : (f : Datum → Option Datum) (bs : List Bounds) (vs : List Datum) (v : Datum) → HaveShapes (row_of bs) vs → unary f vs ≡ Some v → (w : Datum) × HasShape (entry_at bs 0) w × (f w ≡ Some v)
unary-shaped f bs [] v h e = cc
unary-shaped f [] (w ∷ []) v h e = absurd h
unary-shaped f (b ∷ bs) (w ∷ []) v h e = (w, h.0, e)
unary-shaped f bs (w ∷ x ∷ vs) v h e = cc

pub binary-shaped : (f : Datum → Datum → Option Datum) (bs : List Bounds) (vs : List Datum) (v : Datum) → HaveShapes (row_of bs) vs → binary f vs ≡ Some v →
    (w : Datum) × (x : Datum) × HasShape (entry_at bs 0) w × HasShape (entry_at bs 1) x × (f w x ≡ Some v)
binary-shaped f bs [] v h e = cc
binary-shaped f bs (w ∷ []) v h e = cc
binary-shaped f [] (w ∷ x ∷ []) v h e = absurd h
binary-shaped f (b ∷ []) (w ∷ x ∷ []) v h e = absurd h.1
binary-shaped f (b ∷ c ∷ bs) (w ∷ x ∷ []) v h e = (w, x, h.0, h.1.0, e)
binary-shaped f bs (w ∷ x ∷ y ∷ vs) v h e = cc

-- what is there only where a test holds
pub tested : {A : Type 0} (b : Bool) (o : Option A) (x : A) → (if b then o else None) ≡ Some x → o ≡ Some x
tested true o x e = e
tested false o x e = cc

-- a tuple has its values as parts
tuple-is : (vs : List Datum) (v : Datum) → tuple_of vs ≡ Some v → v ≡ tuple (data_of vs)
tuple-is [] v e = cc
tuple-is (w ∷ []) v e = cc
tuple-is (w ∷ x ∷ vs) v e = sym (same_Some (tuple (data_of (w ∷ x ∷ vs))) v e)

-- a part of a tuple
nth-shaped : (bs : Row) (vs : List Datum) (at : ℕ) (v : Datum) → HaveShapes bs vs → nth at vs ≡ Some v → HasShape (part_at bs at) v
nth-shaped bs vs zero v h e = tt
nth-shaped end vs (suc j) v h e = tt
nth-shaped (entry b bs) [] (suc j) v h e = absurd h
nth-shaped (entry b bs) (w ∷ vs) (suc zero) v h e = subst (HasShape b) (same_Some w v e) h.0
nth-shaped (entry b bs) (w ∷ vs) (suc (suc j)) v h e = nth-shaped bs vs (suc j) v h.1 e

part-shaped : (b : Bounds) (at of : ℕ) (w v : Datum) → HasShape b w → part_of at of w ≡ Some v → HasShape (part_bounds b at) v
part-shaped (row bs) at of w v h e =
    let k : part_of at of (tuple h.0) ≡ Some v = ap (part_of at of) (sym h.1) ∙ e in
    nth-shaped bs (list_of h.0) at v h.2 (tested (nat_eq (length (list_of h.0)) of) (nth at (list_of h.0)) v k)
part-shaped unknown at of w v h e = tt
part-shaped (number i) at of w v h e = tt
part-shaped (members i b) at of w v h e = tt
part-shaped (grid is b) at of w v h e = tt

-- a set and its members
pub set-is : (v : Datum) (ms : List Datum) → as_set v ≡ Some ms → (xs : Data) × (v ≡ set xs) × (list_of xs ≡ ms)
set-is (set xs) ms e = (xs, refl, same_Some (list_of xs) ms e)
set-is (natural n) ms e = cc
set-is (Datum.truth b) ms e = cc
set-is (Datum.text s) ms e = cc
set-is (Datum.tuple xs) ms e = cc
set-is (array ds xs) ms e = cc

-- the members of a set that has a shape are as many as it says, and each is as it says
pub set-shaped : (b : Bounds) (v : Datum) (ms : List Datum) → HasShape b v → as_set v ≡ Some ms → IsCount (count_of b) ms × Every (HasShape (member_of b)) ms
set-shaped b v ms h e =
    let r = set-is v ms e in
    let k : HasShape b (set r.0) = subst (HasShape b) r.1 h in
    (subst (IsCount (count_of b)) r.2 (count-shaped b r.0 k), subst (Every (HasShape (member_of b))) r.2 (member-shaped b r.0 k))

-- a list with x in its place is no shorter
put-longer : (x : Datum) (ys : List Datum) → length ys ≤ length (put x ys)
put-longer x [] = omega arith
put-longer x (y ∷ ys) = by (datum_cmp x y) (put-longer x ys)
  where
    by : (r : Ordering) → length ys ≤ length (put x ys) → length (y ∷ ys) ≤ length (match_ordering r (x ∷ y ∷ ys) (y ∷ ys) (y ∷ put x ys))
    by Less h = omega arith
    by Equal h = omega arith
    by Greater h = omega (arith, h)

-- the members of each of two lists are among those of both
canon-second : (xs ys : List Datum) → length (canon ys) ≤ length (canon (xs ++ ys))
canon-second [] ys = omega arith
canon-second (x ∷ xs) ys = omega (arith, canon-second xs ys, put-longer x (canon (xs ++ ys)))

canon-first : (xs ys : List Datum) → length (canon xs) ≤ length (canon (xs ++ ys))
canon-first xs ys = omega (arith, canon-second ys xs, ap length (canon_same (ys ++ xs) (xs ++ ys) (λ z m. turned z xs ys m) (λ z m. turned z ys xs m)))
  where
    turned : (z : Datum) (xs ys : List Datum) → IsMember z (xs ++ ys) → IsMember z (ys ++ xs)
    turned z xs ys m = elim (member_split z xs ys m) as (λ _. IsMember z (ys ++ xs)) [ inl a ↦ member_right z ys xs a | inr b ↦ member_left z ys xs b ]

-- the union of two sets
union-shaped : (a b : Bounds) (v w x : Datum) → HasShape a v → HasShape b w → (as_set v >>= λ vs. as_set w >>= λ ws. Some (set_of (vs ++ ws))) ≡ Some x → HasShape (union_bounds a b) x
union-shaped a b v w x h k e =
    let q = then-is (as_set v) (λ vs. as_set w >>= λ ws. Some (set_of (vs ++ ws))) x e in
    let r = then-is (as_set w) (λ ws. Some (set_of (q.0 ++ ws))) x q.2 in
    let i = set-shaped a v q.0 h q.1 in
    let j = set-shaped b w r.0 k r.1 in
    let z = sym (list_of-data_of (canon (q.0 ++ r.0))) in (
      data_of (canon (q.0 ++ r.0)),
      sym (same_Some (set_of (q.0 ++ r.0)) x r.2),
      subst (IsCount (union_count (count_of a) (count_of b))) z
          (omega (arith, i.0.0, j.0.0, ap length (canon_canon (q.0 ++ r.0)), canon-first q.0 r.0, canon-second q.0 r.0), λ l. omega (arith, l, i.0.1, j.0.1, length_canon (q.0 ++ r.0), length-append q.0 r.0)),
      subst (Every (HasShape (join_bounds (member_of a) (member_of b)))) z
          (Every-canon (HasShape (join_bounds (member_of a) (member_of b))) (q.0 ++ r.0)
          (Every-append (HasShape (join_bounds (member_of a) (member_of b))) q.0 r.0
          (Every-impl (HasShape (member_of a)) (HasShape (join_bounds (member_of a) (member_of b))) (λ y m. joined-first (member_of a) (member_of b) y m) q.0 i.1)
          (Every-impl (HasShape (member_of b)) (HasShape (join_bounds (member_of a) (member_of b))) (λ y m. joined-second (member_of a) (member_of b) y m) r.0 j.1))),
    )

-- the numbers below a number
below-shaped : (i : Interval) (n : ℕ) (v : Datum) → IsIn i n → Some (set (data_of (map natural (below n)))) ≡ Some v → HasShape (below_bounds i) v
below-shaped i n v h e =
    let l : length (map natural (below n)) ≡ n = length-map (below n) natural ∙ length-below n in
    let z = sym (list_of-data_of (map natural (below n))) in (
      data_of (map natural (below n)),
      sym (same_Some (set (data_of (map natural (below n)))) v e),
      subst (IsCount i) z (count-is i (map natural (below n)) n (ascending_below n) l h),
      subst (Every (HasShape (number (record { low = 0; high = before i.high })))) z
          (Every-onto (HasShape (number (record { low = 0; high = before i.high }))) natural (below n)
          (Every-below (λ j. HasShape (number (record { low = 0; high = before i.high })) (natural j)) n (λ j m. (j, refl, (omega arith, λ p. before-is i.high n j h.1 m p))))),
    )

-- the one member of a set
only-shaped : (b : Bounds) (ms : List Datum) (v : Datum) → Every (HasShape b) ms → only ms ≡ Some v → HasShape b v
only-shaped b [] v h e = cc
only-shaped b (m ∷ []) v h e = subst (HasShape b) (same_Some m v e) h.0
only-shaped b (m ∷ n ∷ ms) v h e = cc

-- an array, its dimensions and its cells
array-is : (v : Datum) (ds : List ℕ) (cs : List Datum) → as_array v ≡ Some (record { dims = ds; cells = cs }) → (xs : Data) × (v ≡ array ds xs) × (list_of xs ≡ cs)
array-is (array es xs) ds cs e =
    let x : Table = record { dims = es; cells = list_of xs } in
    let y : Table = record { dims = ds; cells = cs } in
    let z : x ≡ y = same_Some x y e in
    (xs, ap (λ t. array t.dims xs) z, ap (λ t. t.cells) z)
array-is (natural n) ds cs e = cc
array-is (Datum.truth b) ds cs e = cc
array-is (Datum.text s) ds cs e = cc
array-is (Datum.tuple xs) ds cs e = cc
array-is (set xs) ds cs e = cc

-- a cell of an array
sub-shaped : (b : Bounds) (w : Datum) (at : List ℕ) (v : Datum) → HasShape b w → (as_array w >>= λ t. indices.cell t at) ≡ Some v → HasShape (cell_of b) v
sub-shaped b w at v h e =
    let p = then-is (as_array w) (λ t. indices.cell t at) v e in
    let a = array-is w p.0.dims p.0.cells p.1 in
    let o = then-is (offset_of p.0.dims at) (slice_get p.0.cells) v (sym (cell-offset_of p.0 at) ∙ p.2) in
    Every-get (HasShape (cell_of b)) p.0.cells o.0 v (subst (Every (HasShape (cell_of b))) a.2 (cell-shaped b p.0.dims a.0 (subst (HasShape b) a.1 h))) o.2

-- the dimensions of an array
dim-shaped : (b : Bounds) (rank : ℕ) (w v : Datum) → HasShape b w → (dims_of rank w >>= λ ds. Some (index_value ds)) ≡ Some v → HasShape (dimensions_of b) v
dim-shaped b rank w v h e =
    let p = then-is (dims_of rank w) (λ ds. Some (index_value ds)) v e in
    let q = then-is (as_array w) (λ t. if nat_eq (length t.dims) rank then Some t.dims else None) p.0 p.1 in
    let a = array-is w q.0.dims q.0.cells q.1 in
    let z : q.0.dims ≡ p.0 = same_Some q.0.dims p.0 (tested (nat_eq (length q.0.dims) rank) (Some q.0.dims) p.0 q.2) in
    subst (HasShape (dimensions_of b)) (ap index_value z ∙ same_Some (index_value p.0) v p.2) (dims-shaped b q.0.dims a.0 (subst (HasShape b) a.1 h))

-- numbers are in the intervals that are known of them
pub numbers-in : (bs : List Bounds) (vs : List Datum) (ns : List ℕ) → HaveShapes (row_of bs) vs → each as_natural vs ≡ Some ns → AreIn (map interval_of bs) ns
numbers-in [] [] ns h e = subst (AreIn []) (same_Some [] ns e) tt
numbers-in [] (v ∷ vs) ns h e = absurd h
numbers-in (b ∷ bs) [] ns h e = absurd h
numbers-in (b ∷ bs) (v ∷ vs) ns h e =
    let p = then-is (as_natural v) (λ n. each as_natural vs >>= λ ms. Some (n ∷ ms)) ns e in
    let q = then-is (each as_natural vs) (λ ms. Some (p.0 ∷ ms)) ns p.2 in
    subst (AreIn (interval_of b ∷ map interval_of bs)) (same_Some (p.0 ∷ q.0) ns q.2) (interval-is b p.0 (subst (HasShape b) (natural-is v p.0 p.1) h.0), numbers-in bs vs q.0 h.1 q.1)

-- the first of them
pub first-shaped : (n : ℕ) (bs : List Bounds) (vs : List Datum) → HaveShapes (row_of bs) vs → HaveShapes (row_of (take n bs)) (take n vs)
first-shaped zero bs vs h = tt
first-shaped (suc n) [] [] h = tt
first-shaped (suc n) [] (v ∷ vs) h = absurd h
first-shaped (suc n) (b ∷ bs) [] h = absurd h
first-shaped (suc n) (b ∷ bs) (v ∷ vs) h = (h.0, first-shaped n bs vs h.1)

-- a literal array
literal-shaped : (rank : ℕ) (bs : List Bounds) (vs : List Datum) (v : Datum) → HaveShapes (row_of bs) vs →
    (each as_natural (take rank vs) >>= λ ds. if nat_eq (length ds) rank then array_of ds (drop rank vs) else None) ≡ Some v → HasShape (grid (first_intervals rank bs) unknown) v
literal-shaped rank bs vs v h e =
    let p = then-is (each as_natural (take rank vs)) (λ ds. if nat_eq (length ds) rank then array_of ds (drop rank vs) else None) v e in
    let a = array_of-is p.0 (drop rank vs) v (tested (nat_eq (length p.0) rank) (array_of p.0 (drop rank vs)) v p.2) in
    (p.0, data_of (drop rank vs), a.0, numbers-in (take rank bs) (take rank vs) p.0 (first-shaped rank bs vs h) p.1, Every-all (HasShape unknown) (λ w. tt) (list_of (data_of (drop rank vs))))

-- the value of an operation has the shape that the operands' shapes tell
pub strict-shaped : (s : Strict) (bs : List Bounds) (vs : List Datum) (v : Datum) → HaveShapes (row_of bs) vs → strict_value s vs ≡ Some v → HasShape (strict_bounds s bs) v
strict-shaped (Strict.nat n) bs vs v h e = tt
strict-shaped (Strict.bool b) bs vs v h e = tt
strict-shaped (Strict.text s) bs vs v h e = tt
strict-shaped Strict.bottom bs vs v h e = tt
strict-shaped Strict.tuple bs vs v h e = (data_of vs, tuple-is vs v e, subst (HaveShapes (row_of bs)) (sym (list_of-data_of vs)) h)
strict-shaped (Strict.proj at of) bs vs v h e = let r = unary-shaped (part_of at of) bs vs v h e in part-shaped (entry_at bs 0) at of r.0 v r.1 r.2
strict-shaped (Strict.arith op) bs vs v h e =
    let r = binary-shaped _ bs vs v h e in
    let s = two-numbers op r.0 r.1 v r.4 in
    (s.2, s.6, arith-in op (interval_of (entry_at bs 0)) (interval_of (entry_at bs 1)) s.0 s.1 s.2 (interval-is (entry_at bs 0) s.0 (subst (HasShape (entry_at bs 0)) s.3 r.2)) (interval-is (entry_at bs 1) s.1 (subst (HasShape (entry_at bs 1)) s.4 r.3)) s.5)
strict-shaped (Strict.compare op) bs vs v h e = tt
strict-shaped Strict.empty bs [] v h e = (nil, sym (same_Some (set nil) v e), (omega arith, λ l. omega arith), tt)
strict-shaped Strict.empty bs (w ∷ vs) v h e = cc
strict-shaped Strict.single bs vs v h e =
    let r = unary-shaped (λ w. Some (set_of (w ∷ []))) bs vs v h e in
    (data_of (r.0 ∷ []), sym (same_Some (set_of (r.0 ∷ [])) v r.2), (omega arith, λ l. omega arith), (r.1, tt))
strict-shaped Strict.union bs vs v h e =
    let r = binary-shaped _ bs vs v h e in union-shaped (entry_at bs 0) (entry_at bs 1) r.0 r.1 v r.2 r.3 r.4
strict-shaped Strict.gen bs vs v h e =
    let r = unary-shaped _ bs vs v h e in
    let n = then-is (as_natural r.0) (λ n. Some (set (data_of (map natural (below n))))) v r.2 in
    below-shaped (interval_of (entry_at bs 0)) n.0 v (interval-is (entry_at bs 0) n.0 (subst (HasShape (entry_at bs 0)) (natural-is r.0 n.0 n.1) r.1)) n.2
strict-shaped Strict.get bs vs v h e =
    let r = unary-shaped _ bs vs v h e in
    let s = then-is (as_set r.0) only v r.2 in
    only-shaped (member_of (entry_at bs 0)) s.0 v (set-shaped (entry_at bs 0) r.0 s.0 r.1 s.1).1 s.2
strict-shaped Strict.sub [] [] v h e = cc
strict-shaped Strict.sub (b ∷ bs) [] v h e = cc
strict-shaped Strict.sub [] (w ∷ vs) v h e = absurd h
strict-shaped Strict.sub (b ∷ bs) (w ∷ vs) v h e =
    let r = then-is (each as_natural vs) (operations.cell_of w) v e in sub-shaped b w r.0 v h.0 r.2
strict-shaped (Strict.dim rank) bs vs v h e =
    let r = unary-shaped _ bs vs v h e in dim-shaped (entry_at bs 0) rank r.0 v r.1 r.2
strict-shaped (Strict.index rank) bs vs v h e = tt
strict-shaped (Strict.literal rank) bs vs v h e = literal-shaped rank bs vs v h e
