-- The order of a pair to a tuple, part by part.
use Rattle.std.specs.Prelude.{◌≡◌, ℕ, zero, suc, ◌-◌, ◌<◌, ◌≤◌, List, [], ◌∷◌, length, map, Some, None, refl}
use Rattle.std.proofs.Common.{get_or, sym, ap, ◌∙◌, arith}
use Rattle.std.specs.List.{slice_get}
use Rattle.std.specs.declared.cmp.Ordering.TheVariants.{Less, Greater}
use Rattle.std.specs.Ordering.{ordering_then, ordering_reverse}
use Rattle.aql_value.specs.Datum.{Datum, natural, tuple, data_of}
use Rattle.aql_value.specs.Order.{datum_cmp}
use Rattle.aql_value.specs.Laws.Order.{datum_cmp-total, then_then}
use Rattle.aql_value.specs.Partial.{◌>>=◌}
use Rattle.nrca_sets.specs.Pairs.{pair_value}
use Rattle.nrca_sets.specs.Places.{order_to, places_order, rest_order}

-- the order the other way round
pub flipped : (x y : Datum) → ordering_reverse (datum_cmp y x) ≡ datum_cmp x y
flipped x y = sym (datum_cmp-total.antisymm x y)

pub pair_to_none : (p : ℕ × ℕ) (vs : List Datum) → length vs ≡ 0 → datum_cmp (pair_value p) (tuple (data_of vs)) ≡ Greater
pair_to_none p [] e = refl
pair_to_none p (v ∷ vs) e = absurd (omega (arith, e))

pub pair_to_one : (p : ℕ × ℕ) (vs : List Datum) (v : Datum) → length vs ≡ 1 → slice_get vs 0 ≡ Some v → datum_cmp (pair_value p) (tuple (data_of vs)) ≡ ordering_then (datum_cmp (natural p.0) v) Greater
pair_to_one p [] v e f = absurd (omega (arith, e))
pair_to_one p (x ∷ []) v e f = let g : x ≡ v = cc in ap (λ z. ordering_then (datum_cmp (natural p.0) z) Greater) g
pair_to_one p (x ∷ y ∷ vs) v e f = absurd (omega (arith, e))

rest_is : (m n : ℕ) (x y : Datum) (vs : List Datum) → ordering_then (datum_cmp (natural m) x) (ordering_then (datum_cmp (natural n) y) (rest_order (length vs))) ≡ datum_cmp (pair_value (m, n)) (tuple (data_of (x ∷ y ∷ vs)))
rest_is m n x y [] = refl
rest_is m n x y (v ∷ vs) = refl

pub pair_to_two : (p : ℕ × ℕ) (vs : List Datum) (v w : Datum) (n : ℕ) → slice_get vs 0 ≡ Some v → slice_get vs 1 ≡ Some w → n ≡ length vs →
    datum_cmp (pair_value p) (tuple (data_of vs)) ≡ ordering_then (ordering_then (datum_cmp (natural p.0) v) (datum_cmp (natural p.1) w)) (rest_order (n - 2))
pair_to_two p [] v w n f g e = cc
pair_to_two p (x ∷ []) v w n f g e = cc
pair_to_two p (x ∷ y ∷ vs) v w n f g e =
    let a : x ≡ v = cc in
    let b : y ≡ w = cc in
    let k : length vs ≡ n - 2 = omega (arith, e) in
    sym (rest_is p.0 p.1 x y vs)
    ∙ (λ i. ordering_then (datum_cmp (natural p.0) (a i)) (ordering_then (datum_cmp (natural p.1) (b i)) (rest_order (k i))))
    ∙ then_then (datum_cmp (natural p.0) v) (datum_cmp (natural p.1) w) (rest_order (n - 2))

pub pair_there : (ps : List (ℕ × ℕ)) (j : ℕ) (p : ℕ × ℕ) → slice_get ps j ≡ Some p → slice_get (map pair_value ps) j ≡ Some (pair_value p)
pair_there [] j p e = cc
pair_there (q ∷ ps) zero p e = let f : q ≡ p = cc in ap (λ r. Some (pair_value r)) f
pair_there (q ∷ ps) (suc j) p e = pair_there ps j p e

-- the order to a value that is there
pub order_there : (x : Datum) (ys : List Datum) (j : ℕ) (y : Datum) → slice_get ys j ≡ Some y → order_to x ys j ≡ Some (datum_cmp x y)
order_there x ys j y e = ap (λ o. o >>= λ z. Some (datum_cmp x z)) e

pub places_there : (xs : List Datum) (i : ℕ) (x : Datum) (ys : List Datum) (j : ℕ) → slice_get xs i ≡ Some x → places_order xs i ys j ≡ order_to x ys j
places_there xs i x ys j e = ap (λ o. o >>= λ z. order_to z ys j) e

pub order_past_pairs : (x : Datum) (ps : List (ℕ × ℕ)) (j : ℕ) → length ps ≤ j → order_to x (map pair_value ps) j ≡ None
order_past_pairs x [] j h = refl
order_past_pairs x (p ∷ ps) zero h = absurd (omega (arith, h))
order_past_pairs x (p ∷ ps) (suc j) h = order_past_pairs x ps j (omega (arith, h))

pub order_at_numbers : (x : Datum) (ns : List ℕ) (j : ℕ) → j < length ns → order_to x (map natural ns) j ≡ Some (datum_cmp x (natural (get_or ns j 0)))
order_at_numbers x [] j h = absurd (omega (arith, h))
order_at_numbers x (n ∷ ns) zero h = refl
order_at_numbers x (n ∷ ns) (suc j) h = order_at_numbers x ns j (omega (arith, h))

pub order_past_numbers : (x : Datum) (ns : List ℕ) (j : ℕ) → length ns ≤ j → order_to x (map natural ns) j ≡ None
order_past_numbers x [] j h = refl
order_past_numbers x (n ∷ ns) zero h = absurd (omega (arith, h))
order_past_numbers x (n ∷ ns) (suc j) h = order_past_numbers x ns j (omega (arith, h))

pub places_past_pairs : (ps : List (ℕ × ℕ)) (i : ℕ) (ys : List Datum) (j : ℕ) → length ps ≤ i → places_order (map pair_value ps) i ys j ≡ None
places_past_pairs [] i ys j h = refl
places_past_pairs (p ∷ ps) zero ys j h = absurd (omega (arith, h))
places_past_pairs (p ∷ ps) (suc i) ys j h = places_past_pairs ps i ys j (omega (arith, h))

-- a natural comes before a pair
pub number_to_pairs : (n : ℕ) (ps : List (ℕ × ℕ)) (j : ℕ) → j < length ps → order_to (natural n) (map pair_value ps) j ≡ Some Less
number_to_pairs n [] j h = absurd (omega (arith, h))
number_to_pairs n (p ∷ ps) zero h = refl
number_to_pairs n (p ∷ ps) (suc j) h = number_to_pairs n ps j (omega (arith, h))
