-- The cells of a run of numbers.
use Rattle.std.proofs.Common.{◌≡◌, ℕ, suc, ◌+◌, ◌-◌, ◌*◌, ◌^◌, ◌<◌, ◌≤◌, Bool, true, false, if◌then◌else◌, List, [], ◌∷◌, ◌++◌, length, map, take, drop, get_or, Option, Some, None, Ok, Err, length-append, refl, sym, ap, subst, ◌∙◌, arith}
use Rattle.std.proofs.lemmas.List.{take-append-drop, drop_more, take_all, take_more, length-take-le, length-map, get_or-take}
use Rattle.aql_value.specs.Datum.{Datum, natural}
use Rattle.aql_value.specs.Partial.{◌>>=◌, each}
use Rattle.cdf_header.specs.Format.{type_size}
use Rattle.cdf_header.specs.declared.fault.CdfFault.{CdfFault}
use Rattle.cdf_header.specs.declared.fault.CdfFault.TheVariants as faults
use Rattle.cdf_slab.specs.Numbers.{Number, has_sign, twos, number_of, cell_of}
use Rattle.cdf_slab.specs.Run.{lowest, IsNatural}
use Rattle.nrca_array.specs.Runs.{AreBelow, IsFirstFrom}
use Rattle.cdf_slab.specs.Slab.{first_negative}
use Rattle.cdf_slab.specs.Going.{AppendsCells}
use Rattle.std.proofs.lemmas.Bool.{lt-ltb, le-ltb}
use Rattle.cdf_slab.proofs.Goings.{goes-then, goes-fails}
use Rattle.cdf_slab.proofs.Walking.{map-append}

-- the cells of naturals
naturals_each : (kind : ℕ) (ns : List ℕ) → ((k : ℕ) → k < length ns → IsNatural kind (get_or ns k 0)) → each (cell_of false) (map (number_of kind) ns) ≡ Some (map natural ns)
naturals_each kind [] h = refl
naturals_each kind (x ∷ xs) h =
    let e : number_of kind x ≡ (false, x) = h 0 (omega arith) in
    ap (λ n. cell_of false n >>= λ y. each (cell_of false) (map (number_of kind) xs) >>= λ ys. Some (y ∷ ys)) e
    ∙ ap (λ o. o >>= λ ys. Some (natural x ∷ ys)) (naturals_each kind xs (λ k lt. h (suc k) (omega (arith, lt))))

naturals_go : (kind : ℕ) (ns : List ℕ) (before all : List Datum) → ((k : ℕ) → k < length ns → IsNatural kind (get_or ns k 0)) → all ≡ before ++ map natural ns → AppendsCells false (map (number_of kind) ns) before (Ok all)
naturals_go kind ns before all h e = (map natural ns, naturals_each kind ns h, e)

-- the naturals at the front
pub naturals_first : (kind : ℕ) (ns : List ℕ) (n : ℕ) (before all : List Datum) → n ≤ length ns → ((k : ℕ) → k < n → IsNatural kind (get_or ns k 0)) → all ≡ before ++ map natural (take n ns) →
    AppendsCells false (map (number_of kind) (take n ns)) before (Ok all)
naturals_first kind ns n before all le h e =
    naturals_go kind (take n ns) before all
    (λ k lt.
    let m : k < n = omega (arith, lt, length-take-le n ns le) in
    subst (IsNatural kind) (sym (get_or-take n ns k 0 m)) (h k m)) e

-- a number below 0, and then others
negative_first : (kind : ℕ) (x : ℕ) (xs : List ℕ) (before : List Datum) → (number_of kind x).0 ≡ true → AppendsCells false (map (number_of kind) (x ∷ xs)) before (Err (faults.Negative (length before)))
negative_first kind x xs before e = (refl, ap (λ b. if b then Some (length before) else first_negative (length before + 1) (map (number_of kind) xs)) e)

-- naturals, a number below 0, and then others
pub negative_go : (kind : ℕ) (ns : List ℕ) (n : ℕ) (before all : List Datum) → n < length ns → AppendsCells false (map (number_of kind) (take n ns)) before (Ok all) → (number_of kind (get_or ns n 0)).0 ≡ true →
    AppendsCells false (map (number_of kind) ns) before (Err (faults.Negative (length all)))
negative_go kind ns n before all lt g e =
    let split : map (number_of kind) (take n ns) ++ map (number_of kind) (get_or ns n 0 ∷ drop (n + 1) ns) ≡ map (number_of kind) ns =
    sym (map-append (number_of kind) (take n ns) (get_or ns n 0 ∷ drop (n + 1) ns))
    ∙ ap (map (number_of kind)) (ap (λ l. take n ns ++ l) (sym (drop_more ns n 0 lt)) ∙ take-append-drop n ns) in
    subst (λ l. AppendsCells false l before (Err (faults.Negative (length all)))) split
    (goes-then false (map (number_of kind) (take n ns)) (map (number_of kind) (get_or ns n 0 ∷ drop (n + 1) ns)) before all (Err (faults.Negative (length all))) g
    (negative_first kind (get_or ns n 0) (drop (n + 1) ns) all e))

-- one number more
pub goes_push : (signed : Bool) (kind : ℕ) (ns : List ℕ) (i x : ℕ) (before mid all : List Datum) → i < length ns → x ≡ get_or ns i 0 →
    AppendsCells signed (map (number_of kind) (take i ns)) before (Ok mid) → AppendsCells signed (number_of kind x ∷ []) mid (Ok all) → AppendsCells signed (map (number_of kind) (take (i + 1) ns)) before (Ok all)
goes_push signed kind ns i x before mid all lt e g h =
    let split : map (number_of kind) (take i ns) ++ number_of kind x ∷ [] ≡ map (number_of kind) (take (i + 1) ns) =
    ap (λ y. map (number_of kind) (take i ns) ++ number_of kind y ∷ []) e
    ∙ sym (map-append (number_of kind) (take i ns) (get_or ns i 0 ∷ []))
    ∙ ap (map (number_of kind)) (sym (take_more ns i 0 lt)) in
    subst (λ l. AppendsCells signed l before (Ok all)) split
    (goes-then signed (map (number_of kind) (take i ns)) (number_of kind x ∷ []) before mid (Ok all) g h)

-- a number that fails, and those behind it
pub goes_stop : (signed : Bool) (kind : ℕ) (ns : List ℕ) (i x : ℕ) (before mid : List Datum) (fault : CdfFault) → i < length ns → x ≡ get_or ns i 0 →
    AppendsCells signed (map (number_of kind) (take i ns)) before (Ok mid) → AppendsCells signed (number_of kind x ∷ []) mid (Err fault) → AppendsCells signed (map (number_of kind) ns) before (Err fault)
goes_stop signed kind ns i x before mid fault lt e g h =
    let split : (map (number_of kind) (take i ns) ++ number_of kind x ∷ []) ++ map (number_of kind) (drop (i + 1) ns) ≡ map (number_of kind) ns =
    ap (λ y. (map (number_of kind) (take i ns) ++ number_of kind y ∷ []) ++ map (number_of kind) (drop (i + 1) ns)) e
    ∙ ap (λ l. l ++ map (number_of kind) (drop (i + 1) ns)) (sym (map-append (number_of kind) (take i ns) (get_or ns i 0 ∷ [])) ∙ ap (map (number_of kind)) (sym (take_more ns i 0 lt)))
    ∙ sym (map-append (number_of kind) (take (i + 1) ns) (drop (i + 1) ns))
    ∙ ap (map (number_of kind)) (take-append-drop (i + 1) ns) in
    subst (λ l. AppendsCells signed l before (Err fault)) split
    (goes-fails signed (map (number_of kind) (take i ns) ++ number_of kind x ∷ []) (map (number_of kind) (drop (i + 1) ns)) before fault
    (goes-then signed (map (number_of kind) (take i ns)) (number_of kind x ∷ []) before mid (Err fault) g h))

pub goes_all : (signed : Bool) (kind : ℕ) (ns : List ℕ) (i : ℕ) (before all : List Datum) → length ns ≤ i → AppendsCells signed (map (number_of kind) (take i ns)) before (Ok all) →
    AppendsCells signed (map (number_of kind) ns) before (Ok all)
goes_all signed kind ns i before all le g = subst (λ l. AppendsCells signed (map (number_of kind) l) before (Ok all)) (take_all i ns le) g

-- the least number below 0
twos_below : (w x : ℕ) → x < 2 ^ (8 * w - 1) → twos w x ≡ (false, x)
twos_below w x lt = ap (λ b. if b then (false, x) else (true, 2 ^ (8 * w) - x)) (lt-ltb x (2 ^ (8 * w - 1)) lt)

twos_above : (w x : ℕ) → 2 ^ (8 * w - 1) ≤ x → (twos w x).0 ≡ true
twos_above w x le = ap (λ (n : Number). n.0) (ap (λ b. if◌then◌else◌ {A = Number} b (false, x) (true, 2 ^ (8 * w) - x)) (le-ltb x (2 ^ (8 * w - 1)) le))

below_lowest : (b : Bool) (w l x : ℕ) → (if b then Some (2 ^ (8 * w - 1)) else None) ≡ Some l → x < l → (if b then twos w x else (false, x)) ≡ (false, x)
below_lowest true w l x e lt = let z : 2 ^ (8 * w - 1) ≡ l = cc in twos_below w x (omega (arith, z, lt))
below_lowest false w l x e lt = refl

from_lowest : (b : Bool) (w l x : ℕ) → (if b then Some (2 ^ (8 * w - 1)) else None) ≡ Some l → l ≤ x → (if b then twos w x else (false, x)).0 ≡ true
from_lowest true w l x e le = let z : 2 ^ (8 * w - 1) ≡ l = cc in twos_above w x (omega (arith, z, le))
from_lowest false w l x e le = cc

no_lowest : (b : Bool) (w x : ℕ) → (if b then Some (2 ^ (8 * w - 1)) else None) ≡ None → (if b then twos w x else (false, x)) ≡ (false, x)
no_lowest true w x e = cc
no_lowest false w x e = refl

pub natural_below : (kind l x : ℕ) → lowest kind ≡ Some l → x < l → IsNatural kind x
natural_below kind l x e lt = below_lowest (has_sign kind) (type_size kind) l x e lt

pub negative_from : (kind l x : ℕ) → lowest kind ≡ Some l → l ≤ x → (number_of kind x).0 ≡ true
negative_from kind l x e le = from_lowest (has_sign kind) (type_size kind) l x e le

pub natural_each : (kind x : ℕ) → lowest kind ≡ None → IsNatural kind x
natural_each kind x e = no_lowest (has_sign kind) (type_size kind) x e

-- all of the numbers, where each is below the least that is spelled below 0
pub run_all : (kind : ℕ) (least : Option ℕ) (ns : List ℕ) (before all : List Datum) → least ≡ lowest kind → AreBelow least ns → all ≡ before ++ map natural ns → AppendsCells false (map (number_of kind) ns) before (Ok all)
run_all kind None ns before all e below is = naturals_go kind ns before all (λ k lt. natural_each kind (get_or ns k 0) (sym e)) is
run_all kind (Some l) ns before all e below is = naturals_go kind ns before all (λ k lt. natural_below kind l (get_or ns k 0) (sym e) (below k lt)) is

-- the first of the numbers that reaches it
pub run_reached : (kind : ℕ) (least : Option ℕ) (ns : List ℕ) (at : ℕ) (before : List Datum) → least ≡ lowest kind → IsFirstFrom least ns at → AppendsCells false (map (number_of kind) ns) before (Err (faults.Negative (length before + at)))
run_reached kind None ns at before e first = absurd first
run_reached kind (Some l) ns at before e first =
    let front = before ++ map natural (take at ns) in
    let goes = naturals_first kind ns at before front (omega (arith, first.0)) (λ k lt. natural_below kind l (get_or ns k 0) (sym e) (first.2 k lt)) refl in
    subst (λ c. AppendsCells false (map (number_of kind) ns) before (Err (faults.Negative c)))
    (omega (arith, length-append before (map natural (take at ns)), length-map (take at ns) natural, length-take-le at ns (omega (arith, first.0))))
    (negative_go kind ns at before front first.0 goes (negative_from kind l (get_or ns at 0) (sym e) first.1))
