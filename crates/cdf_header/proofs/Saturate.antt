-- Sums and products that stop at a greatest number.
use Rattle.std.proofs.Common.{◌≡◌, ℕ, ◌+◌, ◌*◌, ◌<◌, ◌≤◌, ◌-◌, ◌^◌, min, List, [], ◌∷◌, length, refl, sym, ap, subst, ◌∙◌, arith, eq-eqb, cond, eqb, true, false}
use Rattle.std.proofs.lemmas.Bool.{ne_eqb}
use Rattle.std.proofs.Math.Nat.{mul_comm, add-mul}
use Rattle.std.proofs.Common.{take, length-drop, drop, get_or, add-one, drop-cons}
use Rattle.std.proofs.Math.Nat.{mul_assoc}
use Rattle.std.proofs.lemmas.List.{drop_all, length-map, take_all}
use Rattle.cdf_header.specs.Header.{Var}
use Rattle.aql_value.specs.Indices.{product, offset}
use Rattle.aql_value.specs.Laws.Saturation.{saturating_step, saturating_product, horner}
use Rattle.cdf_header.specs.Places.{len_at, lens, record_count, plain_sum, padded_sum, recsize, inner, is_record, place_of}
use Rattle.cdf_header.specs.Format.{type_size}

pub horner-sat : (a : ℕ) (ds at : List ℕ) (m : ℕ) → min (horner (min a m) ds at) m ≡ min (horner a ds at) m
horner-sat a [] at m = omega arith
horner-sat a (d ∷ ds) [] m = omega arith
horner-sat a (d ∷ ds) (i ∷ at) m =
    sym (horner-sat (min a m * d + i) ds at m) ∙ ap (λ x. min (horner x ds at) m) (saturating_step a d i m) ∙ horner-sat (a * d + i) ds at m

pub horner-is : (a : ℕ) (ds at : List ℕ) → length ds ≡ length at → horner a ds at ≡ a * product ds + offset ds at
horner-is a [] at e = omega arith
horner-is a (d ∷ ds) [] e = absurd (omega (arith, e))
horner-is a (d ∷ ds) (i ∷ at) e =
    horner-is (a * d + i) ds at (omega (arith, e))
    ∙ ap (λ x. x + offset ds at) (add-mul (a * d) i (product ds))
    ∙ grind arith

-- ---- the lengths of a shape

lens_from : (ds : List ℕ) (ids : List ℕ) (k : ℕ) → k < length ids → lens ds (drop k ids) ≡ len_at ds (get_or ids k 0) ∷ lens ds (drop (k + 1) ids)
lens_from ds ids k lt = let e : drop k ids ≡ get_or ids k 0 ∷ drop (k + 1) ids = rw (add-one, drop-cons ids k 0 lt) refl in ap (lens ds) e

pub product_goes : (ds : List ℕ) (ids : List ℕ) (k all len next m total : ℕ) → k < length ids → len ≡ len_at ds (get_or ids k 0) → next ≡ min (all * len) m
    → min (all * product (lens ds (drop k ids))) m ≡ total → min (next * product (lens ds (drop (k + 1) ids))) m ≡ total
product_goes ds ids k all len next m total lt is next-is so_far =
    let rest : ℕ = product (lens ds (drop (k + 1) ids)) in
    ap (λ x. min (x * rest) m) next-is ∙ saturating_product (all * len) rest m
    ∙ ap (λ x. min x m) (mul_assoc all len rest ∙ ap (λ x. all * (x * rest)) is ∙ ap (λ x. all * product x) (sym (lens_from ds ids k lt)))
    ∙ so_far

pub product_done : (ds : List ℕ) (ids : List ℕ) (k all m total : ℕ) → length ids ≤ k → all ≤ m → min (all * product (lens ds (drop k ids))) m ≡ total → all ≡ total
product_done ds ids k all m total le small so_far =
    let e : drop k ids ≡ [] = drop_all k ids le in
    let f : min (all * product (lens ds [])) m ≡ total = subst (λ x. min (all * product (lens ds x)) m ≡ total) e so_far in omega (arith, f, small)

pub offset_goes : (ds : List ℕ) (ids at : List ℕ) (k all len next mid m total : ℕ) → k < length ids → k < length at → len ≡ len_at ds (get_or ids k 0) → mid ≡ min (all * len) m → next ≡ min (mid + get_or at k 0) m
    → min (horner all (lens ds (drop k ids)) (drop k at)) m ≡ total → min (horner next (lens ds (drop (k + 1) ids)) (drop (k + 1) at)) m ≡ total
offset_goes ds ids at k all len next mid m total lt lt' is mid-is next-is so_far =
    let rest : List ℕ = lens ds (drop (k + 1) ids) in
    let over : List ℕ = drop (k + 1) at in
    let one : next ≡ min (all * len + get_or at k 0) m = omega (arith, mid-is, next-is) in
    let heads : drop k at ≡ get_or at k 0 ∷ over = rw (add-one, drop-cons at k 0 lt') refl in
    ap (λ x. min (horner x rest over) m) one ∙ horner-sat (all * len + get_or at k 0) rest over m
    ∙ ap (λ x. min (horner (all * x + get_or at k 0) rest over) m) is
    ∙ sym (ap (λ x. min (horner all x (drop k at)) m) (lens_from ds ids k lt) ∙ ap (λ x. min (horner all (len_at ds (get_or ids k 0) ∷ rest) x) m) heads)
    ∙ so_far

pub offset_done : (ds : List ℕ) (ids at : List ℕ) (k all m total : ℕ) → length ids ≤ k → all ≤ m → min (horner all (lens ds (drop k ids)) (drop k at)) m ≡ total → all ≡ total
offset_done ds ids at k all m total le small so_far =
    let e : drop k ids ≡ [] = drop_all k ids le in
    let f : min (horner all (lens ds []) (drop k at)) m ≡ total = subst (λ x. min (horner all (lens ds x) (drop k at)) m ≡ total) e so_far in omega (arith, f, small)

pub offset_starts : (ds : List ℕ) (ids at : List ℕ) (m : ℕ) → length ids ≡ length at → min (horner 0 (lens ds ids) at) m ≡ min (offset (lens ds ids) at) m
offset_starts ds ids at m e = ap (λ x. min x m) (horner-is 0 (lens ds ids) at (length-map ids (len_at ds) ∙ e) ∙ omega arith)

-- ---- the bytes of a record

pub one_record : (ds : List ℕ) (vs rest : List Var) (count plain m : ℕ) → rest ≡ [] → count ≡ 1 → plain ≤ m
    → min (count + record_count ds rest) (2 ^ 64 - 1) ≡ min (record_count ds vs) (2 ^ 64 - 1) → min (plain + plain_sum ds rest) m ≡ min (plain_sum ds vs) m → plain ≡ min (recsize ds vs) m
one_record ds vs rest count plain m none is small counted summed =
    let c : min (count + 0) (2 ^ 64 - 1) ≡ min (record_count ds vs) (2 ^ 64 - 1) = subst (λ x. min (count + record_count ds x) (2 ^ 64 - 1) ≡ min (record_count ds vs) (2 ^ 64 - 1)) none counted in
    let s : min (plain + 0) m ≡ min (plain_sum ds vs) m = subst (λ x. min (plain + plain_sum ds x) m ≡ min (plain_sum ds vs) m) none summed in
    let one : eqb (record_count ds vs) 1 ≡ true = eq-eqb _ _ (omega (arith, c, is)) in
    let r : recsize ds vs ≡ plain_sum ds vs = ap (λ b. cond b (plain_sum ds vs) (padded_sum ds vs)) one in
    omega (arith, s, small, r)

pub more_records : (ds : List ℕ) (vs rest : List Var) (count all m : ℕ) → rest ≡ [] → (count ≡ 1 → ⊥) → all ≤ m
    → min (count + record_count ds rest) (2 ^ 64 - 1) ≡ min (record_count ds vs) (2 ^ 64 - 1) → min (all + padded_sum ds rest) m ≡ min (padded_sum ds vs) m → all ≡ min (recsize ds vs) m
more_records ds vs rest count all m none isnt small counted summed =
    let c : min (count + 0) (2 ^ 64 - 1) ≡ min (record_count ds vs) (2 ^ 64 - 1) = subst (λ x. min (count + record_count ds x) (2 ^ 64 - 1) ≡ min (record_count ds vs) (2 ^ 64 - 1)) none counted in
    let s : min (all + 0) m ≡ min (padded_sum ds vs) m = subst (λ x. min (all + padded_sum ds x) m ≡ min (padded_sum ds vs) m) none summed in
    let other : eqb (record_count ds vs) 1 ≡ false = ne_eqb _ _ (λ e. isnt (omega (arith, c, e))) in
    let r : recsize ds vs ≡ padded_sum ds vs = ap (λ b. cond b (plain_sum ds vs) (padded_sum ds vs)) other in
    omega (arith, s, small, r)

pub place_sat : (r size bytes begin off bytes' here here' off' scaled result m : ℕ) → bytes' ≡ min bytes m → off' ≡ min off m → here ≡ min (r * bytes') m → here' ≡ min (here + begin) m
    → scaled ≡ min (off' * size) m → result ≡ min (here' + scaled) m → result ≡ min (r * bytes + begin + off * size) m
place_sat r size bytes begin off bytes' here here' off' scaled result m b o h h' s e =
    let one : min (off' * size) m ≡ min (off * size) m = ap (λ x. min (x * size) m) o ∙ saturating_product off size m in
    let two : min (r * bytes') m ≡ min (r * bytes) m = ap (λ x. min x m) (mul_comm r bytes' ∙ ap (λ x. x * r) b) ∙ saturating_product bytes r m ∙ ap (λ x. min x m) (mul_comm bytes r) in
    omega (arith, one, two, h, h', s, e)

inner_is : (is : List ℕ) → inner is ≡ drop 1 is
inner_is [] = refl
inner_is (i ∷ is) = refl

pub place_record : (ds : List ℕ) (vs : List Var) (v : Var) (at : List ℕ) → 1 ≤ length at → is_record ds v ≡ true
    → place_of ds vs v at ≡ get_or at 0 0 * recsize ds vs + v.begin + offset (lens ds (drop 1 v.ids)) (drop 1 at) * type_size v.kind
place_record ds vs v [] le e = absurd (omega (arith, le))
place_record ds vs v (r ∷ at) le e =
    ap (λ b. cond b (r * recsize ds vs + v.begin + offset (lens ds (inner v.ids)) at * type_size v.kind) (offset (lens ds v.ids) (r ∷ at) * type_size v.kind + v.begin)) e
    ∙ ap (λ is. r * recsize ds vs + v.begin + offset (lens ds is) at * type_size v.kind) (inner_is v.ids)

pub rest_is : (xs : List ℕ) → take (length xs - 1) (drop 1 xs) ≡ drop 1 xs
rest_is xs = take_all (length xs - 1) (drop 1 xs) (omega (arith, length-drop 1 xs))
