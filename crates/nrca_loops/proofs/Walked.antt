-- The numbers of an index as variables, and the index at a place.
use Rattle.std.specs.Prelude.{◌≡◌, ℕ, zero, suc, ◌+◌, ◌*◌, ◌/◌, ◌%◌, ◌<◌, cond, List, [], ◌∷◌, ◌++◌, length, drop, Some, None, refl}
use Rattle.std.specs.Option.{option_map}
use Rattle.std.specs.List.{slice_get}
use Rattle.std.proofs.Common.{ap, sym, ◌∙◌, subst, arith, get_or}
use Rattle.std.proofs.Math.ListN.{set}
use Rattle.std.proofs.Math.Nat.{zero-mul, suc-mul}
use Rattle.std.proofs.Math.Seq.{drop-cons}
use Rattle.std.proofs.lemmas.Nat.{div-add-mod'}
use Rattle.std.proofs.lemmas.Bool.{lt-ltb}
use Rattle.aql_value.specs.Datum.{Datum, natural}
use Rattle.aql_value.specs.Indices.{product, indices, offset_of}
use Rattle.aql_value.specs.Operations.{push_index}
use Rattle.aql_value.specs.Laws.RowMajor.{row_major}
use Rattle.nrca_term.specs.Laws.Lets.{walked-append, walked-past}

walked_at : (at : List ℕ) (l : List Datum) (i k n : ℕ) → k + suc i ≡ length at → slice_get at k ≡ Some n → slice_get (push_index at l) i ≡ Some (natural n)
walked_at [] l i k n h e = absurd (omega (arith, h))
walked_at (x ∷ at) l i zero n h e =
    let z : i ≡ length at + 0 = omega (arith, h) in
    ap (slice_get (push_index at (natural x ∷ l))) z ∙ walked-past at (natural x ∷ l) 0 ∙ (let y : x ≡ n = cc in ap (λ m. Some (natural m)) y)
walked_at (x ∷ at) l i (suc k) n h e = walked_at at (natural x ∷ l) i k n (omega (arith, h)) e

-- a variable that is a number of the index
pub index_variable : (at : List ℕ) (vs : List Datum) (i k n : ℕ) → k + suc i ≡ length at → slice_get at k ≡ Some n → slice_get (push_index at [] ++ vs) i ≡ Some (natural n)
index_variable at vs i k n h e = ap (λ l. slice_get l i) (walked-append at [] vs) ∙ walked_at at vs i k n h e

-- a variable beyond the index
pub beyond_index : (at : List ℕ) (vs : List Datum) (i j : ℕ) → i ≡ length at + j → slice_get (push_index at [] ++ vs) i ≡ slice_get vs j
beyond_index at vs i j h = ap (λ l. slice_get l i) (walked-append at [] vs) ∙ ap (slice_get (push_index at vs)) h ∙ walked-past at vs j

-- each dimension is more than 0 where there is a place
pub dimension_some : (ds : List ℕ) (j p : ℕ) → j < length ds → p < product ds → 0 < get_or ds j 0
dimension_some [] j p h k = absurd (omega (arith, h))
dimension_some (zero ∷ ds) zero p h k = absurd (omega (arith, k, zero-mul (product ds)))
dimension_some (suc d ∷ ds) zero p h k = omega arith
dimension_some (d ∷ ds) (suc j) p h k = go (product ds) refl (dimension_some ds j 0 (omega (arith, h)))
  where
    go : (n : ℕ) → product ds ≡ n → (0 < product ds → 0 < get_or ds j 0) → 0 < get_or ds j 0
    go zero e f = absurd (omega (arith, k, ap (λ n. d * n) e))
    go (suc n) e f = f (omega (arith, e))

drop_put : (l : List ℕ) (j x : ℕ) → j < length l → drop j (set l j x) ≡ x ∷ drop (suc j) l
drop_put [] j x h = absurd (omega (arith, h))
drop_put (y ∷ l) zero x h = refl
drop_put (y ∷ l) (suc j) x h = drop_put l j x (omega (arith, h))

-- the numbers from m on are the index of what the numbers before leave of a place
abbrev pub Reached : List ℕ → List ℕ → ℕ → ℕ → ℕ → Type 0
Reached dims at m place rest = (q : ℕ) × (offset_of (drop m dims) (drop m at) ≡ Some q) × (place ≡ rest * product (drop m dims) + q)

divided : (r d n q : ℕ) → r * n + q ≡ r / d * (d * n) + (r % d * n + q)
divided r d n q = ap (λ m. m * n + q) (sym (div-add-mod' r d)) ∙ omega arith

reached_before : (dims at : List ℕ) (j place rest : ℕ) → j < length dims → length at ≡ length dims → 0 < get_or dims j 0 → Reached dims at (suc j) place rest →
    Reached dims (set at j (rest % get_or dims j 0)) j place (rest / get_or dims j 0)
reached_before dims at j place rest h l z r =
    let d = get_or dims j 0 in
    let x = rest % d in
    let below : x < d = omega (arith, z) in
    let dd = drop-cons dims j 0 h in
    let da = drop_put at j x (omega (arith, h, l)) in (
      x * product (drop (suc j) dims) + r.0,
      (λ i. offset_of (dd i) (da i))
          ∙ ap (λ b. cond b (option_map (λ p. x * product (drop (suc j) dims) + p) (offset_of (drop (suc j) dims) (drop (suc j) at))) None) (lt-ltb x d below)
          ∙ ap (option_map (λ p. x * product (drop (suc j) dims) + p)) r.1,
      r.2 ∙ divided rest d (product (drop (suc j) dims)) r.0 ∙ sym (ap (λ s. rest / d * product s + (x * product (drop (suc j) dims) + r.0)) dd),
    )

pub reached_next : (dims at : List ℕ) (j m n place rest : ℕ) → m ≡ suc j → n ≡ j → j < length dims → length at ≡ length dims → 0 < get_or dims j 0 → Reached dims at m place rest →
    Reached dims (set at j (rest % get_or dims j 0)) n place (rest / get_or dims j 0)
reached_next dims at j m n place rest em en h l z r =
    subst (λ k. Reached dims (set at j (rest % get_or dims j 0)) k place (rest / get_or dims j 0)) (sym en)
    (reached_before dims at j place rest h l z (subst (λ k. Reached dims at k place rest) em r))

-- all numbers are the index of the place
pub reached_all : (dims at : List ℕ) (m place rest : ℕ) → m ≡ 0 → place < product dims → Reached dims at m place rest → slice_get (indices dims) place ≡ Some at
reached_all dims at m place rest e h r = go rest (subst (λ k. Reached dims at k place rest) e r)
  where
    go : (rest : ℕ) → Reached dims at 0 place rest → slice_get (indices dims) place ≡ Some at
    go zero s = row_major dims at place (s.1 ∙ (let q : s.0 ≡ place = omega (arith, s.2, zero-mul (product dims)) in ap Some q))
    go (suc n) s = absurd (omega (arith, h, s.2, suc-mul n (product dims)))
