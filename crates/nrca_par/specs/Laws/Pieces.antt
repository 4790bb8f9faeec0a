-- Where the pieces begin and end.
use Rattle.std.proofs.Common.{◌≡◌, ℕ, zero, suc, min, ◌+◌, ◌*◌, ◌/◌, ◌<◌, ◌≤◌, List, [], ◌∷◌, length, get_or, refl, ◌∙◌, ap, arith, subst}
use Rattle.std.proofs.Math.Nat.{le-div_iff_mul-le, div-lt_iff_lt-mul, div-le_of_le-mul, mul-div_cancel_left, div-mul-le_self, lt-div-mul-add, add-mul, one-mul, zero-mul, div-eq_of_lt, mul-le-mul_right}
use denote.Param.Members.{Shared}
use Rattle.std.specs.Prelude.{Result, fold}
use Rattle.std.specs.List.{FoldsTo}
use Rattle.nrca_par.specs.declared.fault.EvalFault.{EvalFault}
use Rattle.nrca_par.specs.Pieces.{piece_start, Joins, SpentSomewhere, SpentOnRun}

module _ (n count j : ℕ) (some : 0 < count) where
  next_product : (j + 1) * n ≡ j * n + n
  next_product = add-mul j 1 n ∙ ap (λ x. j * n + x) (one-mul n)

  pub start_least : piece_start n count j + n / count ≤ piece_start n count (j + 1)
  start_least =
      let q = j * n / count in
      let p = n / count in
      (le-div_iff_mul-le some).1 (omega (arith, next_product, add-mul q p count, div-mul-le_self (j * n) count, div-mul-le_self n count))

  pub start_most : piece_start n count (j + 1) ≤ piece_start n count j + n / count + 1
  start_most =
      let q = j * n / count in
      let p = n / count in
      let lt : (j + 1) * n / count < q + p + 2 = (div-lt_iff_lt-mul some).1 (omega (arith, next_product, add-mul (q + p) 2 count, add-mul q p count, lt-div-mul-add {a = j * n} some, lt-div-mul-add {a = n} some)) in
      omega (arith, lt)

pub start_first : (n count : ℕ) → 0 < count → piece_start n count 0 ≡ 0
start_first n count some = ap (λ x. x / count) (zero-mul n) ∙ div-eq_of_lt some

pub start_last : (n count : ℕ) → 0 < count → piece_start n count count ≡ n
start_last n count some = mul-div_cancel_left n some

pub start_within : (n count j : ℕ) → 0 < count → j ≤ count → piece_start n count j ≤ n
start_within n count j some h = div-le_of_le-mul count (mul-le-mul_right n h)

-- where each piece holds a member
pub start_grows : (n count j : ℕ) → 0 < count → count ≤ n → piece_start n count j < piece_start n count (j + 1)
start_grows n count j some room =
    let one : 1 ≤ n / count = (le-div_iff_mul-le some).1 (omega (arith, one-mul count)) in
    omega (arith, start_least n count j some, one)

module _ {T : Type 0} (P : ℕ → ℕ → T → Type 0) (n count : ℕ) (some : 0 < count) where
  joins_from : (j : ℕ) (xs : List T) → j + length xs ≡ count
      → ((i : ℕ) (d : T) → i < length xs → P (piece_start n count (j + i)) (piece_start n count (j + i + 1)) (get_or xs i d))
      → Joins P (piece_start n count j) n xs
  joins_from j [] len each =
      let at : j ≡ count = omega (arith, len) in
      ap (λ k. piece_start n count k) at ∙ start_last n count some
  joins_from j (x ∷ xs) len each =
      let here : P (piece_start n count (j + 0)) (piece_start n count (j + 0 + 1)) x = each 0 x (omega arith) in
      let same : j + 0 ≡ j = omega arith in (
        piece_start n count (j + 1),
        omega (arith, start_least n count j some),
        start_within n count (j + 1) some (omega (arith, len)),
        rw same at here,
        joins_from (j + 1) xs (omega (arith, len)) (λ i d h.
            let there : P (piece_start n count (j + suc i)) (piece_start n count (j + suc i + 1)) (get_or xs i d) = each (suc i) d (omega (arith, h)) in
            let moved : j + suc i ≡ j + 1 + i = omega arith in
            rw moved at there),
      )

  -- the answers of all pieces join to an answer of the whole
  pub joins_pieces : (xs : List T) → length xs ≡ count
      → ((i : ℕ) (d : T) → i < length xs → P (piece_start n count i) (piece_start n count (i + 1)) (get_or xs i d))
      → Joins P 0 n xs
  joins_pieces xs len each =
      let from : Joins P (piece_start n count 0) n xs = joins_from 0 xs (omega (arith, len)) (λ i d h.
      let there = each i d h in
      let moved : i ≡ 0 + i = omega arith in
      let Q : ℕ → Type 0 = λ k. P (piece_start n count k) (piece_start n count (k + 1)) (get_or xs i d) in
      subst Q moved there) in
      let Q : ℕ → Type 0 = λ k. Joins P k n xs in
      subst Q (start_first n count some) from

-- the same for any number of members
pub joins_all : {T : Type 0} (P : ℕ → ℕ → T → Type 0) (n workers : ℕ) → 1 ≤ workers → (xs : List T) → length xs ≡ min n workers
    → ((i : ℕ) (d : T) → i < min n workers → P (piece_start n (min n workers) i) (piece_start n (min n workers) (i + 1)) (get_or xs i d))
    → Joins P 0 n xs
joins_all P zero workers some [] len each = refl
joins_all P zero workers some (x ∷ xs) len each = absurd (omega (arith, len))
joins_all P (suc n) workers some xs len each =
    joins_pieces P (suc n) (min (suc n) workers) (omega (arith, some)) xs len (λ i d h. each i d (omega (arith, len, h)))

-- a piece is a run of some members within them all
pub piece_runs : (n workers j : ℕ) → j < min n workers → (piece_start n (min n workers) j < piece_start n (min n workers) (j + 1)) × (piece_start n (min n workers) (j + 1) ≤ n)
piece_runs n workers j h =
    let some : 0 < min n workers = omega (arith, h) in
    (start_grows n (min n workers) j some (omega arith), start_within n (min n workers) (j + 1) some (omega (arith, h)))

module _ {F T : Type 0} (g : Shared F (ℕ × (ℕ × Unit {0})) (Result T EvalFault)) (f : F) where
  pub spent_on_run : (n workers : ℕ) → SpentSomewhere g f n (min n workers) → SpentOnRun g f n
  spent_on_run n workers s = let r = piece_runs n workers s.0 s.1 in (_, _, r.0, r.1, s.2)

-- the answers of the runs, taken in order by step, come to what H says of all members up to the last, where a step over the answer of a run leads from H at its begin to H at its end
pub joins_fold : {T M : Type 0} (P : ℕ → ℕ → T → Type 0) (step : M → T → M) (H : ℕ → M) (n : ℕ)
    → ((a b : ℕ) (x : T) → a ≤ b → b ≤ n → P a b x → step (H a) x ≡ H b)
    → (a : ℕ) (xs : List T) → Joins P a n xs → fold step (H a) xs ≡ H n
joins_fold P step H n one a [] j = ap H j
joins_fold P step H n one a (x ∷ xs) j =
    ap (λ m. fold step m xs) (one a j.0 x j.1 j.2 j.3) ∙ joins_fold P step H n one j.0 xs j.4

-- the same where a step may give one of several results, as a merge whose contract says what it gives: S b m says that m is an answer for the first b members
pub joins_folds : {T M : Type 0} (P : ℕ → ℕ → T → Type 0) (R : M → T → M → Type 0) (S : ℕ → M → Type 0) (n : ℕ)
    → ((a b : ℕ) (x : T) (m after : M) → a ≤ b → b ≤ n → P a b x → S a m → R m x after → S b after)
    → (a : ℕ) (xs : List T) (m last : M) → S a m → Joins P a n xs → FoldsTo R m xs last → S n last
joins_folds P R S n one a [] m last s j f = subst (λ b. S b last) j (subst (S a) f s)
joins_folds P R S n one a (x ∷ xs) m last s j f =
    joins_folds P R S n one j.0 xs f.0 last (one a j.0 x m f.0 j.1 j.2 j.3 s f.1) j.4 f.2
