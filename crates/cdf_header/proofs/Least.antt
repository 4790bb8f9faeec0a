-- Variables one after the other: the least begin, the first of a name, and records past the file.
use Rattle.std.proofs.Common.{◌≡◌, ℕ, zero, suc, ◌+◌, ◌-◌, ◌/◌, ◌<◌, ◌≤◌, min, Bool, true, false, cond, inl, inr, List, [], ◌∷◌, length, drop, map, get_or, Option, Some, None, refl, sym, ap, ◌∙◌, arith, add-one, drop-cons, eqb}
use Rattle.std.proofs.lemmas.Bool.{cases_lt, ne_eqb}
use Rattle.cdf_header.specs.declared.header.Variable.{Variable}
use Rattle.std.specs.Prelude.{nat_eq}
use Rattle.std.specs.Cmp.Lexicographic.{pointwise}
use Rattle.std.proofs.lemmas.List.{drop_all}
use Rattle.std.proofs.Math.Nat.{div-eq_of_lt}
use Rattle.cdf_header.specs.Header.{Var, Head, var}
use Rattle.std.specs.List.{position_from}
use Rattle.cdf_header.specs.Places.{find_from, find_in, nearer, least, whole_records, recsize, all_bits, records}

-- the begins found so far, and those of the rest
abbrev pub merged : Option ℕ → Option ℕ → Option ℕ
merged None rest = rest
merged (Some b) rest = Some (nearer b rest)

pub get_or_mapped : (f : ℕ → ℕ) (xs : List ℕ) (j : ℕ) → j < length xs → get_or (map f xs) j 0 ≡ f (get_or xs j 0)
get_or_mapped f [] j lt = absurd (omega (arith, lt))
get_or_mapped f (x ∷ xs) zero lt = refl
get_or_mapped f (x ∷ xs) (suc j) lt = get_or_mapped f xs j (omega (arith, lt))

quotient_sat : (x r m : ℕ) → x < m → cond (eqb (min r m) 0) 0 (x / min r m) ≡ cond (eqb r 0) 0 (x / r)
quotient_sat x r m lt =
    elim (cases_lt r m) [
      | inl small ↦ let e : min r m ≡ r = omega arith in ap (λ s. cond (eqb s 0) 0 (x / s)) e
      | inr large ↦
          let e : min r m ≡ m = omega arith in
          let a : eqb m 0 ≡ false = ne_eqb _ _ (λ z. omega (arith, z, lt)) in
          let b : eqb r 0 ≡ false = ne_eqb _ _ (λ z. omega (arith, z, lt, large)) in
          let past : x < r = omega (arith, lt, large) in
          ap (λ s. cond (eqb s 0) 0 (x / s)) e ∙ ap (λ t. cond t 0 (x / m)) a ∙ div-eq_of_lt lt ∙ sym (ap (λ t. cond t 0 (x / r)) b ∙ div-eq_of_lt past)
    ]

-- a record size that stopped past the file's size gives the same number of records
streamed_sat : (bytes r m : ℕ) (begin : Option ℕ) → bytes < m → whole_records bytes (min r m) begin ≡ whole_records bytes r begin
streamed_sat bytes r m None lt = refl
streamed_sat bytes r m (Some begin) lt = quotient_sat (bytes - begin) r m (omega (arith, lt))

pub records_streamed : (h : Head) (size : ℕ) (begin : Option ℕ) (m result : ℕ) → nat_eq h.numrecs (all_bits h.version) ≡ true → h.bytes < m
    → size ≡ min (recsize h.dims h.vars) m → begin ≡ least h.dims h.vars → result ≡ whole_records h.bytes size begin → result ≡ records h
records_streamed h size begin m result all small size-is begin-is result-is =
    result-is ∙ ap (λ s. whole_records h.bytes s begin) size-is ∙ ap (λ b. whole_records h.bytes (min (recsize h.dims h.vars) m) b) begin-is
    ∙ streamed_sat h.bytes (recsize h.dims h.vars) m (least h.dims h.vars) small
    ∙ sym (ap (λ t. cond t (whole_records h.bytes (recsize h.dims h.vars) (least h.dims h.vars)) h.numrecs) all)

-- the search from the variable at i on: this one, or the search behind it
from_here : (P : Var → Bool) (vs : List Variable) (i : ℕ) (v : Variable) → i < length vs → v ≡ get_or vs i v
    → position_from P i (map var (drop i vs)) ≡ cond (P (var v)) (Some i) (position_from P (i + 1) (map var (drop (i + 1) vs)))
from_here P vs i v lt is =
    let e : drop i vs ≡ v ∷ drop (i + 1) vs = (rw (add-one, drop-cons vs i v lt) (ap (λ x. x ∷ drop (suc i) vs) (sym is))) in
    ap (λ xs. position_from P i (map var xs)) e

-- the variable at i has the name
pub name_found : (vs : List Variable) (name text : List ℕ) (i : ℕ) (v : Variable) (same : Bool) → i < length vs → v ≡ get_or vs i v → text ≡ v.name.items
    → same ≡ pointwise eqb text name → same ≡ true → find_in (map var vs) name ≡ find_from i (map var (drop i vs)) name → Some i ≡ find_in (map var vs) name
name_found vs name text i v same lt is text-is same-is equal so_far =
    let P : Var → Bool = λ u. pointwise eqb u.name name in
    let here : P (var v) ≡ true = ap (λ x. pointwise eqb x name) (sym text-is) ∙ sym same-is ∙ equal in
    sym (so_far ∙ from_here P vs i v lt is ∙ ap (λ b. cond b (Some i) (position_from P (i + 1) (map var (drop (i + 1) vs)))) here)

-- it has another
pub name_missed : (vs : List Variable) (name text : List ℕ) (i : ℕ) (v : Variable) (same : Bool) → i < length vs → v ≡ get_or vs i v → text ≡ v.name.items
    → same ≡ pointwise eqb text name → same ≡ false → find_in (map var vs) name ≡ find_from i (map var (drop i vs)) name
    → find_in (map var vs) name ≡ find_from (i + 1) (map var (drop (i + 1) vs)) name
name_missed vs name text i v same lt is text-is same-is unequal so_far =
    let P : Var → Bool = λ u. pointwise eqb u.name name in
    let here : P (var v) ≡ false = ap (λ x. pointwise eqb x name) (sym text-is) ∙ sym same-is ∙ unequal in
    so_far ∙ from_here P vs i v lt is ∙ ap (λ b. cond b (Some i) (position_from P (i + 1) (map var (drop (i + 1) vs)))) here

-- no variable has the name
pub none_named : (vs : List Variable) (name : List ℕ) (i : ℕ) → length vs ≤ i → find_in (map var vs) name ≡ find_from i (map var (drop i vs)) name → None ≡ find_in (map var vs) name
none_named vs name i le so_far = sym (so_far ∙ ap (λ xs. find_from i (map var xs) name) (drop_all i vs le))
