-- What the test of a literal and the indices of its cells are worth.
use Rattle.std.proofs.Common.{◌≡◌, ◌⊎◌, ℕ, zero, suc, ◌+◌, ◌*◌, ◌/◌, ◌%◌, ◌<◌, ◌≤◌, ◌^◌, Bool, true, false, nat_eq, nat_le, nat_lt, ◌||◌, cond, List, [], ◌∷◌, length, map, Option, Some, None, refl, sym, ap, subst, ◌∙◌, if◌then◌else◌, arith, inl, inr}
use Rattle.std.proofs.Math.Arith.{mod-mul}
use Rattle.std.proofs.Math.Nat.{mod-lt, mod-eq_of_lt, zero-mul, mul-suc, mul_assoc}
use Rattle.std.proofs.lemmas.Bool.{lt-ltb, ltb-false}
use Rattle.std.proofs.lemmas.Option.{slice_get_within}
use Rattle.std.specs.List.{slice_get}
use Rattle.std.specs.Option.{option_map}
use Rattle.aql_value.specs.declared.ops.ArithOp.TheVariants.{Mul}
use Rattle.aql_value.specs.declared.ops.CompareOp.TheVariants as compare_op
use Rattle.aql_value.specs.Datum.{Datum, natural, truth}
use Rattle.aql_value.specs.Indices.{indices, product, offset_of}
use Rattle.aql_value.specs.Laws.Indices.{length_indices}
use Rattle.aql_value.specs.Lists.{Every}
use Rattle.aql_value.specs.Operations.{as_truth, push_index}
use Rattle.aql_value.specs.Laws.Operations.{equal-naturals}
use Rattle.aql_value.specs.Partial.{◌>>=◌, each}
use Rattle.aql_value.specs.Laws.RowMajor.{row_major}
use Rattle.aql_value.specs.Strict.{Strict, strict_value}
use Rattle.nrca_term.specs.Term.{Term}
use Rattle.nrca_term.specs.Nodes.{number, truth_term, arith_term}
use Rattle.nrca_term.specs.Meaning.{Outcomes, cden}
use Rattle.nrca_term.specs.Rules.{index_variables}
use Rattle.nrca_graph.specs.ArrayFree.{equal_term, times, product_term, where_zero, is_filled}
use Rattle.nrca_term.specs.Laws.Lets.{walked-past}

-- the terms have these numbers
abbrev pub NumbersAre : Outcomes → List Datum → List Term → List ℕ → Type 0
NumbersAre W env [] [] = Unit {0}
NumbersAre W env [] (n ∷ ns) = ⊥
NumbersAre W env (t ∷ ts) [] = ⊥
NumbersAre W env (t ∷ ts) (n ∷ ns) = (cden W env t ≡ Some (natural n)) × NumbersAre W env ts ns

-- so do the variables of an index
pub variables-are : (W : Outcomes) (ns : List ℕ) (l : List Datum) → NumbersAre W (push_index ns l) (index_variables (length ns)) ns
variables-are W [] l = tt
variables-are W (n ∷ ns) l = ((let z : length ns ≡ length ns + 0 = omega arith in ap (slice_get (push_index ns (natural n ∷ l))) z) ∙ walked-past ns (natural n ∷ l) 0, variables-are W ns (natural n ∷ l))

-- terms that have these numbers, together
pub numbers-together : (W : Outcomes) (env : List Datum) (ts : List Term) (ns : List ℕ) → NumbersAre W env ts ns → each (cden W env) ts ≡ Some (map natural ns)
numbers-together W env [] [] h = refl
numbers-together W env [] (n ∷ ns) h = absurd h
numbers-together W env (t ∷ ts) [] h = absurd h
numbers-together W env (t ∷ ts) (n ∷ ns) h =
    ap (λ o. o >>= λ y. each (cden W env) ts >>= λ ys. Some (y ∷ ys)) h.0 ∙ ap (λ o. o >>= λ ys. Some (natural n ∷ ys)) (numbers-together W env ts ns h.1)

-- whether one of the numbers is 0
abbrev pub has_zero : List ℕ → Bool
has_zero [] = false
has_zero (n ∷ ns) = nat_eq n 0 || has_zero ns

-- the product is 0 then
zero-product : (ns : List ℕ) → has_zero ns ≡ true → product ns ≡ 0
zero-product [] h = cc
zero-product (zero ∷ ns) h = zero-mul (product ns)
zero-product (suc n ∷ ns) h =
    let z : nat_eq (suc n) 0 ≡ false = grind (arith) in
    ap (λ p. suc n * p) (zero-product ns (sym (ap (λ b. b || has_zero ns) z) ∙ h)) ∙ (let y : suc n * 0 ≡ 0 = omega arith in y)

-- and else each is 1 or more
some-each : (ns : List ℕ) → has_zero ns ≡ false → Every (λ n. 1 ≤ n) ns
some-each [] h = tt
some-each (zero ∷ ns) h = cc
some-each (suc n ∷ ns) h =
    let z : nat_eq (suc n) 0 ≡ false = grind (arith) in
    (omega arith, some-each ns (sym (ap (λ b. b || has_zero ns) z) ∙ h))

-- a product of numbers of 1 or more
pub some-product : (ns : List ℕ) → Every (λ n. 1 ≤ n) ns → 1 ≤ product ns
some-product [] h = omega arith
some-product (zero ∷ ns) h = absurd (omega (arith, h.0))
some-product (suc n ∷ ns) h = grind (arith, some-product ns h.1)

-- where a 0 is looked for first
where_zero-value : (W : Outcomes) (env : List Datum) (z t : Term) (ts : List Term) (ns : List ℕ) → NumbersAre W env ts ns → cden W env (where_zero ts z t) ≡ (if has_zero ns then cden W env z else cden W env t)
where_zero-value W env z t [] [] h = refl
where_zero-value W env z t [] (n ∷ ns) h = absurd h
where_zero-value W env z t (d ∷ ts) [] h = absurd h
where_zero-value W env z t (d ∷ ts) (n ∷ ns) h =
    ap (λ o. ((o >>= λ y. Some (y ∷ natural 0 ∷ [])) >>= strict_value (Strict.compare compare_op.Equal)) >>= as_truth >>= λ b. if b then cden W env z else cden W env (where_zero ts z t)) h.0
    ∙ ap (λ b. if b then cden W env z else cden W env (where_zero ts z t)) (equal-naturals n 0)
    ∙ ap (λ o. if nat_eq n 0 then cden W env z else o) (where_zero-value W env z t ts ns h.1)
    ∙ of (nat_eq n 0)
  where
    of : (b : Bool) → (if b then cden W env z else (if has_zero ns then cden W env z else cden W env t)) ≡ (if b || has_zero ns then cden W env z else cden W env t)
    of true = refl
    of false = refl

-- the number, or past 2^128-1 nothing
abbrev pub Reaches : Option Datum → ℕ → Type 0
Reaches o n = (o ≡ Some (natural n)) ⊎ ((o ≡ None) × (2 ^ 128 ≤ n))

-- one factor more
times-one : (W : Outcomes) (env : List Datum) (p d : Term) (a n : ℕ) → 1 ≤ n → Reaches (cden W env p) a → cden W env d ≡ Some (natural n) → Reaches (cden W env (arith_term Mul p d)) (a * n)
times-one W env p d a n l (inl e) h = of (nat_lt (a * n) (2 ^ 128)) refl
  where
    made : cden W env (arith_term Mul p d) ≡ (cond (nat_lt (a * n) (2 ^ 128)) (Some (a * n)) None >>= λ k. Some (natural k))
    made = ap (λ o. (o >>= λ y. (cden W env d >>= λ z. Some (z ∷ [])) >>= λ ys. Some (y ∷ ys)) >>= strict_value (Strict.arith Mul)) e
        ∙ ap (λ o. ((o >>= λ z. Some (z ∷ [])) >>= λ ys. Some (natural a ∷ ys)) >>= strict_value (Strict.arith Mul)) h

    of : (b : Bool) → nat_lt (a * n) (2 ^ 128) ≡ b → Reaches (cden W env (arith_term Mul p d)) (a * n)
    of true k = inl (made ∙ ap (λ b. cond b (Some (a * n)) None >>= λ m. Some (natural m)) k)
    of false k = inr (made ∙ ap (λ b. cond b (Some (a * n)) None >>= λ m. Some (natural m)) k, ltb-false (a * n) (2 ^ 128) k)
times-one W env p d a n l (inr e) h =
    inr (ap (λ o. (o >>= λ y. (cden W env d >>= λ z. Some (z ∷ [])) >>= λ ys. Some (y ∷ ys)) >>= strict_value (Strict.arith Mul)) e.0, grown n l)
  where
    grown : (n : ℕ) → 1 ≤ n → 2 ^ 128 ≤ a * n
    grown zero k = absurd (omega (arith, k))
    grown (suc n) k = omega (arith, e.1, mul-suc a n)

-- further factors
times-value : (W : Outcomes) (env : List Datum) (p : Term) (a : ℕ) (ts : List Term) (ns : List ℕ) → Reaches (cden W env p) a → NumbersAre W env ts ns → Every (λ n. 1 ≤ n) ns →
    Reaches (cden W env (times p ts)) (a * product ns)
times-value W env p a [] [] r h s = let z : a ≡ a * 1 = omega arith in subst (Reaches (cden W env p)) z r
times-value W env p a [] (n ∷ ns) r h s = absurd h
times-value W env p a (t ∷ ts) [] r h s = absurd h
times-value W env p a (t ∷ ts) (n ∷ ns) r h s =
    subst (Reaches (cden W env (times (arith_term Mul p t) ts))) (mul_assoc a n (product ns))
    (times-value W env (arith_term Mul p t) (a * n) ts ns (times-one W env p t a n s.0 r h.0) h.1 s.1)

-- the product of dimensions of 1 or more
pub product-value : (W : Outcomes) (env : List Datum) (ts : List Term) (ns : List ℕ) → NumbersAre W env ts ns → Every (λ n. 1 ≤ n) ns → Reaches (cden W env (product_term ts)) (product ns)
product-value W env [] [] h s = inl refl
product-value W env [] (n ∷ ns) h s = absurd h
product-value W env (t ∷ ts) [] h s = absurd h
product-value W env (t ∷ ts) (n ∷ ns) h s = times-value W env t n ts ns (inl h.0) h.1 s.1

-- the test of a literal of n cells: whether the product of its dimensions is n, where it is undefined it is not
pub filled-value : (W : Outcomes) (env : List Datum) (ts : List Term) (ns : List ℕ) (n : ℕ) → n < 2 ^ 128 → NumbersAre W env ts ns →
    (cden W env (is_filled ts n) ≡ Some (truth (nat_eq (product ns) n))) ⊎ ((cden W env (is_filled ts n) ≡ None) × (nat_eq (product ns) n ≡ false))
filled-value W env ts ns n l h = of (has_zero ns) refl
  where
    looked : (b : Bool) → has_zero ns ≡ b → cden W env (is_filled ts n) ≡ (if b then Some (truth (nat_le n 0)) else cden W env (equal_term (product_term ts) (number n)))
    looked b e = where_zero-value W env (truth_term (nat_le n 0)) (equal_term (product_term ts) (number n)) ts ns h
        ∙ ap (λ c. if c then Some (truth (nat_le n 0)) else cden W env (equal_term (product_term ts) (number n))) e

    none-left : nat_le n 0 ≡ nat_eq 0 n
    none-left = grind (arith)

    compared : Reaches (cden W env (product_term ts)) (product ns) → (cden W env (equal_term (product_term ts) (number n)) ≡ Some (truth (nat_eq (product ns) n)))
        ⊎ ((cden W env (equal_term (product_term ts) (number n)) ≡ None) × (nat_eq (product ns) n ≡ false))
    compared (inl e) = inl (ap (λ o. (o >>= λ y. Some (y ∷ natural n ∷ [])) >>= strict_value (Strict.compare compare_op.Equal)) e ∙ ap (λ b. Some (truth b)) (equal-naturals (product ns) n))
    compared (inr e) =
        let large : n < product ns = omega (arith, e.1, l) in
        let z : nat_eq (product ns) n ≡ false = grind (arith, large) in
        inr (ap (λ o. (o >>= λ y. Some (y ∷ natural n ∷ [])) >>= strict_value (Strict.compare compare_op.Equal)) e.0, z)

    of : (b : Bool) → has_zero ns ≡ b → (cden W env (is_filled ts n) ≡ Some (truth (nat_eq (product ns) n))) ⊎ ((cden W env (is_filled ts n) ≡ None) × (nat_eq (product ns) n ≡ false))
    of true e = inl (looked true e ∙ ap (λ b. Some (truth b)) none-left ∙ ap (λ m. Some (truth (nat_eq m n))) (sym (zero-product ns e)))
    of false e = both (compared (product-value W env ts ns h (some-each ns e)))
      where
        both : (cden W env (equal_term (product_term ts) (number n)) ≡ Some (truth (nat_eq (product ns) n))) ⊎ ((cden W env (equal_term (product_term ts) (number n)) ≡ None) × (nat_eq (product ns) n ≡ false)) →
            (cden W env (is_filled ts n) ≡ Some (truth (nat_eq (product ns) n))) ⊎ ((cden W env (is_filled ts n) ≡ None) × (nat_eq (product ns) n ≡ false))
        both (inl k) = inl (looked false e ∙ k)
        both (inr k) = inr (looked false e ∙ k.0, k.1)

-- where there is a cell, each dimension is 1 or more
pub some-dimensions : (ns : List ℕ) → 1 ≤ product ns → Every (λ n. 1 ≤ n) ns
some-dimensions ns h = of (has_zero ns) refl
  where
    of : (b : Bool) → has_zero ns ≡ b → Every (λ n. 1 ≤ n) ns
    of true e = absurd (omega (arith, h, zero-product ns e))
    of false e = some-each ns e

-- the index at a place, by division
abbrev pub index_at : List ℕ → ℕ → List ℕ
index_at [] m = []
index_at (d ∷ ds) m = m / product ds % d ∷ index_at ds m

-- its place is what the cells leave of the place
index-place : (ds : List ℕ) (m : ℕ) → Every (λ d. 1 ≤ d) ds → offset_of ds (index_at ds m) ≡ Some (m % product ds)
index-place [] m h = ap Some (let z : 0 ≡ m % 1 = omega arith in z)
index-place (d ∷ ds) m h =
    let l : m / product ds % d < d = mod-lt (m / product ds) (omega (arith, h.0)) in
    ap (λ b. cond b (option_map (λ p. m / product ds % d * product ds + p) (offset_of ds (index_at ds m))) None) (lt-ltb (m / product ds % d) d l)
    ∙ ap (option_map (λ p. m / product ds % d * product ds + p)) (index-place ds m h.1)
    ∙ ap Some (sym (mod-mul m (omega (arith, h.0)) (omega (arith, some-product ds h.1))))

-- the index that stands at a place is the one by division
pub index-found : (ds : List ℕ) (m : ℕ) (at : List ℕ) → slice_get (indices ds) m ≡ Some at → at ≡ index_at ds m
index-found ds m at e =
    let l : m < product ds = omega (arith, length_indices ds, slice_get_within (indices ds) m at e) in
    let s = some-dimensions ds (omega (arith, l)) in
    let f = row_major ds (index_at ds m) m (index-place ds m s ∙ ap Some (mod-eq_of_lt l)) in
    cc
