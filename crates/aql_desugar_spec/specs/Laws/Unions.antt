-- The balanced union of sets of one member each.
use Rattle.std.proofs.Common.{◌≡◌, ◌≤◌, ℕ, zero, suc, ◌+◌, ◌-◌, ◌*◌, ◌/◌, List, [], ◌∷◌, ◌++◌, length, take, drop, Some, refl, ap, ◌∙◌, arith}
use Rattle.aql_value.specs.Datum.{Datum}
use Rattle.aql_value.specs.Operations.{set_of}
use Rattle.aql_value.specs.Laws.Operations.{set_of-append}
use Rattle.aql_value.specs.Partial.{◌>>=◌, each, total}
use Rattle.aql_value.specs.Laws.Partial.{total-split}
use Rattle.aql_value.specs.Strict.{Strict, strict_value}
use Rattle.nrca_term.specs.Term.{Term, weight_of}
use Rattle.nrca_term.specs.Meaning.{Outcomes, cden}
use Rattle.nrca_term.specs.Turns.{settle}
use Rattle.aql_desugar_spec.specs.Start.{balanced_union}
use Rattle.aql_desugar_spec.specs.Laws.Nodes.{one-worth, two-worth, one_head}

pub split_at : {A : Type 0} (n : ℕ) (xs : List A) → take n xs ++ drop n xs ≡ xs
split_at zero xs = refl
split_at (suc n) [] = refl
split_at (suc n) (x ∷ xs) = ap (λ ys. x ∷ ys) (split_at n xs)

pub length-taken : {A : Type 0} (n : ℕ) (xs : List A) → n ≤ length xs → length (take n xs) ≡ n
length-taken zero xs h = refl
length-taken (suc n) [] h = absurd (omega arith)
length-taken (suc n) (x ∷ xs) h = ap suc (length-taken n xs (omega arith))

pub length-dropped : {A : Type 0} (n : ℕ) (xs : List A) → length (drop n xs) ≡ length xs - n
length-dropped zero xs = omega arith
length-dropped (suc n) [] = omega arith
length-dropped (suc n) (x ∷ xs) = let e = length-dropped n xs in omega arith

-- each half of two terms or more has one or more, and fewer than all
pub halves : (n m : ℕ) → suc (suc m) ≤ suc n → (1 ≤ suc (suc m) / 2) × (suc (suc m) / 2 ≤ n) × (suc (suc m) / 2 ≤ suc (suc m)) × (suc (suc m) - suc (suc m) / 2 ≤ n)
halves n m h = (omega arith, omega arith, omega arith, omega arith)

pub cden-united : (V : Outcomes) (vals : List Datum) (n : ℕ) (ts : List Term) → length ts ≤ n →
    cden V vals (balanced_union n ts) ≡ (each (cden V vals) ts >>= λ ws. Some (set_of ws))
cden-united V vals zero [] h = refl
cden-united V vals zero (t ∷ ts) h = absurd (omega arith)
cden-united V vals (suc n) [] h = refl
cden-united V vals (suc n) (t ∷ []) h = one-worth (strict_value Strict.single) refl ∙ one_head (cden V vals t)
cden-united V vals (suc n) (t ∷ u ∷ ts) h =
    let k = length (t ∷ u ∷ ts) / 2 in
    let b = halves n (length ts) h in
    two-worth (strict_value Strict.union)
    (cden-united V vals n (take k (t ∷ u ∷ ts)) (let e = length-taken k (t ∷ u ∷ ts) b.2 in omega (arith, b.1)))
    (cden-united V vals n (drop k (t ∷ u ∷ ts)) (let e = length-dropped k (t ∷ u ∷ ts) in omega (arith, b.3)))
    ∙ set_of-append (cden V vals) (take k (t ∷ u ∷ ts)) (drop k (t ∷ u ∷ ts))
    ∙ ap (λ l. each (cden V vals) l >>= λ ws. Some (set_of ws)) (split_at k (t ∷ u ∷ ts))

pub settle-united : (V : Outcomes) (vals : List Datum) (n : ℕ) (ts : List Term) → length ts ≤ n → settle V vals (balanced_union n ts) ≡ total (settle V vals) ts
settle-united V vals zero [] h = refl
settle-united V vals zero (t ∷ ts) h = absurd (omega arith)
settle-united V vals (suc n) [] h = refl
settle-united V vals (suc n) (t ∷ []) h = omega arith
settle-united V vals (suc n) (t ∷ u ∷ ts) h =
    let k = length (t ∷ u ∷ ts) / 2 in
    let b = halves n (length ts) h in
    let l = settle-united V vals n (take k (t ∷ u ∷ ts)) (let e = length-taken k (t ∷ u ∷ ts) b.2 in omega (arith, b.1)) in
    let r = settle-united V vals n (drop k (t ∷ u ∷ ts)) (let e = length-dropped k (t ∷ u ∷ ts) in omega (arith, b.3)) in
    let s = total-split (settle V vals) k (t ∷ u ∷ ts) in
    (let z : 0 + ((settle V vals (balanced_union n (take k (t ∷ u ∷ ts))) + 0) + ((settle V vals (balanced_union n (drop k (t ∷ u ∷ ts))) + 0) + 0)) ≡ total (settle V vals) (take k (t ∷ u ∷ ts)) + total (settle V vals) (drop k (t ∷ u ∷ ts)) = omega arith in z ∙ s)

pub weight-united : (n : ℕ) (ts : List Term) → length ts ≤ n → 1 ≤ length ts → weight_of (balanced_union n ts) + 1 ≤ total weight_of ts + 2 * length ts
weight-united zero ts h i = absurd (omega arith)
weight-united (suc n) [] h i = absurd (omega arith)
weight-united (suc n) (t ∷ []) h i = omega arith
weight-united (suc n) (t ∷ u ∷ ts) h i =
    let k = length (t ∷ u ∷ ts) / 2 in
    let b = halves n (length ts) h in
    let e = length-taken k (t ∷ u ∷ ts) b.2 in
    let f = length-dropped k (t ∷ u ∷ ts) in
    let l = weight-united n (take k (t ∷ u ∷ ts)) (omega (arith, b.1)) (omega (arith, b.0)) in
    let r = weight-united n (drop k (t ∷ u ∷ ts)) (omega (arith, b.3)) (omega (arith, b.0, b.2)) in
    let s = total-split weight_of k (t ∷ u ∷ ts) in
    omega (arith, b.0, b.2)
