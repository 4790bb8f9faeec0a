-- The code's balanced union.
use Rattle.std.proofs.Common.{◌≡◌, ◌≤◌, ℕ, zero, suc, ◌+◌, ◌-◌, ◌/◌, List, [], ◌∷◌, length, map, take, drop, refl, sym, ap, ◌∙◌, arith}
use Rattle.std.proofs.lemmas.List.{length-map, take-map, drop-map, drop-drop, drop-take}
use Rattle.nrca_term.specs.Term.{Term}
use Rattle.nrca_term.specs.Nodes.{union_term}
use Rattle.nrca_term.specs.View.{term_of}
use Rattle.nrca_term.specs.declared.term.Core.{Core}
use Rattle.aql_desugar_spec.specs.Start.{balanced_union}
use Rattle.aql_desugar_spec.specs.Laws.Unions.{length-taken, length-dropped, halves}

-- any number that is enough
united-same : (n m : ℕ) (ts : List Term) → length ts ≤ n → length ts ≤ m → balanced_union n ts ≡ balanced_union m ts
united-same zero zero ts h k = refl
united-same zero (suc m) [] h k = refl
united-same zero (suc m) (t ∷ ts) h k = absurd (omega arith)
united-same (suc n) zero [] h k = refl
united-same (suc n) zero (t ∷ ts) h k = absurd (omega arith)
united-same (suc n) (suc m) [] h k = refl
united-same (suc n) (suc m) (t ∷ []) h k = refl
united-same (suc n) (suc m) (t ∷ u ∷ ts) h k =
    let half = length (t ∷ u ∷ ts) / 2 in
    let a = halves n (length ts) h in
    let b = halves m (length ts) k in
    let e = length-taken half (t ∷ u ∷ ts) a.2 in
    let f = length-dropped half (t ∷ u ∷ ts) in
    let l = united-same n m (take half (t ∷ u ∷ ts)) (omega (arith, a.1)) (omega (arith, b.1)) in
    let r = united-same n m (drop half (t ∷ u ∷ ts)) (omega (arith, a.3)) (omega (arith, b.3)) in
    λ i. union_term (l i) (r i)

-- two terms or more, by their halves
pub united-halves : (ts : List Term) → 2 ≤ length ts →
    balanced_union (length ts) ts ≡ union_term (balanced_union (length ts / 2) (take (length ts / 2) ts)) (balanced_union (length ts - length ts / 2) (drop (length ts / 2) ts))
united-halves [] h = absurd (omega arith)
united-halves (t ∷ []) h = absurd (omega arith)
united-halves (t ∷ u ∷ ts) h =
    let n = length (t ∷ u ∷ ts) in
    let half = length (t ∷ u ∷ ts) / 2 in
    let a = halves (suc (length ts)) (length ts) (omega arith) in
    let e = length-taken half (t ∷ u ∷ ts) a.2 in
    let f = length-dropped half (t ∷ u ∷ ts) in
    let l = united-same (suc (length ts)) half (take half (t ∷ u ∷ ts)) (omega (arith, a.1)) (omega arith) in
    let r = united-same (suc (length ts)) (n - half) (drop half (t ∷ u ∷ ts)) (omega (arith, a.3)) (omega arith) in
    λ i. union_term (l i) (r i)

-- the last terms of a list, by their halves
pub last_halves : (xs : List Core) (count : ℕ) → count ≤ length xs → 2 ≤ count →
    balanced_union count (map term_of (drop (length xs - count) xs))
    ≡ union_term (balanced_union (count / 2) (map term_of (drop (length xs - count) (take (length xs - (count - count / 2)) xs))))
    (balanced_union (count - count / 2) (map term_of (drop (length xs - (count - count / 2)) xs)))
last_halves xs count l h =
    let ts = map term_of (drop (length xs - count) xs) in
    let n : length ts ≡ count = length-map (drop (length xs - count) xs) term_of ∙ length-dropped (length xs - count) xs ∙ omega arith in
    let from : length xs - count + count / 2 ≡ length xs - (count - count / 2) = omega arith in
    ap (λ k. balanced_union k ts) (sym n) ∙ united-halves ts (omega arith) ∙ ap (λ k. union_term (balanced_union (k / 2) (take (k / 2) ts)) (balanced_union (k - k / 2) (drop (k / 2) ts))) n
    ∙ ap (λ s. union_term (balanced_union (count / 2) s) (balanced_union (count - count / 2) (drop (count / 2) ts)))
    (take-map term_of (count / 2) (drop (length xs - count) xs) ∙ ap (map term_of) (sym (drop-take (length xs - count) (count / 2) xs) ∙ ap (λ k. drop (length xs - count) (take k xs)) from))
    ∙ ap (λ s. union_term (balanced_union (count / 2) (map term_of (drop (length xs - count) (take (length xs - (count - count / 2)) xs)))) (balanced_union (count - count / 2) s))
    (drop-map term_of (count / 2) (drop (length xs - count) xs) ∙ ap (map term_of) (drop-drop (count / 2) (length xs - count) xs ∙ ap (λ k. drop k xs) from))

-- what is made of the halves, the right one first, is what is made of all
pub halves_made : (xs ys : List Core) (count half : ℕ) (left right t : Term) → count ≤ length xs → 2 ≤ count → half ≡ count / 2 →
    right ≡ balanced_union (count - half) (map term_of (drop (length xs - (count - half)) xs)) → ys ≡ take (length xs - (count - half)) xs →
    left ≡ balanced_union half (map term_of (drop (length ys - half) ys)) → t ≡ union_term left right →
    t ≡ balanced_union count (map term_of (drop (length xs - count) xs))
halves_made xs ys count half left right t l h e r y f g =
    let long : length ys ≡ length xs - (count - half) = ap length y ∙ length-taken (length xs - (count - half)) xs (omega arith) in
    let from : length ys - half ≡ length xs - count = omega (arith, e) in
    g ∙ ap (λ a. union_term a right) (f ∙ ap (λ k. balanced_union half (map term_of (drop k ys))) from ∙ ap (λ l. balanced_union half (map term_of (drop (length xs - count) l))) y)
    ∙ ap (union_term (balanced_union half (map term_of (drop (length xs - count) (take (length xs - (count - half)) xs))))) r
    ∙ ap (λ m. union_term (balanced_union m (map term_of (drop (length xs - count) (take (length xs - (count - m)) xs)))) (balanced_union (count - m) (map term_of (drop (length xs - (count - m)) xs)))) e
    ∙ sym (last_halves xs count l h)
