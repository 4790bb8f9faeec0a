-- Extents that were found before.
use Rattle.std.proofs.Common.{ℕ, zero, suc, ◌≡◌, ◌+◌, ◌<◌, ◌≤◌, Option, Some, None, List, [], ◌∷◌, drop, length, set, get_or, replicate, refl, sym, ap, ◌∙◌, subst, arith, inl, inr, get_or-set_same, get_or-set_other, length-set}
use Rattle.std.proofs.lemmas.Bool.{cases_eq, cases_lt}
use Rattle.std.proofs.lemmas.List.{get_or_past}
use Rattle.std.proofs.Math.Seq.{drop-cons}
use Rattle.std.proofs.lemmas.Option.{same_Some}
use Rattle.aql_types.specs.declared.extent.Extent.{Extent}
use Rattle.aql_types.specs.Forms.{Form, at}
use Rattle.aql_types.specs.Steps.{IsFlat}
use Rattle.aql_types.specs.Extents.{end, nothing, beside, together, over, extent, kept_extent, IsMemo}
use Rattle.aql_types.proofs.Extents.{beside_some, same_beside}
use Rattle.aql_types.proofs.Reading.{known, rooms, exactly, extent_end}

pub no_room : (most : ℕ) (fs : List Form) (i left : ℕ) → left ≡ 0 → extent most left fs i ≡ None
unfolding extent
no_room most fs i left e = subst (λ m. extent most m fs i ≡ None) (sym e) refl

pub memo_hit : (most : ℕ) (es : List Extent) (fs : List Form) (i left : ℕ) → IsMemo most es fs → IsFlat fs → 0 < (kept_extent es (end fs i)).levels → (kept_extent es (end fs i)).levels ≤ left → extent most left fs i ≡ Some (kept_extent es (end fs i))
memo_hit most es fs i left h f p le =
    let e = end fs i in let k = kept_extent es e in
    sym (extent_end most left fs i f) ∙ rooms most k.levels left fs e k le (h e p)

pub memo_high : (most : ℕ) (es : List Extent) (fs : List Form) (i left : ℕ) → IsMemo most es fs → IsFlat fs → left < (kept_extent es (end fs i)).levels → extent most left fs i ≡ None
memo_high most es fs i left h f lt = go (extent most left fs i) refl
  where
    go : (o : Option Extent) → extent most left fs i ≡ o → o ≡ None
    go None q = refl
    go (Some k) q =
        let e = end fs i in let m = kept_extent es e in
        let x = rooms most left m.levels fs e k (omega (arith, lt)) (extent_end most left fs i f ∙ q) in
        let y : m.levels ≡ k.levels = ap (λ (z : Extent). z.levels) (same_Some _ _ (sym (h e (omega (arith, lt))) ∙ x)) in
        let z = (known most left fs i k q).few in
        let bad : ⊥ = omega (arith, lt, y, z) in absurd bad

-- what is found at the end of a node, is found at it
pub found_here : (most m : ℕ) (fs : List Form) (i left : ℕ) (o : Option Extent) → left ≡ suc m → over most (extent most m fs) (at fs (end fs i)) ≡ o → extent most left fs i ≡ o
unfolding extent
found_here most m fs i left o e h = subst (λ l. extent most l fs i ≡ o) (sym e) h

pub memo_put : (most : ℕ) (es : List Extent) (fs : List Form) (i m : ℕ) (x : Extent) → IsMemo most es fs → IsFlat fs → over most (extent most m fs) (at fs (end fs i)) ≡ Some x → IsMemo most (set es (end fs i) x) fs
memo_put most es fs i m x h f g k p = elim (cases_eq k (end fs i)) [
  | inl e ↦ elim (cases_lt (end fs i) (length es)) [
    | inl lt ↦
        subst (λ z. extent most (kept_extent (set es (end fs i) x) z).levels fs z ≡ Some (kept_extent (set es (end fs i) x) z)) (sym e)
        (subst (λ z. extent most z.levels fs (end fs i) ≡ Some z) (sym (get_or-set_same es (end fs i) x nothing lt)) own)
    | inr past ↦
        let z : kept_extent (set es (end fs i) x) k ≡ nothing = get_or_past (set es (end fs i) x) k nothing (omega (arith, e, past, length-set es (end fs i) x)) in
        let bad : ⊥ = omega (arith, p, ap (λ (y : Extent). y.levels) z) in absurd bad
  ]
  | inr ne ↦
      let e : kept_extent (set es (end fs i) x) k ≡ kept_extent es k = get_or-set_other es (end fs i) k x nothing ne in
      subst (λ z. extent most z.levels fs k ≡ Some z) (sym e) (h k (subst (λ (z : Extent). 0 < z.levels) e p))
]
  where
    own : extent most x.levels fs (end fs i) ≡ Some x
    own = exactly most (suc m) fs (end fs i) x (extent_end most (suc m) fs i f ∙ found_here most m fs i (suc m) (Some x) refl g)

copies : (n k : ℕ) → kept_extent (replicate n nothing) k ≡ nothing
copies zero k = refl
copies (suc n) zero = refl
copies (suc n) (suc k) = copies n k

-- nothing is kept at first
pub memo_empty : (most n : ℕ) (fs : List Form) → IsMemo most (replicate n nothing) fs
memo_empty most n fs k p = let bad : ⊥ = omega (arith, p, ap (λ (y : Extent). y.levels) (copies n k)) in absurd bad

-- Parts from the last on.

pub parts_next : (most : ℕ) (f : ℕ → Option Extent) (ps : List ℕ) (i j : ℕ) → j ≡ i + 1 → i < length ps → together most f (drop i ps) ≡ beside most (f (get_or ps i 0)) (together most f (drop j ps))
parts_next most f ps i j e lt = ap (together most f) (drop-cons ps i 0 lt ∙ ap (λ k. get_or ps i 0 ∷ drop k ps) (let z : suc i ≡ j = omega arith in z))

-- where some parts are not measured, all are not
pub parts_none : (most : ℕ) (f : ℕ → Option Extent) (ps : List ℕ) (i : ℕ) → together most f (drop i ps) ≡ None → together most f ps ≡ None
parts_none most f ps zero h = h
parts_none most f [] (suc i) h = h
parts_none most f (p ∷ ps) (suc i) h = same_beside most refl (parts_none most f ps i h) ∙ beside_none (f p)
  where
    beside_none : (x : Option Extent) → beside most x None ≡ None
    beside_none None = refl
    beside_none (Some a) = refl

pub parts_few : (most left : ℕ) (fs : List Form) (ps : List ℕ) (e : Extent) → together most (extent most left fs) ps ≡ Some e → e.levels ≤ left
parts_few most left fs [] e h = let l : 0 ≡ e.levels = ap (λ (z : Extent). z.levels) (same_Some _ _ h) in omega (arith, l)
parts_few most left fs (p ∷ ps) e h =
    let b = beside_some most (extent most left fs p) (together most (extent most left fs) ps) e h in
    let x = (known most left fs p b.one b.first).few in
    let y = parts_few most left fs ps b.other b.second in
    omega (arith, b.high, x, y)
