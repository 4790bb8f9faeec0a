-- Variables that are numbered in the order of their nodes have one node each.
use Rattle.std.proofs.Common.{ℕ, zero, suc, ◌≡◌, ◌+◌, ◌<◌, List, [], ◌∷◌, length, get_or, refl, sym, ap, ◌∙◌, subst, arith}
use Rattle.std.specs.List.{range_with_len}
use Rattle.aql_value.specs.Lists.{below}
use Rattle.aql_types.specs.Forms.{Form, at}
use Rattle.aql_types.specs.Forms as form
use Rattle.aql_types.specs.Trees.{AreHomes}
use Rattle.aql_types.specs.Ranges.{variables_in, homes_from, homes_of}

-- n variables from number b on, in nodes from number a on
record Homes (a b n : ℕ) (fs : List Form) : Type 0 where
  long : length (homes_from a fs) ≡ n
  stands : (x : ℕ) → x < n → (j : ℕ) × (get_or (homes_from a fs) x 0 ≡ a + j) × (j < length fs) × (at fs j ≡ form.var (b + x))
  only : (i y : ℕ) → i < length fs → at fs i ≡ form.var y → (x : ℕ) × (y ≡ b + x) × (x < n) × (get_or (homes_from a fs) x 0 ≡ a + i)

one_number : {x y : ℕ} → form.var x ≡ form.var y → x ≡ y
one_number e = cc

first_number : {x y : ℕ} {xs ys : List ℕ} → x ∷ xs ≡ y ∷ ys → x ≡ y
first_number e = cc

other_numbers : {x y : ℕ} {xs ys : List ℕ} → x ∷ xs ≡ y ∷ ys → xs ≡ ys
other_numbers e = cc

-- behind a node that is no variable
skipped : (a b n : ℕ) (f : Form) (fs : List Form) → homes_from a (f ∷ fs) ≡ homes_from (a + 1) fs → ((y : ℕ) → f ≡ form.var y → ⊥) → Homes (a + 1) b n fs → Homes a b n (f ∷ fs)
skipped a b n f fs e other h = record {
  long = ap length e ∙ h.long;
  stands = λ x lt.
      let s = h.stands x lt in
      (suc s.0, ap (λ (hs : List ℕ). get_or hs x 0) e ∙ s.1 ∙ (let z : a + 1 + s.0 ≡ a + suc s.0 = omega arith in z), omega (arith, s.2), s.3);
  only = find;
}
  where
    find : (i y : ℕ) → i < length (f ∷ fs) → at (f ∷ fs) i ≡ form.var y → (x : ℕ) × (y ≡ b + x) × (x < n) × (get_or (homes_from a (f ∷ fs)) x 0 ≡ a + i)
    find zero y lt q = absurd (other y q)
    find (suc i) y lt q =
        let o = h.only i y (omega (arith, lt)) q in
        (o.0, o.1, o.2, ap (λ (hs : List ℕ). get_or hs o.0 0) e ∙ o.3 ∙ (let z : a + 1 + i ≡ a + suc i = omega arith in z))

-- behind a variable
counted : (a b m : ℕ) (fs : List Form) → Homes (a + 1) (b + 1) m fs → Homes a b (suc m) (form.var b ∷ fs)
counted a b m fs h = record { long = omega (arith, h.long); stands = stand; only = find }
  where
    stand : (x : ℕ) → x < suc m → (j : ℕ) × (get_or (a ∷ homes_from (a + 1) fs) x 0 ≡ a + j) × (j < length (form.var b ∷ fs)) × (at (form.var b ∷ fs) j ≡ form.var (b + x))
    stand zero lt = (0, (let z : a ≡ a + 0 = omega arith in z), omega arith, ap form.var (let z : b ≡ b + 0 = omega arith in z))
    stand (suc x) lt =
        let s = h.stands x (omega (arith, lt)) in
        (suc s.0, s.1 ∙ (let z : a + 1 + s.0 ≡ a + suc s.0 = omega arith in z), omega (arith, s.2), s.3 ∙ ap form.var (let z : b + 1 + x ≡ b + suc x = omega arith in z))

    find : (i y : ℕ) → i < length (form.var b ∷ fs) → at (form.var b ∷ fs) i ≡ form.var y → (x : ℕ) × (y ≡ b + x) × (x < suc m) × (get_or (a ∷ homes_from (a + 1) fs) x 0 ≡ a + i)
    find zero y lt q = let e : b ≡ y = one_number q in (0, omega (arith, e), omega arith, (let z : a ≡ a + 0 = omega arith in z))
    find (suc i) y lt q =
        let o = h.only i y (omega (arith, lt)) q in
        (suc o.0, omega (arith, o.1), omega (arith, o.2), o.3 ∙ (let z : a + 1 + i ≡ a + suc i = omega arith in z))

homes_at : (a b n : ℕ) (fs : List Form) → variables_in fs ≡ range_with_len b n → Homes a b n fs
homes_at a b zero [] e = record { long = refl; stands = λ x lt. let bad : ⊥ = omega (arith, lt) in absurd bad; only = λ i y lt q. let bad : ⊥ = omega (arith, lt) in absurd bad }
homes_at a b (suc n) [] e = let bad : ⊥ = cc in absurd bad
homes_at a b zero (form.var x ∷ fs) e = let bad : ⊥ = cc in absurd bad
homes_at a b (suc n) (form.var x ∷ fs) e =
    subst (λ y. Homes a b (suc n) (form.var y ∷ fs)) (sym (first_number e)) (counted a b n fs (homes_at (a + 1) (b + 1) n fs (other_numbers e)))
homes_at a b n (form.made s ∷ fs) e = skipped a b n (form.made s) fs refl (λ y q. let bad : ⊥ = cc in bad) (homes_at (a + 1) b n fs e)
homes_at a b n (form.link j ∷ fs) e = skipped a b n (form.link j) fs refl (λ y q. let bad : ⊥ = cc in bad) (homes_at (a + 1) b n fs e)

pub are_homes : (fs : List Form) (n : ℕ) → variables_in fs ≡ below n → AreHomes (homes_of fs) fs
are_homes fs n e =
    let h = homes_at 0 0 n fs e in
    record {
      below = λ x lt. let s = h.stands x (omega (arith, lt, h.long)) in let z = s.1 in omega (arith, z, s.2);
      stands = λ x lt.
          let s = h.stands x (omega (arith, lt, h.long)) in
          ap (at fs) (s.1 ∙ (let z : 0 + s.0 ≡ s.0 = omega arith in z)) ∙ s.3 ∙ ap form.var (let z : 0 + x ≡ x = omega arith in z);
      inside = λ i x lt q. let o = h.only i x lt q in let z = o.1 in omega (arith, z, o.2, h.long);
      only = λ i x lt q.
          let o = h.only i x lt q in
          let z : x ≡ o.0 = omega (arith, o.1) in
          ap (λ k. get_or (homes_of fs) k 0) z ∙ o.3 ∙ (let w : 0 + i ≡ i = omega arith in w);
    }
