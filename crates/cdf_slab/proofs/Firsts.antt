-- The first of a list for which a test holds, by place.
use Rattle.std.proofs.Common.{◌≡◌, ℕ, zero, suc, ◌+◌, ◌<◌, ◌≤◌, nat_eq, List, [], ◌∷◌, length, drop, get_or, Some, None, if◌then◌else◌, refl, ap, ◌∙◌, arith}
use Rattle.cdf_slab.specs.Slab.{first_zero, first_outside, passes}

pub zero_next : (k : ℕ) (ts : List ℕ) (j d : ℕ) → j < length ts → first_zero k (drop j ts) ≡ (if nat_eq (get_or ts j d) 0 then Some k else first_zero (k + 1) (drop (j + 1) ts))
zero_next k [] j d lt = absurd (omega (arith, lt))
zero_next k (t ∷ ts) zero d lt = refl
zero_next k (t ∷ ts) (suc j) d lt =
    let z : suc (j + 1) ≡ suc j + 1 = omega arith in
    zero_next k ts j d (omega (arith, lt)) ∙ ap (λ n. if nat_eq (get_or ts j d) 0 then Some k else first_zero (k + 1) (drop n (t ∷ ts))) z

pub zero_done : (k : ℕ) (ts : List ℕ) (j : ℕ) → length ts ≤ j → first_zero k (drop j ts) ≡ None
zero_done k [] zero le = refl
zero_done k [] (suc j) le = refl
zero_done k (t ∷ ts) zero le = absurd (omega (arith, le))
zero_done k (t ∷ ts) (suc j) le = zero_done k ts j (omega (arith, le))

pub outside_next : (k : ℕ) (ns ss cs ts : List ℕ) (j d : ℕ) → j < length ns → j < length ss → j < length cs → j < length ts →
    first_outside k (drop j ns) (drop j ss) (drop j cs) (drop j ts)
    ≡ (if passes (get_or ns j d) (get_or ss j d) (get_or cs j d) (get_or ts j d) then Some k else first_outside (k + 1) (drop (j + 1) ns) (drop (j + 1) ss) (drop (j + 1) cs) (drop (j + 1) ts))
outside_next k [] ss cs ts j d a b c e = absurd (omega (arith, a))
outside_next k (n ∷ ns) [] cs ts j d a b c e = absurd (omega (arith, b))
outside_next k (n ∷ ns) (s ∷ ss) [] ts j d a b c e = absurd (omega (arith, c))
outside_next k (n ∷ ns) (s ∷ ss) (m ∷ cs) [] j d a b c e = absurd (omega (arith, e))
outside_next k (n ∷ ns) (s ∷ ss) (m ∷ cs) (t ∷ ts) zero d a b c e = refl
outside_next k (n ∷ ns) (s ∷ ss) (m ∷ cs) (t ∷ ts) (suc j) d a b c e =
    let z : suc (j + 1) ≡ suc j + 1 = omega arith in
    outside_next k ns ss cs ts j d (omega (arith, a)) (omega (arith, b)) (omega (arith, c)) (omega (arith, e))
    ∙ ap (λ i. if passes (get_or ns j d) (get_or ss j d) (get_or cs j d) (get_or ts j d) then Some k
    else first_outside (k + 1) (drop i (n ∷ ns)) (drop i (s ∷ ss)) (drop i (m ∷ cs)) (drop i (t ∷ ts))) z

pub outside_done : (k : ℕ) (ns ss cs ts : List ℕ) (j : ℕ) → length ss ≤ j → first_outside k (drop j ns) (drop j ss) (drop j cs) (drop j ts) ≡ None
outside_done k ns ss cs ts j le = none (drop j ns) (drop j ss) (drop j cs) (drop j ts) (empty ss j le)
  where
    empty : (xs : List ℕ) (i : ℕ) → length xs ≤ i → drop i xs ≡ []
    empty [] zero le = refl
    empty [] (suc i) le = refl
    empty (x ∷ xs) zero le = absurd (omega (arith, le))
    empty (x ∷ xs) (suc i) le = empty xs i (omega (arith, le))

    none : (ns bs cs es : List ℕ) → bs ≡ [] → first_outside k ns bs cs es ≡ None
    none [] bs cs es e = refl
    none (n ∷ ns) [] cs es e = refl
    none (n ∷ ns) (b ∷ bs) cs es e = absurd cc

pub ruleset zero_steps = (zero_next, zero_done)

pub ruleset outside_steps = (outside_next, outside_done)
