-- One dimension after the other.
use Rattle.std.proofs.Common.{◌≡◌, ℕ, zero, suc, ◌+◌, ◌-◌, ◌^◌, ◌<◌, ◌≤◌, min, true, false, cond, nat_eq, List, [], ◌∷◌, ◌++◌, length, take, get_or, refl, sym, ap, ◌∙◌, arith}
use Rattle.std.proofs.lemmas.List.{length-map, take_all}
use Rattle.cdf_header.specs.Header.{Var}
use Rattle.cdf_header.specs.Format.{type_size}
use Rattle.cdf_header.specs.Places.{len_at, lens, inner, is_over_records, recsize, pitches_in, pitches}
use Rattle.cdf_slab.specs.declared.axes.Axis.{Axis}
use Rattle.cdf_slab.specs.Walk.{DimensionStep, step_of, steps_of, steps, saturate_all}
use Rattle.cdf_slab.proofs.Walking.{map-append}

pub steps_more : (ss cs ts ws : List ℕ) (j a b d e : ℕ) → j < length ss → length cs ≡ length ss → length ts ≡ length ss → length ws ≡ length ss →
    steps (take (suc j) ss) (take (suc j) cs) (take (suc j) ts) (take (suc j) ws)
    ≡ steps (take j ss) (take j cs) (take j ts) (take j ws) ++ record { start = get_or ss j a; count = get_or cs j b; stride = get_or ts j d; pitch = get_or ws j e } ∷ []
steps_more [] cs ts ws j a b d e lt x y z = absurd (omega (arith, lt))
steps_more (s ∷ ss) [] ts ws j a b d e lt x y z = absurd (omega (arith, x))
steps_more (s ∷ ss) (n ∷ cs) [] ws j a b d e lt x y z = absurd (omega (arith, y))
steps_more (s ∷ ss) (n ∷ cs) (t ∷ ts) [] j a b d e lt x y z = absurd (omega (arith, z))
steps_more (s ∷ ss) (n ∷ cs) (t ∷ ts) (w ∷ ws) zero a b d e lt x y z = refl
steps_more (s ∷ ss) (n ∷ cs) (t ∷ ts) (w ∷ ws) (suc j) a b d e lt x y z =
    ap (λ xs. record { start = s; count = n; stride = t; pitch = w } ∷ xs) (steps_more ss cs ts ws j a b d e (omega (arith, lt)) (omega (arith, x)) (omega (arith, y)) (omega (arith, z)))

pub steps_all : (ss cs ts ws : List ℕ) (j : ℕ) → length ss ≤ j → length cs ≡ length ss → length ts ≡ length ss → length ws ≡ length ss →
    steps (take j ss) (take j cs) (take j ts) (take j ws) ≡ steps ss cs ts ws
steps_all ss cs ts ws j le x y z =
    ap (λ l. steps l (take j cs) (take j ts) (take j ws)) (take_all j ss le)
    ∙ ap (λ l. steps ss l (take j ts) (take j ws)) (take_all j cs (omega (arith, le, x)))
    ∙ ap (λ l. steps ss cs l (take j ws)) (take_all j ts (omega (arith, le, y)))
    ∙ ap (steps ss cs ts) (take_all j ws (omega (arith, le, z)))

length-pitches_in : (size : ℕ) (ds : List ℕ) → length (pitches_in size ds) ≡ length ds
length-pitches_in size [] = refl
length-pitches_in size (d ∷ ds) = ap suc (length-pitches_in size ds)

length-pitches_of : (ds : List ℕ) (vs : List Var) (size : ℕ) (ids : List ℕ) → length (cond (is_over_records ds ids) (recsize ds vs ∷ pitches_in size (lens ds (inner ids))) (pitches_in size (lens ds ids))) ≡ length ids
length-pitches_of ds vs size [] = refl
length-pitches_of ds vs size (i ∷ ids) =
    elim (nat_eq (len_at ds i) 0) as (λ b. length (cond b (recsize ds vs ∷ pitches_in size (lens ds ids)) (pitches_in size (lens ds (i ∷ ids)))) ≡ length (i ∷ ids)) [
      | true ↦ ap suc (length-pitches_in size (lens ds ids) ∙ length-map ids (len_at ds))
      | false ↦ length-pitches_in size (lens ds (i ∷ ids)) ∙ length-map (i ∷ ids) (len_at ds)
    ]

pub length-pitches : (ds : List ℕ) (vs : List Var) (v : Var) → length (pitches ds vs v) ≡ length v.ids
length-pitches ds vs v = length-pitches_of ds vs (type_size v.kind) v.ids

pub capped_get : (ws : List ℕ) (j : ℕ) → get_or (saturate_all ws) j 0 ≡ min (get_or ws j 0) (2 ^ 128 - 1)
capped_get [] zero = refl
capped_get [] (suc j) = refl
capped_get (w ∷ ws) zero = refl
capped_get (w ∷ ws) (suc j) = capped_get ws j

pub length-capped : (ws : List ℕ) → length (saturate_all ws) ≡ length ws
length-capped ws = length-map ws (λ w. min w (2 ^ 128 - 1))

same_step : (s s' n n' t t' w w' : ℕ) → s ≡ s' → n ≡ n' → t ≡ t' → w ≡ w' →
    ◌≡◌ {A = DimensionStep} (record { start = s; count = n; stride = t; pitch = w }) (record { start = s'; count = n'; stride = t'; pitch = w' })
same_step s s' n n' t t' w w' a b c d =
    ap {B = DimensionStep} (λ x. record { start = x; count = n; stride = t; pitch = w }) a
    ∙ ap {B = DimensionStep} (λ x. record { start = s'; count = x; stride = t; pitch = w }) b
    ∙ ap {B = DimensionStep} (λ x. record { start = s'; count = n'; stride = x; pitch = w }) c
    ∙ ap {B = DimensionStep} (λ x. record { start = s'; count = n'; stride = t'; pitch = x }) d

-- one dimension more
pub axis_more : (axes new : List Axis) (x : Axis) (ss cs ts ws : List ℕ) (j a b d : ℕ) → new ≡ axes ++ x ∷ [] →
    steps_of axes ≡ steps (take j ss) (take j cs) (take j ts) (take j (saturate_all ws)) →
    x.start ≡ get_or ss j a → x.count ≡ get_or cs j b → x.stride ≡ get_or ts j d → x.pitch ≡ min (get_or ws j 0) (2 ^ 128 - 1) →
    j < length ss → length cs ≡ length ss → length ts ≡ length ss → length ws ≡ length ss →
    steps_of new ≡ steps (take (j + 1) ss) (take (j + 1) cs) (take (j + 1) ts) (take (j + 1) (saturate_all ws))
axis_more axes new x ss cs ts ws j a b d e inv p q r w lt l m n =
    ap steps_of e
    ∙ map-append step_of axes (x ∷ [])
    ∙ ap (λ l. l ++ step_of x ∷ []) inv
    ∙ ap (λ y. steps (take j ss) (take j cs) (take j ts) (take j (saturate_all ws)) ++ y ∷ []) (same_step _ _ _ _ _ _ _ _ p q r (w ∙ sym (capped_get ws j)))
    ∙ sym (steps_more ss cs ts (saturate_all ws) j a b d 0 lt l m (length-capped ws ∙ n))
    ∙ (let z : suc j ≡ j + 1 = omega arith in ap (λ i. steps (take i ss) (take i cs) (take i ts) (take i (saturate_all ws))) z)

some_steps : (ss cs ts ws : List ℕ) → 1 ≤ length ss → length cs ≡ length ss → length ts ≡ length ss → length ws ≡ length ss → 1 ≤ length (steps ss cs ts ws)
some_steps [] cs ts ws some a b c = absurd (omega (arith, some))
some_steps (s ∷ ss) [] ts ws some a b c = absurd (omega (arith, a))
some_steps (s ∷ ss) (x ∷ cs) [] ws some a b c = absurd (omega (arith, b))
some_steps (s ∷ ss) (x ∷ cs) (t ∷ ts) [] some a b c = absurd (omega (arith, c))
some_steps (s ∷ ss) (x ∷ cs) (t ∷ ts) (w ∷ ws) some a b c = omega arith

-- a hyperslab of a rank has dimensions
pub some_axes : (axes : List Axis) (ss cs ts ws : List ℕ) → steps_of axes ≡ steps ss cs ts ws → 1 ≤ length ss → length cs ≡ length ss → length ts ≡ length ss → length ws ≡ length ss → 1 ≤ length axes
some_axes axes ss cs ts ws e some a b c =
    let p = some_steps ss cs ts ws some a b c in
    omega (arith, p, ap length e, length-map axes step_of)
