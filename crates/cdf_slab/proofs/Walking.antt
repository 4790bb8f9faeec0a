-- The walk over the dimensions visits the place of each index, in row-major order.
use Rattle.std.proofs.Common.{◌≡◌, ℕ, ◌+◌, ◌*◌, ◌-◌, ◌^◌, min, add_assoc, true, false, cond, List, [], ◌∷◌, ◌++◌, length, map, refl, sym, ap, ◌∙◌, arith}
use Rattle.std.specs.List.{flat_map, range_with_len}
use Rattle.std.proofs.Math.Nat.{add-mul, mul_assoc, mul_comm}
use Rattle.aql_value.specs.Indices.{indices, product, offset}
use Rattle.aql_value.specs.Laws.Saturation.{saturating_product}
use Rattle.cdf_header.specs.Header.{Var, Head}
use Rattle.cdf_header.specs.Format.{type_size}
use Rattle.cdf_header.specs.Places.{lens, inner, is_record, recsize, place_of, pitches_in, pitches}
use Rattle.cdf_slab.specs.Slab.{point, cell_offsets}
use Rattle.cdf_slab.specs.Walk.{DimensionStep, steps, along, walk, saturate_all}

-- lists by a function that is the same at each element
pub same_map : {X Y : Type 0} (f g : X → Y) (xs : List X) → ((x : X) → f x ≡ g x) → map f xs ≡ map g xs
same_map f g [] h = refl
same_map f g (x ∷ xs) h = ap (λ y. y ∷ map f xs) (h x) ∙ ap (λ ys. g x ∷ ys) (same_map f g xs h)

pub same_flat : {X Y : Type 0} (f g : X → List Y) (xs : List X) → ((x : X) → f x ≡ g x) → flat_map f xs ≡ flat_map g xs
same_flat f g [] h = refl
same_flat f g (x ∷ xs) h = ap (λ y. y ++ flat_map f xs) (h x) ∙ ap (λ ys. g x ++ ys) (same_flat f g xs h)

pub map-append : {X Y : Type 0} (f : X → Y) (xs ys : List X) → map f (xs ++ ys) ≡ map f xs ++ map f ys
map-append f [] ys = refl
map-append f (x ∷ xs) ys = ap (λ zs. f x ∷ zs) (map-append f xs ys)

map-flat : {X Y Z : Type 0} (f : Y → Z) (g : X → List Y) (xs : List X) → map f (flat_map g xs) ≡ flat_map (λ x. map f (g x)) xs
map-flat f g [] = refl
map-flat f g (x ∷ xs) = map-append f (g x) (flat_map g xs) ∙ ap (λ ys. map f (g x) ++ ys) (map-flat f g xs)

pub map-twice : {X Y Z : Type 0} (f : Y → Z) (g : X → Y) (xs : List X) → map f (map g xs) ≡ map (λ x. f (g x)) xs
map-twice f g [] = refl
map-twice f g (x ∷ xs) = ap (λ ys. f (g x) ∷ ys) (map-twice f g xs)

-- the bytes from the base to an index
abbrev dot : List DimensionStep → List ℕ → ℕ
dot [] at = 0
dot (a ∷ axes) [] = 0
dot (a ∷ axes) (i ∷ at) = (a.start + i * a.stride) * a.pitch + dot axes at

abbrev counts : List DimensionStep → List ℕ
counts axes = map (λ a. a.count) axes

walk_is : (axes : List DimensionStep) (base : ℕ) → walk axes base ≡ map (λ at. base + dot axes at) (indices (counts axes))
unfolding indices
walk_is [] base = ap (λ b. b ∷ []) (omega arith)
walk_is (a ∷ axes) base =
    same_flat (λ i. walk axes (along a base i)) (λ i. map (λ at. base + dot (a ∷ axes) at) (map (λ rest. i ∷ rest) (indices (counts axes)))) (range_with_len 0 a.count)
    (λ i. walk_is axes (along a base i)
    ∙ same_map (λ at. along a base i + dot axes at) (λ at. base + dot (a ∷ axes) (i ∷ at)) (indices (counts axes)) (λ at. add_assoc base ((a.start + i * a.stride) * a.pitch) (dot axes at))
    ∙ sym (map-twice (λ at. base + dot (a ∷ axes) at) (λ rest. i ∷ rest) (indices (counts axes))))
    ∙ sym (map-flat (λ at. base + dot (a ∷ axes) at) (λ i. map (λ rest. i ∷ rest) (indices (counts axes))) (range_with_len 0 a.count))

-- an index by pitches
abbrev by_pitches : List ℕ → List ℕ → ℕ
by_pitches [] at = 0
by_pitches (w ∷ ws) [] = 0
by_pitches (w ∷ ws) (i ∷ at) = i * w + by_pitches ws at

offset_by_pitches : (size : ℕ) (ds at : List ℕ) → offset ds at * size ≡ by_pitches (pitches_in size ds) at
offset_by_pitches size [] at = omega arith
offset_by_pitches size (d ∷ ds) [] = omega arith
offset_by_pitches size (d ∷ ds) (i ∷ at) =
    add-mul (i * product ds) (offset ds at) size
    ∙ ap (λ x. x + offset ds at * size) (mul_assoc i (product ds) size)
    ∙ ap (λ x. i * (product ds * size) + x) (offset_by_pitches size ds at)

by_pitches_none : (ws : List ℕ) → by_pitches ws [] ≡ 0
by_pitches_none [] = refl
by_pitches_none (w ∷ ws) = refl

place_by_pitches : (ds : List ℕ) (vs : List Var) (v : Var) (at : List ℕ) → place_of ds vs v at ≡ v.begin + by_pitches (pitches ds vs v) at
place_by_pitches ds vs v [] = let e = by_pitches_none (pitches ds vs v) in omega (arith, e)
place_by_pitches ds vs v (r ∷ at) =
    elim (is_record ds v) as (λ b. cond b (r * recsize ds vs + v.begin + offset (lens ds (inner v.ids)) at * type_size v.kind) (offset (lens ds v.ids) (r ∷ at) * type_size v.kind + v.begin)
    ≡ v.begin + by_pitches (cond b (recsize ds vs ∷ pitches_in (type_size v.kind) (lens ds (inner v.ids))) (pitches_in (type_size v.kind) (lens ds v.ids))) (r ∷ at)) [
      | true ↦ let e = offset_by_pitches (type_size v.kind) (lens ds (inner v.ids)) at in omega (arith, e)
      | false ↦ let e = offset_by_pitches (type_size v.kind) (lens ds v.ids) (r ∷ at) in omega (arith, e)
    ]

dot_point : (ss cs ts ws at : List ℕ) → length cs ≡ length ss → length ts ≡ length ss → length ws ≡ length ss → dot (steps ss cs ts ws) at ≡ by_pitches ws (point ss ts at)
dot_point [] [] [] [] at a b c = refl
dot_point (s ∷ ss) (n ∷ cs) (t ∷ ts) (w ∷ ws) [] a b c = refl
dot_point (s ∷ ss) (n ∷ cs) (t ∷ ts) (w ∷ ws) (i ∷ at) a b c = ap (λ x. (s + i * t) * w + x) (dot_point ss cs ts ws at (omega (arith, a)) (omega (arith, b)) (omega (arith, c)))
dot_point [] (n ∷ cs) ts ws at a b c = absurd (omega (arith, a))
dot_point [] [] (t ∷ ts) ws at a b c = absurd (omega (arith, b))
dot_point [] [] [] (w ∷ ws) at a b c = absurd (omega (arith, c))
dot_point (s ∷ ss) [] ts ws at a b c = absurd (omega (arith, a))
dot_point (s ∷ ss) (n ∷ cs) [] ws at a b c = absurd (omega (arith, b))
dot_point (s ∷ ss) (n ∷ cs) (t ∷ ts) [] at a b c = absurd (omega (arith, c))

counts_of : (ss cs ts ws : List ℕ) → length cs ≡ length ss → length ts ≡ length ss → length ws ≡ length ss → counts (steps ss cs ts ws) ≡ cs
counts_of [] [] [] [] a b c = refl
counts_of (s ∷ ss) (n ∷ cs) (t ∷ ts) (w ∷ ws) a b c = ap (λ x. n ∷ x) (counts_of ss cs ts ws (omega (arith, a)) (omega (arith, b)) (omega (arith, c)))
counts_of [] (n ∷ cs) ts ws a b c = absurd (omega (arith, a))
counts_of [] [] (t ∷ ts) ws a b c = absurd (omega (arith, b))
counts_of [] [] [] (w ∷ ws) a b c = absurd (omega (arith, c))
counts_of (s ∷ ss) [] ts ws a b c = absurd (omega (arith, a))
counts_of (s ∷ ss) (n ∷ cs) [] ws a b c = absurd (omega (arith, b))
counts_of (s ∷ ss) (n ∷ cs) (t ∷ ts) [] a b c = absurd (omega (arith, c))

-- the walk with the variable's pitches visits the cells' places
pub walk_places : (h : Head) (v : Var) (ss cs ts : List ℕ) → length cs ≡ length ss → length ts ≡ length ss → length (pitches h.dims h.vars v) ≡ length ss
    → walk (steps ss cs ts (pitches h.dims h.vars v)) v.begin ≡ cell_offsets h v ss cs ts
walk_places h v ss cs ts a b c =
    walk_is (steps ss cs ts (pitches h.dims h.vars v)) v.begin
    ∙ ap (λ ns. map (λ i. v.begin + dot (steps ss cs ts (pitches h.dims h.vars v)) i) (indices ns)) (counts_of ss cs ts (pitches h.dims h.vars v) a b c)
    ∙ same_map (λ i. v.begin + dot (steps ss cs ts (pitches h.dims h.vars v)) i) (λ i. place_of h.dims h.vars v (point ss ts i)) (indices cs)
    (λ i. ap (λ x. v.begin + x) (dot_point ss cs ts (pitches h.dims h.vars v) i a b c) ∙ sym (place_by_pitches h.dims h.vars v (point ss ts i)))

same_capped : (f g : ℕ → List ℕ) (xs : List ℕ) → ((i : ℕ) → saturate_all (f i) ≡ saturate_all (g i)) → saturate_all (flat_map f xs) ≡ saturate_all (flat_map g xs)
same_capped f g [] h = refl
same_capped f g (i ∷ xs) h =
    map-append (λ p. min p (2 ^ 128 - 1)) (f i) (flat_map f xs)
    ∙ ap (λ ps. ps ++ saturate_all (flat_map f xs)) (h i)
    ∙ ap (λ ps. saturate_all (g i) ++ ps) (same_capped f g xs h)
    ∙ sym (map-append (λ p. min p (2 ^ 128 - 1)) (g i) (flat_map g xs))

-- a base that has stopped leads to the same capped places
pub capped-walk : (axes : List DimensionStep) (b c : ℕ) → min b (2 ^ 128 - 1) ≡ min c (2 ^ 128 - 1) → saturate_all (walk axes b) ≡ saturate_all (walk axes c)
capped-walk [] b c e = ap (λ p. p ∷ []) e
capped-walk (a ∷ axes) b c e = same_capped (λ i. walk axes (along a b i)) (λ i. walk axes (along a c i)) (range_with_len 0 a.count)
    (λ i. capped-walk axes (along a b i) (along a c i) (omega (arith, e)))

pitch_stops : (x w b c m : ℕ) → min b m ≡ min c m → min (b + x * min w m) m ≡ min (c + x * w) m
pitch_stops x w b c m e =
    let p : min (x * min w m) m ≡ min (x * w) m = ap (λ y. min y m) (mul_comm x (min w m)) ∙ saturating_product w x m ∙ ap (λ y. min y m) (mul_comm w x) in
    omega (arith, e, p)

-- so do pitches that have stopped
pub capped-pitches : (ss cs ts ws : List ℕ) (b c : ℕ) → min b (2 ^ 128 - 1) ≡ min c (2 ^ 128 - 1) → saturate_all (walk (steps ss cs ts (saturate_all ws)) b) ≡ saturate_all (walk (steps ss cs ts ws) c)
capped-pitches [] cs ts ws b c e = ap (λ p. p ∷ []) e
capped-pitches (s ∷ ss) [] ts ws b c e = ap (λ p. p ∷ []) e
capped-pitches (s ∷ ss) (n ∷ cs) [] ws b c e = ap (λ p. p ∷ []) e
capped-pitches (s ∷ ss) (n ∷ cs) (t ∷ ts) [] b c e = ap (λ p. p ∷ []) e
capped-pitches (s ∷ ss) (n ∷ cs) (t ∷ ts) (w ∷ ws) b c e =
    same_capped (λ i. walk (steps ss cs ts (saturate_all ws)) (b + (s + i * t) * min w (2 ^ 128 - 1))) (λ i. walk (steps ss cs ts ws) (c + (s + i * t) * w)) (range_with_len 0 n)
    (λ i. capped-pitches ss cs ts ws (b + (s + i * t) * min w (2 ^ 128 - 1)) (c + (s + i * t) * w) (pitch_stops (s + i * t) w b c (2 ^ 128 - 1) e))
