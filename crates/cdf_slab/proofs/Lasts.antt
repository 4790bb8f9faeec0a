-- The place of the last index of each dimension is the greatest of the walk.
use Rattle.std.proofs.Common.{◌≡◌, ℕ, zero, suc, ◌+◌, ◌*◌, ◌-◌, ◌^◌, ◌<◌, ◌≤◌, min, cond, List, [], ◌∷◌, ◌++◌, length, take, drop, slice_index_or, Some, None, refl, sym, ap, ◌∙◌, arith, inl, inr}
use Rattle.std.specs.List.{flat_map, range_with_len}
use Rattle.std.proofs.Math.Nat.{mul-le-mul_right}
use Rattle.std.proofs.lemmas.Bool.{cases_lt, le-ltb}
use Rattle.std.proofs.lemmas.List.{take_all}
use Rattle.cdf_slab.specs.declared.axes.Axis.{Axis}
use Rattle.cdf_slab.specs.Walk.{DimensionStep, step_of, steps_of, along, walk, last_offset, saturate_all, first_past, HaveRoom}
use Rattle.cdf_slab.proofs.Cuts.{stopped}

along_le : (a : DimensionStep) (base i j : ℕ) → i ≤ j → along a base i ≤ along a base j
along_le a base i j le =
    let x : i * a.stride ≤ j * a.stride = mul-le-mul_right a.stride le in
    let y : (a.start + i * a.stride) * a.pitch ≤ (a.start + j * a.stride) * a.pitch = mul-le-mul_right a.pitch (omega (arith, x)) in
    omega (arith, y)

last_le : (axes : List DimensionStep) (b c : ℕ) → b ≤ c → last_offset axes b ≤ last_offset axes c
last_le [] b c le = le
last_le (a ∷ axes) b c le = last_le axes (along a b (a.count - 1)) (along a c (a.count - 1)) (omega (arith, le))

within_longer : (size end more : ℕ) (ps : List ℕ) → end ≤ more → HaveRoom size end ps → HaveRoom size more ps
within_longer size end more [] le w = tt
within_longer size end more (p ∷ ps) le w = (omega (arith, le, w.0), within_longer size end more ps le w.1)

within_both : (size end : ℕ) (ps qs : List ℕ) → HaveRoom size end ps → HaveRoom size end qs → HaveRoom size end (ps ++ qs)
within_both size end [] qs v w = w
within_both size end (p ∷ ps) qs v w = (v.0, within_both size end ps qs v.1 w)

within_blocks : (size end : ℕ) (f : ℕ → List ℕ) (i n : ℕ) → ((j : ℕ) → j < i + n → HaveRoom size end (f j)) → HaveRoom size end (flat_map f (range_with_len i n))
within_blocks size end f i zero h = tt
within_blocks size end f i (suc n) h =
    within_both size end (f i) (flat_map f (range_with_len (i + 1) n)) (h i (omega arith)) (within_blocks size end f (i + 1) n (λ j lt. h j (omega (arith, lt))))

pub within_last : (axes : List DimensionStep) (base size : ℕ) → HaveRoom size (last_offset axes base + size) (walk axes base)
within_last [] base size = (omega arith, tt)
within_last (a ∷ axes) base size =
    within_blocks size (last_offset (a ∷ axes) base + size) (λ i. walk axes (along a base i)) 0 a.count
    (λ j lt. within_longer size (last_offset axes (along a base j) + size) (last_offset (a ∷ axes) base + size) (walk axes (along a base j))
    (let le = last_le axes (along a base j) (along a base (a.count - 1)) (along_le a base j (a.count - 1) (omega (arith, lt))) in omega (arith, le))
    (within_last axes (along a base j) size))

none_past : (size end : ℕ) (ps : List ℕ) → HaveRoom size end ps → first_past size end (saturate_all ps) ≡ None
none_past size end [] w = refl
none_past size end (p ∷ ps) w =
    ap (λ b. cond b (Some (min p (2 ^ 128 - 1))) (first_past size end (saturate_all ps))) (le-ltb end (min p (2 ^ 128 - 1) + size) (omega (arith, w.0)))
    ∙ none_past size end ps w.1

-- where the last number does not pass the end, none does
pub uncut_last : (axes : List DimensionStep) (base size end last room : ℕ) → last ≡ min (last_offset axes base) (2 ^ 128 - 1) → room ≡ min (last + size) (2 ^ 128 - 1) → room ≤ end → end < 2 ^ 64 →
    None ≡ first_past size end (saturate_all (walk axes base))
uncut_last axes base size end last room l r le lt =
    sym (none_past size end (walk axes base)
    (within_longer size (last_offset axes base + size) end (walk axes base) (omega (arith, l, r, le, lt)) (within_last axes base size)))

-- the end of the last number holds all
pub last_within : (axes : List DimensionStep) (base size end : ℕ) → HaveRoom size end (walk axes base) → HaveRoom size (min (last_offset axes base + size) end) (walk axes base)
last_within axes base size end w = elim (cases_lt end (last_offset axes base + size)) as (λ _. HaveRoom size (min (last_offset axes base + size) end) (walk axes base)) [
  | inl h ↦ within_longer size end (min (last_offset axes base + size) end) (walk axes base) (omega (arith, h)) w
  | inr h ↦ within_longer size (last_offset axes base + size) (min (last_offset axes base + size) end) (walk axes base) (omega (arith, h)) (within_last axes base size)
]

-- bases that are the same as far as m lead to last places that are
last_stops : (axes : List DimensionStep) (b c m : ℕ) → min b m ≡ min c m → min (last_offset axes b) m ≡ min (last_offset axes c) m
last_stops [] b c m e = e
last_stops (a ∷ axes) b c m e = last_stops axes (along a b (a.count - 1)) (along a c (a.count - 1)) m (omega (arith, e))

-- one dimension more
pub last_next : (axes : List DimensionStep) (a : DimensionStep) (base index here : ℕ) → index ≡ min (min ((a.count - 1) * a.stride) (2 ^ 128 - 1) + a.start) (2 ^ 128 - 1) →
    here ≡ min (min (index * a.pitch) (2 ^ 128 - 1) + base) (2 ^ 128 - 1) → min (last_offset axes here) (2 ^ 128 - 1) ≡ min (last_offset (a ∷ axes) base) (2 ^ 128 - 1)
last_next axes a base index here e h = last_stops axes here (along a base (a.count - 1)) (2 ^ 128 - 1) (stopped a.start (a.count - 1) a.stride a.pitch base here index (2 ^ 128 - 1) e h)

-- the same for the dimensions of a slice
pub last_first : (axes : List Axis) (d : Axis) (base index here found : ℕ) → 1 ≤ length axes →
    index ≡ min (min (((slice_index_or axes 0 d).count - 1) * (slice_index_or axes 0 d).stride) (2 ^ 128 - 1) + (slice_index_or axes 0 d).start) (2 ^ 128 - 1) →
    here ≡ min (min (index * (slice_index_or axes 0 d).pitch) (2 ^ 128 - 1) + base) (2 ^ 128 - 1) →
    found ≡ min (last_offset (steps_of (take (length axes - 1) (drop 1 axes))) here) (2 ^ 128 - 1) → found ≡ min (last_offset (steps_of axes) base) (2 ^ 128 - 1)
last_first [] d base index here found some e h is = absurd (omega (arith, some))
last_first (x ∷ axes) d base index here found some e h is =
    is
    ∙ ap (λ l. min (last_offset (steps_of l) here) (2 ^ 128 - 1)) (take_all (length (x ∷ axes) - 1) axes (omega arith))
    ∙ last_next (steps_of axes) (step_of x) base index here e h
