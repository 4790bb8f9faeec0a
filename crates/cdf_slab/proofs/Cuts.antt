-- The first place past the end, one block of places after the other.
use Rattle.std.proofs.Common.{◌≡◌, ℕ, suc, ◌+◌, ◌*◌, ◌-◌, ◌^◌, ◌<◌, ◌≤◌, min, Bool, true, false, cond, nat_lt, if◌then◌else◌, List, [], ◌∷◌, ◌++◌, Option, Some, None, refl, sym, ap, ◌∙◌, arith, inl, inr}
use Rattle.std.specs.List.{flat_map, range_with_len}
use Rattle.std.proofs.lemmas.Bool.{cases_lt, lt-ltb, ltb-false}
use Rattle.aql_value.specs.Laws.Saturation.{saturating_product}
use Rattle.cdf_slab.specs.Slab.{first_cut}
use Rattle.aql_value.specs.Partial.{or_else}
use Rattle.aql_value.specs.Laws.Partial.{or_cond}
use Rattle.cdf_slab.specs.Walk.{DimensionStep, along, walk, saturate_all, first_past, HaveRoom}
use Rattle.cdf_slab.proofs.Walking.{map-append, capped-walk}

-- the first block, and the others
pub blocks_next : (f : ℕ → List ℕ) (i count : ℕ) → i < count → flat_map f (range_with_len i (count - i)) ≡ f i ++ flat_map f (range_with_len (i + 1) (count - (i + 1)))
blocks_next f i count lt = let n : count - i ≡ suc (count - (i + 1)) = omega arith in ap (λ k. flat_map f (range_with_len i k)) n

pub blocks_done : (f : ℕ → List ℕ) (i count : ℕ) → count ≤ i → flat_map f (range_with_len i (count - i)) ≡ []
blocks_done f i count le = let n : count - i ≡ 0 = omega arith in ap (λ k. flat_map f (range_with_len i k)) n

first_past-append : (size end : ℕ) (ps qs : List ℕ) → first_past size end (ps ++ qs) ≡ or_else (first_past size end ps) (first_past size end qs)
first_past-append size end [] qs = refl
first_past-append size end (p ∷ ps) qs =
    ap (cond (nat_lt end (p + size)) (Some p)) (first_past-append size end ps qs) ∙ sym (or_cond (nat_lt end (p + size)) p (first_past size end ps) (first_past size end qs))

-- the blocks before i pass no end: the first place of the others is the first of all
pub record CutSoFar (rest : List DimensionStep) (a : DimensionStep) (base i size end : ℕ) (total : Option ℕ) : Type 0 where
  pub same : first_past size end (saturate_all (flat_map (λ j. walk rest (along a base j)) (range_with_len i (a.count - i)))) ≡ total

-- the place of an index, where sums and products stop at m
pub stopped : (start i stride pitch base here index m : ℕ) → index ≡ min (min (i * stride) m + start) m → here ≡ min (min (index * pitch) m + base) m →
    min here m ≡ min (base + (start + i * stride) * pitch) m
stopped start i stride pitch base here index m e h =
    let one : index ≡ min (start + i * stride) m = omega (arith, e) in
    let two : min (index * pitch) m ≡ min ((start + i * stride) * pitch) m = ap (λ x. min (x * pitch) m) one ∙ saturating_product (start + i * stride) pitch m in
    omega (arith, h, two)

-- one block of places, and the others
pub cut_next : (rest : List DimensionStep) (a : DimensionStep) (base i size end here index : ℕ) (found total : Option ℕ) → CutSoFar rest a base i size end total → i < a.count
    → index ≡ min (min (i * a.stride) (2 ^ 128 - 1) + a.start) (2 ^ 128 - 1) → here ≡ min (min (index * a.pitch) (2 ^ 128 - 1) + base) (2 ^ 128 - 1)
    → found ≡ first_past size end (saturate_all (walk rest here))
    → or_else found (first_past size end (saturate_all (flat_map (λ j. walk rest (along a base j)) (range_with_len (i + 1) (a.count - (i + 1)))))) ≡ total
cut_next rest a base i size end here index found total so_far lt e h is =
    let f : ℕ → List ℕ = λ j. walk rest (along a base j) in
    let others : List ℕ = flat_map f (range_with_len (i + 1) (a.count - (i + 1))) in
    let same : saturate_all (walk rest here) ≡ saturate_all (f i) = capped-walk rest here (along a base i) (stopped a.start i a.stride a.pitch base here index (2 ^ 128 - 1) e h) in
    ap (λ o. or_else o (first_past size end (saturate_all others))) (is ∙ ap (first_past size end) same)
    ∙ sym (first_past-append size end (saturate_all (f i)) (saturate_all others))
    ∙ ap (first_past size end) (sym (map-append (λ p. min p (2 ^ 128 - 1)) (f i) others) ∙ ap saturate_all (sym (blocks_next f i a.count lt)))
    ∙ so_far.same

past_same : (end p size m : ℕ) → end < m → nat_lt end (p + size) ≡ nat_lt end (min p m + size)
past_same end p size m lt = elim (cases_lt p m) as (λ _. nat_lt end (p + size) ≡ nat_lt end (min p m + size)) [
  | inl h ↦ let e : p ≡ min p m = omega arith in ap (λ x. nat_lt end (x + size)) e
  | inr h ↦ lt-ltb end (p + size) (omega (arith, lt, h)) ∙ sym (lt-ltb end (min p m + size) (omega (arith, lt, h)))
]

if_cond : {A : Type 0} (b : Bool) (x y : A) → (if b then x else y) ≡ cond b x y
if_cond true x y = refl
if_cond false x y = refl

-- the first cut is the first capped place past the end
pub cut_capped : (size end : ℕ) (ps : List ℕ) → end < 2 ^ 128 - 1 → first_cut size end ps ≡ first_past size end (saturate_all ps)
cut_capped size end [] lt = refl
cut_capped size end (p ∷ ps) lt =
    if_cond (nat_lt end (p + size)) (Some (min p (2 ^ 128 - 1))) (first_cut size end ps)
    ∙ ap (λ b. cond b (Some (min p (2 ^ 128 - 1))) (first_cut size end ps)) (past_same end p size (2 ^ 128 - 1) lt)
    ∙ ap (cond (nat_lt end (min p (2 ^ 128 - 1) + size)) (Some (min p (2 ^ 128 - 1)))) (cut_capped size end ps lt)

uncut_first : (b : Bool) (m : ℕ) (o : Option ℕ) → (if b then Some m else o) ≡ None → (b ≡ false) × (o ≡ None)
uncut_first true m o e = absurd cc
uncut_first false m o e = (refl, e)

-- without a cut each place has room
pub uncut_within : (size end : ℕ) (ps : List ℕ) → first_cut size end ps ≡ None → HaveRoom size end ps
uncut_within size end [] e = tt
uncut_within size end (p ∷ ps) e =
    let r = uncut_first (nat_lt end (p + size)) (min p (2 ^ 128 - 1)) (first_cut size end ps) e in (ltb-false end (p + size) r.0, uncut_within size end ps r.1)

-- places of two lists that are the same as far as 2^128-1, of which one has room below it, are the same
pub same_within : (size end : ℕ) (ps qs : List ℕ) → end < 2 ^ 128 - 1 → saturate_all ps ≡ saturate_all qs → HaveRoom size end qs → ps ≡ qs
same_within size end [] [] lt e w = refl
same_within size end [] (q ∷ qs) lt e w = absurd cc
same_within size end (p ∷ ps) [] lt e w = absurd cc
same_within size end (p ∷ ps) (q ∷ qs) lt e w =
    let h : min p (2 ^ 128 - 1) ≡ min q (2 ^ 128 - 1) = cc in
    let t : saturate_all ps ≡ saturate_all qs = cc in
    let z : p ≡ q = omega (arith, h, w.0, lt) in
    ap (λ x. x ∷ ps) z ∙ ap (λ xs. q ∷ xs) (same_within size end ps qs lt t w.1)
