-- Reading one block of places after the other.
use Rattle.std.proofs.Common.{◌≡◌, ℕ, ◌+◌, ◌*◌, ◌-◌, ◌^◌, ◌<◌, ◌≤◌, min, Bool, List, [], ◌∷◌, ◌++◌, length, get_or, map, Result, Ok, Err, refl, sym, ap, subst, ◌∙◌, arith, length-append}
use Rattle.aql_value.specs.Datum.{Datum}
use Rattle.cdf_header.specs.declared.fault.CdfFault.{CdfFault}
use Rattle.cdf_slab.specs.Numbers.{Number, number_at}
use Rattle.cdf_slab.specs.Walk.{DimensionStep, along, walk, HaveRoom, offsets_left, RoomSoFar, Turn}
use Rattle.cdf_slab.specs.Going.{AppendsCells}
use Rattle.cdf_slab.specs.Slab.{IsLate}
use Rattle.cdf_slab.proofs.Walking.{map-append, capped-walk}
use Rattle.cdf_slab.proofs.Cuts.{blocks_next, blocks_done, stopped, same_within}
use Rattle.cdf_slab.proofs.Goings.{goes-none, goes-then, goes-fails, late_more}

pub AreWithin-append : (size end : ℕ) (ps qs : List ℕ) → HaveRoom size end (ps ++ qs) → HaveRoom size end ps × HaveRoom size end qs
AreWithin-append size end [] qs h = (tt, h)
AreWithin-append size end (p ∷ ps) qs h = let r = AreWithin-append size end ps qs h.1 in ((h.0, r.0), r.1)

pub left_within : (rest : List DimensionStep) (a : DimensionStep) (base i size end : ℕ) → i < a.count → HaveRoom size end (offsets_left rest a base i) →
    HaveRoom size end (walk rest (along a base i)) × HaveRoom size end (offsets_left rest a base (i + 1))
left_within rest a base i size end lt w =
    AreWithin-append size end (walk rest (along a base i)) (offsets_left rest a base (i + 1)) (subst (HaveRoom size end) (blocks_next (λ j. walk rest (along a base j)) i a.count lt) w)

-- where the places have room, sums and products stopped nowhere
pub here_walk : (rest : List DimensionStep) (a : DimensionStep) (base i size end index here : ℕ) → i < a.count → end < 2 ^ 64 → HaveRoom size end (offsets_left rest a base i) →
    index ≡ min (min (i * a.stride) (2 ^ 128 - 1) + a.start) (2 ^ 128 - 1) → here ≡ min (min (index * a.pitch) (2 ^ 128 - 1) + base) (2 ^ 128 - 1) →
    walk rest here ≡ walk rest (along a base i)
here_walk rest a base i size end index here lt small w e h =
    same_within size end (walk rest here) (walk rest (along a base i)) (omega (arith, small))
    (capped-walk rest here (along a base i) (stopped a.start i a.stride a.pitch base here index (2 ^ 128 - 1) e h))
    (left_within rest a base i size end lt w).0

numbers-next : (bytes : List ℕ) (kind : ℕ) (rest : List DimensionStep) (a : DimensionStep) (base i : ℕ) → i < a.count →
    map (number_at bytes kind) (walk rest (along a base i)) ++ map (number_at bytes kind) (offsets_left rest a base (i + 1)) ≡ map (number_at bytes kind) (offsets_left rest a base i)
numbers-next bytes kind rest a base i lt =
    sym (map-append (number_at bytes kind) (walk rest (along a base i)) (offsets_left rest a base (i + 1)))
    ∙ ap (map (number_at bytes kind)) (sym (blocks_next (λ j. walk rest (along a base j)) i a.count lt))

-- what is made of the places left makes the whole
abbrev pub Whole : (signed : Bool) → List Number → (total : List Number) → (now before : List Datum) → Type 0
Whole signed left total now before = (r : Result (List Datum) CdfFault) → AppendsCells signed left now r → AppendsCells signed total before r

-- the blocks before i are read: what is made of the others makes the whole
pub record ReadSoFar (signed : Bool) (bytes : List ℕ) (kind : ℕ) (rest : List DimensionStep) (a : DimensionStep) (base i : ℕ) (total : List Number) (now before : List Datum) : Type 0 where
  pub whole : Whole signed (map (number_at bytes kind) (offsets_left rest a base i)) total now before

pub turn : (rest : List DimensionStep) (a : DimensionStep) (base i size end index here : ℕ) → RoomSoFar rest a base i size end → i < a.count → end < 2 ^ 64 →
    index ≡ min (min (i * a.stride) (2 ^ 128 - 1) + a.start) (2 ^ 128 - 1) → here ≡ min (min (index * a.pitch) (2 ^ 128 - 1) + base) (2 ^ 128 - 1) → Turn rest a base i size end here
turn rest a base i size end index here w lt small e h =
    let same = here_walk rest a base i size end index here lt small w.within e h in
    record { same = same; next = record { within = (left_within rest a base i size end lt w.within).1 } }

pub turn_room : (rest : List DimensionStep) (a : DimensionStep) (base i size end index here : ℕ) → RoomSoFar rest a base i size end → i < a.count → end < 2 ^ 64 →
    index ≡ min (min (i * a.stride) (2 ^ 128 - 1) + a.start) (2 ^ 128 - 1) → here ≡ min (min (index * a.pitch) (2 ^ 128 - 1) + base) (2 ^ 128 - 1) → HaveRoom size end (walk rest here)
turn_room rest a base i size end index here w lt small e h =
    subst (HaveRoom size end) (sym (here_walk rest a base i size end index here lt small w.within e h)) (left_within rest a base i size end lt w.within).0

pub read_next : (signed : Bool) (bytes : List ℕ) (kind : ℕ) (rest : List DimensionStep) (a : DimensionStep) (base i size end here : ℕ) (total : List Number) (now more before : List Datum) →
    ReadSoFar signed bytes kind rest a base i total now before → Turn rest a base i size end here → i < a.count → AppendsCells signed (map (number_at bytes kind) (walk rest here)) now (Ok more) →
    ReadSoFar signed bytes kind rest a base (i + 1) total more before
read_next signed bytes kind rest a base i size end here total now more before s t lt g = record {
  whole = λ r k.
      s.whole r (subst (λ l. AppendsCells signed l now r) (numbers-next bytes kind rest a base i lt)
      (goes-then signed (map (number_at bytes kind) (walk rest (along a base i))) (map (number_at bytes kind) (offsets_left rest a base (i + 1))) now more r
      (subst (λ l. AppendsCells signed (map (number_at bytes kind) l) now (Ok more)) t.same g) k));
}

pub read_fails : (signed : Bool) (bytes : List ℕ) (kind : ℕ) (rest : List DimensionStep) (a : DimensionStep) (base i size end here : ℕ) (total : List Number) (now before : List Datum) (e : CdfFault) →
    ReadSoFar signed bytes kind rest a base i total now before → Turn rest a base i size end here → i < a.count → AppendsCells signed (map (number_at bytes kind) (walk rest here)) now (Err e) →
    AppendsCells signed total before (Err e)
read_fails signed bytes kind rest a base i size end here total now before e s t lt g =
    s.whole (Err e) (subst (λ l. AppendsCells signed l now (Err e)) (numbers-next bytes kind rest a base i lt)
    (goes-fails signed (map (number_at bytes kind) (walk rest (along a base i))) (map (number_at bytes kind) (offsets_left rest a base (i + 1))) now e
    (subst (λ l. AppendsCells signed (map (number_at bytes kind) l) now (Err e)) t.same g)))

pub read_done : (signed : Bool) (bytes : List ℕ) (kind : ℕ) (rest : List DimensionStep) (a : DimensionStep) (base i : ℕ) (total : List Number) (now before : List Datum) →
    ReadSoFar signed bytes kind rest a base i total now before → a.count ≤ i → AppendsCells signed total before (Ok now)
read_done signed bytes kind rest a base i total now before s le =
    s.whole (Ok now) (subst (λ l. AppendsCells signed (map (number_at bytes kind) l) now (Ok now)) (sym (blocks_done (λ j. walk rest (along a base j)) i a.count le)) (goes-none signed now))

-- the cells so far, and those of the places left
pub record CountSoFar (rest : List DimensionStep) (a : DimensionStep) (base i now before total : ℕ) : Type 0 where
  pub many : now + length (offsets_left rest a base i) ≡ before + total

pub count_next : (rest : List DimensionStep) (a : DimensionStep) (base i size end here now more before total : ℕ) → CountSoFar rest a base i now before total → Turn rest a base i size end here → i < a.count →
    more ≡ now + length (walk rest here) → CountSoFar rest a base (i + 1) more before total
count_next rest a base i size end here now more before total s t lt e = record {
  many = omega (
    arith,
    s.many,
    e,
    ap length t.same,
    ap length (blocks_next (λ j. walk rest (along a base j)) i a.count lt),
    length-append (walk rest (along a base i)) (offsets_left rest a base (i + 1)),
  );
}

-- the count of a fault of one block, in the words of the whole
pub count_late : (signed : Bool) (rest : List DimensionStep) (a : DimensionStep) (base i size end here now before total : ℕ) (e : CdfFault) → CountSoFar rest a base i now before total → Turn rest a base i size end here → i < a.count →
    IsLate signed (now + length (walk rest here)) e → IsLate signed (before + total) e
count_late signed rest a base i size end here now before total e s t lt late =
    late_more signed _ (before + total) e
    (omega (
      arith,
      s.many,
      ap length t.same,
      ap length (blocks_next (λ j. walk rest (along a base j)) i a.count lt),
      length-append (walk rest (along a base i)) (offsets_left rest a base (i + 1)),
    )) late

pub count_done : (rest : List DimensionStep) (a : DimensionStep) (base i now before total : ℕ) → CountSoFar rest a base i now before total → a.count ≤ i → now ≡ before + total
count_done rest a base i now before total s le = omega (arith, s.many, ap length (blocks_done (λ j. walk rest (along a base j)) i a.count le))

pub one_is : {X : Type 0} (xs : List X) (d : X) → 1 ≤ length xs → length xs < 2 → xs ≡ get_or xs 0 d ∷ []
one_is [] d le lt = absurd (omega (arith, le))
one_is (x ∷ []) d le lt = refl
one_is (x ∷ y ∷ xs) d le lt = absurd (omega (arith, lt))
