-- Runs of indices of the last dimension, and the numbers that are read there.
use Rattle.std.proofs.Common.{◌≡◌, ℕ, zero, suc, ◌+◌, ◌*◌, ◌-◌, ◌<◌, ◌≤◌, min, Bool, List, [], ◌∷◌, ◌++◌, length, map, drop, Result, Ok, Err, refl, sym, ap, subst, ◌∙◌, arith, length-append, length-drop}
use Rattle.std.specs.List.{flat_map, range_with_len}
use Rattle.std.proofs.lemmas.Grind.{flat_map-append}
use Rattle.std.proofs.lemmas.List.{length-map, drop-drop}
use Rattle.std.proofs.lemmas.List.Concat.{flat_map_single}
use Rattle.std.proofs.lemmas.List.FromFn.{length-range_with_len}
use Rattle.byteorder.specs.Endian.{big_number}
use Rattle.aql_value.specs.Datum.{Datum}
use Rattle.cdf_header.specs.Format.{type_size}
use Rattle.cdf_header.specs.declared.fault.CdfFault.{CdfFault}
use Rattle.cdf_slab.specs.declared.window.Window.{Window}
use Rattle.cdf_slab.specs.Numbers.{Number, number_of, number_at}
use Rattle.cdf_slab.specs.Run.{apart, HoldsRun}
use Rattle.nrca_array.specs.Runs.{run, HasAllBytes}
use Rattle.cdf_slab.specs.Walk.{DimensionStep, along, walk, HaveRoom, offsets_left, RoomSoFar, Turn}
use Rattle.cdf_slab.specs.Slab.{IsLate}
use Rattle.cdf_slab.specs.Window.{IsPiece, window_bytes}
use Rattle.cdf_slab.specs.Going.{AppendsCells}
use Rattle.cdf_slab.proofs.Blocks.{AreWithin-append, ReadSoFar, CountSoFar}
use Rattle.cdf_slab.proofs.Goings.{goes-then, goes-fails, goes_late, late_more}
use Rattle.cdf_slab.proofs.Pieces.{piece_number, length-held}
use Rattle.cdf_slab.proofs.Walking.{map-append, map-twice}

range-append : (a n m : ℕ) → range_with_len a (n + m) ≡ range_with_len a n ++ range_with_len (a + n) m
range-append a zero m =
    let e : zero + m ≡ m = omega arith in
    let f : a ≡ a + zero = omega arith in
    ap (range_with_len a) e ∙ ap (λ b. range_with_len b m) f
range-append a (suc n) m =
    let e : suc n + m ≡ suc (n + m) = omega arith in
    let f : a + 1 + n ≡ a + suc n = omega arith in
    ap (range_with_len a) e
    ∙ ap (λ l. a ∷ l) (range-append (a + 1) n m)
    ∙ ap (λ b. a ∷ range_with_len (a + 1) n ++ range_with_len b m) f

-- two functions that agree index by index
same_ranges : {X : Type 0} (f g : ℕ → X) (i j n : ℕ) → ((k : ℕ) → k < n → f (i + k) ≡ g (j + k)) → map f (range_with_len i n) ≡ map g (range_with_len j n)
same_ranges f g i j zero h = refl
same_ranges f g i j (suc n) h =
    let a : i ≡ i + 0 = omega arith in
    let b : j + 0 ≡ j = omega arith in
    ap (λ y. y ∷ map f (range_with_len (i + 1) n)) (ap f a ∙ h 0 (omega arith) ∙ ap g b)
    ∙ ap (λ ys. g j ∷ ys) (same_ranges f g (i + 1) (j + 1) n
    (λ k lt.
    let p : i + 1 + k ≡ i + (k + 1) = omega arith in
    let q : j + (k + 1) ≡ j + 1 + k = omega arith in
    ap f p ∙ h (k + 1) (omega (arith, lt)) ∙ ap g q))

-- the offset of an index further on
along_on : (a : DimensionStep) (base i k step n : ℕ) → k < n → (2 ≤ n → step ≡ a.stride * a.pitch) → along a base (i + k) ≡ along a base i + (0 + k) * step
along_on a base i zero step n lt e = let z : i + 0 ≡ i = omega arith in ap (along a base) z ∙ omega arith
along_on a base i (suc k) step n lt e =
    let s = e (omega (arith, lt)) in
    let m : (a.start + (i + suc k) * a.stride) * a.pitch ≡ (a.start + i * a.stride) * a.pitch + (0 + suc k) * (a.stride * a.pitch) = omega arith in
    ap (λ x. base + x) m ∙ omega arith ∙ ap (λ x. along a base i + (0 + suc k) * x) (sym s)

-- the places of n indices from i on are a step apart
row_apart : (a : DimensionStep) (base i n here step : ℕ) → here ≡ along a base i → (2 ≤ n → step ≡ a.stride * a.pitch) → flat_map (λ j. walk [] (along a base j)) (range_with_len i n) ≡ apart here step n
row_apart a base i n here step h e =
    flat_map_single (along a base) (range_with_len i n)
    ∙ same_ranges (along a base) (λ k. here + k * step) i 0 n (λ k lt. along_on a base i k step n lt e ∙ ap (λ x. x + (0 + k) * step) (sym h))

-- the places of n indices from i on, and then those behind them, which have room
pub record RowTurn (a : DimensionStep) (base i n size end here step : ℕ) : Type 0 where
  pub places : offsets_left [] a base i ≡ apart here step n ++ offsets_left [] a base (i + n)
  pub next : RoomSoFar [] a base (i + n) size end

pub here_is : (a : DimensionStep) (base i size end here : ℕ) → Turn [] a base i size end here → here ≡ along a base i
here_is a base i size end here t = let e = t.same in cc

exact : (stride pitch step m n : ℕ) → step ≡ min (stride * pitch) m → (2 ≤ n → step < m) → 2 ≤ n → step ≡ stride * pitch
exact stride pitch step m n e near two = let l = near two in omega (arith, e, l)

pub row_turn : (a : DimensionStep) (base i n size end here step m : ℕ) → RoomSoFar [] a base i size end → Turn [] a base i size end here → i + n ≤ a.count →
    step ≡ min (a.stride * a.pitch) m → (2 ≤ n → step < m) → RowTurn a base i n size end here step
row_turn a base i n size end here step m room t le s near =
    let c : a.count - i ≡ n + (a.count - (i + n)) = omega arith in
    let places : offsets_left [] a base i ≡ apart here step n ++ offsets_left [] a base (i + n) =
    ap (λ k. flat_map (λ j. walk [] (along a base j)) (range_with_len i k)) c
    ∙ ap (flat_map (λ j. walk [] (along a base j))) (range-append i n (a.count - (i + n)))
    ∙ flat_map-append (λ j. walk [] (along a base j)) (range_with_len i n) (range_with_len (i + n) (a.count - (i + n)))
    ∙ ap (λ l. l ++ offsets_left [] a base (i + n)) (row_apart a base i n here step (here_is a base i size end here t) (exact a.stride a.pitch step m n s near)) in
    record {
      places = places;
      next = record { within = (AreWithin-append size end (apart here step n) (offsets_left [] a base (i + n)) (subst (HaveRoom size end) places room.within)).1 };
    }

-- the numbers of a run in a piece are those of the file
pub run_numbers : (bytes : List ℕ) (w : Window) (kind size place step n : ℕ) → size ≡ type_size kind → HoldsRun w place size step n → IsPiece bytes w →
    map (number_of kind) (run size step n (drop (place - w.at) (window_bytes w))) ≡ map (number_at bytes kind) (apart place step n)
run_numbers bytes w kind size place step n is h p =
    map-twice (number_of kind) (λ k. big_number size (drop (k * step) (drop (place - w.at) (window_bytes w)))) (range_with_len 0 n)
    ∙ same_ranges (λ k. number_of kind (big_number size (drop (k * step) (drop (place - w.at) (window_bytes w))))) (λ k. number_at bytes kind (place + k * step)) 0 0 n
    (λ k lt.
    let z : 0 + k ≡ k = omega arith in
    let o : (place - w.at) + k * step ≡ place + k * step - w.at = omega (arith, h.behind) in
    ap (λ k. number_of kind (big_number size (drop (k * step) (drop (place - w.at) (window_bytes w))))) z
    ∙ ap (λ l. number_of kind (big_number size l)) (drop-drop (k * step) (place - w.at) (window_bytes w) ∙ ap (λ m. drop m (window_bytes w)) o)
    ∙ ap (number_of kind) (piece_number bytes w (place + k * step) size (record { behind = omega (arith, h.behind); before = h.before k lt }) p)
    ∙ ap (λ s. number_of kind (big_number s (drop (place + k * step) bytes))) is
    ∙ ap (λ k. number_at bytes kind (place + k * step)) (sym z))
    ∙ sym (map-twice (number_at bytes kind) (λ k. place + k * step) (range_with_len 0 n))

-- a run in a piece is one of its bytes from the first on
pub has_run : (w : Window) (place size step n : ℕ) → HoldsRun w place size step n → HasAllBytes (drop (place - w.at) (window_bytes w)) size step n
has_run w place size step n h = record { room = λ k lt. omega (arith, h.behind, h.before k lt, length-drop (place - w.at) (window_bytes w), length-held w) }

numbers-on : (bytes : List ℕ) (kind : ℕ) (a : DimensionStep) (base i n size end here step : ℕ) → RowTurn a base i n size end here step →
    map (number_at bytes kind) (apart here step n) ++ map (number_at bytes kind) (offsets_left [] a base (i + n)) ≡ map (number_at bytes kind) (offsets_left [] a base i)
numbers-on bytes kind a base i n size end here step t =
    sym (map-append (number_at bytes kind) (apart here step n) (offsets_left [] a base (i + n))) ∙ ap (map (number_at bytes kind)) (sym t.places)

pub row_next : (signed : Bool) (bytes : List ℕ) (kind : ℕ) (a : DimensionStep) (base i n size end here step : ℕ) (total : List Number) (now more before : List Datum) →
    ReadSoFar signed bytes kind [] a base i total now before → RowTurn a base i n size end here step → AppendsCells signed (map (number_at bytes kind) (apart here step n)) now (Ok more) →
    ReadSoFar signed bytes kind [] a base (i + n) total more before
row_next signed bytes kind a base i n size end here step total now more before s t g = record {
  whole = λ r k.
      s.whole r (subst (λ l. AppendsCells signed l now r) (numbers-on bytes kind a base i n size end here step t)
      (goes-then signed (map (number_at bytes kind) (apart here step n)) (map (number_at bytes kind) (offsets_left [] a base (i + n))) now more r g k));
}

pub row_fails : (signed : Bool) (bytes : List ℕ) (kind : ℕ) (a : DimensionStep) (base i n size end here step : ℕ) (total : List Number) (now before : List Datum) (e : CdfFault) →
    ReadSoFar signed bytes kind [] a base i total now before → RowTurn a base i n size end here step → AppendsCells signed (map (number_at bytes kind) (apart here step n)) now (Err e) →
    AppendsCells signed total before (Err e)
row_fails signed bytes kind a base i n size end here step total now before e s t g =
    s.whole (Err e) (subst (λ l. AppendsCells signed l now (Err e)) (numbers-on bytes kind a base i n size end here step t)
    (goes-fails signed (map (number_at bytes kind) (apart here step n)) (map (number_at bytes kind) (offsets_left [] a base (i + n))) now e g))

pub row_counts : (a : DimensionStep) (base i n size end here step now more before total : ℕ) → CountSoFar [] a base i now before total → RowTurn a base i n size end here step → more ≡ now + n →
    CountSoFar [] a base (i + n) more before total
row_counts a base i n size end here step now more before total s t e = record {
  many = omega (
    arith,
    s.many,
    e,
    ap length t.places,
    length-append (apart here step n) (offsets_left [] a base (i + n)),
    length-map (range_with_len 0 n) (λ k. here + k * step),
    length-range_with_len 0 n,
  );
}

-- the count of a fault of a run, in the words of the whole row
pub row_late : (signed : Bool) (kind size : ℕ) (a : DimensionStep) (base i n end here step : ℕ) (from : List ℕ) (now : List Datum) (before total : ℕ) (e : CdfFault) →
    CountSoFar [] a base i (length now) before total → RowTurn a base i n size end here step → AppendsCells signed (map (number_of kind) (run size step n from)) now (Err e) → IsLate signed (before + total) e
row_late signed kind size a base i n end here step from now before total e s t g =
    late_more signed _ (before + total) e
    (omega (
      arith,
      s.many,
      ap length t.places,
      length-append (apart here step n) (offsets_left [] a base (i + n)),
      length-map (range_with_len 0 n) (λ k. here + k * step),
      length-map (run size step n from) (number_of kind),
      length-map (range_with_len 0 n) (λ k. big_number size (drop (k * step) from)),
      length-range_with_len 0 n,
    ))
    (goes_late signed (map (number_of kind) (run size step n from)) now (Err e) g)

-- what is made of a run in a piece is made of the file's numbers there
pub run_told : (signed : Bool) (bytes : List ℕ) (w : Window) (kind size place step n : ℕ) (from : List ℕ) (now : List Datum) (r : Result (List Datum) CdfFault) →
    size ≡ type_size kind → HoldsRun w place size step n → IsPiece bytes w → from ≡ drop (place - w.at) (window_bytes w) →
    AppendsCells signed (map (number_of kind) (run size step n from)) now r → AppendsCells signed (map (number_at bytes kind) (apart place step n)) now r
run_told signed bytes w kind size place step n from now r is h p e g =
    subst (λ l. AppendsCells signed l now r) (ap (λ l. map (number_of kind) (run size step n l)) e ∙ run_numbers bytes w kind size place step n is h p) g
