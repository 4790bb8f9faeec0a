-- Numbers written over bytes, one after the other.
use Rattle.std.proofs.Common.{◌≡◌, ℕ, ◌+◌, ◌*◌, ◌^◌, ◌%◌, ◌<◌, ◌≤◌, max, List, [], ◌∷◌, ◌++◌, length, take, set, get_or, sym, ◌∙◌, ap, arith, append_assoc, length-append}
use Rattle.std.specs.Prelude.{slice_index}
use Rattle.std.proofs.lemmas.List.{length-take-le, take_at, take_more, take_all, take_more_set}
use Rattle.byteorder.specs.Endian.{little_bytes}
use Rattle.byteorder.specs.Numbers.{length-bytes_low_first}
use Rattle.nrca_array.specs.Packing.{greatest, spell_numbers, bytes_for, width_for}
use Rattle.nrca_array.specs.Kept.{numbers_at, IsSpelled}
use Rattle.nrca_array.proofs.Spelling.{spelled-push, spelled-append, spelled-reads, spelled-is, length-spelled, greatest-append, width_for-append, bytes_for-fits, fits_wider}

-- the greatest of one number more
pub greatest_more : (ns : List ℕ) (i : ℕ) → i < length ns → greatest (take (i + 1) ns) ≡ max (greatest (take i ns)) (slice_index ns i)
greatest_more ns i h = omega (arith, ap greatest (take_more ns i 0 h), greatest-append (take i ns) (get_or ns i 0 ∷ []))

-- one number more is written
pub written_more : (w : ℕ) (ns buffer rest post : List ℕ) (i : ℕ) → w * i ≤ length buffer → i < length ns → take (w * i) buffer ≡ spell_numbers w (take i ns)
    → take (w * i + w) (take (w * i) buffer ++ ((little_bytes w (slice_index ns i) ++ rest) ++ post)) ≡ spell_numbers w (take (i + 1) ns)
written_more w ns buffer rest post i room within before =
    let front : List ℕ = take (w * i) buffer in
    let bytes : List ℕ = little_bytes w (slice_index ns i) in
    let whole : front ++ ((bytes ++ rest) ++ post) ≡ (front ++ bytes) ++ (rest ++ post) = ap (λ l. front ++ l) (append_assoc bytes rest post) ∙ sym (append_assoc front bytes (rest ++ post)) in
    let many : length (front ++ bytes) ≡ w * i + w = omega (arith, length-append front bytes, length-take-le (w * i) buffer room, length-bytes_low_first 0 w (slice_index ns i)) in
    ap (take (w * i + w)) whole
    ∙ take_at (front ++ bytes) (rest ++ post) (w * i + w) many
    ∙ ap (λ l. l ++ bytes) before
    ∙ sym (spelled-push w (take i ns) (slice_index ns i))
    ∙ ap (spell_numbers w) (sym (take_more ns i 0 within))

-- one number more is written in one byte
pub written_one_more : (ns buffer : List ℕ) (i : ℕ) → i < length buffer → i < length ns → slice_index ns i < 256 → take i buffer ≡ spell_numbers 1 (take i ns)
    → take (i + 1) (set buffer i (slice_index ns i)) ≡ spell_numbers 1 (take (i + 1) ns)
written_one_more ns buffer i room within small before =
    let x : ℕ = slice_index ns i in
    let e : x ≡ x % 256 = omega (arith, small) in
    take_more_set buffer i x room
    ∙ (λ j. before j ++ e j ∷ [])
    ∙ sym (spelled-push 1 (take i ns) x)
    ∙ ap (spell_numbers 1) (sym (take_more ns i 0 within))

-- all are written
pub written_all : (w : ℕ) (ns buffer : List ℕ) (i : ℕ) → length buffer ≡ w * length ns → i ≡ length ns → take (w * i) buffer ≡ spell_numbers w (take i ns) → buffer ≡ spell_numbers w ns
written_all w ns buffer i room e before =
    sym (take_all (w * i) buffer (let l : length buffer ≤ w * i = omega (arith, room, ap (λ k. w * k) e) in l))
    ∙ before ∙ ap (spell_numbers w) (take_all i ns (omega (arith, e)))

-- numbers widened to a width that is wide enough for others as well, and then the others
module _ (w v n m : ℕ) (bytes all ns ms : List ℕ) (s : IsSpelled w bytes ns) (h : greatest ms < 2 ^ 128) (l : v ≡ max w (bytes_for (greatest ms))) (e : all ≡ spell_numbers v ns ++ spell_numbers v ms) (j : length ns ≡ n) (k : length ms ≡ m) where
  least : v ≡ width_for (ns ++ ms)
  least = l ∙ ap (λ u. max u (bytes_for (greatest ms))) s.least ∙ sym (width_for-append ns ms)

  small : greatest (ns ++ ms) < 2 ^ 128
  small = omega (arith, greatest-append ns ms, s.small, h)

  spells : all ≡ spell_numbers v (ns ++ ms)
  spells = e ∙ sym (spelled-append v ns ms)

  many : length (ns ++ ms) ≡ n + m
  many = omega (arith, length-append ns ms, j, k)

  pub extended-reads : numbers_at v (n + m) all ≡ ns ++ ms
  extended-reads = spelled-reads v (n + m) all (ns ++ ms) least small spells many

  pub extended-is : IsSpelled v all (numbers_at v (n + m) all)
  extended-is = spelled-is v (n + m) all (ns ++ ms) least small spells many

  pub extended-fills : (n + m) * v ≡ length all
  extended-fills = ap (λ i. i * v) (sym many) ∙ sym (length-spelled v (ns ++ ms)) ∙ ap length (sym spells)

-- numbers fit in a width that is at least the least for them
pub others_fit : (w v : ℕ) (ms : List ℕ) → greatest ms < 2 ^ 128 → v ≡ max w (bytes_for (greatest ms)) → greatest ms < 256 ^ v
others_fit w v ms h l = fits_wider (greatest ms) (bytes_for (greatest ms)) v (bytes_for-fits (greatest ms) h) (omega (arith, l))
