-- Pairs in bytes: the numbers of all, and then a byte for each truth value.
use Rattle.std.proofs.Common.{◌≡◌, ℕ, zero, suc, ◌+◌, ◌*◌, ◌^◌, ◌<◌, Bool, true, false, List, [], ◌∷◌, ◌++◌, length, map, drop, get_or, Some, refl, sym, ◌∙◌, ap, subst, arith, length-append}
use Rattle.std.specs.Prelude.{slice_get, nat_eq}
use Rattle.std.specs.Option.{option_map}
use Rattle.std.proofs.Math.Seq.{drop-append_seam}
use Rattle.std.proofs.lemmas.List.{length-map, get_or-drop, map-append}
use Rattle.std.proofs.lemmas.Option.{slice_get-map, slice_get-get_or}
use Rattle.byteorder.specs.Endian.{little_number}
use Rattle.nrca_array.specs.Packing.{greatest, width_for, spell_numbers, truth_byte, pairs_packing, pair_datum}
use Rattle.nrca_array.specs.Kept.{numbers_at, pairs_at, paired_up, byte_truth, ArePairs}
use Rattle.nrca_array.proofs.Spelling.{length-numbers_at, length-spelled, numbers_at-spelled, numbers_at-get, width_fits}

byte_truth-truth_byte : (b : Bool) → byte_truth (truth_byte b) ≡ b
byte_truth-truth_byte true = refl
byte_truth-truth_byte false = refl

-- truth values are read back from their bytes
pub truths-read : (bs : List Bool) → map byte_truth (map truth_byte bs) ≡ bs
truths-read [] = refl
truths-read (b ∷ bs) = λ i. byte_truth-truth_byte b i ∷ truths-read bs i

pub length-paired_up : (bs : List Bool) (ns : List ℕ) → length bs ≡ length ns → length (paired_up bs ns) ≡ length ns
length-paired_up [] [] e = refl
length-paired_up [] (n ∷ ns) e = absurd (omega (arith, e))
length-paired_up (b ∷ bs) [] e = refl
length-paired_up (b ∷ bs) (n ∷ ns) e = ap suc (length-paired_up bs ns (omega (arith, e)))

pub paired_up-get : (bs : List Bool) (ns : List ℕ) (i : ℕ) (b : Bool) (n : ℕ) → slice_get bs i ≡ Some b → slice_get ns i ≡ Some n → slice_get (paired_up bs ns) i ≡ Some (b, n)
paired_up-get [] ns i b n e f = cc
paired_up-get (c ∷ bs) [] i b n e f = cc
paired_up-get (c ∷ bs) (m ∷ ns) zero b n e f = let x : c ≡ b = cc in let y : m ≡ n = cc in λ i. Some (x i, y i)
paired_up-get (c ∷ bs) (m ∷ ns) (suc i) b n e f = paired_up-get bs ns i b n e f

numbers-of : (bs : List Bool) (ns : List ℕ) → length bs ≡ length ns → map (λ p. p.1) (paired_up bs ns) ≡ ns
numbers-of [] [] e = refl
numbers-of [] (n ∷ ns) e = absurd (omega (arith, e))
numbers-of (b ∷ bs) [] e = absurd (omega (arith, e))
numbers-of (b ∷ bs) (n ∷ ns) e = ap (λ l. n ∷ l) (numbers-of bs ns (omega (arith, e)))

bytes-of : (bs : List Bool) (ns : List ℕ) → length bs ≡ length ns → map (λ p. truth_byte p.0) (paired_up bs ns) ≡ map truth_byte bs
bytes-of [] ns e = refl
bytes-of (b ∷ bs) [] e = absurd (omega (arith, e))
bytes-of (b ∷ bs) (n ∷ ns) e = ap (λ l. truth_byte b ∷ l) (bytes-of bs ns (omega (arith, e)))

-- pairs that are put together
module _ (w n : ℕ) (bytes tail ns : List ℕ) (bs : List Bool) (least : w ≡ width_for ns) (small : greatest ns < 2 ^ 128) (many : length ns ≡ n) (t : tail ≡ map truth_byte bs) (same : length bs ≡ n) (e : bytes ≡ spell_numbers w ns ++ tail) where
  numbers : numbers_at w n bytes ≡ ns
  numbers =
      (λ i. numbers_at w (sym many i) (e i))
      ∙ numbers_at-spelled w ns tail (subst (λ v. greatest ns < 256 ^ v) (sym least) (width_fits ns small))

  behind : drop (n * w) bytes ≡ tail
  behind =
      (λ i. drop (n * w) (e i))
      ∙ ap (λ k. drop k (spell_numbers w ns ++ tail)) (ap (λ k. k * w) (sym many) ∙ sym (length-spelled w ns))
      ∙ drop-append_seam (spell_numbers w ns) tail

  truths : map byte_truth (drop (n * w) bytes) ≡ bs
  truths = ap (map byte_truth) (behind ∙ t) ∙ truths-read bs

  pub pairs-read : pairs_at w n bytes ≡ paired_up bs ns
  pairs-read = λ i. paired_up (truths i) (numbers i)

  pub pairs-are : ArePairs w n bytes
  pairs-are = record {
    least = least ∙ ap width_for (sym numbers);
    small = subst (λ l. greatest l < 2 ^ 128) (sym numbers) small;
    truths = ap (map truth_byte) truths ∙ sym t ∙ sym behind;
    many = ap length (behind ∙ t) ∙ length-map bs truth_byte ∙ same;
    spells = e ∙ (λ i. spell_numbers w (sym numbers i) ++ sym behind i);
  }

-- pairs that are kept
module _ (w n : ℕ) (bytes : List ℕ) (s : ArePairs w n bytes) where
  own : List ℕ
  own = numbers_at w n bytes

  tail : List ℕ
  tail = drop (n * w) bytes

  same : length (map byte_truth tail) ≡ length own
  unfolding own tail
  same = length-map (drop (n * w) bytes) byte_truth ∙ s.many ∙ sym (length-numbers_at w n bytes)

  pub length-pairs : length (pairs_at w n bytes) ≡ n
  unfolding own tail
  length-pairs = length-paired_up (map byte_truth (drop (n * w) bytes)) (numbers_at w n bytes) same ∙ length-numbers_at w n bytes

  pub pairs-fill : n * w + n ≡ length bytes
  pairs-fill =
      omega (arith, ap length s.spells, length-append (spell_numbers w (numbers_at w n bytes)) (drop (n * w) bytes), length-spelled w (numbers_at w n bytes), ap (λ k. k * w) (length-numbers_at w n bytes), s.many)

  pub pairs-width : w ≡ width_for (map (λ p. p.1) (pairs_at w n bytes))
  unfolding own tail
  pairs-width = s.least ∙ ap width_for (sym (numbers-of (map byte_truth (drop (n * w) bytes)) (numbers_at w n bytes) same))

  pub pairs-bytes : bytes ≡ (pairs_packing (pairs_at w n bytes)).1
  unfolding own tail
  pairs-bytes =
      s.spells
      ∙ (let back = sym (numbers-of (map byte_truth (drop (n * w) bytes)) (numbers_at w n bytes) same) in λ i. spell_numbers (pairs-width i) (back i) ++ drop (n * w) bytes)
      ∙ ap (λ l. spell_numbers (width_for (map (λ p. p.1) (pairs_at w n bytes))) (map (λ p. p.1) (pairs_at w n bytes)) ++ l) (sym s.truths ∙ sym (bytes-of (map byte_truth (drop (n * w) bytes)) (numbers_at w n bytes) same))

  pub pairs-get : (i x : ℕ) → i < n → x ≡ get_or bytes (n * w + i) x → slice_get (pairs_at w n bytes) i ≡ Some (nat_eq x 1, little_number w (drop (i * w) bytes))
  pairs-get i x h e =
      paired_up-get (map byte_truth (drop (n * w) bytes)) (numbers_at w n bytes) i (nat_eq x 1) (little_number w (drop (i * w) bytes))
      (slice_get-map byte_truth (drop (n * w) bytes) i ∙ ap (option_map byte_truth) (slice_get-get_or (drop (n * w) bytes) i x (omega (arith, h, s.many)) ∙ ap Some (get_or-drop (n * w) bytes i x ∙ sym e)))
      (slice_get-get_or (numbers_at w n bytes) i 0 (omega (arith, h, length-numbers_at w n bytes)) ∙ ap Some (numbers_at-get w n bytes i h))

-- as many pairs as numbers
pub pair_count : (bs : List Bool) (ns : List ℕ) → length bs ≡ length ns → length (map pair_datum (paired_up bs ns)) ≡ length ns
pair_count bs ns e = length-map (paired_up bs ns) pair_datum ∙ length-paired_up bs ns e

pub ruleset pair_lengths = (length-paired_up, pair_count)

-- pairs, and then others
pub paired_up-append : (bs : List Bool) (ns : List ℕ) (cs : List Bool) (ms : List ℕ) → length bs ≡ length ns → paired_up (bs ++ cs) (ns ++ ms) ≡ paired_up bs ns ++ paired_up cs ms
paired_up-append [] [] cs ms e = refl
paired_up-append [] (n ∷ ns) cs ms e = absurd (omega (arith, e))
paired_up-append (b ∷ bs) [] cs ms e = absurd (omega (arith, e))
paired_up-append (b ∷ bs) (n ∷ ns) cs ms e = ap (λ l. (b, n) ∷ l) (paired_up-append bs ns cs ms (omega (arith, e)))

pub push_pairs : (bs cs : List Bool) (ns ms : List ℕ) (b : Bool) (n : ℕ) → length bs ≡ length ns → cs ≡ bs ++ b ∷ [] → ms ≡ ns ++ n ∷ [] → map pair_datum (paired_up cs ms) ≡ map pair_datum (paired_up bs ns) ++ pair_datum (b, n) ∷ []
push_pairs bs cs ns ms b n h e f =
    (λ i. map pair_datum (paired_up (e i) (f i)))
    ∙ ap (map pair_datum) (paired_up-append bs ns (b ∷ []) (n ∷ []) h)
    ∙ map-append pair_datum (paired_up bs ns) ((b, n) ∷ [])

pub append_pairs : (ds bs cs : List Bool) (ls ns ms : List ℕ) → length bs ≡ length ns → cs ≡ bs ++ ds → ms ≡ ns ++ ls → map pair_datum (paired_up cs ms) ≡ map pair_datum (paired_up bs ns) ++ map pair_datum (paired_up ds ls)
append_pairs ds bs cs ls ns ms h e f =
    (λ i. map pair_datum (paired_up (e i) (f i)))
    ∙ ap (map pair_datum) (paired_up-append bs ns ds ls h)
    ∙ map-append pair_datum (paired_up bs ns) (paired_up ds ls)

pub ruleset pair_steps = (push_pairs, append_pairs)
