-- Runs of numbers, written one after the other.
use Rattle.std.proofs.Common.{◌≡◌, ℕ, ◌+◌, ◌*◌, ◌<◌, ◌≤◌, ◌-◌, List, length, take, drop, get_or, sym, ◌∙◌, ap, subst, arith, get_or-drop}
use Rattle.std.specs.Prelude.{slice_index}
use Rattle.std.specs.Int.Bits.{bit_or}
use Rattle.std.proofs.lemmas.List.{take_all, take_rest}
use Rattle.std.proofs.lemmas.List.FromFn.{get_or-map-range_with_len}
use Rattle.std.proofs.lemmas.Nat.{or_lt, le_or_l, le_or_r}
use Rattle.std.proofs.lemmas.Bool.Decides.{nat_tests}
use Rattle.byteorder.specs.Endian.{big_number}
use Rattle.nrca_array.specs.Packing.{bytes_for, width_for}
use Rattle.nrca_array.specs.Runs.{run, HaveBits}
use Rattle.nrca_array.proofs.Writing.{greatest_more}

-- a number of a run by its place
pub run_get : (size step n : ℕ) (bytes : List ℕ) (k : ℕ) → k < n → slice_index (run size step n bytes) k ≡ big_number size (drop (k * step) bytes)
run_get size step n bytes k lt = get_or-map-range_with_len (λ j. big_number size (drop (j * step) bytes)) 0 n k k 0 lt (omega arith)

-- the bits of one number more
pub bits_more : (ns : List ℕ) (k x bits : ℕ) → k < length ns → x ≡ slice_index ns k → HaveBits (take k ns) bits → HaveBits (take (k + 1) ns) (bit_or bits x)
bits_more ns k x bits lt e h =
    let g = greatest_more ns k lt in
    record {
      most = omega (arith, g, e, h.most, le_or_l bits x, le_or_r bits x);
      least = λ m l. or_lt m bits x (h.least m (omega (arith, g, l))) (omega (arith, g, e, l));
    }

-- the least width for the bits is that for the numbers
pub bits_width : (ns : List ℕ) (bits : ℕ) → HaveBits ns bits → bytes_for bits ≡ width_for ns
unfolding bytes_for
bits_width ns bits h =
    let a = h.least 8 in
    let b = h.least 16 in
    let c = h.least 32 in
    let d = h.least 64 in
    let e = h.most in
    grind (arith, nat_tests)

pub byte_number : (n : ℕ) (bytes : List ℕ) → get_or bytes n 0 ≡ big_number 1 (drop n bytes)
byte_number n bytes =
    let z : n + 0 ≡ n = omega arith in
    let e : get_or (drop n bytes) 0 0 ≡ get_or bytes n 0 = get_or-drop n bytes 0 0 ∙ ap (λ m. get_or bytes m 0) z in
    omega (arith, e)

-- the number at the start of what stands from a place on
pub number_rest : (size n : ℕ) (bytes : List ℕ) → big_number size (take (length bytes - n) (drop n bytes)) ≡ big_number size (drop n bytes)
number_rest size n bytes = ap (big_number size) (take_rest bytes n)

-- the number that is read is the one of that place
pub run_read : (size step n : ℕ) (bytes : List ℕ) (k x : ℕ) → k < n → x ≡ big_number size (take (length bytes - k * step) (drop (k * step) bytes)) → x ≡ slice_index (run size step n bytes) k
run_read size step n bytes k x lt e = e ∙ number_rest size (k * step) bytes ∙ sym (run_get size step n bytes k lt)

-- the bits of all
pub all_bits : (ns : List ℕ) (k bits all : ℕ) → length ns ≤ k → all ≡ bits → HaveBits (take k ns) bits → HaveBits ns all
all_bits ns k bits all le e h = subst (HaveBits ns) (sym e) (subst (λ l. HaveBits l bits) (take_all k ns le) h)
