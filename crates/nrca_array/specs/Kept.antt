-- What the bytes and lists that are kept stand for.
use Rattle.std.specs.Prelude.{◌≡◌, ℕ, zero, suc, ◌*◌, ◌^◌, ◌<◌, max, Bool, nat_eq, List, [], ◌∷◌, ◌++◌, length, map, drop}
use Rattle.std.specs.declared.vec.Vec.{Vec}
use Rattle.std.proofs.Common.{Global}
use Rattle.byteorder.specs.Endian.{little_number, little_bytes}
use Rattle.nrca_array.specs.Packing.{greatest, width_for, spell_numbers, truth_byte}
use Rattle.nrca_array.specs.declared.width.Width.{Width}
use Rattle.nrca_array.specs.declared.width.Width.TheVariants.{One, Two, Four, Eight, Sixteen}

-- the number of bytes
abbrev pub width_bytes : Width → ℕ
width_bytes One = 1
width_bytes Two = 2
width_bytes Four = 4
width_bytes Eight = 8
width_bytes Sixteen = 16

-- the first n numbers of w bytes each
abbrev pub numbers_at : (w n : ℕ) → List ℕ → List ℕ
numbers_at w zero bytes = []
numbers_at w (suc n) bytes = little_number w bytes ∷ numbers_at w n (drop w bytes)

-- the first n numbers of that width
abbrev pub numbers_in : Width → ℕ → List ℕ → List ℕ
numbers_in w n bytes = numbers_at (width_bytes w) n bytes

-- a number, and each of some numbers, in as many bytes as the width has
abbrev pub little_in : Width → ℕ → List ℕ
little_in w x = little_bytes (width_bytes w) x

-- the number that is spelled in so many bytes
abbrev pub spelled_in : Width → List ℕ → List ℕ
spelled_in w ns = spell_numbers (width_bytes w) ns

-- the first n numbers of the bytes, written in another width
abbrev pub Respells : Width → ℕ → Vec ℕ Global → Width × Vec ℕ Global → Type 0
Respells w n bytes r = r.1.items ≡ spelled_in r.0 (numbers_in w n bytes.items)

-- the greater of two widths
abbrev pub IsWider : (w least r : Width) → Type 0
IsWider w least r = width_bytes r ≡ max (width_bytes w) (width_bytes least)

-- whether a byte says true
abbrev pub byte_truth : ℕ → Bool
byte_truth b = nat_eq b 1

-- a truth value and a number at each place of both lists
abbrev pub paired_up : List Bool → List ℕ → List (Bool × ℕ)
paired_up [] ns = []
paired_up (b ∷ bs) [] = []
paired_up (b ∷ bs) (n ∷ ns) = (b, n) ∷ paired_up bs ns

-- numbers in the least width in which each fits, and nothing else
pub record IsSpelled (w : ℕ) (bytes ns : List ℕ) : Type 0 where
  pub least : w ≡ width_for ns
  pub small : greatest ns < 2 ^ 128
  pub spells : bytes ≡ spell_numbers w ns

-- the first n numbers of these bytes, in the least of the widths, and nothing else
abbrev pub AreNumbers : Width → ℕ → List ℕ → Type 0
AreNumbers w n bytes = IsSpelled (width_bytes w) bytes (numbers_in w n bytes)

-- bytes that are 0 or 1
abbrev pub AreTruths : List ℕ → Type 0
AreTruths bytes = map truth_byte (map byte_truth bytes) ≡ bytes

-- the pairs of n numbers of w bytes each and the n bytes behind them
abbrev pub pairs_at : (w n : ℕ) → List ℕ → List (Bool × ℕ)
pairs_at w n bytes = paired_up (map byte_truth (drop (n * w) bytes)) (numbers_at w n bytes)

-- n numbers in the least width in which each fits, and then n bytes that are 0 or 1
pub record ArePairs (w n : ℕ) (bytes : List ℕ) : Type 0 where
  pub least : w ≡ width_for (numbers_at w n bytes)
  pub small : greatest (numbers_at w n bytes) < 2 ^ 128
  pub truths : AreTruths (drop (n * w) bytes)
  pub many : length (drop (n * w) bytes) ≡ n
  pub spells : bytes ≡ spell_numbers w (numbers_at w n bytes) ++ drop (n * w) bytes

-- pairs whose numbers each fit 128 bits
abbrev pub AreSmallPairs : List (Bool × ℕ) → Type 0
AreSmallPairs ps = greatest (map (λ p. p.1) ps) < 2 ^ 128
