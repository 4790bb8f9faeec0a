-- How the cells of an array are packed into bytes.
use Rattle.std.specs.Prelude.{ℕ, ◌*◌, ◌^◌, max, nat_lt, Bool, List, [], ◌∷◌, ◌++◌, map, Option, Some, None, if◌then◌else◌}
use Rattle.std.specs.Option.{option_map}
use Rattle.std.specs.List.{flat_map}
use Rattle.byteorder.specs.Endian.{little_bytes}
use Rattle.aql_value.specs.Datum.{Datum, natural, truth, tuple, data_of}
use Rattle.aql_value.specs.Operations.{as_natural, as_truth, as_tuple}
use Rattle.aql_value.specs.Partial.{◌>>=◌, each, or_else}

-- the least of 1, 2, 4, 8 and 16 bytes in which a natural below 2^128 fits
unfoldable pub bytes_for : ℕ → ℕ
bytes_for n = if nat_lt n (2 ^ 8) then 1 else (if nat_lt n (2 ^ 16) then 2 else (if nat_lt n (2 ^ 32) then 4 else (if nat_lt n (2 ^ 64) then 8 else 16)))

-- the greatest of the numbers, and 0 of none
abbrev pub greatest : List ℕ → ℕ
greatest [] = 0
greatest (n ∷ ns) = max n (greatest ns)

-- the least number of bytes in which each of the naturals fits
abbrev pub width_for : List ℕ → ℕ
width_for ns = bytes_for (greatest ns)

-- each number in w bytes, its lowest byte first
abbrev pub spell_numbers : ℕ → List ℕ → List ℕ
spell_numbers w ns = flat_map (little_bytes w) ns

-- a truth value as a byte
abbrev pub truth_byte : Bool → ℕ
truth_byte b = if b then 1 else 0

-- a pair of a truth value and a natural as a value
abbrev pub pair_datum : Bool × ℕ → Datum
pair_datum p = tuple (data_of (truth p.0 ∷ natural p.1 ∷ []))

-- the truth value and the natural of two parts
abbrev pub parts_pair : List Datum → Option (Bool × ℕ)
parts_pair [] = None
parts_pair (a ∷ []) = None
parts_pair (a ∷ b ∷ []) = as_truth a >>= λ t. as_natural b >>= λ n. Some (t, n)
parts_pair (a ∷ b ∷ c ∷ vs) = None

-- the truth value and the natural, where the value is a pair of those
abbrev pub as_pair : Datum → Option (Bool × ℕ)
as_pair v = as_tuple v >>= parts_pair

-- naturals: the width in bits, and the numbers one after the other
abbrev pub naturals_packing : List ℕ → ℕ × List ℕ
naturals_packing ns = (8 * width_for ns, spell_numbers (width_for ns) ns)

-- truth values: a byte for each
abbrev pub truths_packing : List Bool → ℕ × List ℕ
truths_packing bs = (8, map truth_byte bs)

-- pairs: the naturals of all, and then a truth byte for each
abbrev pub pairs_packing : List (Bool × ℕ) → ℕ × List ℕ
pairs_packing ps =
    let ns = map (λ p. p.1) ps in
    (8 * width_for ns, spell_numbers (width_for ns) ns ++ map (λ p. truth_byte p.0) ps)

-- the width in bits and the bytes of cells that are packed: one cell or more, all of them naturals, or all truth values, or all pairs of a truth value and a natural
unfoldable pub packing : List Datum → Option (ℕ × List ℕ)
packing [] = None
packing (c ∷ cs) =
    or_else (option_map naturals_packing (each as_natural (c ∷ cs)))
    (or_else (option_map truths_packing (each as_truth (c ∷ cs))) (option_map pairs_packing (each as_pair (c ∷ cs))))
