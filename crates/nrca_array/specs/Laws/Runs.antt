-- What follows from the definitions of `Runs`.
use Rattle.std.proofs.Common.{◌≡◌, ℕ, ◌*◌, List, length, drop}
use Rattle.std.proofs.lemmas.List.FromFn.{length-map-range_with_len}
use Rattle.byteorder.specs.Endian.{big_number}
use Rattle.nrca_array.specs.Runs.{run}

pub length-run : (size step n : ℕ) (bytes : List ℕ) → length (run size step n bytes) ≡ n
length-run size step n bytes = length-map-range_with_len (λ j. big_number size (drop (j * step) bytes)) 0 n
