-- Numbers that stand in bytes a step apart, and the cells that they give.
use Rattle.std.specs.Prelude.{◌≡◌, ℕ, ◌+◌, ◌*◌, ◌^◌, ◌≤◌, ◌<◌, List, ◌++◌, length, slice_index, map, drop, Option, Some, None, Result, Ok, Err, ◌⊎◌}
use Rattle.std.specs.List.{range_with_len}
use Rattle.byteorder.specs.Endian.{big_number}
use Rattle.aql_value.specs.Datum.{Datum, natural}
use Rattle.std.specs.declared.vec.Vec.{Vec}
use Rattle.std.proofs.Common.{Global}
use Rattle.nrca_array.specs.Packing.{greatest}
use Rattle.nrca_array.specs.Kept.{numbers_in, spelled_in}
use Rattle.nrca_array.specs.declared.width.Width.{Width}
use Rattle.nrca_array.specs.declared.run.Run.{Run}
use Rattle.nrca_array.specs.declared.run.RunError.{RunError}
use Rattle.nrca_array.specs.declared.run.RunError.TheVariants as errors

-- the bytes that a number may take
abbrev pub IsWidth : ℕ → Type 0
IsWidth size = (size ≡ 1) ⊎ ((size ≡ 2) ⊎ ((size ≡ 4) ⊎ (size ≡ 8)))

-- the n numbers of so many bytes that stand in a list a step apart, the first at its start
abbrev pub run : (size step n : ℕ) → List ℕ → List ℕ
run size step n bytes = map (λ k. big_number size (drop (k * step) bytes)) (range_with_len 0 n)

-- the list has all of their bytes
pub record HasAllBytes (bytes : List ℕ) (size step n : ℕ) : Type 0 where
  pub room : (k : ℕ) → k < n → k * step + size ≤ length bytes

-- the numbers of a run
abbrev pub run_numbers : Run → List ℕ
run_numbers r = run r.size r.step r.count r.bytes.now

-- its bytes have all of them
abbrev pub IsWhole : Run → Type 0
IsWhole r = HasAllBytes r.bytes.now r.size r.step r.count

-- each of the numbers is below the limit, where there is one
abbrev pub AreBelow : (limit : Option ℕ) → List ℕ → Type 0
AreBelow None ns = Unit {0}
AreBelow (Some l) ns = (k : ℕ) → k < length ns → slice_index ns k < l

-- the number at a place is the first that reaches the limit
abbrev pub IsFirstFrom : (limit : Option ℕ) → List ℕ → ℕ → Type 0
IsFirstFrom None ns i = ⊥
IsFirstFrom (Some l) ns i = (i < length ns) × (l ≤ slice_index ns i) × ((k : ℕ) → k < i → slice_index ns k < l)

-- a natural more for each number, where each is below the limit; else the place of the first that reaches it, or want of memory
abbrev pub AppendsRun : (limit : Option ℕ) → (ns : List ℕ) → (before : List Datum) → Result (List Datum) RunError → Type 0
AppendsRun limit ns before (Ok all) = AreBelow limit ns × (all ≡ before ++ map natural ns)
AppendsRun limit ns before (Err errors.Memory) = Unit {0}
AppendsRun limit ns before (Err (errors.Reached i)) = IsFirstFrom limit ns i

-- a number has the bits of all of these: it is no less than any, and a power of two that all are below is above it
pub record HaveBits (ns : List ℕ) (bits : ℕ) : Type 0 where
  pub most : greatest ns ≤ bits
  pub least : (m : ℕ) → greatest ns < 2 ^ m → bits < 2 ^ m

-- the first n numbers of the bytes and then those of a run, written in another width
abbrev pub RespellsWith : Width → ℕ → Vec ℕ Global → Run → Width → Vec ℕ Global → Type 0
RespellsWith w n bytes r v all = all.items ≡ spelled_in v (numbers_in w n bytes.items) ++ spelled_in v (run_numbers r)
