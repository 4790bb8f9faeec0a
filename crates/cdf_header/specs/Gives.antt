-- What a function of the reader gives.
use Rattle.std.specs.Prelude.{◌≡◌, ℕ, ◌≤◌, List, length, Result, Ok, Err}
use Rattle.cdf_header.specs.declared.fault.ReadError.{ReadError}
use Rattle.cdf_header.specs.declared.fault.ReadError.TheVariants as errors
use Rattle.cdf_header.specs.Format.{Format, PartFormat, parse}

-- reading the part at k leads to the value and the place behind it, whatever must come after
pub record ParsesTo {X : Type 0} (part : PartFormat X) (bytes : List ℕ) (k : ℕ) (x : X) (after : ℕ) : Type 0 where
  pub within : after ≤ length bytes
  pub goes : (next : X → Format) → parse (part next) bytes k ≡ parse (next x) bytes after

-- reading the part at k fails so, whatever must come after
abbrev pub FailsAt : {X : Type 0} → PartFormat X → List ℕ → ℕ → ReadError → Type 0
FailsAt part bytes k errors.Memory = Unit {0}
FailsAt {X = X} part bytes k (errors.Fault f) = (next : X → Format) → parse (part next) bytes k ≡ Err f

-- a value and the place behind it are given where reading the part at k leads to them, and an error where reading fails so
abbrev pub GivesPart : {X Y : Type 0} → (Y → X) → PartFormat X → List ℕ → ℕ → Result (Y × ℕ) ReadError → Type 0
GivesPart view part bytes k (Ok y) = ParsesTo part bytes k (view y.0) y.1
GivesPart view part bytes k (Err e) = FailsAt part bytes k e
