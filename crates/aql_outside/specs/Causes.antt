-- When a device may answer that it failed, and when its count of faults may be greater.
use Rattle.std.specs.Prelude.{◌≡◌, ℕ, ◌+◌, ◌-◌, ◌^◌, ◌≤◌, ◌<◌, min, Result, OnErr, OnOk, IfOk, List, length}

-- a count is greater than before, or stands at the end of a counter of 64 bits, where it stays
abbrev pub Rose : ℕ → ℕ → Type 0
Rose before now = min (before + 1) (2 ^ 64 - 1) ≤ now

-- What a call did to its object's count of faults: it did not fall, it rose where the call answered an error, and where the
-- object is quiet, as `quiet` says, it is as before where the call ended well.
pub record HasCause {T E : Type 0} (quiet : Type 0) (before now : ℕ) (result : Result T E) : Type 0 where
  pub later : before ≤ now
  pub failed : OnErr result (Rose before now)
  pub stays : quiet → OnOk result (now ≡ before)

-- What several calls did to an object's count of faults: it did not fall, it rose where the object is blamed, and where the
-- object is quiet it is greater only where it is blamed.
pub record Blames (quiet blamed : Type 0) (before now : ℕ) : Type 0 where
  pub later : before ≤ now
  pub failed : blamed → Rose before now
  pub noticed : quiet → before < now → blamed

-- a write of a piece that isn't empty takes at least one byte
abbrev pub TakesSome : {E : Type 0} → Result ℕ E → List ℕ → Type 0
TakesSome result piece = 0 < length piece → IfOk result (λ n. 0 < n)
