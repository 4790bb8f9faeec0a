-- A piece of a file.
use Rattle.std.specs.Prelude.{◌≡◌, ℕ, ◌+◌, ◌≤◌, List, length, take, drop, false, Result, IfOk, IfErr}
use Rattle.cdf_header.specs.File.{IsOutside}
use Rattle.cdf_header.specs.declared.fault.CdfFault.{CdfFault}
use Rattle.cdf_header.specs.declared.fault.CdfFault.TheVariants as faults
use Rattle.cdf_slab.specs.declared.window.Window.{Window}

-- the bytes of the piece
abbrev pub window_bytes : Window → List ℕ
window_bytes w = take w.count w.memory.items

-- the piece is what stands at its offset in these bytes, and all that was asked for
pub record IsPiece (bytes : List ℕ) (w : Window) : Type 0 where
  pub spelled : window_bytes w ≡ take w.count (drop w.at bytes)
  pub whole : w.short ≡ false

-- so many bytes at an offset stand in the piece
pub record HasBytes (w : Window) (place size : ℕ) : Type 0 where
  pub behind : w.at ≤ place
  pub before : place + size ≤ w.at + w.count

-- where the bytes reach so far, so many at an offset come, over the first of a memory
abbrev pub IsRead : (bytes : List ℕ) → (at room : ℕ) → (now : List ℕ) → Result ℕ CdfFault → Type 0
IsRead bytes at room now result =
    at + room ≤ length bytes → IfOk result (λ n. (n ≡ room) × (take n now ≡ take n (drop at bytes)))

-- where the bytes reach so far, so many at an offset are in the window
abbrev pub IsLoaded : {T : Type 0} → (bytes : List ℕ) → (at room : ℕ) → (now : Window) → Result T CdfFault → Type 0
IsLoaded bytes at room now result =
    at + room ≤ length bytes → IfOk result (λ _. IsPiece bytes now × (now.at ≡ at) × (now.count ≡ room))

-- where the bytes reach to the end and the piece is one of them, it stays one, and no fault is of the file
abbrev pub StaysPiece : {T : Type 0} → (bytes : List ℕ) → (end : ℕ) → (before now : Window) → Result T CdfFault → Type 0
StaysPiece bytes end before now result =
    end ≤ length bytes → IsPiece bytes before → IfErr result IsOutside × IfOk result (λ _. IsPiece bytes now)

-- a fault of format a piece: fewer bytes came than were asked, the device failed, or memory was wanting
abbrev pub IsOfPiece : CdfFault → Type 0
IsOfPiece (faults.Cut at) = Unit {0}
IsOfPiece faults.Device = Unit {0}
IsOfPiece faults.Memory = Unit {0}
IsOfPiece e = ⊥
