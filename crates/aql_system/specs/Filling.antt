-- What reading until a piece is full gives.
use Rattle.std.specs.Prelude.{◌≡◌, ℕ, ◌-◌, drop, min, Option, Some, None, Result, IfOk, List, length, take}

-- where the bytes that are left are told, the first of them stand at the front of the piece, as many as the smaller of the room
-- and what is left
abbrev pub GivesNext : {E : Type 0} → Option (List ℕ) → Result ℕ E → List ℕ → Type 0
GivesNext None result piece = Unit {0}
GivesNext (Some left) result piece = IfOk result (λ n. (n ≡ min (length piece) (length left)) × (take n piece ≡ take n left))

-- the same of bytes from an offset on
abbrev pub GivesFrom : {E : Type 0} → Option (List ℕ) → (at : ℕ) → Result ℕ E → List ℕ → Type 0
GivesFrom None at result piece = Unit {0}
GivesFrom (Some bytes) at result piece = IfOk result (λ n. (n ≡ min (length piece) (length bytes - at)) × (take n piece ≡ take n (drop at bytes)))

-- where its bytes are told, a file has left what stands behind an offset
abbrev pub StandsAt : (bytes : Option (List ℕ)) → (at : ℕ) → (left : Option (List ℕ)) → Type 0
StandsAt bytes at left = (all : List ℕ) → bytes ≡ Some all → left ≡ Some (drop at all)

-- the same of the offset that is known, where one is
abbrev pub StandsWhere : (bytes : Option (List ℕ)) → (known : Option ℕ) → (left : Option (List ℕ)) → Type 0
StandsWhere bytes known left = (at : ℕ) → known ≡ Some at → StandsAt bytes at left
