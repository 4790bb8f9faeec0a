-- What reading a source did.
use Rattle.std.specs.Prelude.{◌≡◌, ◌≤◌, ◌+◌, ℕ, List, [], ◌++◌, Option, length}
use Rattle.std.specs.Io.KnownBytes.{Consumes, IsAtEnd}
use Rattle.aql_run.specs.declared.reading.ReadFault.{ReadFault}
use Rattle.aql_run.specs.declared.reading.ReadFault.TheVariants.{Memory, Long, Failed}

-- the most bytes of a script
abbrev pub most_bytes : ℕ
most_bytes = 1048576

-- a piece of n bytes was added to those before, and none comes only at the end
abbrev pub TakesPiece : Option (List ℕ) → Option (List ℕ) → List ℕ → List ℕ → ℕ → Type 0
TakesPiece old new before after n = (piece : List ℕ) × Consumes old new piece × (after ≡ before ++ piece)
    × (n ≡ length piece) × (length after ≤ most_bytes + 1) × (n ≡ 0 → IsAtEnd new)

-- a piece behind `before` could not be added
abbrev pub PieceFails : Option (List ℕ) → Option (List ℕ) → List ℕ → ReadFault → Type 0
PieceFails old new before Memory = (piece : List ℕ) × Consumes old new piece × (length before + length piece ≤ most_bytes + 1)
PieceFails old new before Long = ⊥
PieceFails old new before Failed = Consumes old new []

-- the source was read to its end, within the limit on a script
abbrev pub ReadsWhole : Option (List ℕ) → Option (List ℕ) → List ℕ → Type 0
ReadsWhole old new script = Consumes old new script × IsAtEnd new × (length script ≤ most_bytes)

-- the source was not read to its end, and how much it gave
abbrev pub ReadFails : Option (List ℕ) → Option (List ℕ) → ReadFault → Type 0
ReadFails old new Memory = (taken : List ℕ) × Consumes old new taken × (length taken ≤ most_bytes + 1)
ReadFails old new Long = (taken : List ℕ) × Consumes old new taken × (length taken ≡ most_bytes + 1)
ReadFails old new Failed = (taken : List ℕ) × Consumes old new taken × (length taken ≤ most_bytes)
