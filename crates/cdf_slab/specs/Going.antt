-- What format numbers one after another makes of the cells so far.
use Rattle.std.specs.Prelude.{◌≡◌, ℕ, ◌+◌, ◌≤◌, Bool, false, List, ◌++◌, length, map, Some, Result, Ok, Err, IfOk}
use Rattle.aql_value.specs.Datum.{Datum}
use Rattle.aql_value.specs.Lists.{Every}
use Rattle.aql_value.specs.Partial.{each}
use Rattle.cdf_header.specs.declared.fault.CdfFault.{CdfFault}
use Rattle.cdf_header.specs.declared.fault.CdfFault.TheVariants as faults
use Rattle.cdf_slab.specs.Numbers.{Number, IsCell, cell_of, number_at}
use Rattle.cdf_slab.specs.Slab.{first_negative}
use Rattle.cdf_slab.specs.Window.{IsPiece}
use Rattle.cdf_slab.specs.declared.format.CellFormat.{CellFormat}
use Rattle.cdf_slab.specs.declared.window.Window.{Window}

-- a cell more for each number, up to the first that gives none
abbrev pub AppendsCells : (signed : Bool) → List Number → (before : List Datum) → Result (List Datum) CdfFault → Type 0
AppendsCells signed ns before (Ok all) = (cells : List Datum) × (each (cell_of signed) ns ≡ Some cells) × (all ≡ before ++ cells)
AppendsCells signed ns before (Err (faults.Negative c)) = (signed ≡ false) × (first_negative (length before) ns ≡ Some c)
AppendsCells signed ns before (Err faults.Device) = Unit {0}
AppendsCells signed ns before (Err faults.Memory) = Unit {0}
AppendsCells signed ns before (Err e) = ⊥

-- how many cells there are with those of these places behind them
abbrev pub count_with : List Datum → (places : List ℕ) → ℕ
count_with cells places = length cells + length places

-- where those so far are cells of numbers, so are all
abbrev pub StaysKind : (signed : Bool) → (before : List Datum) → Result (List Datum) CdfFault → Type 0
StaysKind signed before result = Every (IsCell signed) before → IfOk result (Every (IsCell signed))

-- the same is read before the same end or an earlier one
pub record IsPartOf (whole part : CellFormat) : Type 0 where
  pub kind : part.kind ≡ whole.kind
  pub size : part.size ≡ whole.size
  pub signed : part.signed ≡ whole.signed
  pub end : part.end ≤ whole.end

-- where the bytes reach to the end of what is read and the piece is one of them: a cell more for each number at these places, and the piece stays one
abbrev pub ReadsOffsets : (bytes : List ℕ) → CellFormat → (before now : Window) → (places : List ℕ) → (cells : List Datum) → Result (List Datum) CdfFault → Type 0
ReadsOffsets bytes format before now places cells result =
    format.end ≤ length bytes → IsPiece bytes before
    → AppendsCells format.signed (map (number_at bytes format.kind) places) cells result × IfOk result (λ _. IsPiece bytes now)
