-- What the calls of the strict forms make.
use Rattle.std.specs.Prelude.{◌≡◌, ℕ, nat_eq, List, length, Option, Some, None, Result, MatchResult, IsOkAnd, if◌then◌else◌}
use Rattle.std.specs.Option.{option_map}
use Rattle.std.specs.declared.vec.Vec.{Vec}
use Rattle.std.proofs.Common.{Global}
use Rattle.aql_value.specs.declared.memory.Memory as declared
use Rattle.aql_value.specs.Datum.{Datum}
use Rattle.aql_value.specs.Operations.{index_value}
use Rattle.aql_value.specs.Strict.{Strict, strict_value}
use Rattle.nrca_array.specs.declared.held.Held.{Held}
use Rattle.nrca_array.specs.Held.{held_datum}
use Rattle.nrca_par.specs.declared.fault.EvalFault.{EvalFault}
use Rattle.nrca_par.specs.declared.fault.EvalFault.TheVariants as fault
use Rattle.nrca_loops.specs.declared.done.Counted.{Counted}
use Rattle.nrca_loops.specs.Parts.{held_values, parts_value, cell_in, numbers_in}
use Rattle.nrca_loops.specs.Values.{held_value}

-- it is what the form makes of the values of its parts
abbrev pub Makes : Strict → Vec Held Global → Option Held → Type 0
Makes s parts r = held_value r ≡ strict_value s (held_values parts)

-- the value that was made without turns, or the want of memory
abbrev pub IsFreed : Result (Option Held) declared.Memory → Result (Counted (Option Held)) EvalFault → Type 0
IsFreed value r = MatchResult r (λ d. IsOkAnd value (λ v. d.answer ≡ v) × (d.turns ≡ 0)) (λ e. e ≡ fault.Memory)

-- two kept values
abbrev pub held_pair : Option (Held × Held) → Option (Datum × Datum)
held_pair o = option_map (λ p. (held_datum p.0, held_datum p.1)) o

-- the cell of an array at the index that kept values are
abbrev pub kept_cell : Datum → Option (Vec Held Global) → Option Datum
kept_cell a at = cell_in a (numbers_in (parts_value at))

-- the dimensions as one value, where they are as many as the rank
abbrev pub dims_datum : (rank : ℕ) → List ℕ → Option Datum
dims_datum rank ds = if nat_eq (length ds) rank then Some (index_value ds) else None

-- the numbers in a vector, where there is one
abbrev pub items_in : Option (Vec ℕ Global) → Option (List ℕ)
items_in o = option_map (λ v. v.items) o
