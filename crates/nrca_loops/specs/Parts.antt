-- The values of the parts of a node, and the strict forms.
use Rattle.std.specs.Prelude.{◌≡◌, ℕ, List, [], ◌∷◌, ◌++◌, map, Option, Some, None}
use Rattle.std.specs.Option.{option_map}
use Rattle.std.specs.declared.vec.Vec.{Vec}
use Rattle.std.proofs.Common.{Global}
use Rattle.aql_value.specs.Datum.{Datum}
use Rattle.aql_value.specs.Operations.{as_natural, array_of, cell_of}
use Rattle.aql_value.specs.Partial.{◌>>=◌, each}
use Rattle.aql_value.specs.Strict.{Strict, strict_value}
use Rattle.nrca_array.specs.declared.held.Held.{Held}
use Rattle.nrca_array.specs.Held.{held_datum}
use Rattle.nrca_term.specs.Term.{Form}
use Rattle.nrca_loops.specs.Runs.{list_with}

-- the strict form that a form is; `bottom` of any other
abbrev pub strict_of : Form → Strict
strict_of (Form.strict s) = s
strict_of _ = Strict.bottom

-- the values of a list of kept values
abbrev pub held_values : Vec Held Global → List Datum
held_values vs = map held_datum vs.items

-- the values of parts, where all have one
abbrev pub parts_value : Option (Vec Held Global) → Option (List Datum)
parts_value o = option_map held_values o

-- kept values and one more
abbrev pub AddsPart : Option (Vec Held Global) → Option Datum → Option (Vec Held Global) → Type 0
AddsPart parts v r = parts_value r ≡ list_with (parts_value parts) v

-- what a strict form makes of the values, where there are some
abbrev pub strict_in : Strict → Option (List Datum) → Option Datum
strict_in s o = o >>= strict_value s

-- the numbers that the values are
abbrev pub numbers_in : Option (List Datum) → Option (List ℕ)
numbers_in o = o >>= each as_natural

-- numbers and one more, where the value is one
abbrev pub numbers_with : Option (List ℕ) → Datum → Option (List ℕ)
numbers_with ns v = ns >>= λ ms. as_natural v >>= λ n. Some (ms ++ n ∷ [])

-- the array of these dimensions and cells
abbrev pub table_in : List ℕ → Option (List Datum) → Option Datum
table_in ds cells = cells >>= array_of ds

-- the cell of an array at the index that the numbers are
abbrev pub cell_in : Datum → Option (List ℕ) → Option Datum
cell_in a at = at >>= cell_of a

-- the two elements of a list of two
abbrev pub pair_in : List Datum → Option (Datum × Datum)
pair_in [] = None
pair_in (v ∷ []) = None
pair_in (v ∷ w ∷ []) = Some (v, w)
pair_in (v ∷ w ∷ x ∷ vs) = None
