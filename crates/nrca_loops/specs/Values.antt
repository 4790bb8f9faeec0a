-- The values that an evaluation stands among.
use Rattle.std.specs.Prelude.{◌≡◌, ℕ, Bool, List, [], ◌∷◌, ◌++◌, Option, Some, Result, MatchResult}
use Rattle.std.specs.List.{slice_get}
use Rattle.std.specs.Option.{option_map}
use Rattle.std.proofs.Common.{Box, Global}
use Rattle.aql_value.specs.Datum.{Datum, natural}
use Rattle.aql_value.specs.Operations.{as_natural, as_truth, as_set, gen_of, union_of, push_index}
use Rattle.aql_value.specs.Partial.{◌>>=◌}
use Rattle.nrca_array.specs.declared.held.Held.{Held}
use Rattle.nrca_array.specs.Held.{held_datum}
use Rattle.nrca_loops.specs.declared.env.Env.{Env}
use Rattle.nrca_loops.specs.declared.env.Env.TheVariants.{Empty, Bound', Indices'}

-- the values of the variables, the innermost first
abbrev pub values : Env → List Datum
values Empty = []
values (Bound' v p rest) = held_datum v.now ∷ values rest
values (Indices' at p rest) = push_index at.now [] ++ values rest

-- the value, where there is one
abbrev pub held_value : Option Held → Option Datum
held_value o = option_map held_datum o

-- the value on the heap, where there is one
abbrev pub boxed_value : Option (Box Held Global) → Option Datum
boxed_value o = option_map (λ b. held_datum b.value) o

-- the members, the number and the truth value, where the outcome is one
abbrev pub set_in : Option Datum → Option (List Datum)
set_in o = o >>= as_set

-- the number that a value is
abbrev pub natural_in : Option Datum → Option ℕ
natural_in o = o >>= as_natural

-- the truth value that a value is
abbrev pub truth_in : Option Datum → Option Bool
truth_in o = o >>= as_truth

-- the set of the naturals below a number, and the members of two sets, where the outcomes are such
abbrev pub gen_outcome : Option Datum → Option Datum
gen_outcome o = o >>= gen_of

-- the union of two values that are sets
abbrev pub union_outcome : Option Datum → Option Datum → Option Datum
union_outcome o p = o >>= λ v. p >>= union_of v

-- the number of an index that variable `at` is, the last being variable 0, or the variable's number beyond the index
abbrev pub FindsIndex : List ℕ → ℕ → Result ℕ ℕ → Type 0
FindsIndex ns at r =
    MatchResult r (λ n. (vs : List Datum) → slice_get (push_index ns [] ++ vs) at ≡ Some (natural n)) (λ j. (vs : List Datum) → slice_get (push_index ns [] ++ vs) at ≡ slice_get vs j)
