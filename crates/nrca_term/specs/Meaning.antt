-- The value of a core term.
use Rattle.std.specs.Prelude.{ℕ, zero, suc, Bool, nat_eq, take, List, [], ◌∷◌, ◌++◌, length, Option, Some, None, if◌then◌else◌}
use Rattle.std.specs.List.{slice_get}
use Rattle.aql_value.specs.Datum.{Datum}
use Rattle.aql_value.specs.Indices.{indices}
use Rattle.aql_value.specs.Operations.{as_natural, as_truth, as_set, union_all, sum_of, array_of, push_index}
use Rattle.aql_value.specs.Partial.{◌>>=◌, each, or_else}
use Rattle.aql_value.specs.Strict.{strict_value}
use Rattle.nrca_term.specs.Term.{Term, Parts, node, none, part, Form}

-- the outcome of each position, the first position first: None is undefined
abbrev pub Outcomes : Type 0
Outcomes = List (Option Datum)

-- what a part is worth at values of its own variables, the innermost first
abbrev pub Part : Type 0
Part = List Datum → Option Datum

-- part i at values of its own variables; undefined where there is no such part
abbrev pub worth : List Part → ℕ → Part
worth [] i new = None
worth (p ∷ ps) zero new = p new
worth (p ∷ ps) (suc i) new = worth ps i new

-- a part that binds nothing
abbrev pub here : Part → Option Datum
here p = p []

-- what a list gives for a position, counted from 1
abbrev pub at_position : {A : Type 0} → List A → ℕ → Option A
at_position xs zero = None
at_position xs (suc n) = slice_get xs n

-- the outcome of a position
abbrev pub outcome : Outcomes → ℕ → Option Datum
outcome V n = at_position V n >>= λ o. o

-- a let: the body at the bound value
abbrev pub let_value : List Part → Option Datum
let_value ps = worth ps 0 [] >>= λ v. worth ps 1 (v ∷ [])

-- the truth value of a test
abbrev pub test_value : List Part → Option Bool
test_value ps = worth ps 0 [] >>= as_truth

-- an if: the branch taken
abbrev pub if_value : List Part → Option Datum
if_value ps = test_value ps >>= λ b. if b then worth ps 1 [] else worth ps 2 []

-- a default: the first part's value, where it has one, and else the second part's outcome
abbrev pub default_value : List Part → Option Datum
default_value ps = or_else (worth ps 0 []) (worth ps 1 [])

-- the members of a loop's operand
abbrev pub members_value : List Part → Option (List Datum)
members_value ps = worth ps 0 [] >>= as_set

-- the body at each member of the operand
abbrev pub loop_values : List Part → Option (List Datum)
loop_values ps = members_value ps >>= each (λ m. worth ps 1 (m ∷ []))

-- the numbers of a tabulation's bounds, which are its first parts
abbrev pub bounds_value : ℕ → List Part → Option (List ℕ)
bounds_value rank ps = each here (take rank ps) >>= each as_natural

-- a tabulation: the array of the body's value at each index below the bounds, in row-major order
abbrev pub tab_value : ℕ → List Part → Option Datum
tab_value rank ps = bounds_value rank ps >>= λ ds. each (λ at. worth ps rank (push_index at [])) (indices ds) >>= array_of ds

-- the value of a node, by what its parts are worth
abbrev pub form_value : Outcomes → List Datum → Form → List Part → Option Datum
form_value V vals (Form.var i) ps = slice_get vals i
form_value V vals (Form.global n) ps = outcome V n
form_value V vals Form.bind ps = let_value ps
form_value V vals Form.choose ps = if_value ps
form_value V vals Form.default ps = default_value ps
form_value V vals Form.big_union ps = loop_values ps >>= union_all
form_value V vals Form.sum ps = loop_values ps >>= sum_of
form_value V vals (Form.tab rank) ps = tab_value rank ps
form_value V vals (Form.strict s) ps = each here ps >>= strict_value s

-- f at a list of this length, and elsewhere undefined
abbrev pub at_length : ℕ → Part → Part
at_length k f new = if nat_eq (length new) k then f new else None

abbrev mutual
  -- the value of a term, where it has one; variable i is the i-th of the values
  pub cden : Outcomes → List Datum → Term → Option Datum
  cden V vals (node f ps) = form_value V vals f (part_values V vals ps)

  -- the values of the parts, each a function of its own variables' values
  pub part_values : Outcomes → List Datum → Parts → List Part
  part_values V vals none = []
  part_values V vals (part k t ps) = at_length k (λ new. cden V (new ++ vals) t) ∷ part_values V vals ps
