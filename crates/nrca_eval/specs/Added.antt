-- The members that the body of a big union gives, where a set of one member is not made.
use Rattle.std.specs.Prelude.{ℕ, List, [], ◌∷◌, Option, Result}
use Rattle.std.specs.Option.{option_map}
use Rattle.aql_value.specs.Datum.{Datum}
use Rattle.aql_value.specs.Meaning.{datum}
use Rattle.nrca_par.specs.declared.fault.EvalFault.{EvalFault}
use Rattle.nrca_term.specs.Meaning.{Outcomes, cden}
use Rattle.nrca_term.specs.Term.{Term}
use Rattle.nrca_term.specs.Turns.{settle}
use Rattle.nrca_loops.specs.declared.done.Counted.{Counted}
use Rattle.nrca_loops.specs.declared.env.Env.{Env}
use Rattle.nrca_loops.specs.Values.{values, set_in}
use Rattle.nrca_loops.specs.Within.{Within}
use Rattle.nrca_eval.specs.declared.members.Added.{Added}
use Rattle.nrca_eval.specs.declared.members.Added.TheVariants as added

-- the members
abbrev pub added_list : Added → List Datum
added_list (added.All set) = set
added_list (added.One value) = datum value ∷ []

-- the members, where there are some
abbrev pub added_in : Option Added → Option (List Datum)
added_in o = option_map added_list o

-- the list of one value
abbrev pub single_list : Datum → List Datum
single_list v = v ∷ []

-- the members of the set that the term is worth, and the term's turns
abbrev pub EvaluatesAdded : ℕ → Outcomes → Env → Term → Result (Counted (Option Added)) EvalFault → Type 0
EvaluatesAdded budget V env t r = Within added_in budget (set_in (cden V (values env) t)) (settle V (values env) t) r
