-- What runs of the members of a loop and of the cells of a tabulation answer.
use Rattle.std.specs.Prelude.{◌≡◌, ℕ, List, Option, Some, Result}
use Rattle.std.proofs.Common.{Box, Global}
use Rattle.std.specs.Option.{option_map}
use Rattle.aql_value.specs.Canon.{canon}
use Rattle.aql_value.specs.Datum.{Datum}
use Rattle.aql_value.specs.Partial.{each, total}
use Rattle.nrca_array.specs.declared.held.Held.{Held}
use Rattle.nrca_par.specs.declared.fault.EvalFault.{EvalFault}
use Rattle.nrca_term.specs.declared.term.Core.{Core}
use Rattle.nrca_term.specs.declared.term.Terms.{Terms}
use Rattle.nrca_term.specs.Meaning.{Outcomes, cden}
use Rattle.nrca_term.specs.Turns.{settle}
use Rattle.nrca_term.specs.View.{term_of, terms_of}
use Rattle.nrca_loops.specs.declared.done.Counted.{Counted}
use Rattle.nrca_loops.specs.declared.env.Env.{Env}
use Rattle.nrca_loops.specs.declared.members.Members.{Members}
use Rattle.nrca_loops.specs.Runs.{lists_join, member_list, sets_join, sum_value, union_value}
use Rattle.nrca_loops.specs.Parts.{cell_in, numbers_in}
use Rattle.nrca_loops.specs.Values.{values, boxed_value}
use Rattle.nrca_loops.specs.Within.{Within, itself}
use Rattle.nrca_eval.specs.declared.blocks.Span.{Span}
use Rattle.nrca_eval.specs.Runs.{run_values, run_turns, cell_values, cell_turns}

-- what f makes of the body's values at the members a up to b of a loop, and what the body takes there
abbrev pub Runs : {A : Type 0} → (Option (List Datum) → A) → ℕ → Outcomes → Env → Core → Members → ℕ → ℕ → Result (Counted A) EvalFault → Type 0
Runs f budget V env body ms a b r =
    Within itself budget (f (run_values V (values env) (term_of body) (member_list ms) a b)) (run_turns V (values env) (term_of body) (member_list ms) a b) r

-- their sum
abbrev pub Sums : ℕ → Outcomes → Env → Core → Members → ℕ → ℕ → Result (Counted (Option ℕ)) EvalFault → Type 0
Sums = Runs sum_value

-- the sets of the body over the members a up to b, joined, and what it takes there
abbrev pub Unites : ℕ → Outcomes → Env → Core → Members → ℕ → ℕ → Result (Counted (Option (List Datum))) EvalFault → Type 0
Unites = Runs union_value

-- values, each perhaps several times, whose set is that of the body over the members a up to b, and what it takes there
abbrev pub Collects : ℕ → Outcomes → Env → Core → Members → ℕ → ℕ → Result (Counted (Option (List Datum))) EvalFault → Type 0
Collects budget V env body ms a b r =
    Within (option_map canon) budget (union_value (run_values V (values env) (term_of body) (member_list ms) a b)) (run_turns V (values env) (term_of body) (member_list ms) a b) r

-- values, each perhaps several times, whose set has also the members of the body's sets over the span, where both are there
abbrev pub Adds : ℕ → Outcomes → Env → Core → Members → Span → Option (List Datum) → Result (Counted (Option (List Datum))) EvalFault → Type 0
Adds budget V env body ms s all r =
    Within (option_map canon) budget (sets_join (option_map canon all) (union_value (run_values V (values env) (term_of body) (member_list ms) s.from s.to))) (run_turns V (values env) (term_of body) (member_list ms) s.from s.to) r

-- the sum of the body over the members a up to b, which takes no turns there
abbrev pub IsSum : Outcomes → Env → Core → Members → ℕ → ℕ → ℕ → Type 0
IsSum V env body ms a b n = (sum_value (run_values V (values env) (term_of body) (member_list ms) a b) ≡ Some n) × (run_turns V (values env) (term_of body) (member_list ms) a b ≡ 0)

-- the cells, and behind them the body's values at the indices of the span below the dimensions, where both are there
abbrev pub Extends : ℕ → Outcomes → Env → Core → List ℕ → Span → Option (List Datum) → Result (Counted (Option (List Datum))) EvalFault → Type 0
Extends budget V env body ds s cells r = Within itself budget (lists_join cells (cell_values V (values env) (term_of body) ds s.from s.to)) (cell_turns V (values env) (term_of body) ds s.from s.to) r

-- the body's values at the indices a up to b below the dimensions, and what it takes there
abbrev pub Fills : ℕ → Outcomes → Env → Core → List ℕ → ℕ → ℕ → Result (Counted (Option (List Datum))) EvalFault → Type 0
Fills budget V env body ds a b r = Within itself budget (cell_values V (values env) (term_of body) ds a b) (cell_turns V (values env) (term_of body) ds a b) r

-- the cell of the array at the index that the terms are worth, and their turns
abbrev pub EvaluatesCell : ℕ → Outcomes → Env → Datum → Terms → Result (Counted (Option (Box Held Global))) EvalFault → Type 0
EvaluatesCell budget V env a at r =
    Within boxed_value budget (cell_in a (numbers_in (each (cden V (values env)) (terms_of at)))) (total (settle V (values env)) (terms_of at)) r
