-- What an evaluation answers, among the outcomes of the positions and the values of the variables.
use Rattle.std.specs.Prelude.{◌≡◌, ℕ, List, [], Option, Some, Result}
use Rattle.std.specs.declared.vec.Vec.{Vec}
use Rattle.std.proofs.Common.{Box, Global}
use Rattle.aql_value.specs.Datum.{Datum}
use Rattle.aql_value.specs.Partial.{each, total, if_some}
use Rattle.aql_value.specs.Strict.{Strict, strict_turns}
use Rattle.nrca_par.specs.declared.fault.EvalFault.{EvalFault}
use Rattle.nrca_array.specs.declared.held.Held.{Held}
use Rattle.nrca_array.specs.Held.{held_datum}
use Rattle.nrca_term.specs.declared.term.Core.{Core}
use Rattle.nrca_term.specs.declared.term.Terms.{Terms}
use Rattle.nrca_term.specs.Meaning.{Outcomes, cden}
use Rattle.nrca_term.specs.Nodes.{let_term, if_term, default_term, big_union_term, sum_term, tab_term}
use Rattle.nrca_term.specs.Term.{Term, form_of}
use Rattle.nrca_term.specs.Turns.{settle}
use Rattle.nrca_term.specs.View.{term_of, terms_of}
use Rattle.nrca_loops.specs.declared.done.Counted.{Counted}
use Rattle.nrca_loops.specs.declared.done.Done.{Done}
use Rattle.nrca_loops.specs.declared.env.Env.{Env}
use Rattle.nrca_loops.specs.declared.members.Members.{Members}
use Rattle.nrca_loops.specs.Parts.{parts_value, strict_in, strict_of}
use Rattle.nrca_loops.specs.Runs.{members_value}
use Rattle.nrca_loops.specs.Values.{values, held_value, boxed_value, set_in, natural_in, gen_outcome}
use Rattle.nrca_loops.specs.Within.{Within, AnswersWithin}

-- the value of the term, on the heap, and its turns, which the budget holds; Spent comes only where they pass it
abbrev pub Evaluates : ℕ → Outcomes → Env → Term → Result (Counted (Option (Box Held Global))) EvalFault → Type 0
Evaluates budget V env t r = Within boxed_value budget (cden V (values env) t) (settle V (values env) t) r

-- the same, where the value does not stand on the heap
abbrev pub EvaluatesHeld : ℕ → Outcomes → Env → Term → Result (Counted (Option Held)) EvalFault → Type 0
EvaluatesHeld budget V env t r = Within held_value budget (cden V (values env) t) (settle V (values env) t) r

-- the values of terms in a row, and the turns of them all
abbrev pub EvaluatesAll : ℕ → Outcomes → Env → List Term → Result (Counted (Option (Vec Held Global))) EvalFault → Type 0
EvaluatesAll budget V env ts r = Within parts_value budget (each (cden V (values env)) ts) (total (settle V (values env)) ts) r

-- the members of the set that the term is worth, and the term's turns
abbrev pub EvaluatesSet : ℕ → Outcomes → Env → Term → Result (Counted (Option Members)) EvalFault → Type 0
EvaluatesSet budget V env t r = Within members_value budget (set_in (cden V (values env) t)) (settle V (values env) t) r

-- the term is worth the value
abbrev pub IsWorth : Outcomes → Env → Core → Held → Type 0
IsWorth V env t h = cden V (values env) (term_of t) ≡ Some (held_datum h)

-- the term takes no turns
abbrev pub TakesNone : Outcomes → Env → Core → Type 0
TakesNone V env t = settle V (values env) (term_of t) ≡ 0

-- the naturals below the number that the value is, a turn for each
abbrev pub Generates : ℕ → Option Datum → Result (Counted (Option Members)) EvalFault → Type 0
Generates budget o r = Within members_value budget (set_in (gen_outcome o)) (if_some (natural_in o) (λ n. n)) r

-- what the evaluation of a closed term answers
abbrev pub EvaluatesClosed : ℕ → Outcomes → Term → Result Done EvalFault → Type 0
EvaluatesClosed budget V t r = AnswersWithin budget (cden V [] t) (settle V [] t) r

-- what a strict form makes of the values of its parts, where there are some, and its turns beside those of the parts
abbrev pub Applies : {T : Type 0} → (T → Option Datum) → ℕ → Strict → Option (List Datum) → Result (Counted T) EvalFault → Type 0
Applies view budget s vs r = Within view budget (strict_in s vs) (strict_turns s vs) r

-- the term's form, where it is strict
abbrev pub strict_form : Core → Strict
strict_form t = strict_of (form_of (term_of t))

-- the terms of the forms that are not strict, from their parts
abbrev pub let_of : Core → Core → Term
let_of e b = let_term (term_of e) (term_of b)

-- the choice of these terms
abbrev pub if_of : Core → Core → Core → Term
if_of c a b = if_term (term_of c) (term_of a) (term_of b)

-- the default of these terms
abbrev pub default_of : Core → Core → Term
default_of a b = default_term (term_of a) (term_of b)

-- the big union of this body over this set
abbrev pub union_loop : Core → Core → Term
union_loop e b = big_union_term (term_of e) (term_of b)

-- the sum of this body over this set
abbrev pub sum_loop : Core → Core → Term
sum_loop e b = sum_term (term_of e) (term_of b)

-- the tabulation of this body over these dimensions
abbrev pub tab_of : Terms → Core → Term
tab_of ds b = tab_term (terms_of ds) (term_of b)
