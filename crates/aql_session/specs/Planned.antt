-- The term of a query, its plan, what is moved in it, and which of them was evaluated.
use Rattle.std.specs.Prelude.{◌≡◌, ℕ, ◌<◌, Bool, [], Option, Some}
use Rattle.std.specs.Global.{Box}
use Rattle.std.specs.Option.{ForSome}
use Rattle.aql_value.specs.Valid.{IsValue}
use Rattle.nrca_loops.specs.Values.{held_value}
use Rattle.nrca_loops.specs.declared.done.Done.{Done}
use Rattle.nrca_term.specs.Meaning.{Outcomes, cden}
use Rattle.nrca_term.specs.Term.{Term}
use Rattle.nrca_term.specs.Turns.{settle}
use Rattle.nrca_term.specs.View.{term_of}
use Rattle.nrca_normal.specs.Planned.{IsPlan}
use Rattle.nrca_motion.specs.declared.still.Moved.{Moved}
use Rattle.aql_session.specs.Step.{IsMovedBy, choice, moved_term, moved_turns, moves_of}
use Rattle.aql_session.specs.declared.answer.Ran.{Ran}
use Rattle.aql_session.specs.declared.answer.StepFault.{StepFault}
use Rattle.aql_session.specs.declared.answer.StepFault.TheVariants as faults
use Rattle.aql_session.specs.declared.queries.Evaluated.{Evaluated}
use Rattle.aql_session.specs.declared.queries.Planned.{Planned}

-- what is moved in a plan has the plan's meaning
abbrev pub KeepsMoved : Outcomes → (plan : Term) → Option (Box Moved) → Type 0
KeepsMoved V plan moved = cden V [] (moved_term plan moved) ≡ cden V [] plan

-- a term with its plan and, with the word `--motion`, what is moved in that; both have the term's meaning; where they have a value it is one of the
-- language
pub record IsPlanned (motion : Bool) (V : Outcomes) (t : Term) (p : Planned) : Type 0 where
  pub start : term_of p.start ≡ t
  pub plan : IsPlan V t p.trace (term_of p.plan)
  pub moved : IsMovedBy motion V (term_of p.plan) p.moved
  pub same : cden V [] (term_of p.plan) ≡ cden V [] t
  pub keeps : KeepsMoved V (term_of p.plan) p.moved
  pub valid : ForSome (cden V [] t) IsValue

-- the moved term of a plan
abbrev pub moved_of : Planned → Term
moved_of p = moved_term (term_of p.plan) p.moved

-- the plan has the meaning of the start term, and so has what is moved in it
pub record KeepsValue (V : Outcomes) (p : Planned) : Type 0 where
  pub plan : cden V [] (term_of p.plan) ≡ cden V [] (term_of p.start)
  pub moved : cden V [] (moved_of p) ≡ cden V [] (term_of p.start)

-- without a rewriting the plan is the start term
abbrev pub IsUnchanged : Planned → Type 0
IsUnchanged p = p.trace ≡ [] → term_of p.plan ≡ term_of p.start

-- without a move the moved term is the plan
abbrev pub IsUnmoved : Planned → Type 0
IsUnmoved p = moves_of p.moved ≡ [] → moved_of p ≡ term_of p.plan

-- the fault keeps the terms
abbrev pub KeepsTerms : Planned → StepFault → Type 0
KeepsTerms p f = f ≡ faults.Query p.start p.plan p.trace p.moved

-- the terms, beside what the evaluation of one of them answered
abbrev pub IsChosen : Planned → Ran → Done → Evaluated → Type 0
IsChosen p by done q = q ≡ record { start = p.start; plan = p.plan; trace = p.trace; moved = p.moved; by = by; value = done.value; turns = done.turns }

-- one of the terms was evaluated within the budget: the plan where its turns are, else the start term, else what is moved in the plan
pub record EvaluatesOne (V : Outcomes) (budget : ℕ) (p : Planned) (q : Evaluated) : Type 0 where
  pub start : term_of q.start ≡ term_of p.start
  pub plan : term_of q.plan ≡ term_of p.plan
  pub trace : q.trace ≡ p.trace
  pub moved : q.moved ≡ p.moved
  pub value : held_value q.value ≡ cden V [] (term_of p.start)
  pub chosen : choice budget (settle V [] (term_of p.plan)) (settle V [] (term_of p.start)) (moved_turns V p.moved) ≡ Some (q.by, q.turns)

-- the turns of all terms pass the budget, or memory was wanting
abbrev pub PassAll : Outcomes → (budget : ℕ) → Planned → StepFault → Type 0
PassAll V budget p (faults.Query start plan trace moved) =
    (term_of start ≡ term_of p.start) × (term_of plan ≡ term_of p.plan) × (trace ≡ p.trace) × (moved ≡ p.moved)
    × (budget < settle V [] (term_of p.plan)) × (budget < settle V [] (term_of p.start)) × (budget < settle V [] (moved_of p))
PassAll V budget p (faults.Cells c) = ⊥
PassAll V budget p (faults.File f) = ⊥
PassAll V budget p (faults.Csv f) = ⊥
PassAll V budget p faults.Device = ⊥
PassAll V budget p faults.Memory = Unit {0}
