-- What is said of an answer: its value and its turns, exactly, and that it is Spent exactly where the turns pass the budget.
use Rattle.std.specs.Prelude.{◌≡◌, ℕ, ◌<◌, ◌≤◌, List, Option, Result, MatchResult, IsOkAnd, IsErrAnd, fold, sum_by}
use Rattle.aql_value.specs.Datum.{Datum}
use Rattle.nrca_par.specs.declared.fault.EvalFault.{EvalFault}
use Rattle.nrca_par.specs.declared.fault.EvalFault.TheVariants.{Spent}
use Rattle.nrca_loops.specs.declared.done.Counted.{Counted}
use Rattle.nrca_loops.specs.declared.done.Done.{Done}
use Rattle.nrca_loops.specs.Values.{held_value}

-- an answer, seen by a view, is this and took these turns, which the budget holds; Spent comes only where the turns pass it
abbrev pub Within : {T X : Type 0} → (T → X) → ℕ → X → ℕ → Result (Counted T) EvalFault → Type 0
Within view budget x turns r = MatchResult r (λ d. (view d.answer ≡ x) × (d.turns ≡ turns) × (turns ≤ budget)) (λ e. e ≡ Spent → budget < turns)

-- the view of an answer that is seen as it is
abbrev pub itself : {A : Type 0} → A → A
itself x = x

-- the same of the answer of an evaluation
abbrev pub AnswersWithin : ℕ → Option Datum → ℕ → Result Done EvalFault → Type 0
AnswersWithin budget value turns r = MatchResult r (λ d. (held_value d.value ≡ value) × (d.turns ≡ turns) × (turns ≤ budget)) (λ e. e ≡ Spent → budget < turns)

-- the value beside the answer, or the answer's fault
abbrev pub IsBeside : {A B : Type 0} → A → Result B EvalFault → Result (A × B) EvalFault → Type 0
IsBeside x o r = MatchResult r (λ p. (p.0 ≡ x) × IsOkAnd o (λ b. b ≡ p.1)) (λ e. IsErrAnd o (λ f. f ≡ e))

-- the answers joined in their order, beginning with that of no piece, and their turns added
abbrev pub Gathers : {A : Type 0} → (A → A → A) → A → ℕ → List (Counted A) → Result (Counted A) EvalFault → Type 0
Gathers join none budget parts r = Within itself budget (fold (λ s d. join s d.answer) none parts) (sum_by (λ d. d.turns) parts) r
