-- The array-free form of a plan, and what it comes to over encoded outcomes.
use Rattle.std.specs.Prelude.{◌≡◌, ℕ, ◌≤◌, ◌<◌, List, [], map, Option, Some, None}
use Rattle.aql_value.specs.Datum.{Datum}
use Rattle.aql_value.specs.Meaning.{datum}
use Rattle.aql_ty.specs.Types.{Ty}
use Rattle.nrca_term.specs.Meaning.{Outcomes, cden}
use Rattle.nrca_term.specs.Term.{Term, weight_of}
use Rattle.nrca_term.specs.Turns.{settle}
use Rattle.nrca_term.specs.Typing.{ctyped, instances, OutcomesHave}
use Rattle.nrca_term.specs.View.{term_of}
use Rattle.nrca_graph.specs.ArrayFree.{array_free}
use Rattle.nrca_graph.specs.Encoding.{encode_outcome}
use Rattle.nrca_graph.specs.GraphTurns.{graph_turns}
use Rattle.nrca_encoded.specs.declared.ran.Graph.{Graph}
use Rattle.nrca_encoded.specs.declared.ran.GraphRan.{GraphRan}
use Rattle.nrca_encoded.specs.declared.ran.GraphRan.TheVariants as ran

-- a small closed term of some type, under types of the positions that their outcomes have
pub record IsTypedOver (V : Outcomes) (t : Term) : Type 0 where
  pub given : List Ty
  pub type : Ty
  pub typed : ctyped (instances given) [] t type
  pub have : OutcomesHave (instances given) V
  pub small : weight_of t ≤ 1280000

-- the turns of an array-free form over the encoded outcomes
abbrev pub encoded_turns : Outcomes → Term → ℕ
encoded_turns V g = settle (map encode_outcome V) [] g

-- What an array-free form that takes these turns came to, its plan having this outcome: Spent exactly where the turns pass the budget, else
-- Undefined exactly where the plan is undefined, and else the encoded value of the plan.
abbrev pub HasEvaluated : (budget turns : ℕ) → (outcome : Option Datum) → GraphRan → Type 0
HasEvaluated budget turns o ran.Spent = budget < turns
HasEvaluated budget turns o ran.Undefined = (turns ≤ budget) × (o ≡ None)
HasEvaluated budget turns o (ran.Value w) = (turns ≤ budget) × (encode_outcome o ≡ Some (datum w))

-- the array-free form of a plan with this outcome, and what it came to; its turns are at most `graph_turns` of the plan
pub record IsGraph (V : Outcomes) (budget : ℕ) (plan : Term) (outcome : Option Datum) (g : Graph) : Type 0 where
  pub term : term_of g.term ≡ array_free plan
  pub ran : HasEvaluated budget (encoded_turns V (array_free plan)) outcome g.ran
  pub bounded : encoded_turns V (array_free plan) ≤ graph_turns V [] plan

-- What the functions within this crate say of one another's answers.

-- an evaluation within the budget came to this value
abbrev pub HasValue : Option Datum → GraphRan → Type 0
HasValue o ran.Spent = ⊥
HasValue o ran.Undefined = o ≡ None
HasValue o (ran.Value w) = o ≡ Some (datum w)

-- what a term comes to over all encoded outcomes, within the budget
abbrev pub RunsEncoded : Outcomes → (budget : ℕ) → Term → GraphRan → Type 0
RunsEncoded V budget g ran.Spent = budget < encoded_turns V g
RunsEncoded V budget g ran.Undefined = (encoded_turns V g ≤ budget) × (cden (map encode_outcome V) [] g ≡ None)
RunsEncoded V budget g (ran.Value w) = (encoded_turns V g ≤ budget) × (cden (map encode_outcome V) [] g ≡ Some (datum w))
