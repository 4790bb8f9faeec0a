-- What a plan is, for shapes that tell of the outcomes of the positions.
use Rattle.std.proofs.Common.{◌≤◌, ◌+◌, ◌^◌, List, [], length, Option}
use Rattle.aql_ty.specs.Types.{Ty}
use Rattle.nrca_term.specs.declared.trace.Step.{Step}
use Rattle.nrca_term.specs.Term.{Term, weight_of}
use Rattle.nrca_term.specs.View.{term_of}
use Rattle.nrca_term.specs.Meaning.{Outcomes}
use Rattle.nrca_term.specs.Typing.{ctyped, instances, OutcomesHave}
use Rattle.nrca_term.specs.TypedPlaces.{KeepsTypes}
use Rattle.nrca_term.specs.Rules.{Replay}
use Rattle.nrca_term.specs.Normal.{IsNormal}
use Rattle.nrca_ranges.specs.Bounds.{Bounds}
use Rattle.nrca_ranges.specs.Shapes.{Tells}
use Rattle.nrca_normal.specs.declared.normal.Plan.{Plan}

-- the trace replays from the one term to the other, where the first is typed and the shapes tell of outcomes of their types
unfoldable pub IsReplayed : List (Option Bounds) → Term → List Step → Term → Type 0
IsReplayed gs t trace u =
    (given : List Ty) (T : Ty) (V : Outcomes) → ctyped (instances given) [] t T → OutcomesHave (instances given) V → Tells gs V → Replay V trace t u

-- the term is normal, where the shapes tell which positions have a value
unfoldable pub IsNormalIn : List (Option Bounds) → Term → Type 0
IsNormalIn gs t = (V : Outcomes) → Tells gs V → IsNormal V t

-- a plan of a closed term over the outcomes of the positions: the recorded rewritings lead to it, no rule is left whose condition is seen
-- to hold, and the rewritings are few
pub record IsPlan (V : Outcomes) (start : Term) (trace : List Step) (plan : Term) : Type 0 where
  pub replayed : Replay V trace start plan
  pub normal : IsNormal V plan
  pub few : length trace ≤ (weight_of start + 1) ^ 3

-- what is answered for a term, where the shapes tell of the outcomes
pub record IsPlanOf (gs : List (Option Bounds)) (start : Term) (p : Plan) : Type 0 where
  pub replayed : IsReplayed gs start p.trace (term_of p.term)
  pub normal : IsNormalIn gs (term_of p.term)
  pub few : length p.trace ≤ (weight_of start + 1) ^ 3
  pub types : KeepsTypes start (term_of p.term)
