-- What code motion answers, for shapes that tell of the outcomes of the positions.
use Rattle.std.proofs.Common.{◌≡◌, ◌≤◌, ◌+◌, ◌^◌, List, [], length, Option}
use Rattle.aql_ty.specs.Types.{Ty}
use Rattle.nrca_term.specs.Term.{Term, weight_of}
use Rattle.nrca_term.specs.View.{term_of}
use Rattle.nrca_term.specs.Meaning.{Outcomes, cden}
use Rattle.nrca_term.specs.Typing.{ctyped, instances, OutcomesHave}
use Rattle.nrca_term.specs.TypedPlaces.{KeepsTypes}
use Rattle.nrca_ranges.specs.Bounds.{Bounds}
use Rattle.nrca_ranges.specs.Shapes.{Tells}
use Rattle.nrca_motion.specs.declared.moves.Move as code
use Rattle.nrca_motion.specs.declared.still.Moved.{Moved}
use Rattle.nrca_motion.specs.Moves.{MoveChain, IsStill}

-- the moves lead from the one term to the other, where the first is typed and the shapes tell of outcomes of their types
unfoldable pub IsChained : List (Option Bounds) → Term → List code.Move → Term → Type 0
IsChained gs t moves u =
    (given : List Ty) (T : Ty) (V : Outcomes) → ctyped (instances given) [] t T → OutcomesHave (instances given) V → Tells gs V → MoveChain V moves t u

-- the term is still, where the shapes tell which positions have a value
unfoldable pub IsStillIn : List (Option Bounds) → Term → Type 0
IsStillIn gs t = (V : Outcomes) → Tells gs V → IsStill V t

-- the second term has the meaning of the first, where that is typed and the shapes tell of outcomes of their types
unfoldable pub KeepsMeaning : List (Option Bounds) → Term → Term → Type 0
KeepsMeaning gs t u =
    (given : List Ty) (T : Ty) (V : Outcomes) → ctyped (instances given) [] t T → OutcomesHave (instances given) V → Tells gs V → cden V [] u ≡ cden V [] t

-- Code motion of a plan over the outcomes of the positions: the moves lead to the term, in which no move is left whose terms are firm,
-- and they are few.
pub record IsMotion (V : Outcomes) (plan : Term) (moves : List code.Move) (moved : Term) : Type 0 where
  pub chained : MoveChain V moves plan moved
  pub still : IsStill V moved
  pub few : length moves ≤ (weight_of plan + 1) ^ 3

-- what is answered for a plan, where the shapes tell of the outcomes
pub record IsMovedFrom (gs : List (Option Bounds)) (plan : Term) (m : Moved) : Type 0 where
  pub chained : IsChained gs plan m.moves (term_of m.term)
  pub still : IsStillIn gs (term_of m.term)
  pub meaning : KeepsMeaning gs plan (term_of m.term)
  pub types : KeepsTypes plan (term_of m.term)
  pub weight : weight_of (term_of m.term) ≡ weight_of plan
  pub few : length m.moves ≤ (weight_of plan + 1) ^ 3
