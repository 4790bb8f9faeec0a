-- What is claimed of the moves: of one move at a place, of chains of moves, and of the turns of a move.
pub mod Bounds
pub mod Counting
pub mod Fitting
pub mod Found
pub mod LetMoves
pub mod LetTurns
pub mod LetTypes
pub mod Lowering
pub mod Making
pub mod Moving
pub mod Outside
pub mod Places
pub mod Progress
pub mod Rotating
pub mod Steps
pub mod TestMoves
pub mod TestTypes
pub mod Weights
use Rattle.std.specs.Prelude.{◌≡◌, ℕ, ◌+◌, ◌^◌, ◌<◌, ◌≤◌, Bool, true, List, [], length, Some}
use Rattle.aql_value.specs.Datum.{Datum}
use Rattle.aql_value.specs.Lists.{Every}
use Rattle.aql_value.specs.Operations.{as_set, as_truth}
use Rattle.aql_value.specs.Partial.{◌>>=◌, total}
use Rattle.aql_ty.specs.Types.{Ty}
use Rattle.aql_ty.specs.ValueTypes.{HaveTypes}
use Rattle.nrca_term.specs.Term.{Term, Form, form_of, parts_of, child_of, binders_of, weight_of, WellFormed}
use Rattle.nrca_term.specs.Nodes.{if_term, let_term, loop_term}
use Rattle.nrca_term.specs.Meaning.{Outcomes, cden}
use Rattle.nrca_term.specs.Measure.{nodes_of}
use Rattle.nrca_term.specs.Places.{entered_in}
use Rattle.nrca_term.specs.Rules.{LoopOf, IsDefined}
use Rattle.nrca_term.specs.Subst.{shift_term, is_strict}
use Rattle.nrca_term.specs.Turns.{settle}
use Rattle.nrca_term.specs.Typing.{instances, ctyped, OutcomesHave}
use Rattle.nrca_term.specs.TypedPlaces.{Keeps}
use Rattle.nrca_motion.specs.declared.moves.MoveRule.{MoveRule}
use Rattle.nrca_motion.specs.declared.moves.Move as code
use Rattle.nrca_motion.specs.Moves.{rotate_term, let_out, LetBelow, MoveRedex, MoveStep, MoveChain}
use Rattle.nrca_motion.specs.Lowering.{measure_of}

-- the right side of a move is worth what the left side is, at values of the types around it at which its terms are defined
abbrev pub RedexesKeepMeaning : Type 0
RedexesKeepMeaning = (given : List Ty) (V : Outcomes) (env : List Ty) (vals : List Datum) → OutcomesHave (instances given) V → HaveTypes env vals →
    (R : MoveRule) (l r : Term) (needs : List Term) (T : Ty) → ctyped (instances given) env l T → MoveRedex R l r needs → Every (IsDefined V vals) needs →
    cden V vals l ≡ cden V vals r

-- the right side has every type of the left side
abbrev pub RedexesKeepTypes : Type 0
RedexesKeepTypes = (given : List Ty) (R : MoveRule) (l r : Term) (needs : List Term) → MoveRedex R l r needs → Keeps (instances given) l r

-- the right side weighs what a well-formed left side weighs
abbrev pub RedexesKeepWeight : Type 0
RedexesKeepWeight = (R : MoveRule) (l r : Term) (needs : List Term) → WellFormed l → MoveRedex R l r needs → weight_of r ≡ weight_of l

-- a move of a closed typed term keeps its meaning
abbrev pub MovesKeepMeaning : Type 0
MovesKeepMeaning = (given : List Ty) (V : Outcomes) → OutcomesHave (instances given) V → (R : MoveRule) (path : List ℕ) (t u : Term) (T : Ty) →
    ctyped (instances given) [] t T → MoveStep V R path t u → cden V [] t ≡ cden V [] u

-- a move of a closed term keeps every type
abbrev pub MovesKeepTypes : Type 0
MovesKeepTypes = (given : List Ty) (V : Outcomes) (R : MoveRule) (path : List ℕ) (t u : Term) → MoveStep V R path t u →
    (T : Ty) → ctyped (instances given) [] t T → ctyped (instances given) [] u T

-- a move of a closed typed term keeps its weight
abbrev pub MovesKeepWeight : Type 0
MovesKeepWeight = (given : List Ty) (V : Outcomes) (R : MoveRule) (path : List ℕ) (t u : Term) (T : Ty) →
    ctyped (instances given) [] t T → MoveStep V R path t u → weight_of u ≡ weight_of t

-- a move of a closed typed term keeps its number of nodes and lowers its measure
abbrev pub MovesLower : Type 0
MovesLower = (given : List Ty) (V : Outcomes) (R : MoveRule) (path : List ℕ) (t u : Term) (T : Ty) → ctyped (instances given) [] t T → MoveStep V R path t u →
    (nodes_of u ≡ nodes_of t) × (measure_of (nodes_of t) u < measure_of (nodes_of t) t)

-- a chain of moves keeps the meaning of a closed typed term
abbrev pub ChainsKeepMeaning : Type 0
ChainsKeepMeaning = (given : List Ty) (V : Outcomes) → OutcomesHave (instances given) V → (moves : List code.Move) (t u : Term) (T : Ty) →
    ctyped (instances given) [] t T → MoveChain V moves t u → cden V [] t ≡ cden V [] u

-- a chain keeps every type
abbrev pub ChainsKeepTypes : Type 0
ChainsKeepTypes = (given : List Ty) (V : Outcomes) (moves : List code.Move) (t u : Term) → MoveChain V moves t u →
    (T : Ty) → ctyped (instances given) [] t T → ctyped (instances given) [] u T

-- a chain keeps the weight
abbrev pub ChainsKeepWeight : Type 0
ChainsKeepWeight = (given : List Ty) (V : Outcomes) (moves : List code.Move) (t u : Term) (T : Ty) →
    ctyped (instances given) [] t T → MoveChain V moves t u → weight_of u ≡ weight_of t

-- a chain has at most (W + 1)^3 moves, W being the weight of its terms
abbrev pub ChainsAreShort : Type 0
ChainsAreShort = (given : List Ty) (V : Outcomes) (moves : List code.Move) (t u : Term) (T : Ty) →
    ctyped (instances given) [] t T → MoveChain V moves t u → length moves ≤ (weight_of t + 1) ^ 3

-- M1: with the test's turns at each member put back, the right side takes at most the left side's turns and once those of the test
abbrev pub TestsTurn : Type 0
TestsTurn = (V : Outcomes) (vals : List Datum) (f : Form) (e c b z : Term) (ms : List Datum) (t : Bool) → WellFormed c → LoopOf f z →
    (cden V vals e >>= as_set) ≡ Some ms → (cden V vals c >>= as_truth) ≡ Some t →
    settle V vals (if_term c (loop_term f e b) z) + total (λ m. settle V vals c) ms
    ≤ settle V vals (loop_term f e (if_term (shift_term 0 1 c) b z)) + settle V vals c

-- M2 and M3: with the let's turns at each entry of the part put back, the right side takes the left side's turns and once those of the let
abbrev pub LetsTurn : Type 0
LetsTurn = (V : Outcomes) (vals : List Datum) (l : Term) (i : ℕ) (a b : Term) (v : Datum) → WellFormed l → LetBelow l i a b → cden V vals a ≡ Some v →
    settle V vals (let_out a l i (rotate_term (binders_of (parts_of l) i) b)) + total (λ vs. settle V vals a) (entered_in V vals l i)
    ≡ settle V vals l + settle V vals a

-- M4: the right side takes no more turns than the left side
abbrev pub StrictLetsTurn : Type 0
StrictLetsTurn = (V : Outcomes) (vals : List Datum) (l : Term) (i : ℕ) (a b : Term) → WellFormed l → (form_of l ≡ Form.bind → ⊥) →
    is_strict (form_of l) i ≡ true → child_of (parts_of l) i ≡ Some (let_term a b) → binders_of (parts_of l) i ≡ 0 →
    settle V vals (let_out a l i b) ≤ settle V vals l
