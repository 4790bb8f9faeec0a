-- What solving a graph answers, said of types.
use Rattle.std.specs.Prelude.{ℕ, ◌≡◌, ◌<◌, List, length, slice_index, nat_lt, if◌then◌else◌, Result, Ok, Err}
use Rattle.aql_ty.specs.Types as types
use Rattle.aql_ty.specs.Types.{Subst, apply}
use Rattle.aql_types.specs.Unifiers.{AllUnify}
use Rattle.aql_types.specs.declared.fault.UnifyFault.{UnifyFault}
use Rattle.aql_types.specs.declared.fault.UnifyFault.TheVariants as faults
use Rattle.aql_types.specs.declared.node.Equation.{Equation}
use Rattle.aql_types.specs.Forms.{Form}
use Rattle.aql_types.specs.Trees.{equations_of, AllWithin, AreHomes, type_at}
use Rattle.aql_types.specs.Extents.{read}

-- what a solved graph gives to the variables that have a node, down to that many levels
abbrev pub solution : ℕ → List ℕ → List Form → Subst
solution limit homes gs x = if nat_lt x (length homes) then read limit gs (slice_index homes x) else types.var x

-- a substitution that makes the equations hold, under which each node's type is within the limits
pub record IsSolution (u : Subst) (fs : List Form) (w : List Equation) : Type 0 where
  pub unifies : AllUnify u (equations_of fs w)
  pub within : AllWithin u fs

-- a most general solution: each substitution that makes the equations hold is unchanged when taken after it
pub record IsBest (fs : List Form) (w : List Equation) (s : Subst) : Type 0 where
  pub unifies : AllUnify s (equations_of fs w)
  pub within : AllWithin s fs
  pub general : (u : Subst) → AllUnify u (equations_of fs w) → (x : ℕ) → u x ≡ apply u (s x)

-- each node stands for its type's instance
abbrev pub Reads : ℕ → Subst → List Form → List Form → Type 0
Reads limit s fs gs = (i : ℕ) → i < length fs → read limit gs i ≡ apply s (type_at fs i)

-- a solved graph: its solution is a most general one, and its nodes stand for the instances of their types
pub record Solves (limit : ℕ) (homes : List ℕ) (fs gs : List Form) (w : List Equation) : Type 0 where
  pub best : IsBest fs w (solution limit homes gs)
  pub reads : Reads limit (solution limit homes gs) fs gs

-- what `solve` answers: the nodes become those of a most general solution, or there is none
abbrev pub Solved : Result (Unit {0}) UnifyFault → List Form → List Form → List Equation → Type 0
Solved (Ok x) fs gs w = (homes : List ℕ) → AreHomes homes fs → Solves 400 homes fs gs w
Solved (Err faults.Clash) fs gs w = (u : Subst) → IsSolution u fs w → ⊥
Solved (Err faults.Memory) fs gs w = Unit {0}
