-- The substitution that a solution is, and what the calls of this crate answer.
use Rattle.std.specs.Prelude.{nat_lt, if◌then◌else◌, Result, Ok, Err}
use Rattle.aql_ty.specs.Types as types
use Rattle.aql_ty.specs.Types.{Ty, Tys, Subst}
use Rattle.aql_types.specs.Unifiers.{Equations, SidesWithin, Unifies, IsMostGeneral, IsBest, IsSolution}
use Rattle.aql_types.specs.declared.fault.UnifyFault.{UnifyFault}
use Rattle.aql_types.specs.declared.fault.UnifyFault.TheVariants as faults
use Rattle.aql_types.specs.Extents.{read}
use Rattle.aql_types.specs.Graphs.{solved_forms}
use Rattle.aql_types.specs.declared.subst.Subst as code

-- what each variable stands for, down to the 400 levels that a type within the limits has: the first nodes are the variables, each by its
-- own number; others stand for themselves
abbrev pub subst_of : code.Subst → Subst
subst_of s x = if nat_lt x s.variables then read 400 (solved_forms s.graph) x else types.var x

-- what `unify` answers: a most general unifier, or Clash where there is none
abbrev pub Unified : Result code.Subst UnifyFault → Ty → Ty → Type 0
Unified (Ok s) a b = IsMostGeneral (subst_of s) a b
Unified (Err faults.Clash) a b = (u : Subst) → Unifies u a b → ⊥
Unified (Err faults.Memory) a b = Unit {0}

-- a most general solution, under which the types used and both sides of each equation are within the limits
pub record IsSolved (w : Equations) (us : Tys) (s : Subst) : Type 0 where
  pub best : IsBest w us s
  pub sides : SidesWithin s w

-- what `solve` answers: a most general solution within the limits, or Clash where there is none
abbrev pub SolvedIn : Result code.Subst UnifyFault → Equations → Tys → Type 0
SolvedIn (Ok s) w us = IsSolved w us (subst_of s)
SolvedIn (Err faults.Clash) w us = (u : Subst) → IsSolution u w us → ⊥
SolvedIn (Err faults.Memory) w us = Unit {0}
