-- A most general solution of what a declaration asks gives its principal sort, whatever the names of its variables.
use Rattle.std.proofs.Common.{◌≡◌, Option, Some, None, length}
use Rattle.aql_ty.specs.Types.{Subst, Sort, apply_sort}
use Rattle.aql_types.specs.Unifiers.{IsSolution, IsBest}
use Rattle.aql_syntax.specs.Tree.{Declaration}
use Rattle.aql_infer_steps.specs.Constraints.{NumberedScheme, NumberedSchemes, initial, Made, make_decl}
use Rattle.aql_ty.specs.Variables.{sort_variables}
use Rattle.aql_infer_steps.specs.Numbering.{number}

-- what inference gives a declaration: the sort that the walk makes, under a most general solution, with its variables numbered
pub record IsInferred (d : Declaration) (ss : NumberedSchemes) (s : NumberedScheme) : Type 0 where
  pub made : Made Sort
  pub is : make_decl d ss initial ≡ Some made
  pub solution : Subst
  pub best : IsBest made.state.eqs made.state.uses solution
  pub sort : s.sort ≡ number (apply_sort solution made.result)
  pub variables : s.variables ≡ length (sort_variables (apply_sort solution made.result))

-- inference gives it nothing: the walk has no answer, or what it asks has no solution
abbrev pub HasNoSolution : Option (Made Sort) → Type 0
HasNoSolution None = Unit {0}
HasNoSolution (Some m) = (u : Subst) → IsSolution u m.state.eqs m.state.uses → ⊥

-- what the declaration asks has no solution
abbrev pub IsNotInferred : Declaration → NumberedSchemes → Type 0
IsNotInferred d ss = HasNoSolution (make_decl d ss initial)
