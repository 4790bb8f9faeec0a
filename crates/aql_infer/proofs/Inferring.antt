-- What one declaration gets, from what was asked of it and solved.
use Rattle.std.proofs.Common.{◌≡◌, Some, Result, Ok, Err, IfOk, ap, ◌∙◌, length}
use Rattle.aql_value.specs.declared.memory.Memory.{Memory}
use Rattle.aql_ty.specs.Types.{Subst, Sort, apply_sort}
use Rattle.aql_types.specs.Unifiers.{IsBest}
use Rattle.aql_ty.specs.View.{sort_of}
use Rattle.aql_ty.specs.declared.ty.Scheme as code_scheme
use Rattle.aql_syntax.specs.Tree.{Declaration}
use Rattle.aql_infer_steps.specs.Constraints.{NumberedSchemes, State, initial, make_decl}
use Rattle.aql_ty.specs.Variables.{sort_variables}
use Rattle.aql_infer_steps.specs.Numbering.{number}
use Rattle.aql_infer_steps.specs.declared.positions.Position.{Position}
use Rattle.aql_infer_steps.specs.declared.fault.NoTyping.{NoTyping}
use Rattle.aql_infer_steps.specs.declared.fault.NoTyping.TheVariants as faults
use Rattle.aql_infer.specs.Inferred.{Inferred, Placed}

-- a most general solution, and its scheme with the variables numbered
pub solved : (d : Declaration) (ss : NumberedSchemes) (o : Sort) (n : State) (u : Subst) (made : Result code_scheme.Scheme Memory) (r : Result Position NoTyping) →
    make_decl d ss initial ≡ Some (record { result = o; state = n }) → IsBest n.eqs n.uses u → IfOk made (λ m. sort_of m ≡ apply_sort u o) → Placed r made d →
    Inferred r d ss
solved d ss o n u (Ok m) (Ok p) asked best e placed = (
  record {
    made = record { result = o; state = n };
    is = asked;
    solution = u;
    best = best;
    sort = placed.0 ∙ ap number e;
    variables = placed.1 ∙ ap (λ (m : Sort). length (sort_variables m)) e;
  },
  placed.2,
)
solved d ss o n u (Err m) (Ok p) asked best e placed = absurd placed
solved d ss o n u made (Err faults.Memory) asked best e placed = tt
solved d ss o n u made (Err faults.NoType) asked best e placed = cc
