-- What inference answers for one declaration.
use Rattle.std.specs.Prelude.{◌≡◌, length, Result, Ok, Err, IsOkAnd}
use Rattle.aql_value.specs.declared.memory.Memory.{Memory}
use Rattle.aql_ty.specs.Types.{apply_sort}
use Rattle.aql_ty.specs.View.{sort_of}
use Rattle.aql_ty.specs.declared.ty.Scheme as code_scheme
use Rattle.aql_syntax.specs.Tree.{Declaration, declared_name}
use Rattle.aql_infer_steps.specs.Constraints.{NumberedSchemes}
use Rattle.aql_ty.specs.Variables.{sort_variables}
use Rattle.aql_infer_steps.specs.Numbering.{renumbering}
use Rattle.aql_infer_steps.specs.Principal.{IsInferred, IsNotInferred}
use Rattle.aql_infer_steps.specs.View.{scheme_of}
use Rattle.aql_infer_steps.specs.declared.positions.Position.{Position}
use Rattle.aql_infer_steps.specs.declared.fault.NoTyping.{NoTyping}
use Rattle.aql_infer_steps.specs.declared.fault.NoTyping.TheVariants as faults

-- its name, with the numbered sort of a most general solution of what it asks; or there is none
abbrev pub Inferred : Result Position NoTyping → Declaration → NumberedSchemes → Type 0
Inferred (Ok p) d ss = IsInferred d ss (scheme_of p) × (p.name ≡ declared_name d)
Inferred (Err faults.NoType) d ss = IsNotInferred d ss
Inferred (Err faults.Memory) d ss = Unit {0}

-- its name, with that scheme's variables numbered; or memory ran out
abbrev pub Placed : Result Position NoTyping → Result code_scheme.Scheme Memory → Declaration → Type 0
Placed (Ok p) scheme d = IsOkAnd scheme (λ m.
    (sort_of p.scheme ≡ apply_sort (renumbering (sort_variables (sort_of m))) (sort_of m)) × (p.variables ≡ length (sort_variables (sort_of m))) × (p.name ≡ declared_name d))
Placed (Err e) scheme d = e ≡ faults.Memory
