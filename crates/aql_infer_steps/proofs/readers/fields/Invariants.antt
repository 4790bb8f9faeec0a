use Rattle.std.proofs.Common.{◌≡◌, drop}
use Rattle.aql_ty.specs.Types.{append}
use Rattle.aql_ty.specs.View.{types_of}
use Rattle.aql_syntax.specs.Typing.{field_types}
use Rattle.aql_infer_steps.proofs.readers.fields.Given as goal

abbrev pub invariant-loop-k : goal.invariant-loop-k
invariant-loop-k l = append (types_of l.made.items) (field_types (drop l.k-index l.kinds)) ≡ field_types l.kinds
