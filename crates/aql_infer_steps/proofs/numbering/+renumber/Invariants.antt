use Rattle.std.proofs.Common.{◌≡◌, drop}
use Rattle.aql_ty.specs.Types.{append, apply_all}
use Rattle.aql_ty.specs.View.{types_of}
use Rattle.aql_infer_steps.specs.Numbering.{renumbering}
use Rattle.aql_infer_steps.proofs.numbering.+renumber.Given as goal

abbrev pub invariant-renumber_all-loop-t : goal.invariant-renumber_all-loop-t
invariant-renumber_all-loop-t l =
    append (types_of l.made.items) (apply_all (renumbering l.names) (types_of (drop l.t-index l.ts))) ≡ apply_all (renumbering l.names) (types_of l.ts)
