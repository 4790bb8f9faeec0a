use Rattle.std.proofs.Common.{◌≡◌, drop}
use Rattle.aql_ty.specs.Types.{append, apply_all}
use Rattle.aql_ty.specs.View.{types_of}
use Rattle.aql_types.specs.Pushed.{shift}
use Rattle.aql_types.specs.Answers.{subst_of}
use Rattle.aql_types.proofs.subst.+apply.Given as goal

abbrev pub invariant-apply_all-loop-t : goal.invariant-apply_all-loop-t
invariant-apply_all-loop-t l =
    append (types_of l.made.items) (apply_all (subst_of l.s) (apply_all (shift l.by) (types_of (drop l.t-index l.ts)))) ≡ apply_all (subst_of l.s) (apply_all (shift l.by) (types_of l.ts))
