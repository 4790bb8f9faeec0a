use Rattle.std.proofs.Common.{◌≡◌, drop}
use Rattle.aql_syntax.specs.View.{pats_of}
use Rattle.aql_infer_steps.specs.Constraints.{matched_index}
use Rattle.aql_infer_steps.specs.View.{state_of, locals_of, schemes_of, Extends}
use Rattle.aql_infer_steps.proofs.patterns.index_parts.Given as goal

abbrev pub invariant-loop-p : goal.invariant-loop-p
invariant-loop-p l = record {
  made : matched_index (pats_of (drop l.p-index l.ps)) (schemes_of l.positions) (locals_of l.positions l.env.items) (state_of l.positions l.s)
      ≡ matched_index (pats_of l.ps) (schemes_of l.positions) (locals_of l.positions l.initial.env.items) (state_of l.positions l.fn.s);
  extends : Extends l.initial.env.items l.env.items;
}
