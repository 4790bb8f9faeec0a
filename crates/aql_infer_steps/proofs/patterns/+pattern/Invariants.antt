use Rattle.std.proofs.Common.{◌≡◌, drop}
use Rattle.aql_ty.specs.Types.{append}
use Rattle.aql_syntax.specs.View.{pats_of}
use Rattle.aql_infer_steps.specs.Constraints.{make_pats, after, pure}
use Rattle.aql_infer_steps.specs.View.{sketch_types, state_of, locals_of, schemes_of, Extends}
use Rattle.aql_infer_steps.proofs.patterns.+pattern.Given as goal

abbrev pub invariant-patterns-loop-p : goal.invariant-patterns-loop-p
invariant-patterns-loop-p l = record {
  made : after (make_pats (pats_of (drop l.p-index l.ps)) (schemes_of l.positions) (locals_of l.positions l.env.items) (state_of l.positions l.s)) (λ q. pure (record { of = append (sketch_types l.positions l.parts.items) q.of; names = q.names }))
      ≡ make_pats (pats_of l.ps) (schemes_of l.positions) (locals_of l.positions l.initial.env.items) (state_of l.positions l.fn.s);
  extends : Extends l.initial.env.items l.env.items;
}
