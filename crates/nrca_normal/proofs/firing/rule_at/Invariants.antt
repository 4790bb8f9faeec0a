use Rattle.std.proofs.Common.{◌≡◌}
use Rattle.nrca_term.specs.View.{term_of}
use Rattle.nrca_ranges.specs.Context.{context_of}
use Rattle.nrca_ranges.specs.Shapes.{ranges_of}
use Rattle.nrca_normal.specs.Conditions.{IsRefusedAt}
use Rattle.nrca_normal.specs.Order.{FirstRules}
use Rattle.nrca_normal.proofs.firing.rule_at.Given as goal

abbrev pub invariant-loop-rule : goal.invariant-loop-rule
invariant-loop-rule l = record {
  back : context_of l.ctx ≡ context_of l.fn.ctx;
  ranges : ranges_of l.ctx ≡ ranges_of l.fn.ctx;
  globals : l.ctx.globals ≡ l.fn.ctx.globals;
  before : FirstRules (IsRefusedAt l.fn.ctx (term_of l.term)) l.rule-items l.rule-index;
}
