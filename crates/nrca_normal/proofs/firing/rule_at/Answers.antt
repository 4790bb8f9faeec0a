use Rattle.std.proofs.Common.{rules, length, refl, ap, ◌∙◌, subst, false, arith}
use Rattle.nrca_term.specs.View.{term_of}
use Rattle.nrca_ranges.specs.Context.{context_of}
use Rattle.nrca_ranges.specs.Shapes.{ranges_of}
use Rattle.nrca_normal.specs.Conditions.{IsRefusedAt, TellsRule}
use Rattle.nrca_normal.specs.Order.{FirstRules}
use Rattle.nrca_normal.specs.Laws.Order.{first-none, first-more, all-refused}
use Rattle.nrca_normal.specs.Laws.Conditions.{rule-told, node-told}
use Rattle.nrca_normal.proofs.firing.rule_at.Goals as goal

pub loop-rule-init : goal.loop-rule-init
loop-rule-init c = record { back = refl; ranges = refl; globals = refl; before = first-none (IsRefusedAt c.args.ctx.now (term_of c.args.term.now)) c.rules_for-rule-items.result.now }

pub loop-rule-preserved : goal.loop-rule-preserved
loop-rule-preserved c =
    record {
      back = c.in_ok-found.ensures.back ∙ c.loop-rule.invariant.back;
      ranges = c.in_ok-found.ensures.ranges ∙ c.loop-rule.invariant.ranges;
      globals = c.in_ok-found.ensures.globals ∙ c.loop-rule.invariant.globals;
      before = first-more (IsRefusedAt c.args.ctx.now (term_of c.args.term.now)) c.rules_for-rule-items.result.now c.loop-rule.rule-index _ (search rules)
          (rule-told c.args.ctx.now c.loop-rule.ctx _ (term_of c.args.term.now) false c.loop-rule.invariant.ranges c.loop-rule.invariant.back
          (subst (TellsRule c.loop-rule.ctx _ (term_of c.args.term.now)) c.if-found.false c.in_ok-found.ensures.told))
          c.loop-rule.invariant.before;
    }

pub returns-clause-told : goal.returns-clause-told
returns-clause-told c =
    let k = c.args.ctx.now in
    let e = all-refused (ranges_of k) (context_of k) (term_of c.args.term.now) c.loop-rule.rule-index (omega (arith, c.loop-rule-test.false, ap length c.rules_for-rule-items.ensures))
    (subst (λ l. FirstRules (IsRefusedAt k (term_of c.args.term.now)) l c.loop-rule.rule-index) c.rules_for-rule-items.ensures c.loop-rule.invariant.before) in
    node-told k c.loop-rule.ctx (term_of c.args.term.now) c.in_ok-found-2.found c.loop-rule.invariant.ranges c.loop-rule.invariant.back e c.in_ok-found-2.ensures.told
