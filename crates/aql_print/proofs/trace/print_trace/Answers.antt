use Rattle.std.proofs.Common.{◌≡◌, ◌<◌, ◌++◌, ◌∷◌, [], List, ℕ, get_or, length, ap, ◌∙◌, refl, arith, subst}
use Rattle.nrca_term.specs.declared.trace.Step.{Step}
use Rattle.aql_print.specs.Appends.{AppendsPrefix}
use Rattle.aql_print.specs.Joined.{join_texts}
use Rattle.aql_print.specs.TraceText.{rule_text, rule_texts, trace_text}
use Rattle.aql_print.specs.Laws.Prefix.{prefix_before, prefix_text, both_whole}
use Rattle.aql_print.proofs.Named.{named_at, count_named}
use Rattle.aql_print.proofs.trace.print_trace.Goals as goal

-- the name of a rewriting
abbrev rule_of : Step → List ℕ
rule_of s = rule_text s.rule

some_rule : (steps : List Step) (i : ℕ) → i < length steps → join_texts (32 ∷ []) (rule_texts steps) ≡ trace_text steps
some_rule [] i h = absurd (omega (arith, h))
some_rule (s ∷ rest) i h = refl

pub returns-in_err-put_before-clause-prefix : goal.returns-in_err-put_before-clause-prefix
returns-in_err-put_before-clause-prefix c =
    let xs = rule_texts c.args.trace.now in
    let e = c.deref-step-items.ensures.value ∙ c.trace.view_is in
    subst (AppendsPrefix c.args.out.now.items c.put_before.new.out.items) (some_rule c.args.trace.now c.loop-i.i (omega (arith, ap length e, c.loop-i-test.true)))
    (prefix_before (32 ∷ []) xs c.loop-i.i (get_or xs c.loop-i.i []) [] _ _ [] _ c.loop-i.invariant (omega (arith, count_named rule_of _ _ e, c.loop-i-test.true)) refl c.put_before.ensures.prefix)

pub returns-in_err-put-clause-prefix : goal.returns-in_err-put-clause-prefix
returns-in_err-put-clause-prefix c =
    let xs = rule_texts c.args.trace.now in
    let e = c.deref-step-items.ensures.value ∙ c.trace.view_is in
    let name = rule_text c.step-item.result.rule in
    subst (AppendsPrefix c.args.out.now.items c.put-in-loop-i.new.out.items) (some_rule c.args.trace.now c.loop-i.i (omega (arith, ap length e, c.loop-i-test.true)))
    (prefix_text (32 ∷ []) xs c.loop-i.i name name _ _ _ _ c.loop-i.invariant (omega (arith, count_named rule_of _ _ e, c.loop-i-test.true))
    (named_at rule_of _ _ c.loop-i.i c.step-item.result e c.step-item.is) c.in_ok-put_before.ensures.ok
    (subst (AppendsPrefix c.put_before.new.out.items c.put-in-loop-i.new.out.items) c.rule_name.ensures c.put-in-loop-i.ensures.prefix))

pub loop-i-preserved : goal.loop-i-preserved
loop-i-preserved c =
    let xs = rule_texts c.args.trace.now in
    let e = c.deref-step-items.ensures.value ∙ c.trace.view_is in
    let name = rule_text c.step-item.result.rule in
    both_whole (32 ∷ []) xs c.loop-i.i name name _ _ _ _ c.loop-i.invariant (omega (arith, count_named rule_of _ _ e, c.loop-i-test.true))
    (named_at rule_of _ _ c.loop-i.i c.step-item.result e c.step-item.is) c.in_ok-put_before.ensures.ok
    (c.in_ok-put.ensures.ok ∙ ap (λ l. c.put_before.new.out.items ++ l) c.rule_name.ensures)
