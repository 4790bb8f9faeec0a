use Rattle.std.proofs.Common.{rules, ◌-◌, ◌^◌, min, arith, ap, sym, subst, ◌∙◌}
use Rattle.nrca_term.specs.Term.{parts_of, form_of}
use Rattle.nrca_term.specs.View.{term_of}
use Rattle.nrca_subst.specs.Strictly.{CountsStrict}
use Rattle.nrca_subst.proofs.StrictCounts.{first_strict-none, strict-counted, part-added, part-lazy, part-strict}
use Rattle.nrca_term.specs.Laws.Measure.{weight_of-child}
use Rattle.nrca_term.specs.Laws.Entering.{child-there}
use Rattle.nrca_subst.proofs.strictness.+uses_strictly.Goals as goal

pub strict_in_parts-loop-i-init : goal.strict_in_parts-loop-i-init
strict_in_parts-loop-i-init t c n d = omega (arith, first_strict-none n (form_of (term_of c.args.term.now)) 0 (parts_of (term_of c.args.term.now)))

pub strict_in_parts-loop-i-preserved : goal.strict_in_parts-loop-i-preserved
strict_in_parts-loop-i-preserved t c n d = c.saturating_add-total.ensures ∙ part-added c.args.at n c.loop-i.i c.loop-i.total c.strict_in_part.result (term_of c.args.term.now) d c.strict_in_part.ensures (c.loop-i.invariant n d)

pub strict_in_parts-returns : goal.strict_in_parts-returns
strict_in_parts-returns t c n d =
    c.loop-i.invariant n d ∙ ap (λ m. min m (2 ^ 64 - 1)) (strict-counted n c.loop-i.i (term_of c.args.term.now) c.requires (omega (arith, c.parts-i-end.ensures)))

pub strict_in_part-strict_under-more-requires : goal.strict_in_part-strict_under-more-requires
strict_in_part-strict_under-more-requires t c = (omega (arith, c.decreases, weight_of-child (term_of c.args.term.now) c.args.i (term_of c.in-Some.part.now) (sym c.in-Some.ensures)), tt)

pub strict_in_part-returns-then-not-strict : goal.strict_in_part-returns-then-not-strict
strict_in_part-returns-then-not-strict t c = part-lazy c.args.at c.args.i (term_of c.args.term.now) c.strict.result c.strict.ensures (search rules)

pub strict_in_part-unreachable-requires : goal.strict_in_part-unreachable-requires
strict_in_part-unreachable-requires t c = absurd (child-there (parts_of (term_of c.args.term.now)) c.args.i c.requires (search rules))

pub strict_in_part-returns : goal.strict_in_part-returns
strict_in_part-returns t c = part-strict c.args.at c.binders.result c.args.i c.strict_under-more.result (term_of c.args.term.now) (term_of c.in-Some.part.now) c.strict.result c.strict.ensures (search rules) (sym c.in-Some.ensures) c.binders.ensures.number
    (subst (λ m. CountsStrict m (term_of c.in-Some.part.now) c.strict_under-more.result) (omega (arith, c.saturating_add-deeper.ensures)) c.strict_under-more.ensures)
