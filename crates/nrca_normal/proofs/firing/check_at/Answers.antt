use Rattle.std.proofs.Common.{subst, Some}
use Rattle.nrca_term.specs.View.{term_of}
use Rattle.nrca_ranges.specs.Context.{context_of}
use Rattle.nrca_checks.specs.Knowing.{IsKnown}
use Rattle.nrca_normal.specs.Laws.Conditions.{unknown-other, undecided-other, unknown-none, fires-domain, fires-test, fires-denied}
use Rattle.nrca_ranges.specs.Shapes.{ranges_of}
use Rattle.nrca_normal.proofs.firing.check_at.Goals as goal

pub returns-then-not-compares-clause-told : goal.returns-then-not-compares-clause-told
returns-then-not-compares-clause-told c =
    (unknown-other (context_of c.args.ctx.now) (term_of c.args.term.now) c.if-not-compares.ensures, undecided-other (ranges_of c.args.ctx.now) (context_of c.args.ctx.now) (term_of c.args.term.now) c.if-not-compares.ensures)

pub decided_at-requires-clause-unknown : goal.decided_at-requires-clause-unknown
decided_at-requires-clause-unknown c = unknown-none (context_of c.args.ctx.now) (term_of c.args.term.now) c.in-None.ensures

pub returns-in-Some-Domain-clause-told : goal.returns-in-Some-Domain-clause-told
returns-in-Some-Domain-clause-told c =
    fires-domain (ranges_of c.args.ctx.now) (context_of c.args.ctx.now) (term_of c.args.term.now) c.if-not-compares.ensures
    (subst (λ k. IsKnown (context_of c.args.ctx.now) (term_of c.args.term.now) (Some k)) c.in-Some-Domain.field-0-is (subst (IsKnown (context_of c.args.ctx.now) (term_of c.args.term.now)) c.in-Some-Domain.is c.literally.ensures))

pub returns-in-Some-Test-clause-told : goal.returns-in-Some-Test-clause-told
returns-in-Some-Test-clause-told c =
    fires-test (ranges_of c.args.ctx.now) (context_of c.args.ctx.now) (term_of c.args.term.now) c.if-not-compares.ensures
    (subst (λ k. IsKnown (context_of c.args.ctx.now) (term_of c.args.term.now) (Some k)) c.in-Some-Test.field-0-is (subst (IsKnown (context_of c.args.ctx.now) (term_of c.args.term.now)) c.in-Some-Test.is c.literally.ensures)).1

pub returns-in-Some-Denied-clause-told : goal.returns-in-Some-Denied-clause-told
returns-in-Some-Denied-clause-told c =
    fires-denied (ranges_of c.args.ctx.now) (context_of c.args.ctx.now) (term_of c.args.term.now) c.if-not-compares.ensures
    (subst (λ k. IsKnown (context_of c.args.ctx.now) (term_of c.args.term.now) (Some k)) c.in-Some-Denied.field-0-is (subst (IsKnown (context_of c.args.ctx.now) (term_of c.args.term.now)) c.in-Some-Denied.is c.literally.ensures)).2
