use Rattle.std.proofs.Common.{subst, [], ◌∷◌}
use Rattle.nrca_term.specs.View.{term_of}
use Rattle.nrca_ranges.specs.Context.{context_of}
use Rattle.nrca_checks.specs.Deciding.{DecidesTruth, DecidesApart}
use Rattle.nrca_normal.specs.Conditions.{TellsAt}
use Rattle.nrca_normal.specs.Laws.Conditions.{undecided-first, undecided-second, undecided-none, fires-decided, tells-true, tells-as}
use Rattle.nrca_ranges.specs.Shapes.{ranges_of}
use Rattle.nrca_normal.proofs.firing.decided_at.Goals as goal

pub returns-then-not-first-clause-told : goal.returns-then-not-first-clause-told
returns-then-not-first-clause-told c = (
  c.requires.unknown,
  undecided-first (ranges_of c.args.ctx.now) (context_of c.args.ctx.now) (term_of c.args.term.now)
      (subst (λ b. TellsAt (ranges_of c.args.ctx.now) (context_of c.args.ctx.now) (term_of c.args.term.now) (0 ∷ []) b) c.if-not-first.true c.in_ok-first-in-Some.ensures.told),
)

pub returns-then-not-second-clause-told : goal.returns-then-not-second-clause-told
returns-then-not-second-clause-told c = (
  c.requires.unknown,
  undecided-second (ranges_of c.args.ctx.now) (context_of c.args.ctx.now) (term_of c.args.term.now)
      (subst (λ b. TellsAt (ranges_of c.args.ctx.now) (context_of c.args.ctx.now) (term_of c.args.term.now) (1 ∷ []) b) c.if-not-second.true
      (tells-as (ranges_of c.args.ctx.now) (ranges_of c.part_defined.new.ctx) (context_of c.args.ctx.now) (context_of c.part_defined.new.ctx) (term_of c.args.term.now) (1 ∷ []) c.in_ok-second-in-Some.second c.in_ok-first-in-Some.ensures.ranges c.in_ok-first-in-Some.ensures.back c.in_ok-second-in-Some.ensures.told)),
)

pub returns-else-not-second-clause-told : goal.returns-else-not-second-clause-told
returns-else-not-second-clause-told c =
    fires-decided (ranges_of c.args.ctx.now) (context_of c.args.ctx.now) (term_of c.args.term.now) c.in-Some.truth c.requires.compares
    (subst (DecidesTruth (context_of c.args.ctx.now) (term_of c.args.term.now)) c.in-Some.is c.decided.ensures.value)
    (tells-true (ranges_of c.args.ctx.now) (context_of c.args.ctx.now) (term_of c.args.term.now) (0 ∷ []) c.in_ok-first-in-Some.first c.if-not-first.false c.in_ok-first-in-Some.ensures.told)
    (tells-true (ranges_of c.args.ctx.now) (context_of c.args.ctx.now) (term_of c.args.term.now) (1 ∷ []) c.in_ok-second-in-Some.second c.if-not-second.false
    (tells-as (ranges_of c.args.ctx.now) (ranges_of c.part_defined.new.ctx) (context_of c.args.ctx.now) (context_of c.part_defined.new.ctx) (term_of c.args.term.now) (1 ∷ []) c.in_ok-second-in-Some.second c.in_ok-first-in-Some.ensures.ranges c.in_ok-first-in-Some.ensures.back c.in_ok-second-in-Some.ensures.told))

pub returns-in-None-clause-told : goal.returns-in-None-clause-told
returns-in-None-clause-told c =
    (c.requires.unknown, undecided-none (ranges_of c.args.ctx.now) (context_of c.args.ctx.now) (term_of c.args.term.now) (subst (DecidesApart (context_of c.args.ctx.now) (term_of c.args.term.now)) c.in-None.is c.decided.ensures.apart))
