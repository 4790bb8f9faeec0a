use Rattle.std.proofs.Common.{[], ◌∷◌, true, sym, subst}
use Rattle.nrca_term.specs.View.{term_of}
use Rattle.nrca_ranges.specs.Context.{context_of}
use Rattle.nrca_normal.specs.Ways.{ways_in}
use Rattle.nrca_normal.specs.Conditions.{TellsWays}
use Rattle.nrca_normal.specs.Laws.Conditions.{tells-free, tells-one}
use Rattle.nrca_ranges.specs.Shapes.{ranges_of}
use Rattle.nrca_normal.proofs.conditions.all_defined.Goals as goal

pub returns-in-Free-clause-told : goal.returns-in-Free-clause-told
returns-in-Free-clause-told c = subst (λ w. TellsWays c.args.ctx.now (term_of c.args.term.now) (ways_in w) true) (sym c.in-Free.is) (tells-free (ranges_of c.args.ctx.now) (context_of c.args.ctx.now) (term_of c.args.term.now))

pub returns-in_ok-found-in-First-clause-told : goal.returns-in_ok-found-in-First-clause-told
returns-in_ok-found-in-First-clause-told c =
    subst (λ w. TellsWays c.args.ctx.now (term_of c.args.term.now) (ways_in w) c.in_ok-found-in-First.found) (sym c.in-First.is)
    (tells-one (ranges_of c.args.ctx.now) (context_of c.args.ctx.now) (term_of c.args.term.now) (0 ∷ []) c.in_ok-found-in-First.found c.in_ok-found-in-First.ensures.told)

pub returns-in_ok-found-in-Inner-clause-told : goal.returns-in_ok-found-in-Inner-clause-told
returns-in_ok-found-in-Inner-clause-told c =
    subst (λ w. TellsWays c.args.ctx.now (term_of c.args.term.now) (ways_in w) c.in_ok-found-in-Inner.found) (sym c.in-Inner.is)
    (tells-one (ranges_of c.args.ctx.now) (context_of c.args.ctx.now) (term_of c.args.term.now) (0 ∷ c.in-Inner.i ∷ []) c.in_ok-found-in-Inner.found c.in_ok-found-in-Inner.ensures.told)
