use Rattle.std.proofs.Common.{◌<◌, ◌^◌, refl, sym, subst, ◌∙◌}
use Rattle.aql_value.specs.Lists.{Every}
use Rattle.nrca_term.specs.View.{term_of}
use Rattle.nrca_motion.specs.Moving.{MayMoveAt, IsMovedAt}
use Rattle.nrca_motion.specs.Laws.Progress.{may-take, site-numbers, taken}
use Rattle.nrca_motion.proofs.still.take_step.Goals as goal

pub move_at-requires-clause-place : goal.move_at-requires-clause-place
move_at-requires-clause-place c = subst (MayMoveAt c.args.site.fit (term_of c.args.progress.now.term)) (sym (c.deref.ensures.value ∙ c.reverse.ensures.items)) (may-take c.args.progress.now c.args.site c.requires)

pub from_numbers-requires : goal.from_numbers-requires
from_numbers-requires c = record { small = subst (Every (λ i. i < 2 ^ 32)) (sym (c.deref-2.ensures.value ∙ c.reverse.ensures.items)) (site-numbers c.args.progress.now c.args.site c.requires) }

pub returns-clause-gone : goal.returns-clause-gone
returns-clause-gone c =
    taken c.args.progress.now _ c.args.site _ c.requires
    (subst (λ p. IsMovedAt c.args.site.fit (term_of c.args.progress.now.term) p (term_of c.move_at.new.term)) (c.deref.ensures.value ∙ c.reverse.ensures.items) c.in_ok-move_at.ensures)
    refl refl refl (c.in_ok-copied.ensures ∙ c.deref-2.ensures.value ∙ c.reverse.ensures.items) c.in_ok-push.ensures.items c.reverse.ensures.items
