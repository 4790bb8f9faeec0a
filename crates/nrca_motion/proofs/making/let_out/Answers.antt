use Rattle.std.proofs.Common.{ap, sym, subst, ◌∙◌}
use Rattle.nrca_term.specs.View.{term_of}
use Rattle.nrca_term.specs.Term.{with_part}
use Rattle.nrca_term.specs.Nodes.{let_term}
use Rattle.nrca_term.specs.Subst.{shift_term}
use Rattle.nrca_term.specs.Laws.Equations.{term_of-Bottom}
use Rattle.nrca_term.specs.Laws.AsVariant.{as-Let}
use Rattle.nrca_term.specs.declared.term.Core.TheVariants.{Bottom}
use Rattle.nrca_motion.specs.Outside.{IsOutside}
use Rattle.nrca_motion.specs.Laws.Making.{below-there, rest-there, room-rest, let-made, bound-room, body-room}
use Rattle.nrca_motion.proofs.making.let_out.Goals as goal

pub binders-count-requires : goal.binders-count-requires
binders-count-requires c = below-there (term_of c.args.term) c.args.i c.requires.fits

pub swap_part-rest-requires : goal.swap_part-rest-requires
swap_part-rest-requires c = below-there (term_of c.args.term) c.args.i c.requires.fits

pub strengthen-requires : goal.strengthen-requires
strengthen-requires c =
    let e = as-Let c.swap_part-rest.result.1 c.in-Let.bound c.in-Let.body c.in-Let.is ∙ ap (λ x. let_term (term_of x) (term_of c.in-Let.body.value)) (sym c.open-first.ensures)
    ∙ ap (λ x. let_term (term_of c.open-first.result.1) (term_of x)) (sym c.open-second.ensures) in
    bound-room (term_of c.args.term) (term_of c.swap_part-rest.result.1) (term_of c.open-first.result.1) (term_of c.open-second.result.1) c.args.i c.swap_part-rest.ensures.before e c.requires.room

pub rotate-requires-clause-room : goal.rotate-requires-clause-room
rotate-requires-clause-room c =
    let e = as-Let c.swap_part-rest.result.1 c.in-Let.bound c.in-Let.body c.in-Let.is ∙ ap (λ x. let_term (term_of x) (term_of c.in-Let.body.value)) (sym c.open-first.ensures)
    ∙ ap (λ x. let_term (term_of c.open-first.result.1) (term_of x)) (sym c.open-second.ensures) in
    body-room (term_of c.args.term) (term_of c.swap_part-rest.result.1) (term_of c.open-first.result.1) (term_of c.open-second.result.1) c.args.i c.swap_part-rest.ensures.before e c.requires.room

pub wrap_in_let-requires-clause-has : goal.wrap_in_let-requires-clause-has
wrap_in_let-requires-clause-has c = rest-there (term_of c.args.term) (term_of c.swap_part-rest.result.0) (term_of Bottom) c.args.i c.swap_part-rest.ensures.now (below-there (term_of c.args.term) c.args.i c.requires.fits)

pub wrap_in_let-requires-clause-room : goal.wrap_in_let-requires-clause-room
wrap_in_let-requires-clause-room c = room-rest (term_of c.args.term) (term_of c.swap_part-rest.result.0) (term_of Bottom) c.args.i c.swap_part-rest.ensures.now term_of-Bottom c.requires.room

pub returns : goal.returns
returns c =
    let e = as-Let c.swap_part-rest.result.1 c.in-Let.bound c.in-Let.body c.in-Let.is ∙ ap (λ x. let_term (term_of x) (term_of c.in-Let.body.value)) (sym c.open-first.ensures)
    ∙ ap (λ x. let_term (term_of c.open-first.result.1) (term_of x)) (sym c.open-second.ensures) in
    let-made (term_of c.args.term) (term_of c.swap_part-rest.result.0) (term_of c.swap_part-rest.result.1) (term_of c.wrap_in_let.result) (term_of c.open-first.result.1) (term_of c.open-second.result.1) (term_of Bottom) (term_of c.in-Some.outer)
    (term_of c.in_ok-turned-in-Some.turned) c.args.i c.binders-count.result e c.swap_part-rest.ensures.before c.swap_part-rest.ensures.now c.binders-count.ensures.number
    (subst (IsOutside c.binders-count.result (term_of c.open-first.result.1)) c.in-Some.is c.in_ok-outer-in-Let.ensures) c.in_ok-turned-in-Some.ensures
    (c.wrap_in_let.ensures ∙ ap (λ x. let_term (term_of x) (with_part (shift_term 0 1 (term_of c.swap_part-rest.result.0)) c.args.i (term_of c.in_ok-turned-in-Some.turned))) c.put.ensures)
