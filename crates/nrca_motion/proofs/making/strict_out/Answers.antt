use Rattle.std.proofs.Common.{ap, sym, ◌∙◌}
use Rattle.nrca_term.specs.View.{term_of}
use Rattle.nrca_term.specs.Nodes.{let_term}
use Rattle.nrca_term.specs.Laws.Equations.{term_of-Bottom}
use Rattle.nrca_term.specs.Laws.AsVariant.{as-Let}
use Rattle.nrca_term.specs.declared.term.Core.TheVariants.{Bottom}
use Rattle.nrca_motion.specs.Laws.Making.{strict-there, rest-there, room-rest, strict-made}
use Rattle.nrca_motion.proofs.making.strict_out.Goals as goal

pub swap_part-rest-requires : goal.swap_part-rest-requires
swap_part-rest-requires c = strict-there (term_of c.args.term) c.args.i c.requires.fits

pub wrap_in_let-requires-clause-has : goal.wrap_in_let-requires-clause-has
wrap_in_let-requires-clause-has c = rest-there (term_of c.args.term) (term_of c.swap_part-rest.result.0) (term_of Bottom) c.args.i c.swap_part-rest.ensures.now (strict-there (term_of c.args.term) c.args.i c.requires.fits)

pub wrap_in_let-requires-clause-room : goal.wrap_in_let-requires-clause-room
wrap_in_let-requires-clause-room c = room-rest (term_of c.args.term) (term_of c.swap_part-rest.result.0) (term_of Bottom) c.args.i c.swap_part-rest.ensures.now term_of-Bottom c.requires.room

pub returns : goal.returns
returns c =
    strict-made (term_of c.args.term) (term_of c.swap_part-rest.result.0) (term_of c.swap_part-rest.result.1) (term_of c.wrap_in_let.result) (term_of c.in-Let.bound.value) (term_of c.open-second.result.1) (term_of Bottom) c.args.i
    (as-Let c.swap_part-rest.result.1 c.in-Let.bound c.in-Let.body c.in-Let.is ∙ ap (λ x. let_term (term_of c.in-Let.bound.value) (term_of x)) (sym c.open-second.ensures)) c.swap_part-rest.ensures.before c.swap_part-rest.ensures.now c.wrap_in_let.ensures
