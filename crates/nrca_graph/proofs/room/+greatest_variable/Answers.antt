use Rattle.std.proofs.Common.{arith, sym, ◌∙◌}
use Rattle.nrca_term.specs.Term.{parts_of}
use Rattle.nrca_term.specs.View.{term_of}
use Rattle.nrca_term.specs.Laws.Measure.{weight_of-child}
use Rattle.nrca_term.specs.Laws.Entering.{child-there}
use Rattle.nrca_graph.proofs.Tops.{first_top-none, first_top-next, first_top-whole}
use Rattle.nrca_graph.proofs.room.+greatest_variable.Goals as goal
use Rattle.nrca_graph.proofs.room.+greatest_variable.Goals.{greatest_in_parts-in-Some, greatest_in_parts-in_default}

pub greatest_in_parts-loop-i-init : goal.greatest_in_parts-loop-i-init
greatest_in_parts-loop-i-init t c = first_top-none (parts_of (term_of c.args.term.now))

pub greatest_in_parts-greatest_variable-requires : goal.greatest_in_parts-greatest_variable-requires
greatest_in_parts-greatest_variable-requires t c = (omega (arith, c.decreases, weight_of-child (term_of c.args.term.now) c.loop-i.i (term_of c.in-Some.part.now) (sym c.in-Some.ensures)), tt)

pub greatest_in_parts-returns : goal.greatest_in_parts-returns
greatest_in_parts-returns t c = first_top-whole c.loop-i.i (term_of c.args.term.now) c.loop-i.greatest c.requires (omega (arith, c.parts-i-end.ensures)) c.loop-i.invariant

pub greatest_in_parts-loop-i-preserved : goal.greatest_in_parts-loop-i-preserved
greatest_in_parts-loop-i-preserved t c =
    elim c.match-part.branch [
      | greatest_in_parts-in-Some w ↦ w.greatest-is ∙ w.max-greatest.ensures
          ∙ first_top-next c.loop-i.i (parts_of (term_of c.args.term.now)) (term_of w.in-Some.part.now) c.loop-i.greatest w.greatest_variable.result (sym w.in-Some.ensures) c.loop-i.invariant w.greatest_variable.ensures
      | greatest_in_parts-in_default w ↦ absurd (child-there (parts_of (term_of c.args.term.now)) c.loop-i.i (omega (arith, c.parts-i-end.ensures)) w.in_default.ensures)
    ]
