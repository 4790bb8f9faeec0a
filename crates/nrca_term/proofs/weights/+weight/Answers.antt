use Rattle.std.proofs.Common.{◌+◌, sym, ap, ◌∙◌, arith}
use Rattle.nrca_term.specs.Term.{parts_of, form_of, form_weight, weight_of, parts_weight, node, Term}
use Rattle.nrca_term.specs.Laws.Measure.{weight_of-child}
use Rattle.nrca_term.specs.View.{term_of}
use Rattle.nrca_term.proofs.FirstParts.{first_weight-more, first_weight-past, first_weight-all, weight-parts}
use Rattle.nrca_term.proofs.weights.+weight.Goals as goal
use Rattle.nrca_term.proofs.weights.+weight.Goals.{in-Some, in_default}

pub weight-requires : goal.weight-requires
weight-requires t c = (omega (arith, c.decreases, weight_of-child (term_of c.args.term.now) c.loop-i.i (term_of c.in-Some.part.now) (sym c.in-Some.ensures)), tt)

pub loop-i-preserved : goal.loop-i-preserved
loop-i-preserved t c = elim c.match-part.branch [
  | in-Some w ↦ omega (arith, w.total-is, w.saturating_add-total.ensures, w.weight.ensures, c.loop-i.invariant, first_weight-more c.loop-i.i (parts_of (term_of c.args.term.now)) (term_of w.in-Some.part.now) (sym w.in-Some.ensures))
  | in_default w ↦ omega (arith, w.total-is, c.loop-i.invariant, first_weight-past c.loop-i.i (parts_of (term_of c.args.term.now)) w.in_default.ensures)
]

pub returns : goal.returns
returns t c =
    omega (arith, c.loop-i.invariant, first_weight-all c.loop-i.i (parts_of (term_of c.args.term.now)) (omega (arith, c.loop-i-test.false, c.parts-i-end.ensures)), weight-parts (term_of c.args.term.now))
