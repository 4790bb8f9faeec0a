use Rattle.std.proofs.Common.{◌+◌, arith, sym, subst}
use Rattle.nrca_term.specs.Laws.Entering.{child-there}
use Rattle.nrca_term.specs.Laws.Measure.{weight_of-child}
use Rattle.nrca_term.specs.Term.{parts_of}
use Rattle.nrca_term.specs.View.{term_of}
use Rattle.nrca_encoded.proofs.Kept.{FirstKept, one-more, all-kept}
use Rattle.nrca_encoded.proofs.positions.+encode_positions.Goals as goal
use Rattle.nrca_encoded.proofs.positions.+encode_positions.Goals.{encode_in_parts-in-Some+in_ok-encode_positions, encode_in_parts-in_default}

pub encode_in_parts-encode_positions-requires : goal.encode_in_parts-encode_positions-requires
encode_in_parts-encode_positions-requires t c =
    (omega (arith, c.decreases, weight_of-child (term_of c.args.term.now) c.loop-i.i (term_of c.in-Some.part.now) (sym c.in-Some.ensures)), c.loop-i.invariant.kept)

pub encode_in_parts-loop-i-preserved : goal.encode_in_parts-loop-i-preserved
encode_in_parts-loop-i-preserved t c =
    let V = c.args.globals.now in
    let ps = parts_of (term_of c.args.term.now) in
    elim c.match-part.branch [
      | encode_in_parts-in-Some+in_ok-encode_positions w ↦
          subst (λ E. FirstKept V c.args.encodings.now E (c.loop-i.i + 1) ps) (sym w.encodings-is)
          (one-more V c.args.encodings.now c.loop-i.encodings w.encode_positions.new.encodings c.loop-i.i ps (term_of w.in-Some.part.now) c.loop-i.invariant (sym w.in-Some.ensures)
          w.in_ok-encode_positions.ensures.kept w.in_ok-encode_positions.ensures.still w.in_ok-encode_positions.ensures.used)
      | encode_in_parts-in_default w ↦ absurd (child-there ps c.loop-i.i (omega (arith, c.parts-i-end.ensures)) w.in_default.ensures)
    ]

pub encode_in_parts-returns-clause-used : goal.encode_in_parts-returns-clause-used
encode_in_parts-returns-clause-used t c =
    all-kept c.args.globals.now c.args.encodings.now c.loop-i.encodings c.loop-i.i (parts_of (term_of c.args.term.now)) (omega (arith, c.parts-i-end.ensures)) c.loop-i.invariant
