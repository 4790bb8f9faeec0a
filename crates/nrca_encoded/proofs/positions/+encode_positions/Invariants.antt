use Rattle.std.proofs.Common.{◌≡◌, ◌*◌, ◌+◌}
use Rattle.nrca_term.specs.Term.{weight_of, parts_of}
use Rattle.nrca_term.specs.View.{term_of}
use Rattle.nrca_encoded.proofs.Kept.{FirstKept}
use Rattle.nrca_encoded.proofs.positions.+encode_positions.Given as goal

abbrev pub invariant-encode_in_parts-loop-i : goal.invariant-encode_in_parts-loop-i
invariant-encode_in_parts-loop-i l = FirstKept l.globals l.initial.encodings l.encodings l.i (parts_of (term_of l.term))

abbrev pub decreases-encode_positions : goal.decreases-encode_positions
decreases-encode_positions l = 2 * weight_of (term_of l.term.now) + 1

abbrev pub decreases-encode_in_parts : goal.decreases-encode_in_parts
decreases-encode_in_parts l = 2 * weight_of (term_of l.term.now)
