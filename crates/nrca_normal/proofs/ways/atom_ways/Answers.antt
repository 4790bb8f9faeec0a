use Rattle.std.proofs.Common.{subst}
use Rattle.nrca_term.specs.View.{term_of}
use Rattle.nrca_normal.specs.Ways.{IsPosition}
use Rattle.nrca_normal.specs.Laws.Ways.{atom-first, atom-none}
use Rattle.nrca_normal.proofs.ways.atom_ways.Goals as goal

pub returns-then-is_position-clause-ways : goal.returns-then-is_position-clause-ways
returns-then-is_position-clause-ways c = atom-first (term_of c.args.atom.now) (subst (λ b. IsPosition b (term_of c.args.atom.now)) c.if-is_position.true c.is_position.ensures)

pub returns-else-is_position-clause-ways : goal.returns-else-is_position-clause-ways
returns-else-is_position-clause-ways c = atom-none (term_of c.args.atom.now) (subst (λ b. IsPosition b (term_of c.args.atom.now)) c.if-is_position.false c.is_position.ensures)
