use Rattle.std.proofs.Common.{arith}
use Rattle.nrca_term.specs.Laws.Shift.{top_var-shift_le}
use Rattle.nrca_term.specs.View.{term_of}
use Rattle.nrca_graph.proofs.literals.pair_of.Goals as goal

pub shift-requires : goal.shift-requires
shift-requires c = omega (arith, c.requires, top_var-shift_le 0 c.args.rank (term_of c.args.cell))
