use Rattle.std.proofs.Common.{arith}
use Rattle.nrca_term.specs.Laws.Shift.{top_var-shift_le}
use Rattle.nrca_term.specs.View.{term_of}
use Rattle.nrca_arrayrules.proofs.beta.name.Goals as goal

pub shift-requires : goal.shift-requires
shift-requires c = omega (arith, c.requires, top_var-shift_le 0 c.args.names (term_of c.args.index))
