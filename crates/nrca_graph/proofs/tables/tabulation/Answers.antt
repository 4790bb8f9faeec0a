use Rattle.std.proofs.Common.{arith}
use Rattle.nrca_term.specs.Laws.Equations.{length-terms_of}
use Rattle.nrca_term.specs.Laws.Shift.{top_var-shift_le}
use Rattle.nrca_term.specs.View.{term_of}
use Rattle.nrca_graph.proofs.tables.tabulation.Goals as goal

pub shift-requires : goal.shift-requires
shift-requires c =
    omega (arith, c.requires.body, c.len-rank.ensures, length-terms_of c.args.bounds, top_var-shift_le c.len-rank.result c.len-rank.result (term_of c.args.body))
