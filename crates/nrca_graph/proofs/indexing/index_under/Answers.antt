use Rattle.std.proofs.Common.{arith, ap}
use Rattle.nrca_term.specs.Rules.{index_variables}
use Rattle.nrca_term.specs.Subst.{top_var}
use Rattle.nrca_term.specs.Laws.Shift.{top_var-shift_le}
use Rattle.nrca_term.specs.View.{term_of}
use Rattle.nrca_graph.specs.Laws.Tops.{rank-few, tops-sizes, tops-variables}
use Rattle.nrca_graph.proofs.indexing.index_under.Goals as goal

pub shift-requires : goal.shift-requires
shift-requires c =
    omega (
      arith,
      top_var-shift_le 0 1 (term_of c.in_ok-index.index),
      ap top_var c.in_ok-index.ensures,
      tops-sizes 8 (index_variables c.args.rank) (tops-variables 8 c.args.rank (rank-few c.args.rank c.requires)),
    )
