use Rattle.std.proofs.Common.{length}
use Rattle.aql_desugar.proofs.arrays.+wrap_axes.Given as goal

abbrev pub decreases-wrap_axes : goal.decreases-wrap_axes
decreases-wrap_axes l = length l.ps.now
