use Rattle.std.proofs.Common.{◌-◌}
use Rattle.aql_desugar.proofs.arrays.+loops.Given as goal

abbrev pub decreases-loops : goal.decreases-loops
decreases-loops l = l.rank - l.j
