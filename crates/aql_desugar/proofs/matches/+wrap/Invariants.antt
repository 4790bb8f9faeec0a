use Rattle.std.proofs.Common.{◌+◌, ◌*◌}
use Rattle.aql_syntax.specs.Size.{pat_nodes, pats_nodes}
use Rattle.aql_syntax.specs.View.{pat_of, pats_of}
use Rattle.aql_desugar.proofs.matches.+wrap.Given as goal

abbrev pub decreases-wrap : goal.decreases-wrap
decreases-wrap l = 3 * pat_nodes (pat_of l.p.now)

abbrev pub decreases-wrap_parts : goal.decreases-wrap_parts
decreases-wrap_parts l = 3 * pats_nodes (pats_of l.ps.now) + 2

abbrev pub decreases-close : goal.decreases-close
decreases-close l = 3 * pat_nodes (pat_of l.p.now) + 1
