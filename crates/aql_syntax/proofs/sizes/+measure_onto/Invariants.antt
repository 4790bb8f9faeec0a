use Rattle.std.proofs.Common.{length}
use Rattle.aql_syntax.proofs.sizes.+measure_onto.Given as goal

abbrev pub decreases-measure_onto : goal.decreases-measure_onto
decreases-measure_onto l = length l.later.now
