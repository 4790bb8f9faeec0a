use Rattle.std.proofs.Common.{arith}
use Rattle.nrca_ranges.proofs.Lists.{unequal-below}
use Rattle.nrca_ranges.proofs.certain.all_below.Goals as goal

pub returns-then-dims-at : goal.returns-then-dims-at
returns-then-dims-at c = unequal-below c.args.dims.now c.args.at.now (λ e. omega (arith, e))
