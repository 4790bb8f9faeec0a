use Rattle.nrca_term.specs.Laws.AsVariant.{as-Tuple}
use Rattle.nrca_arrayrules.proofs.sizes.items.Goals as goal

pub returns : goal.returns
returns c = as-Tuple c.args.tuple c.in-Tuple.items c.in-Tuple.is
