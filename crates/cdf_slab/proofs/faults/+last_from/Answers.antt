use Rattle.std.proofs.Common.{rules}
use Rattle.cdf_slab.proofs.Lasts.{last_first}
use Rattle.cdf_slab.proofs.faults.+last_from.Goals as goal

pub returns-in-len1-up : goal.returns-in-len1-up
returns-in-len1-up t c =
    last_first c.args.axes.now (record { start = 0; count = 0; stride = 0; pitch = 0 }) c.args.base c.saturating_add-index.result c.saturating_add-here.result c.last_from.result
    c.in-len1-up.len_at_least (search rules) (search rules) c.last_from.ensures
