use Rattle.std.proofs.Common.{◌∙◌}
use Rattle.aql_value.specs.Laws.Sorted.{sorted_meaning, permutation_canon}
use Rattle.nrca_par.proofs.sets.canon_wide.Goals as goal

pub from_sorted-requires : goal.from_sorted-requires
from_sorted-requires g c = sorted_meaning c.sort_wide.new.list.items c.in_ok-sort_wide.ensures.sorted

pub returns : goal.returns
returns g c = c.from_sorted.ensures ∙ permutation_canon c.items.inside.items.items c.sort_wide.new.list.items c.args.items c.in_ok-sort_wide.ensures.permutation c.items.view_is
