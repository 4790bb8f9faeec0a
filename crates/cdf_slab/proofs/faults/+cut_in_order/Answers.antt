use Rattle.std.proofs.Common.{rules}
use Rattle.cdf_slab.proofs.Cuts.{cut_next}
use Rattle.cdf_slab.proofs.faults.+cut_in_order.Goals as goal

pub returns-in-Some : goal.returns-in-Some
returns-in-Some t c = cut_next _ _ _ _ _ _ c.saturating_add-here.result c.saturating_add-index.result _ _ c.cells.invariant c.cells-test.true (search rules) (search rules) c.in-Some.ensures

pub cells-preserved : goal.cells-preserved
cells-preserved t c = record { same = cut_next _ _ _ _ _ _ c.saturating_add-here.result c.saturating_add-index.result _ _ c.cells.invariant c.cells-test.true (search rules) (search rules) c.in-None.ensures }
