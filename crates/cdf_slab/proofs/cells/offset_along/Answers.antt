use Rattle.std.proofs.Common.{rules}
use Rattle.cdf_slab.proofs.Blocks.{turn, turn_room}
use Rattle.cdf_slab.proofs.cells.offset_along.Goals as goal

pub returns : goal.returns
returns c = record {
  turn = turn _ _ _ _ _ _ c.saturating_add-index.result _ c.requires.room c.requires.below c.args.format.small (search rules) (search rules);
  within = turn_room _ _ _ _ _ _ c.saturating_add-index.result _ c.requires.room c.requires.below c.args.format.small (search rules) (search rules);
}
