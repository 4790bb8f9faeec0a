use Rattle.std.proofs.Common.{◌∙◌}
use Rattle.nrca_ranges.specs.Shapes.{shapes_of}
use Rattle.nrca_ranges.proofs.Lists.{part-number}
use Rattle.nrca_ranges.proofs.transfer.entry_shape.Goals as goal

pub returns-then-at-gt0 : goal.returns-then-at-gt0
returns-then-at-gt0 c = c.take_entry.ensures.value ∙ part-number (shapes_of c.args.parts) c.args.at c.if-at-gt0.true
