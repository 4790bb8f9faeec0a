use Rattle.std.proofs.Common.{length, ap, sym, ◌∙◌}
use Rattle.nrca_array.specs.Kept.{width_bytes}
use Rattle.nrca_array.proofs.PairsKept.{length-pairs}
use Rattle.nrca_array.proofs.pairs.Pairs.len.Goals as goal

pub returns : goal.returns
returns c = sym (length-pairs (width_bytes c.self.inside.width) c.self.inside.count c.self.inside.bytes.items c.self.invariant) ∙ ap length c.self.view_is
