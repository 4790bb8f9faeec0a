use Rattle.std.proofs.Common.{length, ap, sym, ◌∙◌}
use Rattle.nrca_array.specs.Kept.{width_bytes}
use Rattle.nrca_array.proofs.Spelling.{length-numbers_at}
use Rattle.nrca_array.proofs.numbers.Numbers.into_parts.Goals as goal

pub returns-clause-count : goal.returns-clause-count
returns-clause-count c = sym (length-numbers_at (width_bytes c.self.inside.width) c.self.inside.count c.self.inside.bytes.items) ∙ ap length c.self.view_is
