use Rattle.std.proofs.Common.{◌*◌, ap, ◌∙◌}
use Rattle.nrca_array.specs.Packing.{pairs_packing}
use Rattle.nrca_array.specs.Kept.{width_bytes}
use Rattle.nrca_array.proofs.PairsKept.{pairs-width, pairs-bytes}
use Rattle.nrca_array.proofs.pairs.Pairs.lend.Goals as goal

pub returns-clause-width : goal.returns-clause-width
returns-clause-width c =
    ap (λ w. 8 * w) (c.bytes.ensures ∙ pairs-width (width_bytes c.self.inside.width) c.self.inside.count c.self.inside.bytes.items c.self.invariant)
    ∙ ap (λ ps. (pairs_packing ps).0) c.self.view_is

pub returns-clause-bytes : goal.returns-clause-bytes
returns-clause-bytes c =
    c.deref.ensures.value
    ∙ pairs-bytes (width_bytes c.self.inside.width) c.self.inside.count c.self.inside.bytes.items c.self.invariant
    ∙ ap (λ ps. (pairs_packing ps).1) c.self.view_is
