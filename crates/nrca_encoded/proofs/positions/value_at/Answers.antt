use Rattle.std.proofs.Common.{◌∙◌, ap}
use Rattle.nrca_loops.specs.Values.{held_value}
use Rattle.nrca_encoded.proofs.Placing.{held-copied, value-there, value-past}
use Rattle.nrca_encoded.proofs.positions.value_at.Goals as goal

pub returns-then-i-list : goal.returns-then-i-list
returns-then-i-list c =
    held-copied (λ h. h.now) c.as_ref.result ∙ ap held_value c.as_ref.ensures.value
    ∙ value-there c.args.list.now c.args.n c.index-list-i.result c.if-n-eq0.false c.if-i-list.true c.index-list-i.is

pub returns-else-i-list : goal.returns-else-i-list
returns-else-i-list c = value-past c.args.list.now c.args.n c.if-n-eq0.false c.if-i-list.false
