use Rattle.std.proofs.Common.{◌≡◌, ap, ◌∙◌, arith}
use Rattle.std.specs.Prelude.{replicate}
use Rattle.nrca_forms.proofs.Extents.{zeros_below}
use Rattle.nrca_forms.proofs.index.zero_extents.Goals as goal

pub returns : goal.returns
returns c = c.loop-i.invariant ∙ (let e : c.loop-i._i ≡ c.args.rank = omega arith in ap (λ n. replicate n 0) e) ∙ zeros_below c.args.rank
