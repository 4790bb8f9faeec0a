use Rattle.std.proofs.Common.{◌≡◌, ap, min, take, map, length, ◌∙◌, arith}
use Rattle.nrca_ranges.specs.Shapes.{bounds_each}
use Rattle.nrca_ranges.specs.Transfer.{interval_of}
use Rattle.nrca_ranges.proofs.Lists.{first-min}
use Rattle.nrca_ranges.proofs.transfer.first_numbers.Goals as goal

pub returns : goal.returns
returns c =
    let e : c.min-end.result ≡ min c.args.n (length c.args.shapes.now) = omega arith in
    c.in_ok-found.ensures ∙ ap (λ k. map interval_of (bounds_each (take k c.args.shapes.now))) e ∙ first-min c.args.shapes.now c.args.n
