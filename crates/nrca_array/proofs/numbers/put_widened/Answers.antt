-- The width is the greater of that so far and the least for the run.
use Rattle.std.proofs.Common.{◌≡◌, max, ap, ◌∙◌, arith}
use Rattle.nrca_array.specs.Packing.{bytes_for, width_for}
use Rattle.nrca_array.specs.Kept.{width_bytes}
use Rattle.nrca_array.specs.Runs.{run_numbers}
use Rattle.nrca_array.proofs.RunsWritten.{bits_width}
use Rattle.nrca_array.proofs.numbers.put_widened.Goals as goal

pub returns-then-bytes-clause-width : goal.returns-then-bytes-clause-width
returns-then-bytes-clause-width c =
    let least : width_bytes c.least-least.result ≡ width_for (run_numbers c.args.run) = c.least-least.ensures ∙ ap bytes_for c.from.ensures ∙ bits_width (run_numbers c.args.run) c.in_ok-bits.bits c.in_ok-bits.ensures.bits in
    omega (arith, least, c.bytes.ensures, c.bytes-2.ensures, c.if-bytes.true)

pub returns-clause-width : goal.returns-clause-width
returns-clause-width c =
    c.in_ok-width.ensures.width
    ∙ ap (max (width_bytes c.args.width)) (c.least-least.ensures ∙ ap bytes_for c.from.ensures ∙ bits_width (run_numbers c.args.run) c.in_ok-bits.bits c.in_ok-bits.ensures.bits)
