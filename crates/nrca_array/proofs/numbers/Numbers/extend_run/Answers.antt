-- The bytes are those of the numbers in the wider of the two widths, and then the run's.
use Rattle.std.proofs.Common.{◌<◌, ◌^◌, ◌+◌, ◌++◌, length, arith, ap, sym, ◌∙◌, subst}
use Rattle.nrca_array.specs.Packing.{greatest}
use Rattle.nrca_array.specs.Kept.{width_bytes, numbers_at}
use Rattle.nrca_array.specs.Runs.{run_numbers}
use Rattle.nrca_array.specs.Laws.Runs.{length-run}
use Rattle.nrca_array.proofs.Spelling.{length-numbers_at, count_within, width_fits}
use Rattle.nrca_array.proofs.Writing.{extended-reads, extended-is, extended-fills}
use Rattle.nrca_array.proofs.numbers.Numbers.extend_run.Goals as goal

pub put_widened-requires-clause-fits : goal.put_widened-requires-clause-fits
put_widened-requires-clause-fits c =
    let ns = numbers_at (width_bytes c.self.inside.width) c.self.inside.count c.self.inside.bytes.items in
    subst (λ w. greatest ns < 256 ^ w) (sym c.self.invariant.least) (width_fits ns c.self.invariant.small)

pub overflow_add-numbers : goal.overflow_add-numbers
overflow_add-numbers c =
    let w = width_bytes c.self.inside.width in
    let run = c.args.run in
    let all = extended-fills w (width_bytes c.in_ok-width.width) c.self.inside.count run.count c.self.inside.bytes.items c.in_ok-width.bytes.items _ (run_numbers run) c.self.invariant c.in_ok-width.ensures.small c.in_ok-width.ensures.width c.in_ok-width.ensures.bytes (length-numbers_at w c.self.inside.count c.self.inside.bytes.items) (length-run run.size run.step run.count run.bytes.now) in
    omega (arith, count_within c.in_ok-width.width (c.self.inside.count + run.count) (length c.in_ok-width.bytes.items) (omega (arith, all)))

pub invariant_of-numbers : goal.invariant_of-numbers
invariant_of-numbers c =
    let w = width_bytes c.self.inside.width in
    let run = c.args.run in
    extended-is w (width_bytes c.in_ok-width.width) c.self.inside.count run.count c.self.inside.bytes.items c.in_ok-width.bytes.items _ (run_numbers run) c.self.invariant c.in_ok-width.ensures.small c.in_ok-width.ensures.width c.in_ok-width.ensures.bytes (length-numbers_at w c.self.inside.count c.self.inside.bytes.items) (length-run run.size run.step run.count run.bytes.now)

pub returns-clause-numbers : goal.returns-clause-numbers
returns-clause-numbers c =
    let w = width_bytes c.self.inside.width in
    let run = c.args.run in
    extended-reads w (width_bytes c.in_ok-width.width) c.self.inside.count run.count c.self.inside.bytes.items c.in_ok-width.bytes.items _ (run_numbers run) c.self.invariant c.in_ok-width.ensures.small c.in_ok-width.ensures.width c.in_ok-width.ensures.bytes (length-numbers_at w c.self.inside.count c.self.inside.bytes.items) (length-run run.size run.step run.count run.bytes.now)
    ∙ ap (λ l. l ++ run_numbers run) c.self.view_is
