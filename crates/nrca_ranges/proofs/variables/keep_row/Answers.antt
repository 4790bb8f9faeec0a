use Rattle.std.proofs.Common.{ap, sym, ◌∙◌}
use Rattle.nrca_ranges.specs.Bounds.{row, row_of}
use Rattle.nrca_ranges.specs.Shapes.{shapes_of}
use Rattle.nrca_ranges.proofs.Entries.{flat-row}
use Rattle.nrca_ranges.proofs.variables.keep_row.Goals as goal

pub returns : goal.returns
returns c = c.row_shape.ensures ∙ ap (λ l. row (row_of l)) c.in_ok-numbers.ensures ∙ ap row (sym (flat-row (shapes_of c.args.parts.now)))
