use Rattle.std.proofs.Common.{ap, sym, ◌∙◌, arith}
use Rattle.nrca_ranges.specs.Transfer.{count_of}
use Rattle.nrca_ranges.proofs.Lists.{entry-there, entry-past}
use Rattle.nrca_ranges.proofs.transfer.count_at.Goals as goal

pub returns-then-i-shapes : goal.returns-then-i-shapes
returns-then-i-shapes c = c.count_interval.ensures ∙ ap count_of (entry-there c.args.shapes.now c.args.i c.index-shapes-i.result (omega arith) c.index-shapes-i.is)

pub returns-else-i-shapes : goal.returns-else-i-shapes
returns-else-i-shapes c = c.everything.ensures ∙ ap count_of (sym (entry-past c.args.shapes.now c.args.i (omega arith)))
