use Rattle.std.proofs.Common.{ap, sym, ◌∙◌, arith}
use Rattle.nrca_ranges.specs.Shapes.{bounds_of}
use Rattle.nrca_ranges.specs.Laws.Views.{bounds_of-Unknown}
use Rattle.nrca_ranges.proofs.Lists.{entry-there, entry-past, kept-others}
use Rattle.nrca_ranges.proofs.transfer.take_entry.Goals as goal

pub returns-then-i-len-clause-value : goal.returns-then-i-len-clause-value
returns-then-i-len-clause-value c = ap bounds_of c.replace.ensures.value ∙ entry-there c.args.shapes.now.items c.args.i c.index_mut.result.now (omega arith) c.index_mut.ensures.value

pub returns-then-i-len-clause-others : goal.returns-then-i-len-clause-others
returns-then-i-len-clause-others c j n = kept-others c.args.shapes.now.items c.args.i c.replace.new.dest j n

pub returns-else-i-len-clause-value : goal.returns-else-i-len-clause-value
returns-else-i-len-clause-value c = bounds_of-Unknown ∙ sym (entry-past c.args.shapes.now.items c.args.i (omega arith))
