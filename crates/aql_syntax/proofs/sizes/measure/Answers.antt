use Rattle.std.proofs.Common.{◌∙◌}
use Rattle.aql_syntax.specs.View.{tree_of}
use Rattle.aql_syntax.specs.Laws.Kept.{size-onto, levels-onto}
use Rattle.aql_syntax.proofs.sizes.measure.Goals as goal

pub returns-clause-size : goal.returns-clause-size
returns-clause-size c = c.measure_onto.ensures.size ∙ size-onto (tree_of c.args.e.now) c.args.earlier.now

pub returns-clause-levels : goal.returns-clause-levels
returns-clause-levels c = c.measure_onto.ensures.levels ∙ levels-onto (tree_of c.args.e.now) c.args.earlier.now
