use Rattle.nrca_term.specs.Typing.{instances}
use Rattle.nrca_graph.specs.Laws.LoopCounts.{array_free-sums, array_free-big_unions}
use Rattle.nrca_graph.proofs.laws.counts.Goals as goal

pub returns-clause-sums : goal.returns-clause-sums
returns-clause-sums c t given env T h = array_free-sums (instances given) env t T h

pub returns-clause-loops : goal.returns-clause-loops
returns-clause-loops c t given env T h = array_free-big_unions (instances given) env t T h
