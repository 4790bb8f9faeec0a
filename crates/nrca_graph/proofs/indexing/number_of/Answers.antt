use Rattle.std.proofs.Common.{sym, subst}
use Rattle.nrca_term.specs.Nodes.{variable}
use Rattle.nrca_term.specs.Laws.Equations.{term_of-Var}
use Rattle.nrca_graph.specs.Made.{Makes}
use Rattle.nrca_graph.proofs.Trees.{number_many}
use Rattle.nrca_graph.proofs.indexing.number_of.Goals as goal

pub returns-else-rank-eq1 : goal.returns-else-rank-eq1
returns-else-rank-eq1 c =
    subst (Makes c.project.result) (sym (number_many c.args.rank c.args.j (variable c.args.pair) c.if-rank-eq1.false)) (c.project.ensures _ (c.project-index.ensures _ (term_of-Var c.args.pair)))
