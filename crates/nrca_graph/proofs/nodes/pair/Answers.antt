use Rattle.std.proofs.Common.{◌∙◌, ap}
use Rattle.nrca_term.specs.Nodes.{tuple_term}
use Rattle.nrca_term.specs.Laws.Equations.{term_of-Tuple}
use Rattle.nrca_graph.proofs.Parts.{pair_made}
use Rattle.nrca_graph.proofs.nodes.pair.Goals as goal

pub returns : goal.returns
returns c x y h k = term_of-Tuple _ ∙ ap tuple_term (pair_made c.args.a c.args.b c.in_ok-items.items.items x y c.in_ok-items.ensures h k)
