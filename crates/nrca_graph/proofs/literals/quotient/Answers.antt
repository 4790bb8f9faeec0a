use Rattle.std.proofs.Common.{sym, subst}
use Rattle.nrca_term.specs.Laws.Equations.{term_of-Nat}
use Rattle.nrca_graph.specs.Made.{Makes}
use Rattle.nrca_graph.proofs.Cells.{over_some}
use Rattle.nrca_graph.proofs.literals.quotient.Goals as goal

pub returns : goal.returns
returns c = subst (Makes c.arith.result) (sym (over_some c.args.number c.args.last c.if-last-eq0.false)) (c.arith.ensures _ _ (term_of-Nat c.args.number) c.product-below.ensures)
