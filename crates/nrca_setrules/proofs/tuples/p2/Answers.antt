use Rattle.std.proofs.Common.{rules}
use Rattle.nrca_term.specs.View.{term_of}
use Rattle.nrca_term.specs.Laws.Equations.{term_of-Let}
use Rattle.nrca_term.specs.Laws.AsVariant.{as-Let, as-Proj}
use Rattle.nrca_setrules.proofs.TupleSides.{p2_right}
use Rattle.nrca_setrules.proofs.tuples.p2.Goals as goal

pub returns : goal.returns
returns c = p2_right c.in-Proj.at c.in-Proj.of (term_of c.args.term) (term_of c.in-Proj.part.value) (term_of c.in-Let.bound.value) (term_of c.in-Let.body.value) _ (term_of c.put-component.result.value) (as-Proj c.args.term c.in-Proj.at c.in-Proj.of c.in-Proj.part c.in-Proj.is) (as-Let c.in-Proj.part.value c.in-Let.bound c.in-Let.body (search rules)) (term_of-Let c.in-Let.bound c.put-component.result) (as-Proj c.put-component.result.value c.in-Proj.at c.in-Proj.of c.in-Let.body c.put-component.ensures)
