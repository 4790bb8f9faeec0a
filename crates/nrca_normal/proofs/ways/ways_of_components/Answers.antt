use Rattle.nrca_term.specs.View.{term_of}
use Rattle.nrca_term.specs.Laws.AsVariant.{as-Proj}
use Rattle.nrca_normal.specs.Laws.Ways.{p1-ways}
use Rattle.nrca_normal.proofs.ways.ways_of_components.Goals as goal

pub returns-clause-ways : goal.returns-clause-ways
returns-clause-ways c = p1-ways (term_of c.args.term.now) (term_of c.in-Proj.part.value) c.in-Proj.at c.in-Proj.of (as-Proj c.args.term.now c.in-Proj.at c.in-Proj.of c.in-Proj.part c.in-Proj.is)
