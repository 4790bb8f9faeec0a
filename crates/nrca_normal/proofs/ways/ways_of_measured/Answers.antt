use Rattle.nrca_term.specs.View.{term_of}
use Rattle.nrca_term.specs.Laws.AsVariant.{as-Dim}
use Rattle.nrca_normal.specs.Laws.Ways.{a3-ways}
use Rattle.nrca_normal.proofs.ways.ways_of_measured.Goals as goal

pub returns-clause-ways : goal.returns-clause-ways
returns-clause-ways c = a3-ways (term_of c.args.term.now) (term_of c.in-Dim.array.value) c.in-Dim.rank (as-Dim c.args.term.now c.in-Dim.rank c.in-Dim.array c.in-Dim.is)
