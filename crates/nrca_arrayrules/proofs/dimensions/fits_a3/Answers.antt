use Rattle.std.proofs.Common.{rules, sym, ◌∙◌}
use Rattle.nrca_term.specs.View.{term_of, terms_of}
use Rattle.nrca_term.specs.Laws.Equations.{length-terms_of}
use Rattle.nrca_term.specs.Laws.AsVariant.{as-Dim, as-Tab}
use Rattle.nrca_arrayrules.proofs.Sides.{a3_tells}
use Rattle.nrca_arrayrules.proofs.dimensions.fits_a3.Goals as goal

pub returns-in-Tab : goal.returns-in-Tab
returns-in-Tab c = a3_tells c.in-Dim.rank c.len.result (term_of c.args.term.now) (term_of c.in-Dim.array.value) (term_of c.in-Tab.body.value) (terms_of c.in-Tab.bounds) (as-Dim c.args.term.now c.in-Dim.rank c.in-Dim.array c.in-Dim.is) (as-Tab c.in-Dim.array.value c.in-Tab.bounds c.in-Tab.body (search rules)) (length-terms_of c.in-Tab.bounds ∙ sym c.len.ensures)
