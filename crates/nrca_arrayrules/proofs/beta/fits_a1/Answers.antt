use Rattle.std.proofs.Common.{rules, sym, ◌∙◌}
use Rattle.nrca_term.specs.View.{term_of, terms_of}
use Rattle.nrca_term.specs.Laws.Equations.{length-terms_of}
use Rattle.nrca_term.specs.Laws.AsVariant.{as-Sub, as-Tab}
use Rattle.nrca_arrayrules.proofs.BetaSides.{a1_tells}
use Rattle.nrca_arrayrules.proofs.beta.fits_a1.Goals as goal

pub returns-in-Tab : goal.returns-in-Tab
returns-in-Tab c = a1_tells c.len.result c.len-in-Tab.result (term_of c.args.term.now) (term_of c.in-Sub.array.value) (term_of c.in-Tab.body.value) (terms_of c.in-Tab.bounds) (terms_of c.in-Sub.at) (as-Sub c.args.term.now c.in-Sub.array c.in-Sub.at c.in-Sub.is) (as-Tab c.in-Sub.array.value c.in-Tab.bounds c.in-Tab.body (search rules)) (length-terms_of c.in-Tab.bounds ∙ sym c.len.ensures) (length-terms_of c.in-Sub.at ∙ sym c.len-in-Tab.ensures)
