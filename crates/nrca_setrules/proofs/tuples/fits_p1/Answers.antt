use Rattle.std.proofs.Common.{rules, arith}
use Rattle.nrca_term.specs.View.{term_of, terms_of}
use Rattle.nrca_term.specs.Laws.Equations.{length-terms_of}
use Rattle.nrca_term.specs.Laws.AsVariant.{as-Proj, as-Tuple}
use Rattle.nrca_setrules.proofs.TupleSides.{p1_tells}
use Rattle.nrca_setrules.proofs.tuples.fits_p1.Goals as goal

pub returns-in-Tuple : goal.returns-in-Tuple
returns-in-Tuple c = p1_tells c.is_component-inside.result c.in-Proj.at c.in-Proj.of _ (term_of c.args.term.now) (term_of c.in-Proj.part.value) (terms_of c.in-Tuple.parts) (as-Proj c.args.term.now c.in-Proj.at c.in-Proj.of c.in-Proj.part c.in-Proj.is) (as-Tuple c.in-Proj.part.value c.in-Tuple.parts (search rules)) (length-terms_of c.in-Tuple.parts) (λ e. let h = c.is_component-inside.ensures.0 e in (h.0, h.1, omega (arith, h.2))) (λ h. c.is_component-inside.ensures.1 (h.0, h.1, omega (arith, h.2)))
