use Rattle.std.proofs.Common.{rules}
use Rattle.nrca_term.specs.View.{term_of}
use Rattle.nrca_term.specs.Laws.AsVariant.{as-Let, as-Proj}
use Rattle.nrca_setrules.proofs.TupleSides.{p2_fits}
use Rattle.nrca_setrules.proofs.tuples.fits_p2.Goals as goal

pub returns-in-Let : goal.returns-in-Let
returns-in-Let c = p2_fits c.in-Proj.at c.in-Proj.of (term_of c.args.term.now) (term_of c.in-Proj.part.value) (term_of c.in-Let.field-0.value) (term_of c.in-Let.field-1.value) (as-Proj c.args.term.now c.in-Proj.at c.in-Proj.of c.in-Proj.part c.in-Proj.is) (as-Let c.in-Proj.part.value c.in-Let.field-0 c.in-Let.field-1 (search rules))
