use Rattle.nrca_term.specs.View.{term_of}
use Rattle.nrca_term.specs.Laws.AsVariant.{as-Default}
use Rattle.nrca_setrules.proofs.TestSides.{n2_fits}
use Rattle.nrca_setrules.proofs.tests.fits_n2.Goals as goal

pub returns-in-Default : goal.returns-in-Default
returns-in-Default c = n2_fits (term_of c.args.term.now) (term_of c.in-Default.field-0.value) (term_of c.in-Default.field-1.value) (as-Default c.args.term.now c.in-Default.field-0 c.in-Default.field-1 c.in-Default.is)
