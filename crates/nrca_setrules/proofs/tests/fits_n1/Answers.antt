use Rattle.std.proofs.Common.{rules}
use Rattle.nrca_term.specs.View.{term_of}
use Rattle.nrca_term.specs.Laws.AsVariant.{as-Bottom, as-Default}
use Rattle.nrca_setrules.proofs.TestSides.{n1_fits}
use Rattle.nrca_setrules.proofs.tests.fits_n1.Goals as goal

pub returns-in-Bottom : goal.returns-in-Bottom
returns-in-Bottom c = n1_fits (term_of c.args.term.now) (term_of c.in-Default.first.value) (term_of c.in-Default.field-1.value) (as-Default c.args.term.now c.in-Default.first c.in-Default.field-1 c.in-Default.is) (as-Bottom c.in-Default.first.value (search rules))
