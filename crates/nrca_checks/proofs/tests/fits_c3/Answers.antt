use Rattle.nrca_term.specs.View.{term_of}
use Rattle.nrca_checks.proofs.Checks.{c3-fits}
use Rattle.nrca_checks.proofs.tests.fits_c3.Goals as goal

pub returns-clause-fits : goal.returns-clause-fits
returns-clause-fits c = c3-fits c.compares.result (term_of c.args.term.now) c.compares.ensures
