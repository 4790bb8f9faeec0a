use Rattle.nrca_term.specs.View.{term_of}
use Rattle.nrca_checks.proofs.Checks.{c1-fits}
use Rattle.nrca_checks.proofs.tests.fits_c1.Goals as goal

pub returns-clause-fits : goal.returns-clause-fits
returns-clause-fits c = c1-fits c.compares.result (term_of c.args.term.now) c.compares.ensures
