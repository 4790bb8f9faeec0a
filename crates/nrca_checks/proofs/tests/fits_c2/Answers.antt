use Rattle.nrca_term.specs.View.{term_of}
use Rattle.nrca_checks.proofs.Checks.{c2-fits}
use Rattle.nrca_checks.proofs.tests.fits_c2.Goals as goal

pub returns-clause-fits : goal.returns-clause-fits
returns-clause-fits c = c2-fits c.compares.result (term_of c.args.term.now) c.compares.ensures
