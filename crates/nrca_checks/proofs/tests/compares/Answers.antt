use Rattle.std.proofs.Common.{ap, ◌∙◌}
use Rattle.nrca_term.specs.View.{term_of}
use Rattle.nrca_term.specs.Laws.Equations.{term_of-Compare}
use Rattle.nrca_checks.proofs.tests.compares.Goals as goal

pub returns-in-Compare : goal.returns-in-Compare
returns-in-Compare c = (c.in-Compare.field-0, term_of c.in-Compare.field-1.value, term_of c.in-Compare.field-2.value, ap term_of c.in-Compare.is ∙ term_of-Compare c.in-Compare.field-0 c.in-Compare.field-1 c.in-Compare.field-2)
