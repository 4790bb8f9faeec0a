use Rattle.std.proofs.Common.{rules, ap, ◌∙◌}
use Rattle.nrca_term.specs.View.{term_of}
use Rattle.nrca_term.specs.Laws.Equations.{term_of-If, term_of-Bool}
use Rattle.nrca_setrules.proofs.TestSides.{fits_if}
use Rattle.nrca_setrules.proofs.tests.fits_i1.Goals as goal

pub returns-in-Bool : goal.returns-in-Bool
returns-in-Bool c =
    fits_if (term_of c.args.term.now) (term_of c.in-If.test.value) (term_of c.in-If.field-1.value) (term_of c.in-If.field-2.value) c.in-Bool.field-0
    (ap term_of c.in-If.is ∙ term_of-If c.in-If.test c.in-If.field-1 c.in-If.field-2) (ap term_of (search rules) ∙ term_of-Bool c.in-Bool.field-0)
