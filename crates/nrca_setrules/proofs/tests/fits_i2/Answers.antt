use Rattle.std.proofs.Common.{rules, refl}
use Rattle.nrca_term.specs.View.{term_of}
use Rattle.nrca_term.specs.Term.{Form}
use Rattle.nrca_term.specs.Nodes.{number, empty_term}
use Rattle.nrca_term.specs.Laws.AsVariant.{as-BigUnion, as-Empty, as-If, as-Sum}
use Rattle.nrca_setrules.proofs.TestSides.{i2_fits}
use Rattle.nrca_setrules.proofs.tests.fits_i2.Goals as goal

pub returns-in-Empty : goal.returns-in-Empty
returns-in-Empty c = i2_fits Form.big_union empty_term (term_of c.args.term.now) (term_of c.in-BigUnion.over.value) (term_of c.in-If.field-0.value) (term_of c.in-If.field-1.value) (term_of c.in-If.other.value) (term_of c.in-BigUnion.body.value) refl (as-BigUnion c.args.term.now c.in-BigUnion.over c.in-BigUnion.body c.in-BigUnion.is) (as-If c.in-BigUnion.over.value c.in-If.field-0 c.in-If.field-1 c.in-If.other (search rules)) (as-Empty c.in-If.other.value (search rules))

pub returns-in-Empty-deref : goal.returns-in-Empty-deref
returns-in-Empty-deref c = i2_fits Form.sum (number 0) (term_of c.args.term.now) (term_of c.in-Sum.over.value) (term_of c.in-If-deref.field-0.value) (term_of c.in-If-deref.field-1.value) (term_of c.in-If-deref.other.value) (term_of c.in-Sum.body.value) refl (as-Sum c.args.term.now c.in-Sum.over c.in-Sum.body c.in-Sum.is) (as-If c.in-Sum.over.value c.in-If-deref.field-0 c.in-If-deref.field-1 c.in-If-deref.other (search rules)) (as-Empty c.in-If-deref.other.value (search rules))
