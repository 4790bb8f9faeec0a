use Rattle.std.proofs.Common.{rules, refl}
use Rattle.nrca_term.specs.View.{term_of}
use Rattle.nrca_term.specs.Term.{Form}
use Rattle.nrca_term.specs.Nodes.{number, empty_term}
use Rattle.nrca_term.specs.Laws.Equations.{term_of-If}
use Rattle.nrca_term.specs.Laws.AsVariant.{as-BigUnion, as-Empty, as-If, as-Nat, as-Sum}
use Rattle.nrca_setrules.proofs.TestSides.{i2_right}
use Rattle.nrca_setrules.proofs.tests.i2.Goals as goal

pub returns-in-If : goal.returns-in-If
returns-in-If c = i2_right Form.big_union empty_term (term_of c.args.term) (term_of c.in-BigUnion.over.value) (term_of c.in-If.test.value) (term_of c.in-If.members.value) (term_of c.in-If.other.value) (term_of c.in-BigUnion.body.value) _ (term_of c.put-inner.result.value) (term_of c.put-none.result.value) refl c.requires (as-BigUnion c.args.term c.in-BigUnion.over c.in-BigUnion.body c.in-BigUnion.is) (as-If c.in-BigUnion.over.value c.in-If.test c.in-If.members c.in-If.other (search rules)) (term_of-If c.in-If.test c.put-inner.result c.put-none.result) (as-BigUnion c.put-inner.result.value c.in-If.members c.in-BigUnion.body c.put-inner.ensures) (as-Empty c.put-none.result.value c.put-none.ensures)

pub returns-in-If-chosen : goal.returns-in-If-chosen
returns-in-If-chosen c = i2_right Form.sum (number 0) (term_of c.args.term) (term_of c.in-Sum.over.value) (term_of c.in-If-chosen.test.value) (term_of c.in-If-chosen.members.value) (term_of c.in-If-chosen.other.value) (term_of c.in-Sum.body.value) _ (term_of c.put-inner-in-If-chosen.result.value) (term_of c.put-none-in-If-chosen.result.value) refl c.requires (as-Sum c.args.term c.in-Sum.over c.in-Sum.body c.in-Sum.is) (as-If c.in-Sum.over.value c.in-If-chosen.test c.in-If-chosen.members c.in-If-chosen.other (search rules)) (term_of-If c.in-If-chosen.test c.put-inner-in-If-chosen.result c.put-none-in-If-chosen.result) (as-Sum c.put-inner-in-If-chosen.result.value c.in-If-chosen.members c.in-Sum.body c.put-inner-in-If-chosen.ensures) (as-Nat c.put-none-in-If-chosen.result.value 0 c.put-none-in-If-chosen.ensures)
