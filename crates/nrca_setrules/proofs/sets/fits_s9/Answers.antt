use Rattle.std.proofs.Common.{rules, refl}
use Rattle.nrca_term.specs.View.{term_of}
use Rattle.nrca_term.specs.Term.{Form}
use Rattle.nrca_term.specs.Nodes.{number, empty_term}
use Rattle.nrca_term.specs.Laws.AsVariant.{as-BigUnion, as-Let, as-Sum}
use Rattle.nrca_setrules.proofs.SetSides.{s9_fits}
use Rattle.nrca_setrules.proofs.sets.fits_s9.Goals as goal

pub returns-in-Let : goal.returns-in-Let
returns-in-Let c = s9_fits Form.big_union empty_term (term_of c.args.term.now) (term_of c.in-BigUnion.over.value) (term_of c.in-Let.field-0.value) (term_of c.in-Let.field-1.value) (term_of c.in-BigUnion.body.value) refl (as-BigUnion c.args.term.now c.in-BigUnion.over c.in-BigUnion.body c.in-BigUnion.is) (as-Let c.in-BigUnion.over.value c.in-Let.field-0 c.in-Let.field-1 (search rules))

pub returns-in-Let-deref : goal.returns-in-Let-deref
returns-in-Let-deref c = s9_fits Form.sum (number 0) (term_of c.args.term.now) (term_of c.in-Sum.over.value) (term_of c.in-Let-deref.field-0.value) (term_of c.in-Let-deref.field-1.value) (term_of c.in-Sum.body.value) refl (as-Sum c.args.term.now c.in-Sum.over c.in-Sum.body c.in-Sum.is) (as-Let c.in-Sum.over.value c.in-Let-deref.field-0 c.in-Let-deref.field-1 (search rules))
