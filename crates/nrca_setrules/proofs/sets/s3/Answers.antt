use Rattle.std.proofs.Common.{rules}
use Rattle.nrca_term.specs.View.{term_of}
use Rattle.nrca_term.specs.Term.{Form}
use Rattle.nrca_term.specs.Laws.WellFormed.{well_formed-Core}
use Rattle.nrca_term.specs.Laws.Equations.{term_of-BigUnion}
use Rattle.nrca_term.specs.Laws.AsVariant.{as-BigUnion}
use Rattle.nrca_setrules.proofs.SetSides.{loop_room, s3_right}
use Rattle.nrca_setrules.proofs.sets.s3.Goals as goal

pub shift_body-deeper-requires : goal.shift_body-deeper-requires
shift_body-deeper-requires c = loop_room Form.big_union (term_of c.args.term) (term_of c.in-BigUnion.over.value) (term_of c.in-BigUnion.body.value) (as-BigUnion c.args.term c.in-BigUnion.over c.in-BigUnion.body c.in-BigUnion.is) (well_formed-Core c.in-BigUnion.body.value) c.requires.inside

pub returns : goal.returns
returns c = s3_right (term_of c.args.term) (term_of c.in-BigUnion.over.value) (term_of c.in-BigUnion-inner.outer.value) (term_of c.in-BigUnion-inner.members.value) (term_of c.in-BigUnion.body.value) _ (term_of c.put-each.result.value) (term_of c.shift_body-deeper.result.value) (as-BigUnion c.args.term c.in-BigUnion.over c.in-BigUnion.body c.in-BigUnion.is) (as-BigUnion c.in-BigUnion.over.value c.in-BigUnion-inner.outer c.in-BigUnion-inner.members (search rules)) (term_of-BigUnion c.in-BigUnion-inner.outer c.put-each.result) (as-BigUnion c.put-each.result.value c.in-BigUnion-inner.members c.shift_body-deeper.result c.put-each.ensures) c.shift_body-deeper.ensures
