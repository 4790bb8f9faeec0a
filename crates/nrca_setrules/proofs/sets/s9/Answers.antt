use Rattle.std.proofs.Common.{rules, refl}
use Rattle.nrca_term.specs.View.{term_of}
use Rattle.nrca_term.specs.Term.{Form}
use Rattle.nrca_term.specs.Nodes.{number, empty_term}
use Rattle.nrca_term.specs.Laws.WellFormed.{well_formed-Core}
use Rattle.nrca_term.specs.Laws.Equations.{term_of-Let}
use Rattle.nrca_term.specs.Laws.AsVariant.{as-BigUnion, as-Let, as-Sum}
use Rattle.nrca_setrules.proofs.SetSides.{loop_room, s9_right}
use Rattle.nrca_setrules.proofs.sets.s9.Goals as goal

pub shift_body-deeper-requires : goal.shift_body-deeper-requires
shift_body-deeper-requires c = loop_room Form.big_union (term_of c.args.term) (term_of c.in-BigUnion.over.value) (term_of c.in-BigUnion.body.value) (as-BigUnion c.args.term c.in-BigUnion.over c.in-BigUnion.body c.in-BigUnion.is) (well_formed-Core c.in-BigUnion.body.value) c.requires.inside

pub shift_body-deeper-requires-in-Let-inner : goal.shift_body-deeper-requires-in-Let-inner
shift_body-deeper-requires-in-Let-inner c = loop_room Form.sum (term_of c.args.term) (term_of c.in-Sum.over.value) (term_of c.in-Sum.body.value) (as-Sum c.args.term c.in-Sum.over c.in-Sum.body c.in-Sum.is) (well_formed-Core c.in-Sum.body.value) c.requires.inside

pub returns-in-Let : goal.returns-in-Let
returns-in-Let c = s9_right Form.big_union empty_term (term_of c.args.term) (term_of c.in-BigUnion.over.value) (term_of c.in-Let.bound.value) (term_of c.in-Let.members.value) (term_of c.in-BigUnion.body.value) _ (term_of c.put-each.result.value) (term_of c.shift_body-deeper.result.value) refl (as-BigUnion c.args.term c.in-BigUnion.over c.in-BigUnion.body c.in-BigUnion.is) (as-Let c.in-BigUnion.over.value c.in-Let.bound c.in-Let.members (search rules)) (term_of-Let c.in-Let.bound c.put-each.result) (as-BigUnion c.put-each.result.value c.in-Let.members c.shift_body-deeper.result c.put-each.ensures) c.shift_body-deeper.ensures

pub returns-in-Let-inner : goal.returns-in-Let-inner
returns-in-Let-inner c = s9_right Form.sum (number 0) (term_of c.args.term) (term_of c.in-Sum.over.value) (term_of c.in-Let-inner.bound.value) (term_of c.in-Let-inner.members.value) (term_of c.in-Sum.body.value) _ (term_of c.put-each-in-Let-inner.result.value) (term_of c.shift_body-deeper-in-Let-inner.result.value) refl (as-Sum c.args.term c.in-Sum.over c.in-Sum.body c.in-Sum.is) (as-Let c.in-Sum.over.value c.in-Let-inner.bound c.in-Let-inner.members (search rules)) (term_of-Let c.in-Let-inner.bound c.put-each-in-Let-inner.result) (as-Sum c.put-each-in-Let-inner.result.value c.in-Let-inner.members c.shift_body-deeper-in-Let-inner.result c.put-each-in-Let-inner.ensures) c.shift_body-deeper-in-Let-inner.ensures
