use Rattle.std.proofs.Common.{rules}
use Rattle.nrca_term.specs.View.{term_of}
use Rattle.nrca_term.specs.Laws.Equations.{term_of-Let}
use Rattle.nrca_term.specs.Laws.AsVariant.{as-BigUnion, as-Single}
use Rattle.nrca_setrules.proofs.SetSides.{s2_right}
use Rattle.nrca_setrules.proofs.sets.s2.Goals as goal

pub returns : goal.returns
returns c = s2_right (term_of c.args.term) (term_of c.in-BigUnion.over.value) (term_of c.in-Single.member.value) (term_of c.in-BigUnion.body.value) _ (as-BigUnion c.args.term c.in-BigUnion.over c.in-BigUnion.body c.in-BigUnion.is) (as-Single c.in-BigUnion.over.value c.in-Single.member (search rules)) (term_of-Let c.in-Single.member c.in-BigUnion.body)
