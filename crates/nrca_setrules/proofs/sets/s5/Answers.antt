use Rattle.std.proofs.Common.{rules}
use Rattle.nrca_term.specs.View.{term_of}
use Rattle.nrca_term.specs.Laws.Equations.{term_of-Let}
use Rattle.nrca_term.specs.Laws.AsVariant.{as-Single, as-Sum}
use Rattle.nrca_setrules.proofs.SetSides.{s5_right}
use Rattle.nrca_setrules.proofs.sets.s5.Goals as goal

pub returns : goal.returns
returns c = s5_right (term_of c.args.term) (term_of c.in-Sum.over.value) (term_of c.in-Single.member.value) (term_of c.in-Sum.body.value) _ (as-Sum c.args.term c.in-Sum.over c.in-Sum.body c.in-Sum.is) (as-Single c.in-Sum.over.value c.in-Single.member (search rules)) (term_of-Let c.in-Single.member c.in-Sum.body)
