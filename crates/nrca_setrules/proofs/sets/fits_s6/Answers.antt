use Rattle.std.proofs.Common.{rules}
use Rattle.nrca_term.specs.View.{term_of}
use Rattle.nrca_term.specs.Laws.AsVariant.{as-BigUnion, as-Single, as-Var}
use Rattle.nrca_setrules.proofs.SetSides.{s6_fits}
use Rattle.nrca_setrules.proofs.sets.fits_s6.Goals as goal

pub returns-in-Var-eq0 : goal.returns-in-Var-eq0
returns-in-Var-eq0 c = s6_fits (term_of c.args.term.now) (term_of c.in-BigUnion.over.value) (term_of c.in-BigUnion.body.value) (term_of c.in-Single.member.value) (as-BigUnion c.args.term.now c.in-BigUnion.over c.in-BigUnion.body c.in-BigUnion.is) (as-Single c.in-BigUnion.body.value c.in-Single.member (search rules)) (as-Var c.in-Single.member.value 0 (search rules))
