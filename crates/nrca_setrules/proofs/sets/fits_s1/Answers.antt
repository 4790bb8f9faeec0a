use Rattle.std.proofs.Common.{rules}
use Rattle.nrca_term.specs.View.{term_of}
use Rattle.nrca_term.specs.Laws.AsVariant.{as-BigUnion, as-Empty}
use Rattle.nrca_setrules.proofs.SetSides.{s1_fits}
use Rattle.nrca_setrules.proofs.sets.fits_s1.Goals as goal

pub returns-in-Empty : goal.returns-in-Empty
returns-in-Empty c = s1_fits (term_of c.args.term.now) (term_of c.in-BigUnion.over.value) (term_of c.in-BigUnion.body.value) (as-BigUnion c.args.term.now c.in-BigUnion.over c.in-BigUnion.body c.in-BigUnion.is) (as-Empty c.in-BigUnion.over.value (search rules))
