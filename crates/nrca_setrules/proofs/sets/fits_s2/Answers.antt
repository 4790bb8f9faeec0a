use Rattle.std.proofs.Common.{rules}
use Rattle.nrca_term.specs.View.{term_of}
use Rattle.nrca_term.specs.Laws.AsVariant.{as-BigUnion, as-Single}
use Rattle.nrca_setrules.proofs.SetSides.{s2_fits}
use Rattle.nrca_setrules.proofs.sets.fits_s2.Goals as goal

pub returns-in-Single : goal.returns-in-Single
returns-in-Single c = s2_fits (term_of c.args.term.now) (term_of c.in-BigUnion.over.value) (term_of c.in-Single.field-0.value) (term_of c.in-BigUnion.body.value) (as-BigUnion c.args.term.now c.in-BigUnion.over c.in-BigUnion.body c.in-BigUnion.is) (as-Single c.in-BigUnion.over.value c.in-Single.field-0 (search rules))
