use Rattle.std.proofs.Common.{rules}
use Rattle.nrca_term.specs.View.{term_of}
use Rattle.nrca_term.specs.Laws.AsVariant.{as-BigUnion}
use Rattle.nrca_setrules.proofs.SetSides.{s3_fits}
use Rattle.nrca_setrules.proofs.sets.fits_s3.Goals as goal

pub returns-in-BigUnion-deref : goal.returns-in-BigUnion-deref
returns-in-BigUnion-deref c = s3_fits (term_of c.args.term.now) (term_of c.in-BigUnion.over.value) (term_of c.in-BigUnion-deref.over.value) (term_of c.in-BigUnion-deref.body.value) (term_of c.in-BigUnion.body.value) (as-BigUnion c.args.term.now c.in-BigUnion.over c.in-BigUnion.body c.in-BigUnion.is) (as-BigUnion c.in-BigUnion.over.value c.in-BigUnion-deref.over c.in-BigUnion-deref.body (search rules))
