use Rattle.std.proofs.Common.{rules}
use Rattle.nrca_term.specs.View.{term_of}
use Rattle.nrca_term.specs.Laws.AsVariant.{as-Single, as-Sum}
use Rattle.nrca_setrules.proofs.SetSides.{s5_fits}
use Rattle.nrca_setrules.proofs.sets.fits_s5.Goals as goal

pub returns-in-Single : goal.returns-in-Single
returns-in-Single c = s5_fits (term_of c.args.term.now) (term_of c.in-Sum.over.value) (term_of c.in-Single.field-0.value) (term_of c.in-Sum.body.value) (as-Sum c.args.term.now c.in-Sum.over c.in-Sum.body c.in-Sum.is) (as-Single c.in-Sum.over.value c.in-Single.field-0 (search rules))
