use Rattle.std.proofs.Common.{rules}
use Rattle.nrca_term.specs.View.{term_of}
use Rattle.nrca_term.specs.Laws.AsVariant.{as-Empty, as-Sum}
use Rattle.nrca_setrules.proofs.SetSides.{s4_fits}
use Rattle.nrca_setrules.proofs.sets.fits_s4.Goals as goal

pub returns-in-Empty : goal.returns-in-Empty
returns-in-Empty c = s4_fits (term_of c.args.term.now) (term_of c.in-Sum.over.value) (term_of c.in-Sum.body.value) (as-Sum c.args.term.now c.in-Sum.over c.in-Sum.body c.in-Sum.is) (as-Empty c.in-Sum.over.value (search rules))
