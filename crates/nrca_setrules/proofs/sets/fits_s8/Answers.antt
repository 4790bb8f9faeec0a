use Rattle.std.proofs.Common.{rules}
use Rattle.nrca_term.specs.View.{term_of}
use Rattle.nrca_term.specs.Laws.AsVariant.{as-Get, as-Single}
use Rattle.nrca_setrules.proofs.SetSides.{s8_fits}
use Rattle.nrca_setrules.proofs.sets.fits_s8.Goals as goal

pub returns-in-Single : goal.returns-in-Single
returns-in-Single c = s8_fits (term_of c.args.term.now) (term_of c.in-Get.part.value) (term_of c.in-Single.field-0.value) (as-Get c.args.term.now c.in-Get.part c.in-Get.is) (as-Single c.in-Get.part.value c.in-Single.field-0 (search rules))
