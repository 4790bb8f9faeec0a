use Rattle.std.proofs.Common.{rules, inl, inr}
use Rattle.nrca_term.specs.View.{term_of}
use Rattle.nrca_term.specs.Laws.AsVariant.{as-Empty, as-Union}
use Rattle.nrca_setrules.proofs.SetSides.{s7_fits}
use Rattle.nrca_setrules.proofs.sets.fits_s7.Goals as goal

pub returns-in-Empty : goal.returns-in-Empty
returns-in-Empty c = s7_fits (term_of c.args.term.now) (term_of c.in-Union.left.value) (term_of c.in-Union.right.value) (as-Union c.args.term.now c.in-Union.left c.in-Union.right c.in-Union.is) (inl (as-Empty c.in-Union.right.value (search rules)))

pub returns-in-Empty-deref : goal.returns-in-Empty-deref
returns-in-Empty-deref c = s7_fits (term_of c.args.term.now) (term_of c.in-Union.left.value) (term_of c.in-Union.right.value) (as-Union c.args.term.now c.in-Union.left c.in-Union.right c.in-Union.is) (inr (as-Empty c.in-Union.left.value (search rules)))
