use Rattle.std.proofs.Common.{rules}
use Rattle.nrca_term.specs.View.{term_of}
use Rattle.nrca_setrules.proofs.Counts.{l2_tells}
use Rattle.nrca_term.specs.Laws.AsVariant.{as-Let}
use Rattle.nrca_setrules.proofs.lets.fits_l2.Goals as goal

pub returns-in-Let : goal.returns-in-Let
returns-in-Let c = l2_tells c.both_one-once.result (term_of c.args.term.now) (term_of c.in-Let.field-0.value) (term_of c.in-Let.body.value) c.uses-all.result c.uses_strictly-strictly.result (as-Let c.args.term.now c.in-Let.field-0 c.in-Let.body c.in-Let.is) (search rules) (search rules) c.both_one-once.ensures.0 c.both_one-once.ensures.1
