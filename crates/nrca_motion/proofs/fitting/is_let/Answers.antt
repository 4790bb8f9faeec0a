use Rattle.nrca_term.specs.View.{term_of}
use Rattle.nrca_term.specs.Laws.AsVariant.{as-Let}
use Rattle.nrca_motion.proofs.fitting.is_let.Goals as goal

pub returns-in-Let : goal.returns-in-Let
returns-in-Let c = (term_of c.in-Let.field-0.value, term_of c.in-Let.field-1.value, as-Let c.args.term.now c.in-Let.field-0 c.in-Let.field-1 c.in-Let.is)
