use Rattle.nrca_term.specs.View.{term_of}
use Rattle.nrca_term.specs.Laws.WellFormed.{well_formed-Core}
use Rattle.nrca_subst.proofs.Keeping.{is_shifted, keeps_types_shifted}
use Rattle.nrca_subst.proofs.shifting.shift.Goals as goal

pub returns-clause-meaning : goal.returns-clause-meaning
returns-clause-meaning c = is_shifted c.args.from c.args.by (term_of c.args.term) (term_of c.shift_in.new.term) (well_formed-Core c.args.term) c.shift_in.ensures

pub returns-clause-types : goal.returns-clause-types
returns-clause-types c = keeps_types_shifted c.args.from c.args.by (term_of c.args.term) (term_of c.shift_in.new.term) c.shift_in.ensures
