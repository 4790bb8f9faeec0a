use Rattle.std.proofs.Common.{ap, sym, ◌∙◌}
use Rattle.nrca_term.specs.Term.{form_binders}
use Rattle.nrca_term.specs.View.{term_of}
use Rattle.nrca_term.specs.Laws.WellFormed.{binders-there, well_formed-Core}
use Rattle.nrca_term.proofs.term.Core.binders.Goals as goal

pub returns-clause-number : goal.returns-clause-number
returns-clause-number c =
    c.binders.ensures ∙ ap (λ f. form_binders f c.args.i) c.form.ensures ∙ sym (binders-there (term_of c.args.self.now) c.args.i (well_formed-Core c.args.self.now) c.requires)
