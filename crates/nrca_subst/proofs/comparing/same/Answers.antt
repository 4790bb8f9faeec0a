use Rattle.std.proofs.Common.{sym, ◌∙◌}
use Rattle.nrca_term.specs.Laws.Shift.{shift_term-none}
use Rattle.nrca_term.specs.View.{term_of}
use Rattle.nrca_subst.proofs.comparing.same.Goals as goal

pub returns : goal.returns
returns c = (
  (λ h. sym (c.same_shifted.ensures.0 h ∙ shift_term-none 0 (term_of c.args.a.now))),
  (λ e. c.same_shifted.ensures.1 (sym e ∙ sym (shift_term-none 0 (term_of c.args.a.now)))),
)
