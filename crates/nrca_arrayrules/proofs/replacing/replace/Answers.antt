use Rattle.std.proofs.Common.{ap, ◌∙◌}
use Rattle.nrca_term.specs.Rules.{replace_dims}
use Rattle.nrca_term.specs.Laws.Shift.{shift_term-none}
use Rattle.nrca_term.specs.View.{term_of}
use Rattle.nrca_arrayrules.proofs.replacing.replace.Goals as goal

pub returns : goal.returns
returns c = c.in_ok-replace_in.ensures ∙ ap (λ x. replace_dims 0 x (term_of c.args.term)) (shift_term-none 0 (term_of c.args.size.now))
