use Rattle.std.proofs.Common.{ap, ◌∙◌}
use Rattle.nrca_term.specs.View.{term_of, terms_of}
use Rattle.nrca_term.specs.Subst.{shift_term}
use Rattle.nrca_term.specs.Laws.Equations.{term_of-Tuple}
use Rattle.nrca_term.specs.Laws.AsVariant.{as-Tuple}
use Rattle.nrca_arrayrules.proofs.Sides.{tuple-shifted}
use Rattle.nrca_arrayrules.proofs.lets.shift_all.Goals as goal

pub returns : goal.returns
returns c = tuple-shifted (term_of c.shift-shifted.result) (terms_of c.args.terms) (terms_of c.in-Tuple.deeper) (as-Tuple c.shift-shifted.result c.in-Tuple.deeper c.in-Tuple.is) (c.shift-shifted.ensures.shifted ∙ ap (shift_term 0 1) (term_of-Tuple c.args.terms))
