use Rattle.std.proofs.Common.{sym, subst}
use Rattle.nrca_term.specs.View.{term_of}
use Rattle.nrca_term.specs.Laws.Equations.{term_of-Bottom}
use Rattle.nrca_term.specs.declared.trace.Rule.TheVariants.{B1}
use Rattle.nrca_rule_laws.specs.Fitting.{IsRight}
use Rattle.nrca_setrules.proofs.BottomSides.{b1_right}
use Rattle.nrca_setrules.proofs.bottoms.b1.Goals as goal

pub returns : goal.returns
returns c = subst (IsRight B1 (term_of c.args._term)) (sym term_of-Bottom) (b1_right (term_of c.args._term) c.requires)
