use Rattle.std.proofs.Common.{◌∙◌}
use Rattle.nrca_term.specs.View.{term_of, terms_of}
use Rattle.nrca_term.specs.declared.term.Core.TheVariants as core
use Rattle.nrca_term.specs.Laws.Equations.{term_of-Tuple}
use Rattle.nrca_arrayrules.proofs.SizeSides.{tuple-items}
use Rattle.nrca_arrayrules.proofs.sizes.copy_all.Goals as goal

pub returns-clause-kept : goal.returns-clause-kept
returns-clause-kept c = tuple-items (term_of (core.Tuple c.args.terms)) (terms_of c.args.terms) (terms_of c.items-kept.result) (term_of-Tuple c.args.terms) c.items-kept.ensures

pub returns-clause-copied : goal.returns-clause-copied
returns-clause-copied c = tuple-items (term_of c.in_ok-copied.copied) (terms_of c.args.terms) (terms_of c.items-copies.result) (c.in_ok-copied.ensures ∙ term_of-Tuple c.args.terms) c.items-copies.ensures
