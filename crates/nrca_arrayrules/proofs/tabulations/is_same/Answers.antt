use Rattle.std.proofs.Common.{sym, ◌∙◌}
use Rattle.nrca_term.specs.View.{term_of, terms_of}
use Rattle.nrca_term.specs.Laws.Equations.{length-terms_of}
use Rattle.nrca_arrayrules.proofs.TabulationSides.{whole-yes, whole-back}
use Rattle.nrca_arrayrules.proofs.tabulations.is_same.Goals as goal

pub returns : goal.returns
returns c =
    let n = c.len-rank.ensures ∙ sym (length-terms_of c.args.bounds.now) in (
      (λ h. let k = c.all-same.ensures.0 h in whole-yes (terms_of c.args.bounds.now) (terms_of c.args.at.now) (term_of c.args.array.now) c.len-rank.result n k.0 (c.are_indices-indices.ensures.0 k.1) (c.are_dimensions-dimensions.ensures.0 k.2)),
      (λ h. let k = whole-back (terms_of c.args.bounds.now) (terms_of c.args.at.now) (term_of c.args.array.now) c.len-rank.result n h in c.all-same.ensures.1 (k.0, c.are_indices-indices.ensures.1 k.1, c.are_dimensions-dimensions.ensures.1 k.2)),
    )
