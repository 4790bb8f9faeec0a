use Rattle.std.proofs.Common.{rules, arith, true, false, ◌≡◌, ◌<◌, length, sym, ◌∙◌}
use Rattle.nrca_term.specs.View.{term_of, terms_of}
use Rattle.nrca_term.specs.Laws.Equations.{length-terms_of}
use Rattle.nrca_term.specs.Laws.Lists.{item-is}
use Rattle.nrca_arrayrules.proofs.Sides.{false-true}
use Rattle.nrca_arrayrules.proofs.TabulationSides.{dimensions-next, dimension-here}
use Rattle.nrca_arrayrules.proofs.tabulations.are_dimensions.Goals as goal

pub loop-j-preserved : goal.loop-j-preserved
loop-j-preserved c =
    let l : c.loop-j.j < length (terms_of c.args.bounds.now) = omega (arith, length-terms_of c.args.bounds.now, c.len-j-end.ensures) in
    let q : c.is_dimension.result ≡ true = search rules in
    dimensions-next (terms_of c.args.bounds.now) (term_of c.args.array.now) (term_of c.index.result.now) c.len-rank.result c.loop-j.j l (c.len-rank.ensures ∙ sym (length-terms_of c.args.bounds.now)) (item-is c.args.bounds.now.0.items c.loop-j.j c.index.result.now c.index.ensures) (c.is_dimension.ensures.0 q) c.loop-j.invariant

pub returns-then-not-is_dimension : goal.returns-then-not-is_dimension
returns-then-not-is_dimension c =
    let l : c.loop-j.j < length (terms_of c.args.bounds.now) = omega (arith, length-terms_of c.args.bounds.now, c.len-j-end.ensures) in
    let q : c.is_dimension.result ≡ false = search rules in
    ((λ h. absurd (false-true h)), (λ d. sym q ∙ c.is_dimension.ensures.1 (dimension-here (terms_of c.args.bounds.now) (term_of c.args.array.now) (term_of c.index.result.now) c.len-rank.result c.loop-j.j l (c.len-rank.ensures ∙ sym (length-terms_of c.args.bounds.now)) (item-is c.args.bounds.now.0.items c.loop-j.j c.index.result.now c.index.ensures) d)))
