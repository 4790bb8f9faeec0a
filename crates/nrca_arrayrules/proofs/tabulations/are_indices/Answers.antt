use Rattle.std.proofs.Common.{rules, arith, true, false, ◌≡◌, ◌<◌, length, sym, ◌∙◌}
use Rattle.nrca_term.specs.View.{term_of, terms_of}
use Rattle.nrca_term.specs.Laws.Equations.{length-terms_of}
use Rattle.nrca_term.specs.Laws.Lists.{item-is}
use Rattle.nrca_arrayrules.proofs.Sides.{false-true}
use Rattle.nrca_arrayrules.proofs.TabulationSides.{indices-more, indices-out, indices-whole, indices-long}
use Rattle.nrca_arrayrules.proofs.tabulations.are_indices.Goals as goal

pub returns-then-len-rank : goal.returns-then-len-rank
returns-then-len-rank c = (
  (λ h. absurd (false-true h)),
  (λ e. absurd (omega (arith, length-terms_of c.args.at.now, c.len.ensures, c.if-len-rank.true, indices-long c.args.rank (terms_of c.args.at.now) e))),
)

pub loop-j-preserved : goal.loop-j-preserved
loop-j-preserved c =
    let l : c.loop-j.j < length (terms_of c.args.at.now) = omega (arith, length-terms_of c.args.at.now, c.len-j-end.ensures) in
    let n : length (terms_of c.args.at.now) ≡ c.args.rank = omega (arith, length-terms_of c.args.at.now, c.len.ensures, c.if-len-rank.false) in
    let q : c.is_variable.result ≡ true = search rules in
    indices-more c.args.rank c.loop-j.j (terms_of c.args.at.now) (term_of c.index.result.now) l n (item-is c.args.at.now.0.items c.loop-j.j c.index.result.now c.index.ensures) (c.is_variable.ensures.0 q) c.loop-j.invariant

pub returns-then-not-is_variable : goal.returns-then-not-is_variable
returns-then-not-is_variable c =
    let l : c.loop-j.j < length (terms_of c.args.at.now) = omega (arith, length-terms_of c.args.at.now, c.len-j-end.ensures) in
    let n : length (terms_of c.args.at.now) ≡ c.args.rank = omega (arith, length-terms_of c.args.at.now, c.len.ensures, c.if-len-rank.false) in
    let q : c.is_variable.result ≡ false = search rules in (
      (λ h. absurd (false-true h)),
      (λ e. absurd (indices-out c.args.rank c.loop-j.j (terms_of c.args.at.now) (term_of c.index.result.now) l n (item-is c.args.at.now.0.items c.loop-j.j c.index.result.now c.index.ensures) (λ h. false-true (sym q ∙ c.is_variable.ensures.1 h)) e)),
    )

pub returns : goal.returns
returns c =
    let l = length-terms_of c.args.at.now in (
      (λ h. indices-whole c.args.rank c.loop-j.j (terms_of c.args.at.now) (omega (arith, l, c.len-j-end.ensures)) (omega (arith, l, c.len.ensures, c.if-len-rank.false)) c.loop-j.invariant),
      (λ e. search rules),
    )
