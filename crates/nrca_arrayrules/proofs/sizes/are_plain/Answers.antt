use Rattle.std.proofs.Common.{rules, arith, true, false, ◌≡◌, ◌<◌, length, sym, ◌∙◌}
use Rattle.nrca_term.specs.View.{term_of, terms_of}
use Rattle.nrca_term.specs.Laws.Equations.{length-terms_of}
use Rattle.nrca_term.specs.Laws.Lists.{item-is}
use Rattle.nrca_arrayrules.proofs.Sides.{false-true}
use Rattle.nrca_arrayrules.proofs.SizeSides.{every-plain, plain-at, plain-next}
use Rattle.nrca_arrayrules.proofs.sizes.are_plain.Goals as goal

pub loop-j-preserved : goal.loop-j-preserved
loop-j-preserved c =
    let l : c.loop-j.j < length (terms_of c.args.terms.now) = omega (arith, length-terms_of c.args.terms.now, c.len-j-end.ensures) in
    let q : c.is_plain.result ≡ true = search rules in
    plain-next (terms_of c.args.terms.now) c.loop-j.j (term_of c.index.result.now) l (item-is c.args.terms.now.0.items c.loop-j.j c.index.result.now c.index.ensures) (c.is_plain.ensures.0 q) c.loop-j.invariant

pub returns-then-not-is_plain : goal.returns-then-not-is_plain
returns-then-not-is_plain c =
    let l : c.loop-j.j < length (terms_of c.args.terms.now) = omega (arith, length-terms_of c.args.terms.now, c.len-j-end.ensures) in
    let q : c.is_plain.result ≡ false = search rules in
    ((λ h. absurd (false-true h)), (λ h. sym q ∙ c.is_plain.ensures.1 (plain-at (terms_of c.args.terms.now) c.loop-j.j (term_of c.index.result.now) l (item-is c.args.terms.now.0.items c.loop-j.j c.index.result.now c.index.ensures) h)))

pub returns : goal.returns
returns c = ((λ h. every-plain (terms_of c.args.terms.now) (λ j l. c.loop-j.invariant j (omega (arith, l, length-terms_of c.args.terms.now, c.len-j-end.ensures)))), (λ h. search rules))
