use Rattle.std.proofs.Common.{arith, ◌<◌, length, take, Some, ◌+◌, min, [], refl, sym, ap, subst, ◌∙◌}
use Rattle.nrca_term.specs.View.{term_of, terms_of}
use Rattle.nrca_term.specs.Laws.Equations.{length-terms_of}
use Rattle.nrca_term.specs.Laws.Lists.{item-is}
use Rattle.nrca_arrayrules.proofs.SubscriptSides.{offset-step, offset-out, offset-whole}
use Rattle.nrca_arrayrules.specs.Constants.{IsOffset, AreBelow}
use Rattle.nrca_arrayrules.proofs.subscripts.literal_offset.Goals as goal

pub loop-j-init : goal.loop-j-init
loop-j-init c = ([], [], 0, refl, refl, refl, omega arith)

pub loop-j-preserved : goal.loop-j-preserved
loop-j-preserved c =
    let l : c.loop-j.j < length (terms_of c.args.dims.now) = omega (arith, length-terms_of c.args.dims.now, c.len-j-end.ensures) in
    subst (λ a. IsOffset (take (c.loop-j.j + 1) (terms_of c.args.dims.now)) (take (c.loop-j.j + 1) (terms_of c.args.at.now)) (Some a)) (sym (c.saturating_add-offset.ensures ∙ ap (λ a. min (a + c.in-Some.i) 340282366920938463463374607431768211455) c.saturating_mul.ensures))
    (offset-step (terms_of c.args.dims.now) (terms_of c.args.at.now) c.loop-j.j c.loop-j.offset c.in-Some.d c.in-Some.i (term_of c.index.result.now) (term_of c.index-in-loop-j.result.now) l (omega (arith, l, c.requires)) (item-is c.args.dims.now.0.items c.loop-j.j c.index.result.now c.index.ensures) (item-is c.args.at.now.0.items c.loop-j.j c.index-in-loop-j.result.now c.index-in-loop-j.ensures) (subst (AreBelow (term_of c.index.result.now) (term_of c.index-in-loop-j.result.now)) c.in-Some.is c.index_below.ensures) c.loop-j.invariant)

pub returns-in-None : goal.returns-in-None
returns-in-None c =
    let l : c.loop-j.j < length (terms_of c.args.dims.now) = omega (arith, length-terms_of c.args.dims.now, c.len-j-end.ensures) in
    offset-out (terms_of c.args.dims.now) (terms_of c.args.at.now) c.loop-j.j (term_of c.index.result.now) (term_of c.index-in-loop-j.result.now) l (omega (arith, l, c.requires)) (item-is c.args.dims.now.0.items c.loop-j.j c.index.result.now c.index.ensures) (item-is c.args.at.now.0.items c.loop-j.j c.index-in-loop-j.result.now c.index-in-loop-j.ensures) (subst (AreBelow (term_of c.index.result.now) (term_of c.index-in-loop-j.result.now)) c.in-None.is c.index_below.ensures)

pub returns : goal.returns
returns c = offset-whole (terms_of c.args.dims.now) (terms_of c.args.at.now) c.loop-j.j c.loop-j.offset (omega (arith, length-terms_of c.args.dims.now, c.len-j-end.ensures)) c.requires c.loop-j.invariant
