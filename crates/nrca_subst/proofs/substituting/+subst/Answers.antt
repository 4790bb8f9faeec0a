use Rattle.std.proofs.Common.{min, ◌≡◌, ◌+◌, ◌-◌, ◌^◌, arith, ap, sym, ◌∙◌, subst}
use Rattle.nrca_term.specs.Laws.Measure.{weight_of-child}
use Rattle.nrca_term.specs.Term.{Form, form_of, variable_of, weight_of, with_part, count, parts_of}
use Rattle.nrca_term.specs.Subst.{shift_term}
use Rattle.nrca_term.specs.View.{term_of}
use Rattle.nrca_subst.specs.Depth.{DepthFits, Substitutes}
use Rattle.nrca_term.specs.Laws.Equations.{term_of-Let, term_of-Default, term_of-Arith, term_of-Compare, term_of-Union, term_of-BigUnion, term_of-Sum}
use Rattle.nrca_term.specs.Laws.Exchange.{count-with_part}
use Rattle.aql_value.specs.Strict.{Strict}
use Rattle.nrca_subst.proofs.Deeper.{substitutes-part, fits-part}
use Rattle.nrca_subst.proofs.Pairs.{pair, boxes-lighter, boxes-fit, boxes-substituted}
use Rattle.nrca_subst.specs.Laws.Walking.{with_first_parts-start, with_first_parts-step, count-with_first_parts, binders_of-with_first_parts, with_first_parts-part}
use Rattle.nrca_subst.proofs.SubstWalk.{subst_part, with_first_parts-subst}
use Rattle.nrca_subst.proofs.substituting.+subst.Goals as goal

pub subst_parts_in-loop-i-init : goal.subst_parts_in-loop-i-init
subst_parts_in-loop-i-init t c n d = with_first_parts-start (subst_part (c.args.at + n) (shift_term 0 n (term_of c.args.with.now))) (term_of c.args.term.now)

pub subst_parts_in-binders-requires : goal.subst_parts_in-binders-requires
subst_parts_in-binders-requires t c =
    omega (arith, count-with_first_parts _ c.loop-i.i (term_of c.args.term.now) (term_of c.loop-i.term) (c.loop-i.invariant c.requires.fits.0 c.requires.fits.1), c.parts-i-end.ensures)

pub subst_parts_in-exchange-requires : goal.subst_parts_in-exchange-requires
subst_parts_in-exchange-requires t c =
    omega (arith, count-with_first_parts _ c.loop-i.i (term_of c.args.term.now) (term_of c.loop-i.term) (c.loop-i.invariant c.requires.fits.0 c.requires.fits.1), c.parts-i-end.ensures)

pub subst_parts_in-subst_in-requires : goal.subst_parts_in-subst_in-requires
subst_parts_in-subst_in-requires t c =
    let u = term_of c.exchange.new.with in
    let same = c.loop-i.invariant c.requires.fits.0 c.requires.fits.1 in
    let found = with_first_parts-part _ c.loop-i.i (term_of c.args.term.now) (term_of c.loop-i.term) u same c.exchange.ensures.before in
    let k = c.binders.ensures.number ∙ binders_of-with_first_parts _ c.loop-i.i c.loop-i.i (term_of c.args.term.now) (term_of c.loop-i.term) same in
    let deep : c.saturating_add-deeper.result ≡ min (c.args.depth + c.binders.result) (2 ^ 128 - 1) = omega (arith, c.saturating_add-deeper.ensures) in
    let fits : DepthFits c.args.at c.saturating_add-deeper.result (term_of c.args.with.now) u =
    subst (λ m. DepthFits c.args.at m (term_of c.args.with.now) u) (sym deep)
    (fits-part c.args.at c.args.depth c.binders.result (term_of c.args.with.now) (term_of c.args.term.now) c.loop-i.i u c.requires.other found k c.requires.fits) in
    (omega (arith, c.decreases, weight_of-child (term_of c.args.term.now) c.loop-i.i u found), fits)

pub subst_parts_in-exchange-requires-in-Ok : goal.subst_parts_in-exchange-requires-in-Ok
subst_parts_in-exchange-requires-in-Ok t c =
    omega (
      arith,
      ap (λ x. count (parts_of x)) c.exchange.ensures.now,
      count-with_part (term_of c.loop-i.term) c.loop-i.i (term_of c.loop-i.part),
      count-with_first_parts _ c.loop-i.i (term_of c.args.term.now) (term_of c.loop-i.term) (c.loop-i.invariant c.requires.fits.0 c.requires.fits.1),
      c.parts-i-end.ensures,
    )

pub subst_parts_in-loop-i-preserved : goal.subst_parts_in-loop-i-preserved
subst_parts_in-loop-i-preserved t c n d =
    let w = shift_term 0 n (term_of c.args.with.now) in
    let u = term_of c.exchange.new.with in
    let same = c.loop-i.invariant n d in
    let found = with_first_parts-part _ c.loop-i.i (term_of c.args.term.now) (term_of c.loop-i.term) u same c.exchange.ensures.before in
    let k = c.binders.ensures.number ∙ binders_of-with_first_parts _ c.loop-i.i c.loop-i.i (term_of c.args.term.now) (term_of c.loop-i.term) same in
    let deep : c.saturating_add-deeper.result ≡ min (c.args.depth + c.binders.result) (2 ^ 128 - 1) = omega (arith, c.saturating_add-deeper.ensures) in
    let made : Substitutes c.args.at (min (c.args.depth + c.binders.result) (2 ^ 128 - 1)) (term_of c.args.with.now) u (term_of c.subst_in.new.term) =
    subst (λ m. Substitutes c.args.at m (term_of c.args.with.now) u (term_of c.subst_in.new.term)) deep c.in-Ok.ensures in
    c.exchange-in-Ok.ensures.now
    ∙ ap (λ x. with_part x c.loop-i.i (term_of c.subst_in.new.term)) c.exchange.ensures.now
    ∙ with_first_parts-step (subst_part (c.args.at + n) w) c.loop-i.i (term_of c.args.term.now) (term_of c.loop-i.term) u (term_of c.subst_in.new.term) same found
    (substitutes-part c.args.at c.args.depth c.binders.result n (term_of c.args.with.now) u (term_of c.subst_in.new.term) made d ∙ ap (λ m. subst_part (c.args.at + n) w m u) k) (term_of c.loop-i.part)

pub subst_parts_in-returns : goal.subst_parts_in-returns
subst_parts_in-returns t c n d =
    with_first_parts-subst (c.args.at + n) (shift_term 0 n (term_of c.args.with.now)) c.loop-i.i (term_of c.args.term.now) (term_of c.loop-i.term) (c.loop-i.invariant n d) (omega (arith, c.parts-i-end.ensures)) c.requires.other

pub subst_in-subst_two-requires : goal.subst_in-subst_two-requires
subst_in-subst_two-requires t c =
    let e = ap term_of c.in-Let.is ∙ term_of-Let c.in-Let.a c.in-Let.b in (
      omega (arith, c.decreases, boxes-lighter Form.bind 1 c.in-Let.a c.in-Let.b _ _ (term_of c.args.term.now) (sym c.in-Let.a-is) (sym c.in-Let.b-is) e),
      boxes-fit Form.bind 1 c.args.at c.args.depth (term_of c.args.with.now) c.in-Let.a c.in-Let.b _ _ (term_of c.args.term.now) (sym c.in-Let.a-is) (sym c.in-Let.b-is) (ap (λ x. variable_of (form_of x)) e) e c.requires,
    )

pub subst_in-returns-in-Let : goal.subst_in-returns-in-Let
subst_in-returns-in-Let t c =
    let e = ap term_of c.in-Let.is ∙ term_of-Let c.in-Let.a c.in-Let.b in
    boxes-substituted c.subst_two.result Form.bind 1 c.args.at c.args.depth c.args.with.now c.in-Let.a c.in-Let.b _ _ c.subst_two.new.a c.subst_two.new.b (term_of c.args.term.now) _ (sym c.in-Let.a-is) (sym c.in-Let.b-is) (ap (λ x. variable_of (form_of x)) e)
    e (term_of-Let c.subst_two.new.a c.subst_two.new.b) c.subst_two.ensures

pub subst_in-subst_two-requires-in-BigUnion : goal.subst_in-subst_two-requires-in-BigUnion
subst_in-subst_two-requires-in-BigUnion t c =
    let e = ap term_of c.in-BigUnion.is ∙ term_of-BigUnion c.in-BigUnion.over c.in-BigUnion.body in (
      omega (arith, c.decreases, boxes-lighter Form.big_union 1 c.in-BigUnion.over c.in-BigUnion.body _ _ (term_of c.args.term.now) (sym c.in-BigUnion.over-is) (sym c.in-BigUnion.body-is) e),
      boxes-fit Form.big_union 1 c.args.at c.args.depth (term_of c.args.with.now) c.in-BigUnion.over c.in-BigUnion.body _ _ (term_of c.args.term.now) (sym c.in-BigUnion.over-is) (sym c.in-BigUnion.body-is) (ap (λ x. variable_of (form_of x)) e) e c.requires,
    )

pub subst_in-returns-in-BigUnion : goal.subst_in-returns-in-BigUnion
subst_in-returns-in-BigUnion t c =
    let e = ap term_of c.in-BigUnion.is ∙ term_of-BigUnion c.in-BigUnion.over c.in-BigUnion.body in
    boxes-substituted c.subst_two-in-BigUnion.result Form.big_union 1 c.args.at c.args.depth c.args.with.now c.in-BigUnion.over c.in-BigUnion.body _ _ c.subst_two-in-BigUnion.new.a c.subst_two-in-BigUnion.new.b (term_of c.args.term.now) _ (sym c.in-BigUnion.over-is) (sym c.in-BigUnion.body-is) (ap (λ x. variable_of (form_of x)) e)
    e (term_of-BigUnion c.subst_two-in-BigUnion.new.a c.subst_two-in-BigUnion.new.b) c.subst_two-in-BigUnion.ensures

pub subst_in-subst_two-requires-in-Sum : goal.subst_in-subst_two-requires-in-Sum
subst_in-subst_two-requires-in-Sum t c =
    let e = ap term_of c.in-Sum.is ∙ term_of-Sum c.in-Sum.over c.in-Sum.body in (
      omega (arith, c.decreases, boxes-lighter Form.sum 1 c.in-Sum.over c.in-Sum.body _ _ (term_of c.args.term.now) (sym c.in-Sum.over-is) (sym c.in-Sum.body-is) e),
      boxes-fit Form.sum 1 c.args.at c.args.depth (term_of c.args.with.now) c.in-Sum.over c.in-Sum.body _ _ (term_of c.args.term.now) (sym c.in-Sum.over-is) (sym c.in-Sum.body-is) (ap (λ x. variable_of (form_of x)) e) e c.requires,
    )

pub subst_in-returns-in-Sum : goal.subst_in-returns-in-Sum
subst_in-returns-in-Sum t c =
    let e = ap term_of c.in-Sum.is ∙ term_of-Sum c.in-Sum.over c.in-Sum.body in
    boxes-substituted c.subst_two-in-Sum.result Form.sum 1 c.args.at c.args.depth c.args.with.now c.in-Sum.over c.in-Sum.body _ _ c.subst_two-in-Sum.new.a c.subst_two-in-Sum.new.b (term_of c.args.term.now) _ (sym c.in-Sum.over-is) (sym c.in-Sum.body-is) (ap (λ x. variable_of (form_of x)) e)
    e (term_of-Sum c.subst_two-in-Sum.new.a c.subst_two-in-Sum.new.b) c.subst_two-in-Sum.ensures

pub subst_in-subst_two-requires-in-Default : goal.subst_in-subst_two-requires-in-Default
subst_in-subst_two-requires-in-Default t c =
    let e = ap term_of c.in-Default.is ∙ term_of-Default c.in-Default.a c.in-Default.b in (
      omega (arith, c.decreases, boxes-lighter Form.default 0 c.in-Default.a c.in-Default.b _ _ (term_of c.args.term.now) (sym c.in-Default.a-is) (sym c.in-Default.b-is) e),
      boxes-fit Form.default 0 c.args.at c.args.depth (term_of c.args.with.now) c.in-Default.a c.in-Default.b _ _ (term_of c.args.term.now) (sym c.in-Default.a-is) (sym c.in-Default.b-is) (ap (λ x. variable_of (form_of x)) e) e c.requires,
    )

pub subst_in-returns-in-Default : goal.subst_in-returns-in-Default
subst_in-returns-in-Default t c =
    let e = ap term_of c.in-Default.is ∙ term_of-Default c.in-Default.a c.in-Default.b in
    boxes-substituted c.subst_two-in-Default.result Form.default 0 c.args.at c.args.depth c.args.with.now c.in-Default.a c.in-Default.b _ _ c.subst_two-in-Default.new.a c.subst_two-in-Default.new.b (term_of c.args.term.now) _ (sym c.in-Default.a-is) (sym c.in-Default.b-is) (ap (λ x. variable_of (form_of x)) e)
    e (term_of-Default c.subst_two-in-Default.new.a c.subst_two-in-Default.new.b) c.subst_two-in-Default.ensures

pub subst_in-subst_two-requires-in-Union : goal.subst_in-subst_two-requires-in-Union
subst_in-subst_two-requires-in-Union t c =
    let e = ap term_of c.in-Union.is ∙ term_of-Union c.in-Union.a c.in-Union.b in (
      omega (arith, c.decreases, boxes-lighter (Form.strict Strict.union) 0 c.in-Union.a c.in-Union.b _ _ (term_of c.args.term.now) (sym c.in-Union.a-is) (sym c.in-Union.b-is) e),
      boxes-fit (Form.strict Strict.union) 0 c.args.at c.args.depth (term_of c.args.with.now) c.in-Union.a c.in-Union.b _ _ (term_of c.args.term.now) (sym c.in-Union.a-is) (sym c.in-Union.b-is) (ap (λ x. variable_of (form_of x)) e) e c.requires,
    )

pub subst_in-returns-in-Union : goal.subst_in-returns-in-Union
subst_in-returns-in-Union t c =
    let e = ap term_of c.in-Union.is ∙ term_of-Union c.in-Union.a c.in-Union.b in
    boxes-substituted c.subst_two-in-Union.result (Form.strict Strict.union) 0 c.args.at c.args.depth c.args.with.now c.in-Union.a c.in-Union.b _ _ c.subst_two-in-Union.new.a c.subst_two-in-Union.new.b (term_of c.args.term.now) _ (sym c.in-Union.a-is) (sym c.in-Union.b-is) (ap (λ x. variable_of (form_of x)) e)
    e (term_of-Union c.subst_two-in-Union.new.a c.subst_two-in-Union.new.b) c.subst_two-in-Union.ensures

pub subst_in-subst_two-requires-in-Arith : goal.subst_in-subst_two-requires-in-Arith
subst_in-subst_two-requires-in-Arith t c =
    let e = ap term_of c.in-Arith.is ∙ term_of-Arith c.in-Arith.op c.in-Arith.a c.in-Arith.b in (
      omega (arith, c.decreases, boxes-lighter (Form.strict (Strict.arith c.in-Arith.op)) 0 c.in-Arith.a c.in-Arith.b _ _ (term_of c.args.term.now) (sym c.in-Arith.a-is) (sym c.in-Arith.b-is) e),
      boxes-fit (Form.strict (Strict.arith c.in-Arith.op)) 0 c.args.at c.args.depth (term_of c.args.with.now) c.in-Arith.a c.in-Arith.b _ _ (term_of c.args.term.now) (sym c.in-Arith.a-is) (sym c.in-Arith.b-is) (ap (λ x. variable_of (form_of x)) e) e c.requires,
    )

pub subst_in-returns-in-Arith : goal.subst_in-returns-in-Arith
subst_in-returns-in-Arith t c =
    let e = ap term_of c.in-Arith.is ∙ term_of-Arith c.in-Arith.op c.in-Arith.a c.in-Arith.b in
    boxes-substituted c.subst_two-in-Arith.result (Form.strict (Strict.arith c.in-Arith.op)) 0 c.args.at c.args.depth c.args.with.now c.in-Arith.a c.in-Arith.b _ _ c.subst_two-in-Arith.new.a c.subst_two-in-Arith.new.b (term_of c.args.term.now) _ (sym c.in-Arith.a-is) (sym c.in-Arith.b-is) (ap (λ x. variable_of (form_of x)) e)
    e (term_of-Arith c.leave.new._beside c.subst_two-in-Arith.new.a c.subst_two-in-Arith.new.b ∙ ap (λ o. pair (Form.strict (Strict.arith o)) 0 (term_of c.subst_two-in-Arith.new.a.value) (term_of c.subst_two-in-Arith.new.b.value)) (c.leave.ensures ∙ c.in-Arith.op-is)) c.subst_two-in-Arith.ensures

pub subst_in-subst_two-requires-in-Compare : goal.subst_in-subst_two-requires-in-Compare
subst_in-subst_two-requires-in-Compare t c =
    let e = ap term_of c.in-Compare.is ∙ term_of-Compare c.in-Compare.op c.in-Compare.a c.in-Compare.b in (
      omega (arith, c.decreases, boxes-lighter (Form.strict (Strict.compare c.in-Compare.op)) 0 c.in-Compare.a c.in-Compare.b _ _ (term_of c.args.term.now) (sym c.in-Compare.a-is) (sym c.in-Compare.b-is) e),
      boxes-fit (Form.strict (Strict.compare c.in-Compare.op)) 0 c.args.at c.args.depth (term_of c.args.with.now) c.in-Compare.a c.in-Compare.b _ _ (term_of c.args.term.now) (sym c.in-Compare.a-is) (sym c.in-Compare.b-is) (ap (λ x. variable_of (form_of x)) e) e c.requires,
    )

pub subst_in-returns-in-Compare : goal.subst_in-returns-in-Compare
subst_in-returns-in-Compare t c =
    let e = ap term_of c.in-Compare.is ∙ term_of-Compare c.in-Compare.op c.in-Compare.a c.in-Compare.b in
    boxes-substituted c.subst_two-in-Compare.result (Form.strict (Strict.compare c.in-Compare.op)) 0 c.args.at c.args.depth c.args.with.now c.in-Compare.a c.in-Compare.b _ _ c.subst_two-in-Compare.new.a c.subst_two-in-Compare.new.b (term_of c.args.term.now) _ (sym c.in-Compare.a-is) (sym c.in-Compare.b-is) (ap (λ x. variable_of (form_of x)) e)
    e (term_of-Compare c.leave-in-Compare.new._beside c.subst_two-in-Compare.new.a c.subst_two-in-Compare.new.b ∙ ap (λ o. pair (Form.strict (Strict.compare o)) 0 (term_of c.subst_two-in-Compare.new.a.value) (term_of c.subst_two-in-Compare.new.b.value)) (c.leave-in-Compare.ensures ∙ c.in-Compare.op-is)) c.subst_two-in-Compare.ensures

pub subst_two-subst_in-requires : goal.subst_two-subst_in-requires
subst_two-subst_in-requires t c = (
  omega (arith, c.decreases, ap (λ x. weight_of (term_of x)) c.deref_mut.ensures.value),
  subst (λ x. DepthFits c.args.at c.args.depth (term_of c.args.with.now) (term_of x)) (sym c.deref_mut.ensures.value) c.requires.first,
)
