use Rattle.std.proofs.Common.{◌≡◌, ◌-◌, ◌<◌, ◌≤◌, Option, Some, None, List, drop, sym, ap, ◌∙◌, subst, arith, set, ℕ}
use Rattle.aql_types.specs.declared.extent.Extent.{Extent}
use Rattle.aql_types.specs.Forms.{Form, forms, at}
use Rattle.aql_types.specs.Extents.{end, kept_extent, extent, over, together, beside, IsMemo}
use Rattle.aql_types.proofs.Extents.{same_beside}
use Rattle.aql_types.proofs.Memo.{no_room, memo_hit, memo_high, found_here, memo_put, parts_next, parts_none, parts_few}
use Rattle.aql_types.proofs.measure.+extent.Goals as goal

pub extent-returns-then-left-eq0-clause-found : goal.extent-returns-then-left-eq0-clause-found
extent-returns-then-left-eq0-clause-found t c = sym (no_room c.args.most (forms c.args.ps.now c.args.ns.now) c.args.i c.args.left c.if-left-eq0.true)

pub extent-returns-then-known-left-clause-found : goal.extent-returns-then-known-left-clause-found
extent-returns-then-known-left-clause-found t c =
    let fs = forms c.args.ps.now c.args.ns.now in
    let k = c.extent_at-known.ensures ∙ ap (kept_extent c.args.memo.now) (c.end_of-e.ensures c.args.ps.now) in
    sym (memo_high c.args.most c.args.memo.now fs c.args.i c.args.left c.requires.memo c.requires.flat (subst (λ (x : Extent). c.args.left < x.levels) k c.if-known-left.true))

pub extent-returns-then-known-gt0-clause-found : goal.extent-returns-then-known-gt0-clause-found
extent-returns-then-known-gt0-clause-found t c =
    let fs = forms c.args.ps.now c.args.ns.now in
    let k = c.extent_at-known.ensures ∙ ap (kept_extent c.args.memo.now) (c.end_of-e.ensures c.args.ps.now) in
    ap Some k
    ∙ sym (memo_hit c.args.most c.args.memo.now fs c.args.i c.args.left c.requires.memo c.requires.flat
    (subst (λ (x : Extent). 0 < x.levels) k c.if-known-gt0.true)
    (subst (λ (x : Extent). x.levels ≤ c.args.left) k c.if-known-left.false))

-- what is found at the end of a node
ended : (most left i e : ℕ) (fs : List Form) (o : Option Extent) → 0 < left → e ≡ end fs i → o ≡ over most (extent most (left - 1) fs) (at fs e) → over most (extent most (left - 1) fs) (at fs (end fs i)) ≡ o
ended most left i e fs o lt q h = subst (λ j. over most (extent most (left - 1) fs) (at fs j) ≡ o) q (sym h)

pub extent-returns-in_err-found-clause-found : goal.extent-returns-in_err-found-clause-found
extent-returns-in_err-found-clause-found t c =
    let fs = forms c.args.ps.now c.args.ns.now in
    let lt : 0 < c.args.left = omega (arith, c.if-left-eq0.false) in
    c.from_residual.ensures
    ∙ sym (found_here c.args.most (c.args.left - 1) fs c.args.i c.args.left None (omega (arith, lt))
    (ended c.args.most c.args.left c.args.i c.end_of-e.result fs None lt (c.end_of-e.ensures c.args.ps.now) (sym c.in_err-found.was ∙ c.extent_here.ensures.found)))

pub extent-returns-clause-found : goal.extent-returns-clause-found
extent-returns-clause-found t c =
    let fs = forms c.args.ps.now c.args.ns.now in
    let x = c.in_ok-found.found in
    let lt : 0 < c.args.left = omega (arith, c.if-left-eq0.false) in
    sym (found_here c.args.most (c.args.left - 1) fs c.args.i c.args.left (Some x) (omega (arith, lt))
    (ended c.args.most c.args.left c.args.i c.end_of-e.result fs (Some x) lt (c.end_of-e.ensures c.args.ps.now) c.in_ok-found.ensures.found))

pub extent-returns-clause-memo : goal.extent-returns-clause-memo
extent-returns-clause-memo t c =
    let fs = forms c.args.ps.now c.args.ns.now in
    let x = c.in_ok-found.found in
    let ms = c.extent_here.new.memo in
    let lt : 0 < c.args.left = omega (arith, c.if-left-eq0.false) in
    let q = c.end_of-e.ensures c.args.ps.now in
    subst (λ es. IsMemo c.args.most es fs) (ap (λ e. set ms e x) (sym q) ∙ sym c.put_extent.ensures)
    (memo_put c.args.most ms fs c.args.i (c.args.left - 1) x c.in_ok-found.ensures.memo c.requires.flat
    (ended c.args.most c.args.left c.args.i c.end_of-e.result fs (Some x) lt q c.in_ok-found.ensures.found))

pub extent_together-returns-in_err-here-clause-found : goal.extent_together-returns-in_err-here-clause-found
extent_together-returns-in_err-here-clause-found t c =
    let fs = forms c.args.ps.now c.args.ns.now in
    let f = extent c.args.most c.args.left fs in
    let row = c.args.row.now in
    let j = c.loop-i.i in
    let lt : 0 < j = c.loop-i-test.true in
    c.from_residual.ensures
    ∙ sym (parts_none c.args.most f row (j - 1)
    (parts_next c.args.most f row (j - 1) j (omega (arith, lt)) (omega (arith, lt, c.loop-i.invariant.below))
    ∙ ap (λ x. beside c.args.most x (together c.args.most f (drop j row))) (sym c.extent.ensures.found ∙ c.in_err-here.was)))

pub extent_together-returns-in_err-total-clause-found : goal.extent_together-returns-in_err-total-clause-found
extent_together-returns-in_err-total-clause-found t c =
    let fs = forms c.args.ps.now c.args.ns.now in
    let f = extent c.args.most c.args.left fs in
    let row = c.args.row.now in
    let j = c.loop-i.i in
    let lt : 0 < j = c.loop-i-test.true in
    c.from_residual-in_err-total.ensures
    ∙ sym (parts_none c.args.most f row (j - 1)
    (parts_next c.args.most f row (j - 1) j (omega (arith, lt)) (omega (arith, lt, c.loop-i.invariant.below))
    ∙ same_beside c.args.most (sym c.in_ok-here.ensures.found) c.loop-i.invariant.total ∙ sym c.add_extents.ensures ∙ c.in_err-total.was))

pub extent_together-returns-clause-few : goal.extent_together-returns-clause-few
extent_together-returns-clause-few t c =
    let fs = forms c.args.ps.now c.args.ns.now in
    let f = extent c.args.most c.args.left fs in
    let row = c.args.row.now in
    let z : c.loop-i.i ≡ 0 = omega arith in
    parts_few c.args.most c.args.left fs row c.loop-i.total (subst (λ i. together c.args.most f (drop i row) ≡ Some c.loop-i.total) z c.loop-i.invariant.total)
