use Rattle.std.proofs.Common.{◌≡◌, ◌+◌, ◌++◌, ◌∷◌, [], length, map, decimal, ap, sym, ◌∙◌, arith}
use Rattle.std.proofs.lemmas.List.{take_all}
use Rattle.nrca_term.specs.Term.{weight_of}
use Rattle.nrca_term.specs.View.{term_of, terms_of}
use Rattle.nrca_term.specs.Laws.Equations.{length-terms_of}
use Rattle.aql_print.specs.CoreText.{bounds_text, core_text}
use Rattle.aql_print.specs.Names.{bound_text}
use Rattle.aql_print.specs.Joined.{join_texts}
use Rattle.aql_print.proofs.Chains.{then, core_at, core_count, length-bounds_text, bound_at, regroup}
use Rattle.aql_print.proofs.CoreEquations.{text-let, text-if, text-sub, text-literal, text-tab}
use Rattle.aql_print.specs.Laws.Prefix.{both_whole}
use Rattle.aql_print.proofs.Weights.{weight_at, weight-tuple, weight-sub, weight-literal, weight-tab}
use Rattle.aql_print.proofs.term.+put_term.Goals as goal

pub put_each-loop-i-preserved : goal.put_each-loop-i-preserved
put_each-loop-i-preserved t c =
    let e = c.deref-term-items.ensures.value in
    both_whole c.args.separator.now (map (core_text c.args.depth) (terms_of c.args.terms.now)) c.loop-i.i _ _ _ _ _ _ c.loop-i.invariant
    (omega (arith, core_count c.args.depth _ c.args.terms.now e, c.loop-i-test.true))
    (core_at c.args.depth _ c.args.terms.now c.loop-i.i c.term-item.result e c.term-item.is) c.in_ok-put_before.ensures.ok c.in_ok-put_term.ensures

pub put_each-returns : goal.put_each-returns
put_each-returns t c =
    c.loop-i.invariant
    ∙ ap (λ l. c.args.out.now.items ++ join_texts c.args.separator.now l)
    (take_all c.loop-i.i (map (core_text c.args.depth) (terms_of c.args.terms.now)) (omega (arith, core_count c.args.depth _ c.args.terms.now c.deref-term-items.ensures.value, c.loop-i-test.false)))

pub put_bounds-loop-i-preserved : goal.put_bounds-loop-i-preserved
put_bounds-loop-i-preserved t c =
    let e = c.deref-bound-items.ensures.value in
    let bs = map (core_text c.args.depth) (terms_of c.args.bounds.now) in
    let many = core_count c.args.depth _ c.args.bounds.now e in
    both_whole (44 ∷ 32 ∷ []) (bounds_text c.args.depth bs) c.loop-i.i _ _ _ _ _ _ c.loop-i.invariant
    (omega (arith, many, length-bounds_text c.args.depth bs, c.loop-i-test.true))
    (bound_at c.args.depth bs c.loop-i.i _ (omega (arith, many, c.loop-i-test.true)) (core_at c.args.depth _ c.args.bounds.now c.loop-i.i c.bound-item.result e c.bound-item.is))
    c.in_ok-put_before.ensures.ok
    (then _ _ _ _ _ (c.in_ok-put_bound.ensures ∙ ap (λ n. c.put_before.new.out.items ++ bound_text n) c.in_ok-deeper.ensures)
    (then _ _ _ (60 ∷ []) _ c.in_ok-put.ensures.ok c.in_ok-put_term.ensures))

pub put_bounds-returns : goal.put_bounds-returns
put_bounds-returns t c =
    let bs = map (core_text c.args.depth) (terms_of c.args.bounds.now) in
    c.loop-i.invariant
    ∙ ap (λ l. c.args.out.now.items ++ join_texts (44 ∷ 32 ∷ []) l)
    (take_all c.loop-i.i (bounds_text c.args.depth bs)
    (omega (arith, length-bounds_text c.args.depth bs, core_count c.args.depth _ c.args.bounds.now c.deref-bound-items.ensures.value, c.loop-i-test.false)))

pub put_if-returns : goal.put_if-returns
put_if-returns t c =
    then _ _ _ (40 ∷ 105 ∷ 102 ∷ 32 ∷ []) _ c.in_ok-put.ensures.ok
    (then _ _ _ _ _ (then _ _ _ _ _ c.in_ok-put_term.ensures
    (then _ _ _ (32 ∷ 116 ∷ 104 ∷ 101 ∷ 110 ∷ 32 ∷ []) _ c.in_ok-put-2.ensures.ok (then _ _ _ _ _ c.in_ok-put_term-2.ensures
    (then _ _ _ (32 ∷ 101 ∷ 108 ∷ 115 ∷ 101 ∷ 32 ∷ []) _ c.in_ok-put-3.ensures.ok c.in_ok-put_term-3.ensures)))) c.in_ok-put-4.ensures.ok)
    ∙ ap (λ l. c.args.out.now.items ++ l) (sym (text-if c.args.depth (term_of c.args.c.now) (term_of c.args.a.now) (term_of c.args.b.now)))

pub put_let-returns : goal.put_let-returns
put_let-returns t c =
    then _ _ _ (40 ∷ 108 ∷ 101 ∷ 116 ∷ 32 ∷ []) _ c.in_ok-put.ensures.ok
    (then _ _ _ _ _ (then _ _ _ (bound_text c.args.depth) _ c.in_ok-put_bound.ensures
    (then _ _ _ (32 ∷ 61 ∷ 32 ∷ []) _ c.in_ok-put-2.ensures.ok (then _ _ _ (core_text c.args.depth (term_of c.args.a.now)) _ c.in_ok-put_term.ensures
    (then _ _ _ (32 ∷ 105 ∷ 110 ∷ 32 ∷ []) (core_text (c.args.depth + 1) (term_of c.args.b.now)) c.in_ok-put-3.ensures.ok
    (c.in_ok-put_term-2.ensures ∙ ap (λ n. c.put-3.new.out.items ++ core_text n (term_of c.args.b.now)) c.in_ok-inner.ensures))))) c.in_ok-put-4.ensures.ok)
    ∙ ap (λ l. c.args.out.now.items ++ l) (sym (text-let c.args.depth (term_of c.args.a.now) (term_of c.args.b.now)))

pub put_loop-returns : goal.put_loop-returns
put_loop-returns t c =
    then _ _ _ c.args.left.now _ c.in_ok-put.ensures.ok
    (then _ _ _ _ _ (then _ _ _ _ _ (c.in_ok-put_term.ensures ∙ ap (λ n. c.put.new.out.items ++ core_text n (term_of c.args.body.now)) c.in_ok-inner.ensures)
    (then _ _ _ (32 ∷ 124 ∷ 32 ∷ []) _ c.in_ok-put-2.ensures.ok (then _ _ _ _ _ c.in_ok-put_bound.ensures
    (then _ _ _ (32 ∷ 105 ∷ 110 ∷ 32 ∷ []) _ c.in_ok-put-3.ensures.ok c.in_ok-put_term-2.ensures)))) c.in_ok-put-4.ensures.ok)

pub put_projection-returns : goal.put_projection-returns
put_projection-returns t c =
    then _ _ _ (35 ∷ []) _ c.in_ok-put.ensures.ok
    (then _ _ _ (decimal c.args.at) _ (c.in_ok-put_number.ensures.ok ∙ ap (λ n. c.put.new.out.items ++ decimal n) c.from.ensures)
    (then _ _ _ (47 ∷ []) _ c.in_ok-put-2.ensures.ok
    (then _ _ _ (decimal c.args.of) _ (c.in_ok-put_number-2.ensures.ok ∙ ap (λ n. c.put-2.new.out.items ++ decimal n) c.from-2.ensures) c.in_ok-put_one.ensures)))

pub put_subscript-returns : goal.put_subscript-returns
put_subscript-returns t c =
    let a = core_text c.args.depth (term_of c.args.array.now) in
    let at = join_texts (44 ∷ 32 ∷ []) (map (core_text c.args.depth) (terms_of c.args.at.now)) in
    then _ _ _ (115 ∷ 117 ∷ 98 ∷ 40 ∷ (a ++ 59 ∷ 32 ∷ [])) (at ++ 41 ∷ []) c.in_ok-put_one.ensures c.in_ok-put_all.ensures
    ∙ ap (λ l. c.args.out.now.items ++ 115 ∷ 117 ∷ 98 ∷ 40 ∷ l) (regroup a (59 ∷ 32 ∷ []) at (41 ∷ []))
    ∙ ap (λ l. c.args.out.now.items ++ l) (sym (text-sub c.args.depth (term_of c.args.array.now) (terms_of c.args.at.now)))

pub put_literal-returns : goal.put_literal-returns
put_literal-returns t c =
    let ds = join_texts (44 ∷ []) (map (core_text c.args.depth) (terms_of c.args.dims.now)) in
    let cs = join_texts (44 ∷ 32 ∷ []) (map (core_text c.args.depth) (terms_of c.args.cells.now)) in
    then _ _ _ (91 ∷ 91 ∷ (ds ++ 59 ∷ 32 ∷ [])) (cs ++ 93 ∷ 93 ∷ []) c.in_ok-put_all.ensures c.in_ok-put_all-2.ensures
    ∙ ap (λ l. c.args.out.now.items ++ 91 ∷ 91 ∷ l) (regroup ds (59 ∷ 32 ∷ []) cs (93 ∷ 93 ∷ []))
    ∙ ap (λ l. c.args.out.now.items ++ l) (sym (text-literal c.args.depth (terms_of c.args.dims.now) (terms_of c.args.cells.now)))

pub put_tabulation-returns : goal.put_tabulation-returns
put_tabulation-returns t c =
    let d = c.args.depth in
    let rank = length (terms_of c.args.bounds.now) in
    let body = core_text (d + rank) (term_of c.args.body.now) in
    let bounds = join_texts (44 ∷ 32 ∷ []) (bounds_text d (map (core_text d) (terms_of c.args.bounds.now))) in
    let deep : c.in_ok-inner.inner ≡ d + rank = omega (arith, c.in_ok-inner.ensures, c.len.ensures, length-terms_of c.args.bounds.now) in
    then _ _ _ (91 ∷ 91 ∷ (body ++ 32 ∷ 124 ∷ 32 ∷ [])) (bounds ++ 93 ∷ 93 ∷ [])
    (c.in_ok-put_one.ensures ∙ ap (λ n. c.args.out.now.items ++ 91 ∷ 91 ∷ (core_text n (term_of c.args.body.now) ++ 32 ∷ 124 ∷ 32 ∷ [])) deep)
    (then _ _ _ bounds (93 ∷ 93 ∷ []) c.in_ok-put_bounds.ensures c.in_ok-put.ensures.ok)
    ∙ ap (λ l. c.args.out.now.items ++ 91 ∷ 91 ∷ l) (regroup body (32 ∷ 124 ∷ 32 ∷ []) bounds (93 ∷ 93 ∷ []))
    ∙ ap (λ l. c.args.out.now.items ++ l) (sym (text-tab d (terms_of c.args.bounds.now) (term_of c.args.body.now)))

pub put_bounds-put_term-requires : goal.put_bounds-put_term-requires
put_bounds-put_term-requires t c =
    (omega (arith, c.decreases, weight_at _ c.args.bounds.now c.loop-i.i c.bound-item.result c.deref-bound-items.ensures.value c.loop-i-test.true c.bound-item.is), tt)

pub put_each-put_term-requires : goal.put_each-put_term-requires
put_each-put_term-requires t c =
    (omega (arith, c.decreases, weight_at _ c.args.terms.now c.loop-i.i c.term-item.result c.deref-term-items.ensures.value c.loop-i-test.true c.term-item.is), tt)

pub put_term-put_all-requires : goal.put_term-put_all-requires
put_term-put_all-requires t c = (omega (arith, c.decreases, weight-tuple _ _ c.in-Tuple.is), tt)

pub put_term-put_tabulation-requires : goal.put_term-put_tabulation-requires
put_term-put_tabulation-requires t c = (omega (arith, c.decreases, weight-tab _ _ _ c.in-Tab.is, ap (λ x. weight_of (term_of x)) c.deref-in-Tab.ensures), tt)

pub put_term-put_subscript-requires : goal.put_term-put_subscript-requires
put_term-put_subscript-requires t c = (omega (arith, c.decreases, weight-sub _ _ _ c.in-Sub.is, ap (λ x. weight_of (term_of x)) c.deref-in-Sub.ensures), tt)

pub put_term-put_literal-requires : goal.put_term-put_literal-requires
put_term-put_literal-requires t c = (omega (arith, c.decreases, weight-literal _ _ _ c.in-Literal.is), tt)
