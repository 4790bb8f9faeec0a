use Rattle.std.proofs.Common.{◌≡◌, ◌+◌, ◌++◌, ◌∷◌, [], take, map, get_or, ap, sym, subst, ◌∙◌, arith}
use Rattle.std.proofs.lemmas.List.{take_more, map_push}
use Rattle.nrca_term.specs.View.{term_of}
use Rattle.nrca_ranges.specs.Exact.{AreExactNumbers}
use Rattle.nrca_ranges.specs.Shapes.{AreNumbersIn}
use Rattle.nrca_ranges.proofs.Lists.{numbers-more, exact-more}
use Rattle.nrca_ranges.proofs.finding.numbers_of.Goals as goal

pub loop-term-preserved : goal.loop-term-preserved
loop-term-preserved c =
    let xs = c.deref-term-items.result.now in
    let n = c.loop-term.term-index in
    let m : map term_of (take (n + 1) xs) ≡ map term_of (take n xs) ++ term_of c.term-item.result ∷ [] =
    ap (map term_of) (take_more xs n c.term-item.result (omega arith))
    ∙ map_push term_of (take n xs) (get_or xs n c.term-item.result)
    ∙ ap (λ x. map term_of (take n xs) ++ term_of x ∷ []) (sym c.term-item.is) in
    let d = c.args.ctx.now in
    let ts = map term_of (take n xs) in
    let t = term_of c.term-item.result in
    let is = c.loop-term.intervals.items in
    subst (λ l. AreNumbersIn d l c.push.new.self.items × AreExactNumbers d l c.push.new.self.items) (sym m)
    (subst (λ l. AreNumbersIn d (ts ++ t ∷ []) l × AreExactNumbers d (ts ++ t ∷ []) l) (sym c.in_ok-push.ensures.items) (
      numbers-more d ts is t c.in_ok-told.told c.loop-term.invariant.0 c.in_ok-told.ensures.holds,
      exact-more d ts is t c.in_ok-told.told c.loop-term.invariant.1 c.in_ok-told.ensures.exact,
    ))
