use Rattle.std.proofs.Common.{◌≡◌, ◌+◌, suc, ◌++◌, ◌∷◌, [], sym, ap, ◌∙◌, arith}
use Rattle.aql_value.specs.Lists.{below}
use Rattle.aql_value.specs.Laws.Lists.{below-last}
use Rattle.nrca_sets.proofs.set.numbers_below.Goals as goal

pub loop-i-preserved : goal.loop-i-preserved
loop-i-preserved c =
    let i = c.loop-i.i in
    let e : i + 1 ≡ suc i = omega arith in
    c.in_ok-push.ensures.items ∙ ap (λ l. l ++ i ∷ []) c.loop-i.invariant ∙ sym (below-last i) ∙ ap below (sym e)
