use Rattle.std.proofs.Common.{◌≡◌, ◌+◌, ap, sym, ◌∙◌, arith}
use Rattle.nrca_sets.specs.Runs.{count_below, run_starts}
use Rattle.nrca_sets.specs.Laws.Runs.{starts_more, starts_next, count_rises}
use Rattle.nrca_sets.proofs.runs.starts.Goals as goal

pub loop-i-preserved : goal.loop-i-preserved
loop-i-preserved c = (
  starts_next _ c.loop-i.i _ _ _ c.loop-i.invariant.0 c.skip-at.ensures c.in_ok-push.ensures.items,
  omega (arith, c.skip-at.ensures, count_rises c.loop-i.i (c.loop-i.i + 1) c.args.pairs.now (omega arith)),
)

pub returns : goal.returns
returns c =
    let e : c.loop-i.i ≡ c.args.count = omega (arith, c.loop-i-test.false, c.loop-i.auto.i-end) in
    sym (starts_more c.args.pairs.now c.loop-i.i _ _ _ c.loop-i.invariant.0 (c.skip.ensures ∙ ap (λ n. count_below n c.args.pairs.now) (sym e)) c.in_ok-push-2.ensures.items)
    ∙ ap (λ n. run_starts n c.args.pairs.now) e
