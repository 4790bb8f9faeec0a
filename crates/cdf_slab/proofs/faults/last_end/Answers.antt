use Rattle.std.proofs.Common.{rules, arith, ◌≡◌, ◌+◌, ◌<◌, ◌^◌, min, sym, subst}
use Rattle.cdf_slab.specs.Walk.{steps_of, walk, last_offset, HaveRoom}
use Rattle.cdf_slab.proofs.Lasts.{last_within}
use Rattle.cdf_slab.proofs.faults.last_end.Goals as goal

pub returns-clause-within : goal.returns-clause-within
returns-clause-within c =
    let small : c.args.end < 2 ^ 64 = search rules in
    let e : c.min.result ≡ min (last_offset (steps_of c.args.axes.now) c.args.base + c.args.size) c.args.end = omega (arith, small, c.min.ensures, c.saturating_add-to.ensures, c.from.ensures, c.from-2.ensures, c.last_from-last.ensures) in
    subst (λ n. HaveRoom c.args.size n (walk (steps_of c.args.axes.now) c.args.base)) (sym e) (last_within (steps_of c.args.axes.now) c.args.base c.args.size c.args.end c.requires)
