use Rattle.std.proofs.Common.{rules, arith, ◌<◌, ◌^◌}
use Rattle.cdf_slab.specs.Walk.{steps_of}
use Rattle.cdf_slab.proofs.Lasts.{uncut_last}
use Rattle.cdf_slab.proofs.faults.cut_from.Goals as goal

pub returns-then-to-from : goal.returns-then-to-from
returns-then-to-from c =
    let small : c.args.end < 2 ^ 64 = search rules in
    uncut_last (steps_of c.args.axes.now) c.args.base c.args.size c.args.end c.last_from-last.result c.saturating_add-to.result c.last_from-last.ensures
    (omega (arith, c.saturating_add-to.ensures, c.from.ensures)) (omega (arith, c.if-to-from.true, c.from-2.ensures)) small
