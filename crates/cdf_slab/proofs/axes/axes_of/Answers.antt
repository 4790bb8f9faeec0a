use Rattle.std.proofs.Common.{refl, ◌∙◌}
use Rattle.cdf_header.specs.Places.{variable_at, pitches}
use Rattle.cdf_slab.specs.Walk.{saturate_all}
use Rattle.cdf_slab.proofs.Stepping.{axis_more, steps_all, length-pitches, length-capped}
use Rattle.cdf_slab.proofs.axes.axes_of.Goals as goal

pub axes-preserved : goal.axes-preserved
axes-preserved c =
    let v = variable_at c.args.header.now c.args.v in
    axis_more _ _ _ c.args.start.now c.args.count.now c.args.stride.now (pitches c.args.header.now.dims c.args.header.now.vars v) c.axes.j 0 0 0 c.in_ok-push.ensures.items c.axes.invariant refl refl refl c.pitch.ensures c.axes-test.true c.requires.counts c.requires.strides
    (length-pitches c.args.header.now.dims c.args.header.now.vars v ∙ c.requires.rank)

pub returns : goal.returns
returns c =
    let v = variable_at c.args.header.now c.args.v in
    let ws = pitches c.args.header.now.dims c.args.header.now.vars v in
    c.axes.invariant
    ∙ steps_all c.args.start.now c.args.count.now c.args.stride.now (saturate_all ws) c.axes.j c.axes-test.false c.requires.counts c.requires.strides
    (length-capped ws ∙ length-pitches c.args.header.now.dims c.args.header.now.vars v ∙ c.requires.rank)
