use Rattle.std.proofs.Common.{◌≡◌, take}
use Rattle.cdf_header.specs.Places.{variable_at, pitches}
use Rattle.cdf_slab.specs.Walk.{steps_of, steps, saturate_all}
use Rattle.cdf_slab.proofs.axes.axes_of.Given as goal

abbrev pub invariant-axes : goal.invariant-axes
invariant-axes l = steps_of l.axes.items
    ≡ steps (take l.j l.start) (take l.j l.count) (take l.j l.stride) (take l.j (saturate_all (pitches l.header.dims l.header.vars (variable_at l.header l.v))))
