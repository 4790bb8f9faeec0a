use Rattle.std.proofs.Common.{◌∙◌, ◌^◌, ◌-◌, min, map, sym, ap}
use Rattle.cdf_header.specs.Header.{var}
use Rattle.cdf_header.proofs.Pitches.{pitches_past}
use Rattle.cdf_header.proofs.places.pitch_in.Goals as goal

pub returns-then-j-gt0 : goal.returns-then-j-gt0
returns-then-j-gt0 c =
    c.row_pitch.ensures ∙ ap (λ x. min x (2 ^ 128 - 1)) (sym (pitches_past c.args.dims.now (map var c.args.vars.now) (var c.args.v.now) c.args.j c.requires c.if-j-gt0.true))
