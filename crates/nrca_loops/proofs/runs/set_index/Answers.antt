use Rattle.std.proofs.Common.{◌-◌, ◌+◌, ◌%◌, length, get_or, arith}
use Rattle.std.proofs.lemmas.List.{length-set}
use Rattle.nrca_loops.proofs.Walked.{dimension_some, reached_next, reached_all}
use Rattle.nrca_loops.proofs.runs.set_index.Goals as goal

pub nonzero_rem-at : goal.nonzero_rem-at
nonzero_rem-at c = dimension_some c.args.dims.now (length c.args.dims.now - 1 - c.loop-k.k) c.args.place (omega arith) c.requires.within

pub nonzero_div-rest : goal.nonzero_div-rest
nonzero_div-rest c = dimension_some c.args.dims.now (length c.args.dims.now - 1 - c.loop-k.k) c.args.place (omega arith) c.requires.within

pub loop-k-preserved : goal.loop-k-preserved
loop-k-preserved c =
    let j = length c.args.dims.now - 1 - c.loop-k.k in
    let inv = c.loop-k.invariant in (
      omega (arith, length-set c.loop-k.at j (c.loop-k.rest % get_or c.args.dims.now j 0), inv.0),
      reached_next c.args.dims.now c.loop-k.at j (length c.args.dims.now - c.loop-k.k) (length c.args.dims.now - (c.loop-k.k + 1)) c.args.place c.loop-k.rest (omega arith) (omega arith) (omega arith) inv.0
          (dimension_some c.args.dims.now j c.args.place (omega arith) c.requires.within) inv.1,
    )

pub returns : goal.returns
returns c = reached_all c.args.dims.now c.loop-k.at (length c.args.dims.now - c.loop-k.k) c.args.place c.loop-k.rest (omega arith) c.requires.within c.loop-k.invariant.1
