-- The bounds of a piece, by the laws of division.
use Rattle.std.proofs.Common.{◌<◌, min, arith}
use Rattle.nrca_par.specs.Laws.Pieces.{start_last, start_least, start_most}
use Rattle.nrca_par.proofs.pieces.piece.Goals as goal

pub returns-clause-last : goal.returns-clause-last
returns-clause-last c =
    let k : 0 < min c.args.n c.args.workers = omega (arith, c.requires.number) in
    λ e. rw (c.min-count.ensures, e) (start_last c.args.n (min c.args.n c.args.workers) k)

pub returns-clause-least : goal.returns-clause-least
returns-clause-least c =
    let k : 0 < min c.args.n c.args.workers = omega (arith, c.requires.number) in
    rw c.min-count.ensures (start_least c.args.n (min c.args.n c.args.workers) c.args.j k)

pub returns-clause-most : goal.returns-clause-most
returns-clause-most c =
    let k : 0 < min c.args.n c.args.workers = omega (arith, c.requires.number) in
    rw c.min-count.ensures (start_most c.args.n (min c.args.n c.args.workers) c.args.j k)
