use Rattle.std.proofs.Common.{arith}
use Rattle.std.proofs.lemmas.Result.{err_from_is_err_and}
use Rattle.aql_run.proofs.Streams.{fails_after}
use Rattle.aql_run.proofs.reading.read_script.Goals as goal

pub returns-in_err-read_piece-clause-fails : goal.returns-in_err-read_piece-clause-fails
returns-in_err-read_piece-clause-fails g c =
    let p = err_from_is_err_and c.from_residual.result c.from_residual.ensures.1 in
    rw (p.1, p.2) (fails_after (g.S.Source.left c.args.input.now) (g.S.Source.left c.pieces.input) (g.S.Source.left c.read_piece.new.input) c.pieces.script.items _
    c.pieces.invariant.taken (omega (arith, c.pieces-test.true, c.len.ensures)) c.in_err-read_piece.ensures.fails)
