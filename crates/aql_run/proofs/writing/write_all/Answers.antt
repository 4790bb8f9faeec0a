use Rattle.std.proofs.Common.{arith, ◌∙◌}
use Rattle.std.proofs.lemmas.Grind.{common_steps}
use Rattle.std.proofs.lemmas.Result.{err_from_is_err_and}
use Rattle.aql_run.proofs.LineStreams.{writes_more, writes_part}
use Rattle.aql_run.proofs.writing.write_all.Goals as goal

pub returns-in_err-done-clause-written : goal.returns-in_err-done-clause-written
returns-in_err-done-clause-written g c =
    let p = err_from_is_err_and c.from_residual.result c.from_residual.ensures.1 in
    writes_part (g.O.Sink.holds c.args.output.now) (g.O.Sink.holds c.pieces.output) (g.O.Sink.holds c.write.new.self) c.args.text.now c.pieces.done _ p.0 p.1 (omega (arith, c.pieces-test.true))
    c.pieces.invariant.written c.in_err-done.ensures.bytes

pub pieces-preserved : goal.pieces-preserved
pieces-preserved g c = record {
  written = writes_more (g.O.Sink.holds c.args.output.now) (g.O.Sink.holds c.pieces.output) (g.O.Sink.holds c.write.new.self) c.args.text.now c.pieces.done c.in_ok-done.field-0
      c.pieces.invariant.within c.pieces.invariant.written c.in_ok-done.ensures.bytes;
  within = grind (arith, common_steps, c.in_ok-done.ensures.bound, c.pieces.invariant.within);
  later = omega (arith, c.pieces.invariant.later, c.in_ok-done.ensures.cause.later);
  stays = λ q. c.in_ok-done.ensures.cause.stays q ∙ c.pieces.invariant.stays q;
}
