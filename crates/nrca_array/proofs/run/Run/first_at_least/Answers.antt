use Rattle.std.proofs.Common.{arith}
use Rattle.nrca_array.specs.Laws.Runs.{length-run}
use Rattle.nrca_array.proofs.run.Run.first_at_least.Goals as goal

pub returns : goal.returns
returns c = λ k lt. c.loop-k.invariant k (omega (arith, lt, length-run c.args.self.size c.args.self.step c.args.self.count c.args.self.bytes.now))
