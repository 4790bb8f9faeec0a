use Rattle.std.proofs.Common.{arith}
use Rattle.nrca_array.specs.Runs.{run_numbers}
use Rattle.nrca_array.proofs.Spelling.{get_greatest}
use Rattle.nrca_array.proofs.run.Run.first_from.Goals as goal

pub returns-then-most-least : goal.returns-then-most-least
returns-then-most-least c = rw c.in-Some.is (λ k lt. omega (arith, get_greatest (run_numbers c.args.self) k, c.requires.most, c.if-most-least.true))
