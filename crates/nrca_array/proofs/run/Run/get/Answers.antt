use Rattle.nrca_array.proofs.RunsWritten.{run_read}
use Rattle.nrca_array.proofs.run.Run.get.Goals as goal

pub returns : goal.returns
returns c = run_read c.args.self.size c.args.self.step c.args.self.count c.args.self.bytes.now c.args.at _ c.requires.within c.first_big.ensures
