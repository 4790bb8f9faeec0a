use Rattle.std.proofs.Common.{◌%◌, refl}
use Rattle.nrca_numbers.proofs.Slots.{none_recent}
use Rattle.nrca_numbers.proofs.recent.Recent.new.Goals as goal

pub returns : goal.returns
returns c n e = none_recent 127 n (n % 128) refl e
