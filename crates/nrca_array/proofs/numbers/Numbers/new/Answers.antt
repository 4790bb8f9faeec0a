use Rattle.nrca_array.proofs.Spelling.{spelled_none}
use Rattle.nrca_array.proofs.numbers.Numbers.new.Goals as goal

pub invariant_of-result : goal.invariant_of-result
invariant_of-result c = spelled_none _ c.new.ensures.items
