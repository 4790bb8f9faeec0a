use Rattle.std.proofs.Common.{◌≡◌, ◌++◌, map}
use Rattle.std.specs.Prelude.{Ok}
use Rattle.nrca_par.proofs.pieces.gather.Given as goal

abbrev pub invariant-loop-answer : goal.invariant-loop-answer
invariant-loop-answer g l = l.fn.answers.items ≡ map Ok l.all.items ++ l.answer-iterator.rest.items
