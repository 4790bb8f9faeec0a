use Rattle.std.proofs.Common.{length}
use Rattle.aql_places.specs.Places.{IsWithin}
use Rattle.aql_places.proofs.walk.run.Given as goal

abbrev pub invariant-loop-turn : goal.invariant-loop-turn
invariant-loop-turn l = IsWithin (length l.words) l.walk
