use Rattle.std.proofs.Common.{◌≡◌, ◌+◌, length}
use Rattle.aql_places.proofs.word.words_of.Given as goal

abbrev pub invariant-loop-token : goal.invariant-loop-token
invariant-loop-token l = length l.words.items + length l.left ≡ length l.tokens

abbrev pub decreases-loop-token : goal.decreases-loop-token
decreases-loop-token l = length l.left
