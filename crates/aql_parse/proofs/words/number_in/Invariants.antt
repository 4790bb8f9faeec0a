use Rattle.std.proofs.Common.{◌≡◌, ◌<◌, ◌^◌, length}
use Rattle.aql_lex.specs.Texts.{digits_value}
use Rattle.aql_parse.proofs.words.number_in.Given as goal

abbrev pub invariant-loop-first : goal.invariant-loop-first
invariant-loop-first l = digits_value 0 l.text < 2 ^ 128 → digits_value l.value l.rest ≡ digits_value 0 l.text

abbrev pub decreases-loop-first : goal.decreases-loop-first
decreases-loop-first l = length l.rest
