use Rattle.std.proofs.Common.{◌≡◌, ◌++◌, length}
use Rattle.aql_lex.specs.Texts.{string_bytes, within}
use Rattle.aql_parse.specs.Words.{spot_of}
use Rattle.aql_parse.proofs.words.unescape.Given as goal

abbrev pub invariant-loop-first : goal.invariant-loop-first
invariant-loop-first l = l.bytes.items ++ string_bytes (spot_of l.spot) l.rest ≡ string_bytes within l.text

abbrev pub decreases-loop-first : goal.decreases-loop-first
decreases-loop-first l = length l.rest
