use Rattle.std.proofs.Common.{List, length}
use Rattle.aql_syntax.specs.Lexis.{Lexeme}
use Rattle.aql_lex.specs.Texts.{EachSays}
use Rattle.aql_parse.specs.Parsed.{Rest}
use Rattle.aql_parse.proofs.scripts.words_of.Given as goal

abbrev pub invariant-loop-token : goal.invariant-loop-token
invariant-loop-token l = (ls : List Lexeme) → EachSays l.source l.tokens ls → Rest l.source l.left l.words.items ls

abbrev pub decreases-loop-token : goal.decreases-loop-token
decreases-loop-token l = length l.left
