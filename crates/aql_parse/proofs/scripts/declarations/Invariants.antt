use Rattle.std.proofs.Common.{length}
use Rattle.aql_syntax.specs.View.{decls_of}
use Rattle.aql_syntax.specs.Grammar.{ReadsDecls}
use Rattle.aql_parse.specs.Words.{lexemes}
use Rattle.aql_parse.proofs.scripts.declarations.Given as goal

abbrev pub invariant-loop-rest : goal.invariant-loop-rest
invariant-loop-rest l = ReadsDecls (decls_of l.items.items) (lexemes l.source l.words) (lexemes l.source l.rest)

abbrev pub decreases-loop-rest : goal.decreases-loop-rest
decreases-loop-rest l = length l.rest
