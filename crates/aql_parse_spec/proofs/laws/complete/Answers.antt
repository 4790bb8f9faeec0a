use Rattle.aql_parse_spec.specs.Laws.PatternComplete.{pat_complete}
use Rattle.aql_parse_spec.specs.Laws.Complete.{complete}
use Rattle.aql_parse_spec.specs.Laws.Scripts.{decl_complete}
use Rattle.aql_parse_spec.proofs.laws.complete.Goals as goal

pub returns-clause-patterns : goal.returns-clause-patterns
returns-clause-patterns c = λ n s r p d. pat_complete d n

pub returns-clause-expressions : goal.returns-clause-expressions
returns-clause-expressions c = λ n s r e d. complete d n

pub returns-clause-declarations : goal.returns-clause-declarations
returns-clause-declarations c = λ n s r x d. decl_complete d n
