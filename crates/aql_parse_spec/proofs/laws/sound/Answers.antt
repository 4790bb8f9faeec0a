use Rattle.aql_parse_spec.specs.Laws.PatternSound.{pat_at_sound}
use Rattle.aql_parse_spec.specs.Laws.Sound.{parse_at_sound}
use Rattle.aql_parse_spec.specs.Laws.Scripts.{decl_sound}
use Rattle.aql_parse_spec.proofs.laws.sound.Goals as goal

pub returns-clause-patterns : goal.returns-clause-patterns
returns-clause-patterns c = pat_at_sound

pub returns-clause-expressions : goal.returns-clause-expressions
returns-clause-expressions c = λ n. let p = parse_at_sound n in p.wholes

pub returns-clause-declarations : goal.returns-clause-declarations
returns-clause-declarations c = decl_sound
