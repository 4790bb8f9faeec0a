use Rattle.std.proofs.Common.{◌≡◌, ◌+◌, ◌-◌, ◌*◌}
use Rattle.aql_parse_spec.specs.Parsing.{pat_at, pats_at}
use Rattle.aql_parse.specs.Words.{lexemes, behind_of}
use Rattle.aql_parse.proofs.patterns.+past.Given as goal

abbrev pub decreases-past_pattern : goal.decreases-past_pattern
decreases-past_pattern l = 2 * l.depth

abbrev pub decreases-past_patterns : goal.decreases-past_patterns
decreases-past_patterns l = 2 * l.depth + 1

abbrev pub invariant-past_patterns-loop-turn : goal.invariant-past_patterns-loop-turn
invariant-past_patterns-loop-turn l =
    behind_of (pats_at (pat_at l.depth) (l.depth - l._turn) (lexemes l.source l.rest)) ≡ behind_of (pats_at (pat_at l.depth) l.depth (lexemes l.source l.words))
