use Rattle.std.proofs.Common.{◌≡◌, ◌+◌, ◌-◌, ◌*◌}
use Rattle.aql_syntax.specs.View.{pats_of}
use Rattle.aql_parse_spec.specs.Parsing.{pat_at, pats_at}
use Rattle.aql_parse.specs.Words.{lexemes, with_pats}
use Rattle.aql_parse.proofs.patterns.+pattern.Given as goal

abbrev pub decreases-pattern : goal.decreases-pattern
decreases-pattern l = 2 * l.depth

abbrev pub decreases-patterns : goal.decreases-patterns
decreases-patterns l = 2 * l.depth + 1

abbrev pub invariant-patterns-loop-turn : goal.invariant-patterns-loop-turn
invariant-patterns-loop-turn l =
    with_pats (pats_of l.items.items) (pats_at (pat_at l.depth) (l.depth - l._turn) (lexemes l.source l.rest))
    ≡ pats_at (pat_at l.depth) l.depth (lexemes l.source l.words)
