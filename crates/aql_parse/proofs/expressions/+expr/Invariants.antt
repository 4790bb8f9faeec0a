use Rattle.std.proofs.Common.{◌≡◌, ◌+◌, ◌-◌, ◌*◌}
use Rattle.aql_syntax.specs.View.{tree_of}
use Rattle.aql_parse_spec.specs.Parsing.{parse_at, level_at, chain_rest, turns}
use Rattle.aql_parse.specs.Words.{lexemes}
use Rattle.aql_parse.specs.Constructs.{progress_at}
use Rattle.aql_parse.proofs.expressions.+expr.Given as goal

abbrev pub decreases-parse : goal.decreases-parse
decreases-parse l = 32 * l.depth

abbrev pub decreases-whole : goal.decreases-whole
decreases-whole l = 32 * l.depth + 31

abbrev pub decreases-chain : goal.decreases-chain
decreases-chain l = 32 * l.depth + 3 * l.level + 4

abbrev pub decreases-operators : goal.decreases-operators
decreases-operators l = 32 * l.depth + 3 * l.level + 3

abbrev pub decreases-operator_rest : goal.decreases-operator_rest
decreases-operator_rest l = 32 * l.depth + 3 * l.level + 2

abbrev pub decreases-complete : goal.decreases-complete
decreases-complete l = 32 * l.depth + 1

abbrev pub invariant-operators-loop-turn : goal.invariant-operators-loop-turn
invariant-operators-loop-turn l =
    chain_rest (level_at (parse_at l.depth) l.depth (l.level - 1)) l.level (turns l.level l.depth - l._turn) (tree_of l.left) (lexemes l.source l.rest)
    ≡ chain_rest (level_at (parse_at l.depth) l.depth (l.level - 1)) l.level (turns l.level l.depth) (tree_of l.fn.left) (lexemes l.source l.words)

abbrev pub invariant-complete-loop-turn : goal.invariant-complete-loop-turn
invariant-complete-loop-turn l =
    progress_at (parse_at l.depth) l.depth l.progress (lexemes l.source l.rest)
    ≡ progress_at (parse_at l.depth) l.depth l.fn.progress (lexemes l.source l.words)
