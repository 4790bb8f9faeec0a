-- The lemmas that the recursion goes by.
use Rattle.aql_parse.proofs.CycleSteps.{parse_at_none, parse_at_whole, parse_at_level, level_at_none, level_at_above, chain_rest_turn, chain_rest_end}
use Rattle.aql_parse.proofs.Branches.{level_at_five, chain_joined}

pub ruleset parse_steps = (parse_at_none, parse_at_whole, parse_at_level)

pub ruleset level_steps = (level_at_none, level_at_five, level_at_above)

pub ruleset loop_operators = (chain_rest_turn, chain_rest_end, chain_joined)
