-- The lemmas that functions go by.
use Rattle.aql_syntax.specs.Laws.View.{pats_steps}
use Rattle.aql_parse.proofs.Steps.{pat_at_above, pat_at_none, pats_at_turn, pats_at_end, with_no_pats, behind_open, behind_bind, behind_turn, few_ok, few_long, not_one, the_one}

pub ruleset pattern_steps = (pat_at_above, pat_at_none)

pub ruleset patterns_steps = (pats_at_turn, pats_at_end, with_no_pats, pats_steps)

pub ruleset past_steps = (pat_at_above, pat_at_none, behind_open, behind_bind)

pub ruleset pasts_steps = (behind_turn, pats_at_end)

pub ruleset few_steps = (few_ok, few_long)

pub ruleset one_steps = (not_one, the_one)
