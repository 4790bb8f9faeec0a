use Rattle.std.proofs.Common.{◌≡◌, take}
use Rattle.nrca_ranges.specs.Context.{facts_in}
use Rattle.nrca_ranges.proofs.context.copy_facts.Given as goal

abbrev pub invariant-loop-fact : goal.invariant-loop-fact
invariant-loop-fact l = facts_in l.copied.items ≡ facts_in (take l.fact-index l.facts)
