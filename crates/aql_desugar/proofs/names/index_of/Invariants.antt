use Rattle.std.proofs.Common.{◌≡◌, ℕ, ◌-◌, ◌≤◌, length, take}
use Rattle.aql_desugar_spec.specs.Start.{index_of}
use Rattle.aql_desugar.specs.Names.{binders_of, further_by}
use Rattle.aql_desugar.proofs.names.index_of.Given as goal

abbrev pub invariant-loop-i : goal.invariant-loop-i
invariant-loop-i l = record {
  low : l.i ≤ length l.names;
  same : (base : ℕ) → index_of l.name (binders_of (λ x. x.now) l.names base) ≡ further_by (length l.names - l.i) (index_of l.name (binders_of (λ x. x.now) (take l.i l.names) base));
}

abbrev pub decreases-loop-i : goal.decreases-loop-i
decreases-loop-i l = l.i
