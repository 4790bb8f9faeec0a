use Rattle.std.proofs.Common.{◌≡◌, ◌-◌, ℕ, length, take}
use Rattle.aql_desugar_spec.specs.Start.{under}
use Rattle.aql_desugar.specs.Names.{binders_of}
use Rattle.aql_desugar.proofs.arrays.hide.Given as goal

abbrev pub invariant-loop-i : goal.invariant-loop-i
invariant-loop-i l = record {
  inside : (base : ℕ) → under (l.n - l.i) (binders_of (λ x. x.now) l.names.items base) ≡ under l.n (binders_of (λ x. x.now) l.initial.names.items base);
  around : take (length l.initial.names.items) l.names.items ≡ l.initial.names.items;
}
