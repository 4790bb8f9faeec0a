use Rattle.std.proofs.Common.{◌≡◌, ℕ, length, take, drop}
use Rattle.aql_syntax.specs.View.{pats_of}
use Rattle.aql_desugar_spec.specs.Start.{bound_axes}
use Rattle.aql_desugar.specs.Names.{binders_of}
use Rattle.aql_desugar.proofs.arrays.enter_axes.Given as goal

abbrev pub invariant-loop-p : goal.invariant-loop-p
invariant-loop-p l = record {
  inside : (base : ℕ) → bound_axes (pats_of (drop l.p-index l.ps)) (binders_of (λ x. x.now) l.names.items base) ≡ bound_axes (pats_of l.ps) (binders_of (λ x. x.now) l.initial.names.items base);
  around : take (length l.initial.names.items) l.names.items ≡ l.initial.names.items;
}
