use Rattle.std.proofs.Common.{◌≡◌, ℕ, length, take, drop}
use Rattle.aql_syntax.specs.View.{axes_in}
use Rattle.aql_desugar_spec.specs.Start.{under_axes}
use Rattle.aql_desugar.specs.Names.{binders_of}
use Rattle.aql_desugar.proofs.queries.enter_binds.Given as goal

abbrev pub invariant-loop-b : goal.invariant-loop-b
invariant-loop-b l = record {
  inside : (base : ℕ) → under_axes (axes_in (drop l.b-index l.binds)) (binders_of (λ x. x.now) l.names.items base) ≡ under_axes (axes_in l.binds) (binders_of (λ x. x.now) l.initial.names.items base);
  around : take (length l.initial.names.items) l.names.items ≡ l.initial.names.items;
}
