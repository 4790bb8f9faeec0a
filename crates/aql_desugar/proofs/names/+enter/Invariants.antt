use Rattle.std.proofs.Common.{◌≡◌, ℕ, length, take, drop}
use Rattle.aql_syntax.specs.View.{pats_of}
use Rattle.aql_desugar_spec.specs.Start.{bind_patterns}
use Rattle.aql_desugar.specs.Names.{binders_of}
use Rattle.aql_desugar.proofs.names.+enter.Given as goal

abbrev pub invariant-enter_all-loop-p : goal.invariant-enter_all-loop-p
invariant-enter_all-loop-p l = record {
  inside : (base : ℕ) → bind_patterns (pats_of (drop l.p-index l.ps)) (binders_of (λ x. x.now) l.names.items base) ≡ bind_patterns (pats_of l.ps) (binders_of (λ x. x.now) l.initial.names.items base);
  around : take (length l.initial.names.items) l.names.items ≡ l.initial.names.items;
}
