-- The answers of the pieces of a loop, taken together.
use Rattle.std.specs.Prelude.{◌≡◌, ℕ, List, [], Option, Some, Result, MatchResult, fold}
use Rattle.std.specs.declared.vec.Vec.{Vec}
use Rattle.std.proofs.Common.{Global}
use Rattle.aql_value.specs.Datum.{Datum}
use Rattle.nrca_par.specs.declared.fault.EvalFault.{EvalFault}
use Rattle.nrca_par.specs.declared.fault.EvalFault.TheVariants.{Memory}
use Rattle.nrca_forms.specs.declared.index.Indexed.{Indexed}
use Rattle.nrca_forms.specs.Indexing.{pairs_of, pairs_run}
use Rattle.nrca_loops.specs.Runs.{lists_join}

-- the pairs of the pieces, in their order
abbrev pub gathered_pairs : List (Option (Vec Indexed Global)) → Option (List (List ℕ × Datum))
gathered_pairs parts = fold (λ s d. lists_join s (pairs_of d)) (Some []) parts

-- the pairs that the members a up to b are; the only fault is want of memory
abbrev pub ReadsPairs : (rank : ℕ) → List Datum → ℕ → ℕ → Result (Option (Vec Indexed Global)) EvalFault → Type 0
ReadsPairs rank ms a b r = MatchResult r (λ ps. pairs_of ps ≡ pairs_run rank ms a b) (λ e. e ≡ Memory)
