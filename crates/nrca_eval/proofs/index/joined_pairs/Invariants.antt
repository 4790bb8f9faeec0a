use Rattle.std.proofs.Common.{◌≡◌, []}
use Rattle.std.specs.Prelude.{Some, fold}
use Rattle.nrca_forms.specs.Indexing.{pairs_of}
use Rattle.nrca_loops.specs.Runs.{lists_join}
use Rattle.nrca_eval.proofs.index.joined_pairs.Given as goal

abbrev pub invariant-loop-part : goal.invariant-loop-part
invariant-loop-part l =
    fold (λ s d. lists_join s (pairs_of d)) (Some []) l.fn.parts.items ≡ fold (λ s d. lists_join s (pairs_of d)) (pairs_of l.pairs) l.part-iterator.rest.items
