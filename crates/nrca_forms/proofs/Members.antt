-- The index and the value that a member is a pair of.
use Rattle.std.proofs.Common.{◌≡◌, ℕ, [], ◌∷◌, List, Option, Some, None, ap}
use Rattle.std.specs.Prelude.{slice_get}
use Rattle.aql_value.specs.Datum.{Datum, natural}
use Rattle.aql_value.specs.Operations.{as_indexed}
use Rattle.aql_value.specs.Partial.{◌>>=◌}
use Rattle.nrca_sets.specs.Pairs.{as_numbers, pair_at}
use Rattle.nrca_sets.specs.Laws.Pairs.{as_numbers_is}
use Rattle.nrca_forms.specs.Indexing.{indexed_at}

pub member_there : (rank : ℕ) (ms : List Datum) (i : ℕ) (m : Datum) → slice_get ms i ≡ Some m → indexed_at rank ms i ≡ as_indexed rank m
member_there rank ms i m e = ap (λ o. o >>= as_indexed rank) e

pub two_there : (ms : List Datum) (i : ℕ) (p : ℕ × ℕ) → pair_at ms i ≡ Some p → indexed_at 1 ms i ≡ Some (p.0 ∷ [], natural p.1)
two_there ms i p e = go (slice_get ms i) e
  where
    go : (o : Option Datum) → (o >>= as_numbers) ≡ Some p → (o >>= as_indexed 1) ≡ Some (p.0 ∷ [], natural p.1)
    go None e = cc
    go (Some v) e = ap (as_indexed 1) (as_numbers_is v p e)

pub ruleset members = (member_there, two_there)
