-- Tuples of two terms that are numbers, and no members more.
use Rattle.std.proofs.Common.{◌≡◌, ℕ, List, [], ◌∷◌, ◌++◌, Some, ap, sym, ◌∙◌, arith}
use Rattle.std.proofs.lemmas.List.{append-nil}
use Rattle.aql_value.specs.Canon.{canon}
use Rattle.aql_value.specs.Datum.{Datum, natural}
use Rattle.aql_value.specs.Laws.Set.{canon_append_left}
use Rattle.aql_value.specs.Partial.{◌>>=◌, each, total}
use Rattle.aql_value.specs.Strict.{Strict, strict_value}
use Rattle.nrca_sets.specs.Pairs.{pair_value}
use Rattle.nrca_term.specs.Laws.Variants.{cden-strict, settle-strict}
use Rattle.nrca_term.specs.Meaning.{Outcomes, cden}
use Rattle.nrca_term.specs.Nodes.{tuple_term}
use Rattle.nrca_term.specs.Term.{Term}
use Rattle.nrca_term.specs.Turns.{settle}

-- a tuple of two numbers
pub pair_worth : (V : Outcomes) (vals : List Datum) (ts : List Term) (m n : ℕ) → each (cden V vals) ts ≡ Some (natural m ∷ natural n ∷ []) → cden V vals (tuple_term ts) ≡ Some (pair_value (m, n))
pair_worth V vals ts m n e = cden-strict V vals Strict.tuple ts ∙ ap (λ o. o >>= strict_value Strict.tuple) e

-- a tuple takes the turns of its parts
pub pair_free : (V : Outcomes) (vals : List Datum) (ts : List Term) → settle V vals (tuple_term ts) ≡ total (settle V vals) ts
pair_free V vals ts = omega (arith, settle-strict V vals Strict.tuple ts)

-- no members more
pub no_more : (xs : List Datum) → canon xs ≡ canon (canon xs ++ [])
no_more xs = sym (canon_append_left xs [] ∙ ap canon (append-nil xs))
