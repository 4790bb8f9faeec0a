-- Sets of at most one number or pair of numbers.
use Rattle.std.specs.Prelude.{◌≡◌, ℕ, List, [], ◌∷◌, Option, Some}
use Rattle.std.specs.Option.{option_map}
use Rattle.aql_value.specs.Canon.{canon}
use Rattle.aql_value.specs.Datum.{Datum, natural, set, data_of}
use Rattle.nrca_term.specs.declared.term.Core.{Core}
use Rattle.nrca_term.specs.Meaning.{Outcomes, cden}
use Rattle.nrca_term.specs.View.{term_of, terms_of}
use Rattle.nrca_term.specs.declared.term.Terms.{Terms}
use Rattle.nrca_loops.specs.declared.env.Env.{Env}
use Rattle.nrca_loops.specs.Runs.{sets_join}
use Rattle.nrca_loops.specs.Values.{values}
use Rattle.aql_value.specs.Partial.{each}
use Rattle.nrca_sets.specs.Pairs.{pair_value}
use Rattle.nrca_numbers.specs.declared.sets.Small.{Small}
use Rattle.nrca_numbers.specs.declared.sets.Small.TheVariants as small
use Rattle.nrca_numbers.specs.declared.sets.AtMostOne.{AtMostOne}
use Rattle.nrca_numbers.specs.declared.sets.AtMostOne.TheVariants as at_most

-- the number or the pair
abbrev pub small_datum : Small → Datum
small_datum (small.Number n) = natural n
small_datum (small.Pair m n) = pair_value (m, n)

-- the term is worth it
abbrev pub IsSmall : Outcomes → Env → Core → Small → Type 0
IsSmall V env t s = cden V (values env) (term_of t) ≡ Some (small_datum s)

-- the terms are worth two numbers
abbrev pub AreTwo : Outcomes → Env → Terms → ℕ × ℕ → Type 0
AreTwo V env ts p = each (cden V (values env)) (terms_of ts) ≡ Some (natural p.0 ∷ natural p.1 ∷ [])

-- the members of such a set
abbrev pub few_members : AtMostOne → List Datum
few_members at_most.Nothing = []
few_members (at_most.One s) = small_datum s ∷ []

-- the set
abbrev pub few_set : AtMostOne → Datum
few_set f = set (data_of (few_members f))

-- the term is worth the set
abbrev pub IsFew : Outcomes → Env → Core → AtMostOne → Type 0
IsFew V env t f = cden V (values env) (term_of t) ≡ Some (few_set f)

-- values, each perhaps several times, whose set has the members of one set more, where both are there
abbrev pub AddsSet : Option (List Datum) → Option (List Datum) → Option (List Datum) → Type 0
AddsSet members more r = option_map canon r ≡ sets_join (option_map canon members) more
