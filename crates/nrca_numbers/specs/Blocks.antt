-- The values of the variables for each member of a block, and what a term is for each.
use Rattle.std.specs.Prelude.{◌≡◌, ℕ, ◌<◌, ◌≤◌, Bool, false, List, [], ◌∷◌, length, Option, Some, slice_index, slice_index_or}
use Rattle.std.specs.List.{slice_get}
use Rattle.std.specs.declared.vec.Vec.{Vec}
use Rattle.std.proofs.Common.{Global}
use Rattle.aql_value.specs.Datum.{Datum, natural, truth}
use Rattle.aql_value.specs.Partial.{each, total}
use Rattle.nrca_array.specs.declared.held.Held.{Held}
use Rattle.nrca_array.specs.Held.{held_datum}
use Rattle.nrca_sets.specs.Pairs.{pair_value}
use Rattle.nrca_term.specs.Meaning.{Outcomes, cden}
use Rattle.nrca_term.specs.Nodes.{single_term, sub_term, tuple_term}
use Rattle.nrca_term.specs.Term.{Term}
use Rattle.nrca_term.specs.Turns.{settle}
use Rattle.nrca_term.specs.View.{term_of, terms_of}
use Rattle.nrca_term.specs.declared.term.Core.{Core}
use Rattle.nrca_term.specs.declared.term.Terms.{Terms}
use Rattle.nrca_loops.specs.Parts.{cell_in, numbers_in}
use Rattle.nrca_loops.specs.Values.{values}
use Rattle.nrca_numbers.specs.Few.{few_set}
use Rattle.nrca_numbers.specs.declared.sets.AtMostOne.{AtMostOne}
use Rattle.nrca_numbers.specs.declared.sets.AtMostOne.TheVariants as at_most
use Rattle.nrca_numbers.specs.declared.columns.Columns.{Columns}
use Rattle.nrca_numbers.specs.declared.columns.Columns.TheVariants.{Outside, Bound', Numbers', Pairs'}

-- the values of the variables for member j, the innermost first
abbrev pub lane : Columns → ℕ → List Datum
lane (Outside env) j = values env.now
lane (Bound' v p rest) j = held_datum v.now ∷ lane rest j
lane (Numbers' ns p rest) j = natural (slice_index ns.now j) ∷ lane rest j
lane (Pairs' ps p rest) j = pair_value (slice_index_or ps.now j (0, 0)) ∷ lane rest j

-- each column has a value for as many members
abbrev pub AreLong : Columns → ℕ → Type 0
AreLong (Outside env) n = Unit {0}
AreLong (Bound' v p rest) n = AreLong rest n
AreLong (Numbers' ns p rest) n = (n ≤ length ns.now) × AreLong rest n
AreLong (Pairs' ps p rest) n = (n ≤ length ps.now) × AreLong rest n

-- the term is worth the value, without turns
abbrev pub IsFree : Outcomes → List Datum → Term → Datum → Type 0
IsFree V vals t v = (cden V vals t ≡ Some v) × (settle V vals t ≡ 0)

-- the term is worth what f makes of each of these elements, one for each of so many members, without turns; d stands for an element past the last
abbrev pub AreWorth : {A : Type 0} → (A → Datum) → A → Outcomes → Columns → Term → ℕ → List A → Type 0
AreWorth f d V cs t count xs = (length xs ≡ count) × ((j : ℕ) → j < count → IsFree V (lane cs j) t (f (slice_index_or xs j d)))

-- the term is worth these numbers
abbrev pub AreNumbers : Outcomes → Columns → Core → ℕ → Vec ℕ Global → Type 0
AreNumbers V cs t count ns = AreWorth natural 0 V cs (term_of t) count ns.items

-- the term is worth these truth values
abbrev pub AreTruths : Outcomes → Columns → Core → ℕ → Vec Bool Global → Type 0
AreTruths V cs t count bs = AreWorth truth false V cs (term_of t) count bs.items

-- the term is worth these sets
abbrev pub AreFew : Outcomes → Columns → Core → ℕ → Vec AtMostOne Global → Type 0
AreFew V cs t count fs = AreWorth few_set at_most.Nothing V cs (term_of t) count fs.items

-- the set of the term is worth these sets
abbrev pub AreSingles : Outcomes → Columns → Core → ℕ → Vec AtMostOne Global → Type 0
AreSingles V cs t count fs = AreWorth few_set at_most.Nothing V cs (single_term (term_of t)) count fs.items

-- the set of the tuple of the terms is worth these sets
abbrev pub AreSinglePairs : Outcomes → Columns → Terms → ℕ → Vec AtMostOne Global → Type 0
AreSinglePairs V cs ts count fs = AreWorth few_set at_most.Nothing V cs (single_term (tuple_term (terms_of ts))) count fs.items

-- the numbers are the cells of the array at the indices that the terms are worth, without turns
abbrev pub AreCellsOf : Outcomes → Columns → Held → Terms → ℕ → Vec ℕ Global → Type 0
AreCellsOf V cs h ts count ns =
    (length ns.items ≡ count)
    × ((j : ℕ) → j < count → (cell_in (held_datum h) (numbers_in (each (cden V (lane cs j)) (terms_of ts))) ≡ Some (natural (slice_index ns.items j))) × (total (settle V (lane cs j)) (terms_of ts) ≡ 0))

-- the numbers that a variable is for the members
abbrev pub AreVariable : Columns → ℕ → ℕ → List ℕ → Type 0
AreVariable cs at count ns = (length ns ≡ count) × ((j : ℕ) → j < count → slice_get (lane cs j) at ≡ Some (natural (slice_index ns j)))

-- each is the number that the value is
abbrev pub AreAll : Option Datum → ℕ → List ℕ → Type 0
AreAll o count ns = (length ns ≡ count) × ((j : ℕ) → j < count → o ≡ Some (natural (slice_index ns j)))

-- the variable holds the value for every member
abbrev pub IsLentVariable : Columns → ℕ → Held → Type 0
IsLentVariable cs at h = (j : ℕ) → slice_get (lane cs j) at ≡ Some (held_datum h)

-- the term is worth the value for every member, without turns
abbrev pub IsLent : Outcomes → Columns → Core → Held → Type 0
IsLent V cs t h = (j : ℕ) → IsFree V (lane cs j) (term_of t) (held_datum h)

-- the variable is these pairs, one for each member
abbrev pub ArePairsAt : Columns → ℕ → List (ℕ × ℕ) → Type 0
ArePairsAt cs at ps = (j : ℕ) → slice_get (lane cs j) at ≡ Some (pair_value (slice_index_or ps j (0, 0)))

-- the term is worth these pairs, one for each member, without turns
abbrev pub ArePairs : Columns → Core → List (ℕ × ℕ) → Type 0
ArePairs cs t ps = (V : Outcomes) (j : ℕ) → IsFree V (lane cs j) (term_of t) (pair_value (slice_index_or ps j (0, 0)))
