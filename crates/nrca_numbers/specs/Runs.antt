-- What the body of a loop is at a run of its members, and that of a tabulation at a run of its cells.
use Rattle.std.specs.Prelude.{◌≡◌, ℕ, ◌+◌, List, [], ◌∷◌, ◌++◌, map, Option, Some}
use Rattle.std.specs.Option.{option_map}
use Rattle.aql_value.specs.Canon.{canon}
use Rattle.std.specs.List.{slice_get, slice_range}
use Rattle.aql_value.specs.Datum.{Datum, natural}
use Rattle.aql_value.specs.Indices.{indices}
use Rattle.aql_value.specs.Operations.{push_index}
use Rattle.aql_value.specs.Partial.{each, total}
use Rattle.nrca_term.specs.Meaning.{Outcomes, cden}
use Rattle.nrca_term.specs.Turns.{settle}
use Rattle.nrca_term.specs.View.{term_of}
use Rattle.nrca_term.specs.declared.term.Core.{Core}
use Rattle.nrca_loops.specs.Runs.{member_list, sets_join, union_value}
use Rattle.nrca_loops.specs.Values.{values}
use Rattle.nrca_loops.specs.declared.env.Env.{Env}
use Rattle.nrca_loops.specs.declared.members.Members.{Members}

-- the body is worth what f makes of the elements at these members, without turns
abbrev pub AreOver : {A : Type 0} → (A → Datum) → Outcomes → Env → Core → List Datum → List A → Type 0
AreOver f V env body ms xs = (each (λ m. cden V (m ∷ values env) (term_of body)) ms ≡ Some (map f xs)) × (total (λ m. settle V (m ∷ values env) (term_of body)) ms ≡ 0)

-- the same at the members a up to b of a loop
abbrev pub AreRun : {A : Type 0} → (A → Datum) → Outcomes → Env → Core → Members → ℕ → ℕ → List A → Type 0
AreRun f V env body ms a b xs = AreOver f V env body (slice_range (member_list ms) a b) xs

-- the body is worth the numbers at these indices, without turns
abbrev pub AreAt : Outcomes → Env → Core → List (List ℕ) → List ℕ → Type 0
AreAt V env body ats ns = (each (λ at. cden V (push_index at [] ++ values env) (term_of body)) ats ≡ Some (map natural ns)) × (total (λ at. settle V (push_index at [] ++ values env) (term_of body)) ats ≡ 0)

-- the same at the indices a up to b below the dimensions
abbrev pub AreCells : Outcomes → Env → Core → List ℕ → ℕ → ℕ → List ℕ → Type 0
AreCells V env body ds a b ns = AreAt V env body (slice_range (indices ds) a b) ns

-- the same at the indices of a row that have these last numbers behind the others
abbrev pub AreRowOver : Outcomes → Env → Core → List ℕ → List ℕ → List ℕ → Type 0
AreRowOver V env body outer column ns = AreAt V env body (map (λ i. outer ++ i ∷ []) column) ns

-- the same at so many indices from the p-th on, which this index is
abbrev pub AreRow : Outcomes → Env → Core → List ℕ → List ℕ → ℕ → List ℕ → Type 0
AreRow V env body ds at count ns = (p : ℕ) → slice_get (indices ds) p ≡ Some at → AreAt V env body (slice_range (indices ds) p (p + count)) ns

-- values, each perhaps several times, whose set has the members of these sets more, where both are there
abbrev pub AddsSets : Option (List Datum) → List Datum → Option (List Datum) → Type 0
AddsSets members sets r = option_map canon r ≡ sets_join (option_map canon members) (union_value (Some sets))
