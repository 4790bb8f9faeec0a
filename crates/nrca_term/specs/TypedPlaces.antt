-- Types at a place, and types that a replacement at a place keeps.
use Rattle.std.specs.Prelude.{ℕ, List}
use Rattle.aql_value.specs.Datum.{Datum}
use Rattle.aql_value.specs.Lists.{Every}
use Rattle.aql_ty.specs.Types.{Ty}
use Rattle.nrca_term.specs.Term.{Term}
use Rattle.aql_ty.specs.ValueTypes.{HaveTypes}
use Rattle.nrca_term.specs.Typing.{ctyped, OutcomesHave, instances}
use Rattle.nrca_term.specs.Meaning.{Outcomes}
use Rattle.nrca_term.specs.Places.{reach}

-- a typed place: its types, and that the values that come there have them
pub record TypedPlace (G : ℕ → Ty → Type 0) (env : List Ty) (t : Term) (path : List ℕ) (s : Term) : Type 0 where
  pub around : List Ty
  pub type : Ty
  pub typed : ctyped G around s type
  pub values : (V : Outcomes) (vals : List Datum) → OutcomesHave G V → HaveTypes env vals → Every (HaveTypes around) (reach V vals t path)

-- every type of one term is a type of the other
abbrev pub Keeps : (ℕ → Ty → Type 0) → Term → Term → Type 0
Keeps G s u = (env : List Ty) (T : Ty) → ctyped G env s T → ctyped G env u T

-- the second term has each type of the first, whatever types are given for the positions
unfoldable pub KeepsTypes : Term → Term → Type 0
KeepsTypes t u = (given : List Ty) → Keeps (instances given) t u
