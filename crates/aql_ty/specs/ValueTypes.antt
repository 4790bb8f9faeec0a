-- Which values have a type.
use Rattle.std.specs.Prelude.{◌≡◌, ℕ, List, [], ◌∷◌, length, Bool}
use Rattle.aql_value.specs.Datum as datum
use Rattle.aql_value.specs.Datum.{Datum, data_of}
use Rattle.aql_value.specs.Canon.{IsAscending}
use Rattle.aql_value.specs.Indices.{product}
use Rattle.aql_value.specs.Lists.{Every}
use Rattle.aql_ty.specs.Types as types
use Rattle.aql_ty.specs.Types.{Ty, Tys, no_type, type, natural, truth, text, tys_of}

abbrev mutual
  -- the value has the type; the empty set has every set type, and an array without cells every array type of its rank
  pub HasType : Ty → Datum → Type 0
  HasType natural v = (n : ℕ) × (v ≡ datum.natural n)
  HasType truth v = (b : Bool) × (v ≡ datum.truth b)
  HasType text v = (s : List ℕ) × (v ≡ datum.text s)
  HasType (types.var x) v = ⊥
  HasType (types.product Ts) v = (vs : List Datum) × (v ≡ datum.tuple (data_of vs)) × AllHaveTypes Ts vs
  HasType (types.set_of T) v = (vs : List Datum) × (v ≡ datum.set (data_of vs)) × IsAscending vs × Every (HasType T) vs
  HasType (types.array_of rank T) v =
      (ds : List ℕ) × (vs : List Datum) × (v ≡ datum.array ds (data_of vs)) × (length ds ≡ rank) × (product ds ≡ length vs) × Every (HasType T) vs

  -- as many values as types, each of its type
  pub AllHaveTypes : Tys → List Datum → Type 0
  AllHaveTypes no_type [] = Unit {0}
  AllHaveTypes no_type (v ∷ vs) = ⊥
  AllHaveTypes (type T Ts) [] = ⊥
  AllHaveTypes (type T Ts) (v ∷ vs) = HasType T v × AllHaveTypes Ts vs

-- the values of a list have the types of a list
abbrev pub HaveTypes : List Ty → List Datum → Type 0
HaveTypes Ts vs = AllHaveTypes (tys_of Ts) vs
