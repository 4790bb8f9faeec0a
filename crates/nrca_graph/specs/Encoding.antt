-- Values and types without arrays: an array is the pair of its dimensions and its graph, the set of its pairs of an index and a cell.
use Rattle.std.specs.Prelude.{◌≡◌, ℕ, List, [], ◌∷◌, Option, Some}
use Rattle.std.specs.List.{slice_get}
use Rattle.aql_value.specs.Datum as datum
use Rattle.aql_value.specs.Datum.{Datum, tuple, set, array, Data, nil, cons, data_of}
use Rattle.aql_value.specs.Indices.{indices}
use Rattle.aql_value.specs.Operations.{index_value, set_of}
use Rattle.aql_value.specs.Partial.{◌>>=◌}
use Rattle.aql_ty.specs.Types as types
use Rattle.aql_ty.specs.Types.{Ty, Tys, no_type, type, index_type}

-- two values as a tuple
abbrev pub pair : Datum → Datum → Datum
pair v w = tuple (cons v (cons w nil))

-- each index beside its cell
abbrev pub graph : List (List ℕ) → List Datum → List Datum
graph [] cs = []
graph (at ∷ ats) [] = []
graph (at ∷ ats) (c ∷ cs) = pair (index_value at) c ∷ graph ats cs

-- the pair of a cell and the index that stands at a place in row-major order
abbrev pub IsPairAt : List ℕ → (place : ℕ) → (cell made : Datum) → Type 0
IsPairAt ds place cell made = (at : List ℕ) × (slice_get (indices ds) place ≡ Some at) × (made ≡ pair (index_value at) cell)

abbrev mutual
  -- the value without arrays: an array is the pair of its dimensions and its graph, any other value keeps its kind
  pub encoding : Datum → Datum
  encoding (datum.natural n) = datum.natural n
  encoding (datum.truth b) = datum.truth b
  encoding (datum.text s) = datum.text s
  encoding (tuple xs) = tuple (data_of (encodings xs))
  encoding (set xs) = set_of (encodings xs)
  encoding (array ds xs) = pair (index_value ds) (set_of (graph (indices ds) (encodings xs)))

  -- those of some values, one by one
  pub encodings : Data → List Datum
  encodings nil = []
  encodings (cons x xs) = encoding x ∷ encodings xs

-- the encoded outcome
abbrev pub encode_outcome : Option Datum → Option Datum
encode_outcome o = o >>= λ v. Some (encoding v)

-- the type of a tuple of two
abbrev pub pair_type : Ty → Ty → Ty
pair_type S T = types.product (type S (type T no_type))

-- the type of the pairs of dimensions and of a set of pairs of an index and a cell
abbrev pub array_type : (rank : ℕ) → Ty → Ty
array_type rank cell = pair_type (index_type rank) (types.set_of (pair_type (index_type rank) cell))

abbrev mutual
  -- the type of the encoded values of a type
  pub encoding_type : Ty → Ty
  encoding_type types.natural = types.natural
  encoding_type types.truth = types.truth
  encoding_type types.text = types.text
  encoding_type (types.var x) = types.var x
  encoding_type (types.product Ts) = types.product (encoding_types Ts)
  encoding_type (types.set_of T) = types.set_of (encoding_type T)
  encoding_type (types.array_of rank T) = array_type rank (encoding_type T)

  -- those of some types, one by one
  pub encoding_types : Tys → Tys
  encoding_types no_type = no_type
  encoding_types (type T Ts) = type (encoding_type T) (encoding_types Ts)
