-- What is claimed of encoding and of the array-free form.
pub mod ArrayFreeTypes
pub mod ArrayTurns
pub mod Dimensions
pub mod EncodedSets
pub mod EncodedTypes
pub mod EncodingOrder
pub mod Filled
pub mod FormTurns
pub mod Greatest
pub mod IndexNode
pub mod IndexOrder
pub mod KeptForms
pub mod LiteralNode
pub mod LoopCounts
pub mod Means
pub mod NestTurns
pub mod Nests
pub mod NoArrays
pub mod Paired
pub mod PartTurns
pub mod QuietTerms
pub mod StrictForms
pub mod SubscriptNode
pub mod Tabulated
pub mod TabulationNode
pub mod Tops
pub mod Turns
pub mod TranslatedParts
pub mod TypedForms
pub mod TypedTerms
pub mod Unions
use Rattle.std.specs.Prelude.{◌≡◌, ◌<◌, ◌^◌, List, map}
use Rattle.aql_value.specs.Datum.{Datum}
use Rattle.aql_ty.specs.Types.{Ty, Subst, apply, IsType}
use Rattle.aql_ty.specs.ValueTypes.{HasType, HaveTypes}
use Rattle.nrca_term.specs.Term.{Term, weight_of}
use Rattle.nrca_term.specs.Meaning.{Outcomes, cden}
use Rattle.nrca_term.specs.Typing.{ctyped, instances, OutcomesHave}
use Rattle.nrca_graph.specs.Encoding.{encoding, encode_outcome, encoding_type}
use Rattle.nrca_graph.specs.EncodingOrder.{KeepsOrder}
use Rattle.nrca_graph.specs.ArrayFree.{array_free}
use Rattle.nrca_graph.specs.Kept.{KeepsSums, HasLoops, TurnsWithin}
use Rattle.nrca_graph.specs.NoArrays.{HasNoArrays}

-- two values of one type are in the order of their encodings
abbrev pub EncodingKeepsOrder : Type 0
EncodingKeepsOrder = (T : Ty) → KeepsOrder T

-- an encoded value has each encoded type of the value
abbrev pub EncodingKeepsTypes : Type 0
EncodingKeepsTypes = (T : Ty) (v : Datum) → HasType T v → HasType (encoding_type T) (encoding v)

-- an encoded type is a type of the language
abbrev pub EncodedTypesAreTypes : Type 0
EncodedTypesAreTypes = (T : Ty) → IsType T → IsType (encoding_type T)

-- an instance of a type is encoded as the instance by encoded types
abbrev pub EncodingKeepsInstances : Type 0
EncodingKeepsInstances = (u : Subst) (T : Ty) → encoding_type (apply u T) ≡ apply (λ x. encoding_type (u x)) (encoding_type T)

-- The array-free form of a typed term means the encoded value, over encoded outcomes and variables, and is undefined exactly where
-- the term is. The term weighs less than 2^128: so does every term that fits in memory.
abbrev pub ArrayFreeMeans : Type 0
ArrayFreeMeans = (Ts : List Ty) (V : Outcomes) → OutcomesHave (instances Ts) V → (t : Term) → weight_of t < 2 ^ 128 → (env : List Ty) (vals : List Datum) (T : Ty) →
    HaveTypes env vals → ctyped (instances Ts) env t T → cden (map encode_outcome V) (map encoding vals) (array_free t) ≡ encode_outcome (cden V vals t)

-- an array-free form has no tabulation, subscript, dimensions, index or literal
abbrev pub ArrayFreeHasNone : Type 0
ArrayFreeHasNone = (t : Term) → HasNoArrays (array_free t)

-- each type of a term, encoded, is a type of its array-free form, over the encoded types of positions and variables
abbrev pub ArrayFreeTyped : Type 0
ArrayFreeTyped = (Ts env : List Ty) (t : Term) (T : Ty) → ctyped (instances Ts) env t T →
    ctyped (instances (map encoding_type Ts)) (map encoding_type env) (array_free t) (encoding_type T)

-- the array-free form of a typed term has as many sums as the term
abbrev pub ArrayFreeKeepsSums : Type 0
ArrayFreeKeepsSums = (t : Term) → KeepsSums t (array_free t)

-- it has at least the big unions of the term, and one for each rank of a tabulation
abbrev pub ArrayFreeHasLoops : Type 0
ArrayFreeHasLoops = (t : Term) → HasLoops t (array_free t)

-- The array-free form of a typed term takes, over encoded outcomes and variables, at most the turns of the bound. The term weighs less
-- than 2^128.
abbrev pub ArrayFreeTurns : Type 0
ArrayFreeTurns = (t : Term) → weight_of t < 2 ^ 128 → TurnsWithin t (array_free t)
