-- The types of encoded values.
use Rattle.std.proofs.Common.{◌≡◌, ℕ, zero, suc, ◌+◌, ◌≤◌, List, [], ◌∷◌, length, map, refl, sym, ap, subst, ◌∙◌, arith}
use Rattle.aql_value.specs.Datum as datum
use Rattle.aql_value.specs.Datum.{Datum, data_of}
use Rattle.aql_value.specs.Indices.{indices}
use Rattle.aql_value.specs.Lists.{Every}
use Rattle.aql_value.specs.Laws.RowMajor.{indices_lengths}
use Rattle.aql_value.specs.Operations.{index_value}
use Rattle.aql_ty.specs.Types as types
use Rattle.aql_ty.specs.Types.{Ty, Tys, no_type, type, truth, text, IsType, AreTypes, Subst, apply, apply_all, count, index_type}
use Rattle.aql_ty.specs.Laws.Operation.{index_value-has}
use Rattle.aql_ty.specs.ValueTypes.{HasType, AllHaveTypes}
use Rattle.aql_ty.specs.Laws.Types.{index_type-apply, natural_types-are}
use Rattle.nrca_graph.specs.Encoding.{pair, graph, encoding, pair_type, array_type, encoding_type, encoding_types}
use Rattle.nrca_graph.specs.Laws.IndexOrder.{indices-ascend}
use Rattle.nrca_graph.specs.Laws.EncodingOrder.{encoding-order, encoding-set, encoding-array, encodings-ascend, encodings-list, graph-ascends}

-- a pair has the type of its two parts
pub pair-typed : (A B : Ty) (v w : Datum) → HasType A v → HasType B w → HasType (pair_type A B) (pair v w)
pair-typed A B v w h k = (v ∷ w ∷ [], refl, (h, (k, tt)))

-- the pairs of indices of a rank and of cells of a type
graph-typed : (k : ℕ) (S : Ty) (ats : List (List ℕ)) (cs : List Datum) → Every (λ at. length at ≡ k) ats → Every (HasType S) cs →
    Every (HasType (pair_type (index_type k) S)) (graph ats cs)
graph-typed k S [] cs n h = tt
graph-typed k S (at ∷ ats) [] n h = tt
graph-typed k S (at ∷ ats) (c ∷ cs) n h =
    (pair-typed (index_type k) S (index_value at) c (subst (λ m. HasType (index_type m) (index_value at)) n.0 (index_value-has at)) h.0, graph-typed k S ats cs n.1 h.1)

-- values that are encoded one by one
each-typed : (T S : Ty) → ((v : Datum) → HasType T v → HasType S (encoding v)) → (vs : List Datum) → Every (HasType T) vs → Every (HasType S) (map encoding vs)
each-typed T S f [] h = tt
each-typed T S f (v ∷ vs) h = (f v h.0, each-typed T S f vs h.1)

-- the encoding of an array of cells whose encodings have a type
array-typed : (S : Ty) (ds : List ℕ) (vs : List Datum) → Every (HasType S) (map encoding vs) → HasType (array_type (length ds) S) (encoding (datum.array ds (data_of vs)))
array-typed S ds vs h =
    subst (HasType (array_type (length ds) S)) (sym (encoding-array ds vs))
    (pair-typed (index_type (length ds)) (types.set_of (pair_type (index_type (length ds)) S)) (index_value ds) (datum.set (data_of (graph (indices ds) (map encoding vs)))) (index_value-has ds) (
      graph (indices ds) (map encoding vs),
      refl,
      graph-ascends (length ds) (indices ds) (map encoding vs) (indices_lengths ds) (indices-ascend ds),
      graph-typed (length ds) S (indices ds) (map encoding vs) (indices_lengths ds) h,
    ))

mutual
  -- an encoded value has the encoded type
  pub encoding-typed : (T : Ty) (v : Datum) → HasType T v → HasType (encoding_type T) (encoding v)
  encoding-typed types.natural v h = (h.0, ap encoding h.1)
  encoding-typed truth v h = (h.0, ap encoding h.1)
  encoding-typed text v h = (h.0, ap encoding h.1)
  encoding-typed (types.var x) v h = absurd h
  encoding-typed (types.product Ts) v h = (map encoding h.0, ap encoding h.1 ∙ ap (λ xs. datum.tuple (data_of xs)) (encodings-list h.0), parts-typed Ts h.0 h.2)
  encoding-typed (types.set_of T) v h = (
    map encoding h.0,
    ap encoding h.1 ∙ encoding-set T (encoding-order T) h.0 h.3 h.2,
    encodings-ascend T (encoding-order T) h.0 h.3 h.2,
    each-typed T (encoding_type T) (encoding-typed T) h.0 h.3,
  )
  encoding-typed (types.array_of rank T) v h =
      subst (HasType (array_type rank (encoding_type T))) (ap encoding (sym h.2))
      (subst (λ k. HasType (array_type k (encoding_type T)) (encoding (datum.array h.0 (data_of h.1)))) h.3
      (array-typed (encoding_type T) h.0 h.1 (each-typed T (encoding_type T) (encoding-typed T) h.1 h.5)))

  parts-typed : (Ts : Tys) (vs : List Datum) → AllHaveTypes Ts vs → AllHaveTypes (encoding_types Ts) (map encoding vs)
  parts-typed no_type [] h = tt
  parts-typed no_type (v ∷ vs) h = absurd h
  parts-typed (type T Ts) [] h = absurd h
  parts-typed (type T Ts) (v ∷ vs) h = (encoding-typed T v h.0, parts-typed Ts vs h.1)

-- the type of an index of rank 1 or more
pub index-is : (k : ℕ) → 1 ≤ k → IsType (index_type k)
index-is zero h = absurd (omega (arith, h))
index-is (suc zero) h = tt
index-is (suc (suc k)) h = (omega arith, (tt, (tt, natural_types-are k)))

-- as many encoded types
count-encoded : (Ts : Tys) → count (encoding_types Ts) ≡ count Ts
count-encoded no_type = refl
count-encoded (type T Ts) = ap (λ n. n + 1) (count-encoded Ts)

mutual
  -- an encoded type is a type of the language
  pub encoding-is_type : (T : Ty) → IsType T → IsType (encoding_type T)
  encoding-is_type types.natural h = tt
  encoding-is_type truth h = tt
  encoding-is_type text h = tt
  encoding-is_type (types.var x) h = tt
  encoding-is_type (types.product Ts) h = (omega (arith, h.0, count-encoded Ts), encoding-are_types Ts h.1)
  encoding-is_type (types.set_of T) h = encoding-is_type T h
  encoding-is_type (types.array_of rank T) h =
      (omega arith, (index-is rank h.0.0, ((omega arith, (index-is rank h.0.0, (encoding-is_type T h.1, tt))), tt)))

  encoding-are_types : (Ts : Tys) → AreTypes Ts → AreTypes (encoding_types Ts)
  encoding-are_types no_type h = tt
  encoding-are_types (type T Ts) h = (encoding-is_type T h.0, encoding-are_types Ts h.1)

mutual
  -- the encoding of an instance is the instance by encoded types
  pub encoding-apply : (u : Subst) (T : Ty) → encoding_type (apply u T) ≡ apply (λ x. encoding_type (u x)) (encoding_type T)
  encoding-apply u types.natural = refl
  encoding-apply u truth = refl
  encoding-apply u text = refl
  encoding-apply u (types.var x) = refl
  encoding-apply u (types.product Ts) = ap types.product (encoding-apply_all u Ts)
  encoding-apply u (types.set_of T) = ap types.set_of (encoding-apply u T)
  encoding-apply u (types.array_of rank T) =
      ap (array_type rank) (encoding-apply u T)
      ∙ ap (λ I. pair_type I (types.set_of (pair_type I (apply (λ x. encoding_type (u x)) (encoding_type T))))) (sym (index_type-apply (λ x. encoding_type (u x)) rank))

  encoding-apply_all : (u : Subst) (Ts : Tys) → encoding_types (apply_all u Ts) ≡ apply_all (λ x. encoding_type (u x)) (encoding_types Ts)
  encoding-apply_all u no_type = refl
  encoding-apply_all u (type T Ts) = ap (λ S. type S (encoding_types (apply_all u Ts))) (encoding-apply u T) ∙ ap (type (apply (λ x. encoding_type (u x)) (encoding_type T))) (encoding-apply_all u Ts)
