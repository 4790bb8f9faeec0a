-- What follows from the definitions of `EncodingOrder`.
use Rattle.std.proofs.Common.{◌≡◌, ℕ, suc, List, [], ◌∷◌, length, map, refl, sym, ap, ◌∙◌, arith}
use Rattle.std.specs.declared.cmp.Ordering.{Ordering}
use Rattle.std.specs.declared.cmp.Ordering.TheVariants.{Less, Equal, Greater}
use Rattle.std.specs.Ordering.{nat_cmp, ordering_then}
use Rattle.std.specs.Cmp.{tied_itself}
use Rattle.std.specs.Cmp.Lexicographic.{slice_cmp}
use Rattle.std.specs.List.Sorted.{IsStrictlySortedBy}
use Rattle.aql_value.specs.Canon.{IsAscending}
use Rattle.aql_value.specs.Laws.Canon.{canon_ascending}
use Rattle.aql_value.specs.Datum as datum
use Rattle.aql_value.specs.Datum.{Datum, natural, tuple, set, array, data_of}
use Rattle.aql_value.specs.Indices.{indices, product}
use Rattle.aql_value.specs.Laws.Indices.{length_indices}
use Rattle.aql_value.specs.Lists.{Every}
use Rattle.aql_value.specs.Laws.Lists.{Every-impl, Every-join, Every-onto}
use Rattle.aql_value.specs.Operations.{index_value, set_of}
use Rattle.aql_value.specs.Order.{datum_cmp, data_cmp}
use Rattle.aql_value.specs.Laws.Order.{datum_cmp-total, then_equal}
use Rattle.aql_value.specs.Laws.RowMajor.{indices_lengths}
use Rattle.std.specs.FinSet.{nat_cmp-IsAntisymmetric, slice_cmp-IsAntisymmetric}
use Rattle.aql_ty.specs.Types as types
use Rattle.aql_ty.specs.Types.{Ty, Tys, no_type, type, truth, text}
use Rattle.aql_ty.specs.ValueTypes.{HasType, AllHaveTypes}
use Rattle.nrca_graph.specs.Encoding.{pair, graph, encoding, encodings}
use Rattle.nrca_graph.specs.Laws.IndexOrder.{index-order, indices-ascend}
use Rattle.nrca_graph.specs.EncodingOrder.{KeepsOrder, IsOrderedAs}

-- as many encodings as values
pub length-encoded : (xs : List Datum) → length (map encoding xs) ≡ length xs
length-encoded [] = refl
length-encoded (x ∷ xs) = ap suc (length-encoded xs)

-- the encodings of listed values, one by one
pub encodings-list : (xs : List Datum) → encodings (data_of xs) ≡ map encoding xs
encodings-list [] = refl
encodings-list (x ∷ xs) = ap (λ l. encoding x ∷ l) (encodings-list xs)

-- a second comparison counts where the first is equal
then-when : (o p q : Ordering) → (o ≡ Equal → p ≡ q) → ordering_then o p ≡ ordering_then o q
then-when Less p q h = refl
then-when Equal p q h = h refl
then-when Greater p q h = refl

-- pairs are compared by their indices first
pair-less : (at b : List ℕ) (c e : Datum) → length at ≡ length b → slice_cmp nat_cmp at b ≡ Less → datum_cmp (pair (index_value at) c) (pair (index_value b) e) ≡ Less
pair-less at b c e n h = ap (λ o. ordering_then o (ordering_then (datum_cmp c e) Equal)) (index-order at b n ∙ h)

-- a pair before all those of greater indices
graph-above : (at : List ℕ) (c : Datum) (ats : List (List ℕ)) (cs : List Datum) → Every (λ b. length at ≡ length b) ats → Every (λ b. slice_cmp nat_cmp at b ≡ Less) ats →
    Every (λ y. datum_cmp (pair (index_value at) c) y ≡ Less) (graph ats cs)
graph-above at c [] cs n h = tt
graph-above at c (b ∷ ats) [] n h = tt
graph-above at c (b ∷ ats) (e ∷ cs) n h = (pair-less at b c e n.0 h.0, graph-above at c ats cs n.1 h.1)

-- the pairs ascend as their indices do
pub graph-ascends : (k : ℕ) (ats : List (List ℕ)) (cs : List Datum) → Every (λ b. length b ≡ k) ats → IsStrictlySortedBy (slice_cmp nat_cmp) ats → IsAscending (graph ats cs)
unfolding IsStrictlySortedBy
graph-ascends k [] cs n h = tt
graph-ascends k (at ∷ ats) [] n h = tt
graph-ascends k (at ∷ ats) (c ∷ cs) n h = (graph-above at c ats cs (Every-impl (λ b. length b ≡ k) (λ b. length at ≡ length b) (λ b e. n.0 ∙ sym e) ats n.1) h.0, graph-ascends k ats cs n.1 h.1)

-- the pairs of an array ascend as they are, so its graph is their list
pub encoding-array : (ds : List ℕ) (vs : List Datum) → encoding (array ds (data_of vs)) ≡ pair (index_value ds) (set (data_of (graph (indices ds) (map encoding vs))))
encoding-array ds vs =
    ap (λ cs. pair (index_value ds) (set_of (graph (indices ds) cs))) (encodings-list vs)
    ∙ ap (λ xs. pair (index_value ds) (set (data_of xs))) (canon_ascending (graph (indices ds) (map encoding vs)) (graph-ascends (length ds) (indices ds) (map encoding vs) (indices_lengths ds) (indices-ascend ds)))

-- graphs over the same indices are compared cell by cell
graphs-order : (ats : List (List ℕ)) (cs es : List Datum) → length ats ≡ length cs → length ats ≡ length es → data_cmp (data_of (graph ats cs)) (data_of (graph ats es)) ≡ data_cmp (data_of cs) (data_of es)
graphs-order [] [] [] m n = refl
graphs-order [] [] (e ∷ es) m n = absurd (omega (arith, n))
graphs-order [] (c ∷ cs) es m n = absurd (omega (arith, m))
graphs-order (at ∷ ats) [] es m n = absurd (omega (arith, m))
graphs-order (at ∷ ats) (c ∷ cs) [] m n = absurd (omega (arith, n))
graphs-order (at ∷ ats) (c ∷ cs) (e ∷ es) m n =
    ap (λ o. ordering_then (ordering_then o (ordering_then (datum_cmp c e) Equal)) (data_cmp (data_of (graph ats cs)) (data_of (graph ats es)))) (tied_itself datum_cmp-total (index_value at))
    ∙ ap (λ o. ordering_then o (data_cmp (data_of (graph ats cs)) (data_of (graph ats es)))) (then_equal (datum_cmp c e))
    ∙ ap (ordering_then (datum_cmp c e)) (graphs-order ats cs es (omega (arith, m)) (omega (arith, n)))

-- lists of values of a type keep their order
lists-order : (T : Ty) → KeepsOrder T → (vs ws : List Datum) → Every (HasType T) vs → Every (HasType T) ws → data_cmp (data_of (map encoding vs)) (data_of (map encoding ws)) ≡ data_cmp (data_of vs) (data_of ws)
lists-order T k [] [] h g = refl
lists-order T k [] (w ∷ ws) h g = refl
lists-order T k (v ∷ vs) [] h g = refl
lists-order T k (v ∷ vs) (w ∷ ws) h g = ap (λ o. ordering_then o (data_cmp (data_of (map encoding vs)) (data_of (map encoding ws)))) (k v w h.0 g.0) ∙ ap (ordering_then (datum_cmp v w)) (lists-order T k vs ws h.1 g.1)

-- the encoded members of a set ascend
pub encodings-ascend : (T : Ty) → KeepsOrder T → (vs : List Datum) → Every (HasType T) vs → IsAscending vs → IsAscending (map encoding vs)
unfolding IsStrictlySortedBy
encodings-ascend T k [] h a = tt
encodings-ascend T k (v ∷ vs) h a = (
  Every-onto (λ y. datum_cmp (encoding v) y ≡ Less) encoding vs (Every-join (HasType T) (λ w. datum_cmp v w ≡ Less) (λ w. datum_cmp (encoding v) (encoding w) ≡ Less) (λ w g l. k v w h.0 g ∙ l) vs h.1 a.0),
  encodings-ascend T k vs h.1 a.1,
)

-- the encoded members of a set ascend as they are
pub encoding-set : (T : Ty) → KeepsOrder T → (vs : List Datum) → Every (HasType T) vs → IsAscending vs → encoding (set (data_of vs)) ≡ set (data_of (map encoding vs))
encoding-set T k vs h a = ap set_of (encodings-list vs) ∙ ap (λ xs. set (data_of xs)) (canon_ascending (map encoding vs) (encodings-ascend T k vs h a))

-- the order of two values that are known
along : (v w x y : Datum) → v ≡ x → w ≡ y → datum_cmp (encoding x) (encoding y) ≡ datum_cmp x y → datum_cmp (encoding v) (encoding w) ≡ datum_cmp v w
along v w x y e f p = ap (λ a. datum_cmp (encoding a) (encoding w)) e ∙ ap (λ b. datum_cmp (encoding x) (encoding b)) f ∙ p ∙ sym (ap (λ a. datum_cmp a w) e ∙ ap (datum_cmp x) f)

-- arrays of one rank keep their order
arrays-order : (T : Ty) → KeepsOrder T → (ds es : List ℕ) (vs ws : List Datum) → length ds ≡ length es → product ds ≡ length vs → product es ≡ length ws → Every (HasType T) vs → Every (HasType T) ws →
    datum_cmp (encoding (array ds (data_of vs))) (encoding (array es (data_of ws))) ≡ datum_cmp (array ds (data_of vs)) (array es (data_of ws))
arrays-order T k ds es vs ws n p q h g =
    ap (λ x. datum_cmp x (encoding (array es (data_of ws)))) (encoding-array ds vs) ∙ ap (λ y. datum_cmp (pair (index_value ds) (set (data_of (graph (indices ds) (map encoding vs))))) y) (encoding-array es ws)
    ∙ ap (λ o. ordering_then o (ordering_then (data_cmp (data_of (graph (indices ds) (map encoding vs))) (data_of (graph (indices es) (map encoding ws)))) Equal)) (index-order ds es n)
    ∙ then-when (slice_cmp nat_cmp ds es) (ordering_then (data_cmp (data_of (graph (indices ds) (map encoding vs))) (data_of (graph (indices es) (map encoding ws)))) Equal) (data_cmp (data_of vs) (data_of ws))
    (λ e. then_equal (data_cmp (data_of (graph (indices ds) (map encoding vs))) (data_of (graph (indices es) (map encoding ws)))) ∙ cells (slice_cmp-IsAntisymmetric nat_cmp-IsAntisymmetric ds es e))
  where
    cells : ds ≡ es → data_cmp (data_of (graph (indices ds) (map encoding vs))) (data_of (graph (indices es) (map encoding ws))) ≡ data_cmp (data_of vs) (data_of ws)
    cells e =
        ap (λ fs. data_cmp (data_of (graph (indices ds) (map encoding vs))) (data_of (graph (indices fs) (map encoding ws)))) (sym e)
        ∙ graphs-order (indices ds) (map encoding vs) (map encoding ws) (omega (arith, length_indices ds, p, length-encoded vs)) (omega (arith, length_indices ds, q, length-encoded ws, ap product e))
        ∙ lists-order T k vs ws h g

mutual
  -- two values of a type are in the order of their encodings
  pub encoding-order : (T : Ty) → KeepsOrder T
  encoding-order types.natural v w h k = along v w (natural h.0) (natural k.0) h.1 k.1 refl
  encoding-order truth v w h k = along v w (datum.truth h.0) (datum.truth k.0) h.1 k.1 refl
  encoding-order text v w h k = along v w (datum.text h.0) (datum.text k.0) h.1 k.1 refl
  encoding-order (types.var x) v w h k = absurd h
  encoding-order (types.product Ts) v w h k =
      along v w (tuple (data_of h.0)) (tuple (data_of k.0)) h.1 k.1
      (ap (λ xs. data_cmp (data_of xs) (data_of (encodings (data_of k.0)))) (encodings-list h.0) ∙ ap (λ ys. data_cmp (data_of (map encoding h.0)) (data_of ys)) (encodings-list k.0) ∙ parts-order Ts h.0 k.0 h.2 k.2)
  encoding-order (types.set_of T) v w h k =
      along v w (set (data_of h.0)) (set (data_of k.0)) h.1 k.1
      (ap (λ x. datum_cmp x (encoding (set (data_of k.0)))) (encoding-set T (encoding-order T) h.0 h.3 h.2) ∙ ap (datum_cmp (set (data_of (map encoding h.0)))) (encoding-set T (encoding-order T) k.0 k.3 k.2)
      ∙ lists-order T (encoding-order T) h.0 k.0 h.3 k.3)
  encoding-order (types.array_of rank T) v w h k =
      along v w (array h.0 (data_of h.1)) (array k.0 (data_of k.1)) h.2 k.2
      (arrays-order T (encoding-order T) h.0 k.0 h.1 k.1 (h.3 ∙ sym k.3) h.4 k.4 h.5 k.5)

  parts-order : (Ts : Tys) (vs ws : List Datum) → AllHaveTypes Ts vs → AllHaveTypes Ts ws → data_cmp (data_of (map encoding vs)) (data_of (map encoding ws)) ≡ data_cmp (data_of vs) (data_of ws)
  parts-order no_type [] [] h k = refl
  parts-order no_type [] (w ∷ ws) h k = absurd k
  parts-order no_type (v ∷ vs) ws h k = absurd h
  parts-order (type T Ts) [] ws h k = absurd h
  parts-order (type T Ts) (v ∷ vs) [] h k = absurd k
  parts-order (type T Ts) (v ∷ vs) (w ∷ ws) h k =
      ap (λ o. ordering_then o (data_cmp (data_of (map encoding vs)) (data_of (map encoding ws)))) (encoding-order T v w h.0 k.0) ∙ ap (ordering_then (datum_cmp v w)) (parts-order Ts vs ws h.1 k.1)

-- an encoded value is ordered as the value is
pub encoded-order : (v w : Datum) → w ≡ encoding v → IsOrderedAs v w
encoded-order v w e T y h k = ap (λ x. datum_cmp x (encoding y)) e ∙ encoding-order T v y h k
