-- An index whose part means an encoded set of pairs means the encoded array of the sets of values.
use Rattle.std.proofs.Common.{◌≡◌, ℕ, zero, suc, ◌+◌, ◌*◌, ◌≤◌, Bool, true, false, nat_eq, cond, List, [], ◌∷◌, ◌++◌, length, map, Option, Some, None, refl, sym, ap, ◌∙◌, if◌then◌else◌, arith}
use Rattle.std.proofs.lemmas.List.{length-map}
use Rattle.std.specs.List.{slice_get, filter}
use Rattle.std.specs.Cmp.Lexicographic.{pointwise}
use Rattle.aql_value.specs.Datum as datum
use Rattle.aql_value.specs.Datum.{Datum, tuple, set, data_of}
use Rattle.aql_value.specs.Laws.Datum.{list_of-data_of}
use Rattle.aql_value.specs.Indices.{indices}
use Rattle.aql_value.specs.Laws.Indices.{length_indices}
use Rattle.aql_value.specs.Lists.{Every, below, onto}
use Rattle.aql_value.specs.Laws.Lists.{Every-impl, Every-onto, Every-below, length-below}
use Rattle.aql_value.specs.Operations.{in_range, index_value, set_of, array_of, is_rank, push_index, index_numbers, as_indexed, dims_above, values_at, all_in_range, index_array, index_of}
use Rattle.aql_value.specs.Laws.Operations.{index_numbers-value, array_of-made}
use Rattle.aql_value.specs.Partial.{◌>>=◌, each, concat}
use Rattle.aql_value.specs.Laws.Partial.{each-map, each-ext, each-defined}
use Rattle.aql_value.specs.Laws.RowMajor.{indices_lengths}
use Rattle.aql_value.specs.Strict.{Strict, strict_value}
use Rattle.aql_ty.specs.Types as types
use Rattle.aql_ty.specs.Types.{Ty, IsRank, index_type}
use Rattle.aql_ty.specs.ValueTypes.{HasType, HaveTypes}
use Rattle.nrca_term.specs.Term.{Term, Parts, none, part, terms_in}
use Rattle.nrca_term.specs.Nodes.{variable, bottom_term}
use Rattle.nrca_term.specs.Typing.{arg}
use Rattle.nrca_term.specs.Meaning.{Outcomes, Part, here, cden, part_values}
use Rattle.nrca_term.specs.Rules.{lets, sizes_term, index_variables}
use Rattle.nrca_term.specs.Laws.Sound.{AllSound}
use Rattle.nrca_graph.specs.Encoding.{pair, graph, encoding, encode_outcome, pair_type}
use Rattle.nrca_graph.specs.ArrayFree.{term_at, paired_with, dimension_above, index_graph}
use Rattle.nrca_graph.specs.Tabulation.{table_term}
use Rattle.nrca_graph.specs.Laws.EncodingOrder.{encoding-order, encoding-set, encodings-list}
use Rattle.nrca_graph.specs.Laws.EncodedSets.{set_of-encoded}
use Rattle.nrca_graph.specs.Laws.KeptForms.{AllMirror}
use Rattle.nrca_term.specs.Laws.Lets.{onto-naturals, lets-value, walked-append, walked-past, index-value}
use Rattle.nrca_graph.specs.Laws.Nests.{pair_at}
use Rattle.nrca_graph.specs.Laws.Tabulated.{table-value}
use Rattle.nrca_graph.specs.Laws.Paired.{pair_of, second_if, paired-value, equal-indices}
use Rattle.nrca_graph.specs.Laws.Greatest.{above, column, dims-columns, each-in_range}
use Rattle.nrca_graph.specs.Laws.Dimensions.{entry, indices_in, dimension-value}
use Rattle.nrca_graph.specs.Laws.SubscriptNode.{index-kept}
use Rattle.nrca_graph.specs.Laws.TranslatedParts.{BindersFit, part-is, numbers-of}

-- a value of the type of indices is an index
index-of-type : (k : ℕ) (x : Datum) → 1 ≤ k → HasType (index_type k) x → (at : List ℕ) × (x ≡ index_value at) × (length at ≡ k)
index-of-type zero x l h = absurd (omega (arith, l))
index-of-type (suc zero) x l h = (h.0 ∷ [], h.1, refl)
index-of-type (suc (suc k)) x l h = let n = numbers-of (suc (suc k)) h.0 h.2 in (n.0, h.1 ∙ ap (λ vs. tuple (data_of vs)) n.1 ∙ of n.0 n.2, n.2)
  where
    of : (ns : List ℕ) → length ns ≡ suc (suc k) → tuple (data_of (map datum.natural ns)) ≡ index_value ns
    of [] e = absurd (omega (arith, e))
    of (n ∷ []) e = absurd (omega (arith, e))
    of (m ∷ n ∷ ns) e = refl

-- what is said of the entries of a typed set of pairs
pub record AreEntries (rank : ℕ) (A : Ty) (ms : List Datum) (es : List (List ℕ × Datum)) : Type 0 where
  -- they are the members
  pub listed : ms ≡ map entry es
  -- each index has the rank
  pub ranks : Every (λ e. length e.0 ≡ rank) es
  -- each value has the type
  pub values : Every (λ e. HasType A e.1) es

-- pairs of a type of indices and another are entries
entry-of-type : (rank : ℕ) (A : Ty) (m : Datum) → 1 ≤ rank → HasType (pair_type (index_type rank) A) m → (e : List ℕ × Datum) × (m ≡ entry e) × (length e.0 ≡ rank) × HasType A e.1
entry-of-type rank A m l h = of h.0 h.1 h.2
  where
    of : (vs : List Datum) → m ≡ tuple (data_of vs) → HaveTypes (index_type rank ∷ A ∷ []) vs → (e : List ℕ × Datum) × (m ≡ entry e) × (length e.0 ≡ rank) × HasType A e.1
    of [] e k = absurd k
    of (x ∷ []) e k = absurd k.1
    of (x ∷ c ∷ []) e k = let i = index-of-type rank x l k.0 in ((i.0, c), e ∙ ap (λ y. pair y c) i.1, i.2, k.1.0)
    of (x ∷ c ∷ d ∷ vs) e k = absurd k.1.1

-- so are all members of a set of such pairs
pub entries-of-type : (rank : ℕ) (A : Ty) (ms : List Datum) → 1 ≤ rank → Every (HasType (pair_type (index_type rank) A)) ms → (es : List (List ℕ × Datum)) × AreEntries rank A ms es
entries-of-type rank A [] l h = ([], record { listed = refl; ranks = tt; values = tt })
entries-of-type rank A (m ∷ ms) l h =
    let e = entry-of-type rank A m l h.0 in
    let r = entries-of-type rank A ms l h.1 in
    (e.0 ∷ r.0, record { listed = (λ j. e.1 j ∷ r.1.listed j); ranks = (e.2, r.1.ranks); values = (e.3, r.1.values) })

-- entries are read back
pub entries-read : (rank : ℕ) (es : List (List ℕ × Datum)) → 1 ≤ rank → Every (λ e. length e.0 ≡ rank) es → each (as_indexed rank) (map entry es) ≡ Some es
entries-read rank [] l h = refl
entries-read rank (e ∷ es) l h =
    ap (λ o. (o >>= λ at. Some (at, e.1)) >>= λ y. each (as_indexed rank) (map entry es) >>= λ ys. Some (y ∷ ys))
    (ap (λ k. index_numbers k (index_value e.0)) (sym h.0) ∙ index_numbers-value e.0 (omega (arith, l, h.0)))
    ∙ ap (λ o. o >>= λ ys. Some (e ∷ ys)) (entries-read rank es l h.1)

-- an entry whose value is encoded
abbrev pub encoded_entry : List ℕ × Datum → List ℕ × Datum
encoded_entry e = (e.0, encoding e.1)

-- the members of the encoded set
pub entries-encoded : (es : List (List ℕ × Datum)) → map encoding (map entry es) ≡ map entry (map encoded_entry es)
entries-encoded [] = refl
entries-encoded (e ∷ es) = ap (λ x. pair x (encoding e.1) ∷ map encoding (map entry es)) (index-kept e.0) ∙ ap (λ l. entry (encoded_entry e) ∷ l) (entries-encoded es)

-- encoding keeps the indices
indices-encoded : (es : List (List ℕ × Datum)) → indices_in (map encoded_entry es) ≡ indices_in es
indices-encoded [] = refl
indices-encoded (e ∷ es) = ap (λ l. e.0 ∷ l) (indices-encoded es)

-- an entry by its index as a value
abbrev pub keyed_entry : List ℕ × Datum → Datum × Datum
keyed_entry e = (index_value e.0, e.1)

-- entries are pairs of two parts
entries-keyed : (es : List (List ℕ × Datum)) → map entry es ≡ map pair_of (map keyed_entry es)
entries-keyed [] = refl
entries-keyed (e ∷ es) = ap (λ l. entry e ∷ l) (entries-keyed es)

-- the values that are chosen are those at the index
chosen-values : (at : List ℕ) (es : List (List ℕ × Datum)) → Every (λ e. length e.0 ≡ length at) es →
    concat (map (second_if (index_value at)) (map keyed_entry (map encoded_entry es))) ≡ map encoding (values_at at es)
chosen-values at [] h = refl
chosen-values at (e ∷ es) h =
    ap (λ b. (if b then encoding e.1 ∷ [] else []) ++ concat (map (second_if (index_value at)) (map keyed_entry (map encoded_entry es)))) (equal-indices e.0 at h.0)
    ∙ ap (λ l. (if pointwise nat_eq at e.0 then encoding e.1 ∷ [] else []) ++ l) (chosen-values at es h.1)
    ∙ of (pointwise nat_eq at e.0)
  where
    of : (b : Bool) → (if b then encoding e.1 ∷ [] else []) ++ map encoding (values_at at es)
        ≡ map encoding (map (λ p. p.1) (cond b (e ∷ filter (λ p. pointwise nat_eq at p.0) es) (filter (λ p. pointwise nat_eq at p.0) es)))
    of true = refl
    of false = refl

-- the values at an index have the type of the values
values-typed : (A : Ty) (at : List ℕ) (es : List (List ℕ × Datum)) → Every (λ e. HasType A e.1) es → Every (HasType A) (values_at at es)
values-typed A at [] h = tt
values-typed A at (e ∷ es) h = of (pointwise nat_eq at e.0) (values-typed A at es h.1)
  where
    of : (b : Bool) → Every (HasType A) (values_at at es) → Every (HasType A) (map (λ p. p.1) (cond b (e ∷ filter (λ p. pointwise nat_eq at p.0) es) (filter (λ p. pointwise nat_eq at p.0) es)))
    of true k = (h.0, k)
    of false k = k

-- pairs that are made at each index are a graph
graph-made : (f : List ℕ → Datum) (ats : List (List ℕ)) → map (λ at. pair (index_value at) (encoding (f at))) ats ≡ graph ats (map encoding (map f ats))
graph-made f [] = refl
graph-made f (at ∷ ats) = ap (λ l. pair (index_value at) (encoding (f at)) ∷ l) (graph-made f ats)

-- what stands under the let of the operand
abbrev pub index_table : ℕ → Term
index_table rank = lets 0 (map (λ j. dimension_above rank (suc j)) (below rank)) (table_term rank (paired_with (variable (2 * rank)) (sizes_term (index_variables rank))))

-- the dimensions over the encoded set of entries
pub dims-value : (W : Outcomes) (around : List Datum) (rank : ℕ) (es : List (List ℕ × Datum)) → Every (λ e. length e.0 ≡ rank) es →
    (length (dims_above rank (indices_in es)) ≡ rank)
    × (each (cden W (set (data_of (map entry (map encoded_entry es))) ∷ around)) (map (λ j. dimension_above rank (suc j)) (below rank))
    ≡ (if all_in_range (dims_above rank (indices_in es)) then Some (map datum.natural (dims_above rank (indices_in es))) else None))
dims-value W around rank es ls = (many, sizes)
  where
    fs : List (List ℕ × Datum)
    fs = map encoded_entry es

    env : List Datum
    env = set (data_of (map entry fs)) ∷ around

    ds : List ℕ
    ds = dims_above rank (indices_in es)

    columns : ds ≡ map (λ j. above (column j (indices_in fs))) (below rank)
    columns = dims-columns rank (indices_in es) (Every-onto (λ at. length at ≡ rank) (λ e. e.0) es ls) ∙ ap (λ ats. map (λ j. above (column j ats)) (below rank)) (sym (indices-encoded es))

    many : length ds ≡ rank
    many = ap length columns ∙ length-map (below rank) (λ j. above (column j (indices_in fs))) ∙ length-below rank

    sizes : each (cden W env) (map (λ j. dimension_above rank (suc j)) (below rank)) ≡ (if all_in_range ds then Some (map datum.natural ds) else None)
    sizes =
        each-map (cden W env) (λ j. dimension_above rank (suc j)) (below rank)
        ∙ each-ext (λ j. cden W env (dimension_above rank (suc j))) (λ j. in_range (above (column j (indices_in fs)))) (below rank)
        (Every-below (λ j. cden W env (dimension_above rank (suc j)) ≡ in_range (above (column j (indices_in fs)))) rank
        (λ j l. dimension-value W around rank j fs (Every-onto (λ e. length e.0 ≡ rank) encoded_entry es ls) l))
        ∙ each-in_range (λ j. above (column j (indices_in fs))) (below rank)
        ∙ ap (λ ns. if all_in_range ns then Some (map datum.natural ns) else None) (sym columns)

-- over the encoded set of entries it is the encoded array
table-encoded : (W : Outcomes) (around : List Datum) (rank : ℕ) (A : Ty) (es : List (List ℕ × Datum)) → IsRank rank → Every (λ e. length e.0 ≡ rank) es → Every (λ e. HasType A e.1) es →
    cden W (set (data_of (map entry (map encoded_entry es))) ∷ around) (index_table rank) ≡ encode_outcome (index_array (dims_above rank (indices_in es)) es)
table-encoded W around rank A es r ls hs =
    lets-value W [] env (map (λ j. dimension_above rank (suc j)) (below rank)) body
    ∙ ap (λ o. o >>= λ ws. cden W (onto ws [] ++ env) body) sizes
    ∙ of (all_in_range ds) refl
  where
    fs : List (List ℕ × Datum)
    fs = map encoded_entry es

    env : List Datum
    env = set (data_of (map entry fs)) ∷ around

    ds : List ℕ
    ds = dims_above rank (indices_in es)

    selected : Term
    selected = paired_with (variable (2 * rank)) (sizes_term (index_variables rank))

    body : Term
    body = table_term rank selected

    F : List ℕ → Datum
    F at = set_of (values_at at es)

    cells : List Datum
    cells = map F (indices ds)

    known : (length ds ≡ rank) × (each (cden W env) (map (λ j. dimension_above rank (suc j)) (below rank)) ≡ (if all_in_range ds then Some (map datum.natural ds) else None))
    known = dims-value W around rank es ls

    many : length ds ≡ rank
    many = known.0

    sizes : each (cden W env) (map (λ j. dimension_above rank (suc j)) (below rank)) ≡ (if all_in_range ds then Some (map datum.natural ds) else None)
    sizes = known.1

    at_index : (at : List ℕ) → length at ≡ rank → pair_at W (push_index ds env) selected at ≡ Some (pair (index_value at) (encoding (F at)))
    at_index at l =
        ap (λ o. o >>= λ w. Some (pair (index_value at) w))
        (paired-value W (push_index at (push_index ds env)) (variable (2 * rank)) (sizes_term (index_variables rank)) (index_value at) (map keyed_entry fs)
        ((let z : 2 * rank ≡ length at + (length ds + 0) = omega (arith, l, many) in ap (slice_get (push_index at (push_index ds env))) z)
        ∙ walked-past at (push_index ds env) (length ds + 0) ∙ walked-past ds env 0 ∙ ap (λ ms. Some (set (data_of ms))) (entries-keyed fs))
        (ap (λ k. cden W (push_index at (push_index ds env)) (sizes_term (index_variables k))) (sym l) ∙ index-value W at (push_index ds env) (omega (arith, l, r.0))))
        ∙ ap (λ vs. Some (pair (index_value at) (set_of vs))) (chosen-values at es (Every-impl (λ e. length e.0 ≡ rank) (λ e. length e.0 ≡ length at) (λ e k. k ∙ sym l) es ls))
        ∙ ap (λ w. Some (pair (index_value at) w)) (set_of-encoded A (values_at at es) (values-typed A at es hs))

    table : cden W (push_index ds env) body ≡ Some (pair (index_value ds) (set_of (graph (indices ds) (map encoding cells))))
    table =
        ap (λ k. cden W (push_index ds env) (table_term k selected)) (sym many)
        ∙ table-value W selected env ds (omega (arith, many, r.0))
        ∙ ap (λ o. o >>= λ ms. Some (pair (index_value ds) (set_of ms)))
        (each-ext (pair_at W (push_index ds env) selected) (λ at. Some (pair (index_value at) (encoding (F at)))) (indices ds)
        (Every-impl (λ at. length at ≡ length ds) (λ at. pair_at W (push_index ds env) selected at ≡ Some (pair (index_value at) (encoding (F at)))) (λ at l. at_index at (l ∙ many)) (indices ds) (indices_lengths ds))
        ∙ each-defined (λ at. pair (index_value at) (encoding (F at))) (indices ds))
        ∙ ap (λ ms. Some (pair (index_value ds) (set_of ms))) (graph-made F (indices ds))

    of : (b : Bool) → all_in_range ds ≡ b → ((if all_in_range ds then Some (map datum.natural ds) else None) >>= λ ws. cden W (onto ws [] ++ env) body) ≡ encode_outcome (index_array ds es)
    of false e =
        ap (λ b. (if b then Some (map datum.natural ds) else None) >>= λ ws. cden W (onto ws [] ++ env) body) e
        ∙ sym (ap (λ b. encode_outcome (if b then array_of ds cells else None)) e)
    of true e =
        ap (λ b. (if b then Some (map datum.natural ds) else None) >>= λ ws. cden W (onto ws [] ++ env) body) e
        ∙ ap (λ l. cden W (l ++ env) body) (onto-naturals ds [])
        ∙ ap (λ l. cden W l body) (walked-append ds [] env)
        ∙ table
        ∙ sym (ap (λ b. encode_outcome (if b then array_of ds cells else None)) e
        ∙ ap encode_outcome (array_of-made ds cells (omega (arith, many, r.0)) (omega (arith, many, r.1)) (omega (arith, length_indices ds, length-map (indices ds) F)))
        ∙ ap (λ vs. Some (pair (index_value ds) (set_of (graph (indices ds) vs)))) (encodings-list cells))

-- the node of an index whose part is translated
pub index-node : (W : Outcomes) (around : List Datum) (rank : ℕ) (A : Ty) (ps : List Part) (qs : Parts) → IsRank rank →
    AllSound (map (arg []) (types.set_of (pair_type (index_type rank) A) ∷ [])) ps → AllMirror (map (arg []) (types.set_of (pair_type (index_type rank) A) ∷ [])) ps (part_values W around qs) →
    BindersFit (map (arg []) (types.set_of (pair_type (index_type rank) A) ∷ [])) qs →
    cden W around (index_graph rank (term_at (terms_in qs) 0)) ≡ encode_outcome (each here ps >>= strict_value (Strict.index rank))
index-node W around rank A ps none r s m b = absurd b
index-node W around rank A [] (part k a qs) r s m b = absurd s
index-node W around rank A (p ∷ q ∷ ps) (part k a qs) r s m b = absurd s.1
index-node W around rank A (p ∷ []) (part k a qs) r s m b =
    ap (λ o. o >>= λ w. cden W (w ∷ around) inner) (sym (part-is W around k a [] b.0) ∙ m.0 [] tt) ∙ of (p []) refl
  where
    inner : Term
    inner = if is_rank rank then index_table rank else bottom_term

    rank-is : is_rank rank ≡ true
    rank-is = grind (arith, r.0, r.1)

    of : (o : Option Datum) → p [] ≡ o → (encode_outcome (p []) >>= λ w. cden W (w ∷ around) inner) ≡ encode_outcome ((p [] >>= λ y. Some [] >>= λ ys. Some (y ∷ ys)) >>= strict_value (Strict.index rank))
    of None e =
        ap (λ o. encode_outcome o >>= λ w. cden W (w ∷ around) inner) e ∙ sym (ap (λ o. encode_outcome ((o >>= λ y. Some [] >>= λ ys. Some (y ∷ ys)) >>= strict_value (Strict.index rank))) e)
    of (Some v) e =
        let h = s.0 [] v tt e in
        let es = entries-of-type rank A h.0 r.0 h.3 in
        let M : Ty = pair_type (index_type rank) A in
        ap (λ o. encode_outcome o >>= λ w. cden W (w ∷ around) inner) e
        ∙ ap (λ w. cden W (w ∷ around) inner) (ap encoding h.1 ∙ encoding-set M (encoding-order M) h.0 h.3 h.2 ∙ ap (λ ms. set (data_of ms)) (ap (map encoding) es.1.listed ∙ entries-encoded es.0))
        ∙ ap (λ t. cden W (set (data_of (map entry (map encoded_entry es.0))) ∷ around) (if t then index_table rank else bottom_term)) rank-is
        ∙ table-encoded W around rank A es.0 r es.1.ranks es.1.values
        ∙ sym (ap (λ o. encode_outcome ((o >>= λ y. Some [] >>= λ ys. Some (y ∷ ys)) >>= strict_value (Strict.index rank))) e
        ∙ ap (λ x. encode_outcome (index_of rank x)) h.1
        ∙ ap (λ ms. encode_outcome (each (as_indexed rank) ms >>= λ ys. index_array (dims_above rank (indices_in ys)) ys)) (list_of-data_of h.0 ∙ es.1.listed)
        ∙ ap (λ o. encode_outcome (o >>= λ ys. index_array (dims_above rank (indices_in ys)) ys)) (entries-read rank es.0 r.0 es.1.ranks))
