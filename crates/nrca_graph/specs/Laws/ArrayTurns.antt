-- Turns of the forms that stand for subscripts and indices.
use Rattle.std.proofs.Common.{◌≡◌, ℕ, suc, ◌+◌, ◌*◌, ◌≤◌, Bool, true, false, List, [], ◌∷◌, ◌++◌, length, map, replicate, Option, Some, None, refl, sym, ap, subst, ◌∙◌, if◌then◌else◌, arith}
use Rattle.std.proofs.lemmas.List.{length-map}
use Rattle.std.proofs.Math.Nat.{mul_comm}
use Rattle.std.specs.List.{slice_get}
use Rattle.aql_value.specs.declared.ops.ArithOp.TheVariants.{Add}
use Rattle.aql_value.specs.declared.ops.CompareOp.TheVariants as compare_op
use Rattle.aql_value.specs.Datum as datum
use Rattle.aql_value.specs.Datum.{Datum, set, array, data_of}
use Rattle.aql_value.specs.Indices.{indices, prefix_products}
use Rattle.aql_value.specs.Laws.Datum.{list_of-data_of}
use Rattle.aql_value.specs.Laws.Indices.{length_indices}
use Rattle.aql_value.specs.Lists.{Every, below, onto}
use Rattle.aql_value.specs.Laws.Lists.{Every-impl, Every-all, length-below}
use Rattle.aql_value.specs.Laws.RowMajor.{indices_lengths}
use Rattle.aql_value.specs.Operations.{part_of, as_array, as_truth, as_indexed, index_value, is_rank, push_index, array_of, set_of, values_at, all_in_range, dims_above, index_array}
use Rattle.aql_value.specs.Laws.Operations.{array_of-made}
use Rattle.aql_value.specs.Partial.{◌>>=◌, each, total, if_some}
use Rattle.aql_value.specs.Laws.Partial.{total-map}
use Rattle.aql_value.specs.Strict.{Strict}
use Rattle.aql_ty.specs.Types as types
use Rattle.aql_ty.specs.Types.{Ty, IsRank, index_type}
use Rattle.aql_ty.specs.ValueTypes.{HasType}
use Rattle.nrca_term.specs.Term.{Term, Parts, none, part, WellFormed, terms_in}
use Rattle.nrca_term.specs.Nodes.{variable, number, bottom_term, proj_term, arith_term, compare_term, get_term, empty_term, single_term, if_term}
use Rattle.nrca_term.specs.Typing.{arg}
use Rattle.nrca_term.specs.Meaning.{Outcomes, Part, here, cden, part_values}
use Rattle.nrca_term.specs.Turns.{settle}
use Rattle.nrca_term.specs.Rules.{sizes_term, index_variables}
use Rattle.nrca_term.specs.Laws.Lets.{onto-naturals, walked-append, walked-past}
use Rattle.nrca_term.specs.Laws.Sound.{AllSound}
use Rattle.nrca_term.specs.Laws.Variants.{settle-strict, settle-let, settle-if}
use Rattle.nrca_graph.specs.Encoding.{graph, encoding, encode_outcome, pair_type}
use Rattle.nrca_graph.specs.GraphTurns.{subscript_graph_turns, index_graph_turns}
use Rattle.nrca_graph.specs.ArrayFree.{equal_term, term_at, paired_with, subscript_graph, greater, greatest, dimension_above, index_graph, number_at}
use Rattle.nrca_graph.specs.Tabulation.{table_term}
use Rattle.nrca_graph.specs.Laws.EncodingOrder.{encoding-order, encoding-set, encoding-array}
use Rattle.nrca_graph.specs.Laws.KeptForms.{AllMirror}
use Rattle.nrca_graph.specs.Laws.StrictForms.{numbers-kept}
use Rattle.nrca_graph.specs.Laws.Dimensions.{entry, indices_in}
use Rattle.nrca_graph.specs.Laws.IndexNode.{encoded_entry, entries-encoded, entries-of-type, entries-read, index_table, dims-value}
use Rattle.nrca_graph.specs.Laws.SubscriptNode.{sizes-value, sizes-none}
use Rattle.nrca_graph.specs.Laws.TranslatedParts.{BindersFit, part-is, all-terms, here-mirror, here-types, numbers-of}
use Rattle.nrca_graph.specs.Laws.QuietTerms.{quiet-variables, quiet-sizes, quiet-compare, quiet-number}
use Rattle.nrca_graph.specs.Laws.FormTurns.{lets-turns, table-turns, loop-turns, paired-turns, total-same, sizes-turns, sizes-formed, variables-formed}
use Rattle.nrca_graph.specs.Laws.PartTurns.{total-le}

-- a graph has at most as many pairs as cells
graph-short : (ats : List (List ℕ)) (cs : List Datum) → length (graph ats cs) ≤ length cs
graph-short [] cs = omega arith
graph-short (at ∷ ats) [] = omega arith
graph-short (at ∷ ats) (c ∷ cs) = omega (arith, graph-short ats cs)

-- the node of a subscript: a turn for each cell of the array
pub subscript-turns : (W : Outcomes) (l : List Datum) (rank : ℕ) (T : Ty) (ps : List Part) (qs : Parts) → IsRank rank → AllSound (map (arg []) (types.array_of rank T ∷ replicate rank types.natural)) ps →
    AllMirror (map (arg []) (types.array_of rank T ∷ replicate rank types.natural)) ps (part_values W l qs) → BindersFit (map (arg []) (types.array_of rank T ∷ replicate rank types.natural)) qs → Every WellFormed (terms_in qs) →
    settle W l (subscript_graph (terms_in qs)) ≤ if_some (each here ps) subscript_graph_turns + total (settle W l) (terms_in qs)
subscript-turns W l rank T ps none r s m b w = absurd b
subscript-turns W l rank T [] (part k a qs) r s m b w = absurd s
subscript-turns W l rank T (p ∷ ps) (part k a qs) r s m b w =
    omega (arith, lets-turns W [] l (a ∷ sizes_term is ∷ []) body (w.0, (sizes-formed is w.1, tt)), sizes-turns W l is, of (p []) (each here ps) refl refl)
  where
    is : List Term
    is = terms_in qs

    body : Term
    body = get_term (paired_with (proj_term 2 2 (variable 1)) (variable 0))

    K : List Datum → ℕ
    K ws = settle W (onto ws [] ++ l) body

    both : Option (List Datum)
    both = each (cden W l) (a ∷ sizes_term is ∷ [])

    array-value : cden W l a ≡ encode_outcome (p [])
    array-value = sym (part-is W l k a [] b.0) ∙ m.0 [] tt

    index-values : each (cden W l) is ≡ (each here ps >>= λ vs. Some (map encoding vs))
    index-values = sym (all-terms W l (replicate rank types.natural) qs b.1) ∙ here-mirror (replicate rank types.natural) ps (part_values W l qs) m.1

    found : (v x : Datum) → HasType (types.array_of rank T) v → settle W (x ∷ encoding v ∷ l) body ≤ if_some (as_array v) (λ t. length t.cells)
    found v x h =
        let g = graph (indices h.0) (map encoding h.1) in
        omega (
          arith,
          settle-strict W (x ∷ encoding v ∷ l) Strict.get (paired_with (proj_term 2 2 (variable 1)) (variable 0) ∷ []),
          paired-turns W (x ∷ encoding v ∷ l) (proj_term 2 2 (variable 1)) (variable 0) g (ap (part_of 2 2) (ap encoding h.2 ∙ encoding-array h.0 h.1)) refl (refl, tt) refl,
          graph-short (indices h.0) (map encoding h.1),
          length-map h.1 encoding,
          ap (λ y. if_some (as_array y) (λ t. length t.cells)) h.2 ∙ ap length (list_of-data_of h.1),
        )

    of : (o : Option Datum) (c : Option (List Datum)) → p [] ≡ o → each here ps ≡ c →
        if_some both K ≤ if_some (p [] >>= λ y. each here ps >>= λ ys. Some (y ∷ ys)) subscript_graph_turns
    of None c e f =
        omega (arith, ap (λ x. if_some (x >>= λ y. (cden W l (sizes_term is) >>= λ z. Some [] >>= λ zs. Some (z ∷ zs)) >>= λ ys. Some (y ∷ ys)) K) (array-value ∙ ap encode_outcome e))
    of (Some v) None e f =
        omega (
          arith,
          ap (λ x. if_some (x >>= λ y. (cden W l (sizes_term is) >>= λ z. Some [] >>= λ zs. Some (z ∷ zs)) >>= λ ys. Some (y ∷ ys)) K) (array-value ∙ ap encode_outcome e)
              ∙ ap (λ x. if_some ((x >>= λ z. Some [] >>= λ zs. Some (z ∷ zs)) >>= λ ys. Some (encoding v ∷ ys)) K) (sizes-none W l is (index-values ∙ ap (λ c. c >>= λ vs. Some (map encoding vs)) f)),
        )
    of (Some v) (Some ws) e f =
        let n = numbers-of rank ws (here-types (replicate rank types.natural) ps ws s.1 f) in
        omega (
          arith,
          ap (λ x. if_some (x >>= λ y. (cden W l (sizes_term is) >>= λ z. Some [] >>= λ zs. Some (z ∷ zs)) >>= λ ys. Some (y ∷ ys)) K) (array-value ∙ ap encode_outcome e)
              ∙ ap (λ x. if_some ((x >>= λ z. Some [] >>= λ zs. Some (z ∷ zs)) >>= λ ys. Some (encoding v ∷ ys)) K)
              (sizes-value W l is n.0 (omega (arith, n.2, r.0)) (index-values ∙ ap (λ c. c >>= λ vs. Some (map encoding vs)) f ∙ ap (λ us. Some (map encoding us)) n.1 ∙ ap Some (numbers-kept n.0))),
          found v (index_value n.0) (s.0 [] v tt e),
          ap (λ x. if_some (x >>= λ y. each here ps >>= λ ys. Some (y ∷ ys)) subscript_graph_turns) e ∙ ap (λ x. if_some (x >>= λ ys. Some (v ∷ ys)) subscript_graph_turns) f,
        )

-- a test of two pairs' numbers that picks one takes no turns
pick-turns : (W : Outcomes) (env : List Datum) (c : Term) (rank j n : ℕ) → settle W env c ≡ n → settle W env (if_term c (single_term (number_at rank j (variable 0))) empty_term) ≡ n
pick-turns W env c rank j n h =
    omega (arith, settle-if W env c (single_term (number_at rank j (variable 0))) empty_term, h, of (cden W env c >>= as_truth))
  where
    of : (o : Option Bool) → if_some o (λ t. if t then settle W env (single_term (number_at rank j (variable 0))) else settle W env empty_term) ≡ 0
    of None = refl
    of (Some true) = omega (arith, settle-strict W env Strict.single (number_at rank j (variable 0) ∷ []), quiet-number W rank j 0 env)
    of (Some false) = refl

-- the numbers that are greater: a loop over the members
greater-turns : (W : Outcomes) (x : Datum) (ms l : List Datum) (rank j : ℕ) → settle W (x ∷ set (data_of ms) ∷ l) (greater rank j) ≡ length ms
greater-turns W x ms l rank j =
    omega (
      arith,
      mul_comm (length ms) 0,
      loop-turns W (x ∷ set (data_of ms) ∷ l) (variable 1) (if_term (compare_term compare_op.Less (number_at rank j (variable 1)) (number_at rank j (variable 0))) (single_term (number_at rank j (variable 0))) empty_term) ms 0 refl refl
          (Every-all _ (λ y. pick-turns W (y ∷ x ∷ set (data_of ms) ∷ l) (compare_term compare_op.Less (number_at rank j (variable 1)) (number_at rank j (variable 0))) rank j 0
          (quiet-compare W compare_op.Less (number_at rank j (variable 1)) (number_at rank j (variable 0)) (quiet-number W rank j 1) (quiet-number W rank j 0) (y ∷ x ∷ set (data_of ms) ∷ l))) ms),
    )

-- the greatest: a loop over the members, with such a loop in it
greatest-turns : (W : Outcomes) (ms l : List Datum) (rank j : ℕ) → settle W (set (data_of ms) ∷ l) (greatest rank j) ≡ length ms + length ms * length ms
greatest-turns W ms l rank j =
    loop-turns W (set (data_of ms) ∷ l) (variable 0) (if_term (equal_term (greater rank j) empty_term) (single_term (number_at rank j (variable 0))) empty_term) ms (length ms) refl refl
    (Every-all _ (λ x. pick-turns W (x ∷ set (data_of ms) ∷ l) (equal_term (greater rank j) empty_term) rank j (length ms)
    (omega (arith, settle-strict W (x ∷ set (data_of ms) ∷ l) (Strict.compare compare_op.Equal) (greater rank j ∷ empty_term ∷ []), greater-turns W x ms l rank j))) ms)

-- a dimension
dimension-turns : (W : Outcomes) (ms l : List Datum) (rank j : ℕ) → settle W (set (data_of ms) ∷ l) (dimension_above rank j) ≤ length ms + length ms * length ms
dimension-turns W ms l rank j =
    omega (
      arith,
      settle-if W env (equal_term (variable 0) empty_term) (number 0) above,
      settle-strict W env (Strict.compare compare_op.Equal) (variable 0 ∷ empty_term ∷ []),
      of (cden W env (equal_term (variable 0) empty_term) >>= as_truth),
    )
  where
    env : List Datum
    env = set (data_of ms) ∷ l

    above : Term
    above = arith_term Add (number 1) (get_term (greatest rank j))

    of : (o : Option Bool) → if_some o (λ t. if t then settle W env (number 0) else settle W env above) ≤ length ms + length ms * length ms
    of None = omega arith
    of (Some true) = omega arith
    of (Some false) =
        omega (
          arith,
          settle-strict W env (Strict.arith Add) (number 1 ∷ get_term (greatest rank j) ∷ []),
          settle-strict W env Strict.get (greatest rank j ∷ []),
          greatest-turns W ms l rank j,
        )

-- each at most a number
total-few : {A : Type 0} (f : A → ℕ) (n : ℕ) (xs : List A) → ((x : A) → f x ≤ n) → total f xs ≤ length xs * n
total-few f n xs h = omega (arith, total-le f (λ x. n) xs (Every-all _ h xs), total-same (λ x. n) n xs (Every-all _ (λ x. refl) xs))

-- what stands under the let of the operand, over the encoded set of entries
table-turns-at : (W : Outcomes) (l : List Datum) (rank : ℕ) (es : List (List ℕ × Datum)) → IsRank rank → Every (λ e. length e.0 ≡ rank) es → Every WellFormed (map (λ j. dimension_above rank (suc j)) (below rank)) →
    settle W (set (data_of (map entry (map encoded_entry es))) ∷ l) (index_table rank)
    ≤ rank * (length es + length es * length es) + if_some (index_array (dims_above rank (indices_in es)) es >>= as_array) (λ t. 2 * prefix_products t.dims + length t.cells * length es)
table-turns-at W l rank es r ls wf =
    omega (
      arith,
      lets-turns W [] env sizes body wf,
      many,
      sizes-turn,
      of (all_in_range ds) refl,
    )
  where
    ms : List Datum
    ms = map entry (map encoded_entry es)

    env : List Datum
    env = set (data_of ms) ∷ l

    sizes : List Term
    sizes = map (λ j. dimension_above rank (suc j)) (below rank)

    ds : List ℕ
    ds = dims_above rank (indices_in es)

    selected : Term
    selected = paired_with (variable (2 * rank)) (sizes_term (index_variables rank))

    body : Term
    body = table_term rank selected

    K : List Datum → ℕ
    K ws = settle W (onto ws [] ++ env) body

    many : length ms ≡ length es
    many = length-map (map encoded_entry es) entry ∙ length-map es encoded_entry

    sizes-turn : total (settle W env) sizes ≤ rank * (length es + length es * length es)
    sizes-turn =
        subst (λ n. total (settle W env) sizes ≤ n * (length es + length es * length es)) (length-below rank)
        (subst (λ n. total (settle W env) sizes ≤ length (below rank) * (n + n * n)) many
        (subst (λ n. n ≤ length (below rank) * (length ms + length ms * length ms)) (sym (total-map (settle W env) (λ j. dimension_above rank (suc j)) (below rank)))
        (total-few (λ j. settle W env (dimension_above rank (suc j))) (length ms + length ms * length ms) (below rank) (λ j. dimension-turns W ms l rank (suc j)))))

    known : (length ds ≡ rank) × (each (cden W env) sizes ≡ (if all_in_range ds then Some (map datum.natural ds) else None))
    known = dims-value W l rank es ls

    at_index : (at : List ℕ) → length at ≡ rank → settle W (push_index at (push_index ds env)) selected ≡ length es
    at_index at n =
        paired-turns W (push_index at (push_index ds env)) (variable (2 * rank)) (sizes_term (index_variables rank)) ms
        ((let z : 2 * rank ≡ length at + (length ds + 0) = omega (arith, n, known.0) in ap (slice_get (push_index at (push_index ds env))) z)
        ∙ walked-past at (push_index ds env) (length ds + 0) ∙ walked-past ds env 0)
        refl (sizes-formed (index_variables rank) (variables-formed rank)) (quiet-sizes W (index_variables rank) (quiet-variables W rank) (push_index at (push_index ds env)))
        ∙ many

    table : settle W (push_index ds env) body ≡ 2 * prefix_products ds + length (indices ds) * length es
    table =
        ap (λ k. settle W (push_index ds env) (table_term k selected)) (sym known.0)
        ∙ table-turns W selected env ds
        ∙ ap (λ n. 2 * prefix_products ds + n)
        (total-same (λ at. settle W (push_index at (push_index ds env)) selected) (length es) (indices ds)
        (Every-impl (λ at. length at ≡ length ds) _ (λ at k. at_index at (k ∙ known.0)) (indices ds) (indices_lengths ds)))

    cells : List Datum
    cells = map (λ at. set_of (values_at at es)) (indices ds)

    of : (b : Bool) → all_in_range ds ≡ b → if_some (each (cden W env) sizes) K ≤ if_some (index_array ds es >>= as_array) (λ t. 2 * prefix_products t.dims + length t.cells * length es)
    of false e =
        omega (arith, ap (λ o. if_some o K) known.1 ∙ ap (λ b. if_some (if b then Some (map datum.natural ds) else None) K) e)
    of true e =
        omega (
          arith,
          ap (λ o. if_some o K) known.1 ∙ ap (λ b. if_some (if b then Some (map datum.natural ds) else None) K) e
              ∙ ap (λ x. settle W (x ++ env) body) (onto-naturals ds []) ∙ ap (λ x. settle W x body) (walked-append ds [] env) ∙ table,
          ap (λ b. if_some ((if b then array_of ds cells else None) >>= as_array) (λ t. 2 * prefix_products t.dims + length t.cells * length es)) e
              ∙ ap (λ o. if_some (o >>= as_array) (λ t. 2 * prefix_products t.dims + length t.cells * length es))
              (array_of-made ds cells (omega (arith, known.0, r.0)) (omega (arith, known.0, r.1)) (omega (arith, length_indices ds, length-map (indices ds) (λ at. set_of (values_at at es)))))
              ∙ ap (λ n. 2 * prefix_products ds + n * length es) (ap length (list_of-data_of cells) ∙ length-map (indices ds) (λ at. set_of (values_at at es))),
        )

-- the node of an index
pub index-node-turns : (W : Outcomes) (l : List Datum) (rank : ℕ) (A : Ty) (ps : List Part) (qs : Parts) → IsRank rank → AllSound (map (arg []) (types.set_of (pair_type (index_type rank) A) ∷ [])) ps →
    AllMirror (map (arg []) (types.set_of (pair_type (index_type rank) A) ∷ [])) ps (part_values W l qs) → BindersFit (map (arg []) (types.set_of (pair_type (index_type rank) A) ∷ [])) qs →
    Every WellFormed (map (λ j. dimension_above rank (suc j)) (below rank)) →
    settle W l (index_graph rank (term_at (terms_in qs) 0)) ≤ if_some (each here ps) (index_graph_turns rank) + total (settle W l) (terms_in qs)
index-node-turns W l rank A ps none r s m b wf = absurd b
index-node-turns W l rank A [] (part k a qs) r s m b wf = absurd s
index-node-turns W l rank A (p ∷ q ∷ ps) (part k a qs) r s m b wf = absurd s.1
index-node-turns W l rank A (p ∷ []) (part k a qs) r s m b wf =
    omega (arith, settle-let W l a inner, ap (λ o. if_some o (λ w. settle W (w ∷ l) inner)) (sym (part-is W l k a [] b.0) ∙ m.0 [] tt), of (p []) refl)
  where
    inner : Term
    inner = if is_rank rank then index_table rank else bottom_term

    rank-is : is_rank rank ≡ true
    rank-is = grind (arith, r.0, r.1)

    of : (o : Option Datum) → p [] ≡ o → if_some (encode_outcome (p [])) (λ w. settle W (w ∷ l) inner) ≤ if_some (p [] >>= λ y. Some [] >>= λ ys. Some (y ∷ ys)) (index_graph_turns rank)
    of None e = omega (arith, ap (λ o. if_some (encode_outcome o) (λ w. settle W (w ∷ l) inner)) e)
    of (Some v) e =
        let h = s.0 [] v tt e in
        let es = entries-of-type rank A h.0 r.0 h.3 in
        let M : Ty = pair_type (index_type rank) A in
        let n : length h.0 ≡ length es.0 = ap length es.1.listed ∙ length-map es.0 entry in
        omega (
          arith,
          ap (λ o. if_some (encode_outcome o) (λ w. settle W (w ∷ l) inner)) e
              ∙ ap (λ w. settle W (w ∷ l) inner) (ap encoding h.1 ∙ encoding-set M (encoding-order M) h.0 h.3 h.2 ∙ ap (λ ms. set (data_of ms)) (ap (map encoding) es.1.listed ∙ entries-encoded es.0))
              ∙ ap (λ t. settle W (set (data_of (map entry (map encoded_entry es.0))) ∷ l) (if t then index_table rank else bottom_term)) rank-is,
          table-turns-at W l rank es.0 r es.1.ranks wf,
          ap (λ o. if_some (o >>= λ y. Some [] >>= λ ys. Some (y ∷ ys)) (index_graph_turns rank)) e
              ∙ ap (λ x. index_graph_turns rank (x ∷ [])) h.1
              ∙ ap (λ xs. rank * (length xs + length xs * length xs) + if_some ((each (as_indexed rank) xs >>= λ ys. index_array (dims_above rank (indices_in ys)) ys) >>= as_array) (λ t. 2 * prefix_products t.dims + length t.cells * length xs)) (list_of-data_of h.0)
              ∙ ap (λ k. rank * (k + k * k) + if_some ((each (as_indexed rank) h.0 >>= λ ys. index_array (dims_above rank (indices_in ys)) ys) >>= as_array) (λ t. 2 * prefix_products t.dims + length t.cells * k)) n
              ∙ ap (λ xs. rank * (length es.0 + length es.0 * length es.0) + if_some ((each (as_indexed rank) xs >>= λ ys. index_array (dims_above rank (indices_in ys)) ys) >>= as_array) (λ t. 2 * prefix_products t.dims + length t.cells * length es.0)) es.1.listed
              ∙ ap (λ o. rank * (length es.0 + length es.0 * length es.0) + if_some ((o >>= λ ys. index_array (dims_above rank (indices_in ys)) ys) >>= as_array) (λ t. 2 * prefix_products t.dims + length t.cells * length es.0)) (entries-read rank es.0 r.0 es.1.ranks),
        )
