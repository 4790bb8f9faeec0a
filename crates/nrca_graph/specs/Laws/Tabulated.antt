-- The array-free form of a tabulation means the encoded array, where those of its parts mean their encoded values.
use Rattle.std.proofs.Common.{◌≡◌, ℕ, ◌-◌, ◌≤◌, List, [], ◌∷◌, ◌++◌, length, map, Option, Some, None, refl, sym, ap, ◌∙◌, arith}
use Rattle.aql_value.specs.Datum.{Datum, natural}
use Rattle.aql_value.specs.Indices.{indices}
use Rattle.aql_value.specs.Laws.Indices.{length_indices}
use Rattle.aql_value.specs.Lists.{Every, onto}
use Rattle.aql_value.specs.Laws.Lists.{Every-join}
use Rattle.aql_value.specs.Laws.RowMajor.{indices_lengths}
use Rattle.aql_value.specs.Operations.{index_value, set_of, push_index, array_of}
use Rattle.aql_value.specs.Laws.Operations.{array_of-made}
use Rattle.aql_value.specs.Partial.{◌>>=◌, each}
use Rattle.aql_value.specs.Laws.Partial.{each-ext, each-length, then-ext, then-assoc}
use Rattle.nrca_term.specs.Term.{Term}
use Rattle.nrca_term.specs.Nodes.{tuple_term, gen_term, variable, single_term}
use Rattle.nrca_term.specs.Rules.{sizes_term, index_variables}
use Rattle.nrca_graph.specs.Tabulation.{nest}
use Rattle.nrca_term.specs.Meaning.{Outcomes, cden}
use Rattle.nrca_term.specs.Subst.{shift_term}
use Rattle.nrca_term.specs.Laws.Shifting.{cden-shift_term}
use Rattle.nrca_term.specs.Laws.Entering.{length-walked}
use Rattle.nrca_graph.specs.Encoding.{pair, graph, encoding, encode_outcome}
use Rattle.nrca_graph.specs.Tabulation.{tabulation_graph, table_term}
use Rattle.nrca_graph.specs.Laws.EncodingOrder.{encodings-list}
use Rattle.nrca_term.specs.Laws.Lets.{onto-naturals, lets-value, walked-append, index-value}
use Rattle.nrca_graph.specs.Laws.Nests.{pair_at, nest-value, pair-value}

-- the array of a body at the indices below the bounds
abbrev pub tabulate : List ℕ → (List ℕ → Option Datum) → Option Datum
tabulate ns f = each f (indices ns) >>= array_of ns

-- the pairs of each index and the encoded cell
pairs-graph : (f : List ℕ → Option Datum) (ats : List (List ℕ)) → each (λ at. encode_outcome (f at) >>= λ w. Some (pair (index_value at) w)) ats ≡ (each f ats >>= λ cs. Some (graph ats (map encoding cs)))
pairs-graph f [] = refl
pairs-graph f (at ∷ ats) = first (f at) (pairs-graph f ats)
  where
    first : (o : Option Datum) → each (λ at. encode_outcome (f at) >>= λ w. Some (pair (index_value at) w)) ats ≡ (each f ats >>= λ cs. Some (graph ats (map encoding cs))) →
        ((encode_outcome o >>= λ w. Some (pair (index_value at) w)) >>= λ y. each (λ at. encode_outcome (f at) >>= λ w. Some (pair (index_value at) w)) ats >>= λ ys. Some (y ∷ ys))
        ≡ ((o >>= λ y. each f ats >>= λ ys. Some (y ∷ ys)) >>= λ cs. Some (graph (at ∷ ats) (map encoding cs)))
    first None e = refl
    first (Some c) e = ap (λ p. p >>= λ ys. Some (pair (index_value at) (encoding c) ∷ ys)) e
        ∙ then-assoc (each f ats) (λ cs. Some (graph ats (map encoding cs))) (λ ys. Some (pair (index_value at) (encoding c) ∷ ys))
        ∙ sym (then-assoc (each f ats) (λ ys. Some (c ∷ ys)) (λ cs. Some (graph (at ∷ ats) (map encoding cs))))

-- the tuple of dimensions and pairs, under the dimensions
pub table-value : (V : Outcomes) (b : Term) (l : List Datum) (ns : List ℕ) → 1 ≤ length ns →
    cden V (push_index ns l) (table_term (length ns) b) ≡ (each (pair_at V (push_index ns l) b) (indices ns) >>= λ ms. Some (pair (index_value ns) (set_of ms)))
table-value V b l ns h =
    pair-value V (push_index ns l) (sizes_term (index_variables (length ns))) (nest (length ns) (gen_term (variable (length ns - 1))) (single_term (tuple_term (sizes_term (index_variables (length ns)) ∷ b ∷ [])))) (index_value ns) (index-value V ns l h)
    ∙ ap (λ o. o >>= λ w. Some (pair (index_value ns) w)) (nest-value V b l [] [] ns refl h ∙ ap (λ ats. each (pair_at V (push_index ns l) b) ats >>= λ ms. Some (set_of ms)) (same (indices ns)))
    ∙ then-assoc (each (pair_at V (push_index ns l) b) (indices ns)) (λ ms. Some (set_of ms)) (λ w. Some (pair (index_value ns) w))
  where
    same : (ats : List (List ℕ)) → map (λ at. [] ++ at) ats ≡ ats
    same [] = refl
    same (at ∷ ats) = ap (λ x. at ∷ x) (same ats)

-- Whatever the rank from 1 to 8: the bounds' forms have the bounds' numbers, and the body's form means the encoded body at each index.
pub tabulation-encoded : (W : Outcomes) (around : List Datum) (ds : List Term) (b : Term) (ns : List ℕ) (f : List ℕ → Option Datum) →
    1 ≤ length ns → length ns ≤ 8 → length ds ≡ length ns → each (cden W around) ds ≡ Some (map natural ns) →
    Every (λ at. cden W (push_index at around) b ≡ encode_outcome (f at)) (indices ns) →
    cden W around (tabulation_graph ds b) ≡ encode_outcome (tabulate ns f)
tabulation-encoded W around ds b ns f some few many bounds body =
    lets-value W [] around ds (table_term (length ds) (shift_term (length ds) (length ds) b))
    ∙ ap (λ o. o >>= λ ws. cden W (onto ws [] ++ around) (table_term (length ds) (shift_term (length ds) (length ds) b))) bounds
    ∙ ap (λ env. cden W (env ++ around) (table_term (length ds) (shift_term (length ds) (length ds) b))) (onto-naturals ns [])
    ∙ ap (λ env. cden W env (table_term (length ds) (shift_term (length ds) (length ds) b))) (walked-append ns [] around)
    ∙ ap (λ k. cden W (push_index ns around) (table_term k (shift_term k k b))) many
    ∙ table-value W (shift_term (length ns) (length ns) b) around ns some
    ∙ ap (λ o. o >>= λ ms. Some (pair (index_value ns) (set_of ms))) (each-ext _ (λ at. encode_outcome (f at) >>= λ w. Some (pair (index_value at) w)) (indices ns) cells ∙ pairs-graph f (indices ns))
    ∙ then-assoc (each f (indices ns)) (λ cs. Some (graph (indices ns) (map encoding cs))) (λ ms. Some (pair (index_value ns) (set_of ms)))
    ∙ then-ext (each f (indices ns)) _ (λ cs. array_of ns cs >>= λ v. Some (encoding v)) (λ cs e. made cs e)
    ∙ sym (then-assoc (each f (indices ns)) (array_of ns) (λ v. Some (encoding v)))
  where
    at_index : (at : List ℕ) → length at ≡ length ns → cden W (push_index at around) b ≡ encode_outcome (f at) →
        pair_at W (push_index ns around) (shift_term (length ns) (length ns) b) at ≡ (encode_outcome (f at) >>= λ w. Some (pair (index_value at) w))
    at_index at e h = ap (λ o. o >>= λ w. Some (pair (index_value at) w))
        (ap (λ env. cden W env (shift_term (length ns) (length ns) b)) (sym (walked-append at [] (push_index ns around)) ∙ ap (λ env. push_index at [] ++ env) (sym (walked-append ns [] around)))
        ∙ (let p : length ns ≡ length (push_index at []) = omega (arith, length-walked at [], e) in let q : length ns ≡ length (push_index ns []) = omega (arith, length-walked ns []) in
        ap (λ k. cden W (push_index at [] ++ (push_index ns [] ++ around)) (shift_term k (length ns) b)) p ∙ ap (λ k. cden W (push_index at [] ++ (push_index ns [] ++ around)) (shift_term (length (push_index at [])) k b)) q)
        ∙ cden-shift_term W (push_index at []) (push_index ns []) around b
        ∙ ap (λ env. cden W env b) (walked-append at [] around)
        ∙ h)

    cells : Every (λ at. pair_at W (push_index ns around) (shift_term (length ns) (length ns) b) at ≡ (encode_outcome (f at) >>= λ w. Some (pair (index_value at) w))) (indices ns)
    cells = Every-join (λ at. length at ≡ length ns) (λ at. cden W (push_index at around) b ≡ encode_outcome (f at)) _ (λ at e h. at_index at e h) (indices ns) (indices_lengths ns) body

    made : (cs : List Datum) → each f (indices ns) ≡ Some cs → Some (pair (index_value ns) (set_of (graph (indices ns) (map encoding cs)))) ≡ (array_of ns cs >>= λ v. Some (encoding v))
    made cs e =
        sym (ap (λ o. o >>= λ v. Some (encoding v)) (array_of-made ns cs some few (omega (arith, each-length f (indices ns) cs e, length_indices ns)))
        ∙ ap (λ xs. Some (pair (index_value ns) (set_of (graph (indices ns) xs)))) (encodings-list cs))
