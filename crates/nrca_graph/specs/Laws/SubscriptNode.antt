-- Subscripts and dimensions whose parts mean encoded values mean the encoded cell and the dimensions.
use Rattle.std.proofs.Common.{◌≡◌, ℕ, ◌≤◌, List, [], ◌∷◌, ◌++◌, length, map, replicate, Option, Some, None, refl, sym, ap, ◌∙◌, arith, zip, nat_eq, if◌then◌else◌, true}
use Rattle.aql_value.specs.Canon.{canon}
use Rattle.aql_value.specs.Datum as datum
use Rattle.aql_value.specs.Datum.{Datum, set, data_of}
use Rattle.aql_value.specs.Laws.Datum.{list_of-data_of}
use Rattle.aql_value.specs.Indices.{indices, paired_value}
use Rattle.aql_value.specs.Laws.Lists.{Every-impl}
use Rattle.aql_value.specs.Operations.{as_natural, only, part_of, tuple_of, index_value, dim_of, cell_of}
use Rattle.aql_value.specs.Laws.Operations.{each-naturals}
use Rattle.aql_value.specs.Partial.{◌>>=◌, each, concat}
use Rattle.aql_value.specs.Laws.Partial.{each-length, each-get}
use Rattle.aql_value.specs.Laws.RowMajor.{indices_lengths}
use Rattle.aql_value.specs.Strict.{Strict, strict_value}
use Rattle.aql_value.specs.Lists.{onto}
use Rattle.aql_ty.specs.Types as types
use Rattle.aql_ty.specs.Types.{Ty, IsRank}
use Rattle.aql_ty.specs.ValueTypes.{HasType}
use Rattle.nrca_term.specs.Term.{Term, Parts, none, part, terms_in}
use Rattle.nrca_term.specs.Nodes.{variable, proj_term, get_term}
use Rattle.nrca_term.specs.Typing.{arg}
use Rattle.nrca_term.specs.Meaning.{Outcomes, Part, here, cden, part_values}
use Rattle.nrca_term.specs.Rules.{sizes_term}
use Rattle.nrca_term.specs.Laws.Sound.{AllSound}
use Rattle.nrca_graph.specs.Encoding.{encoding, encode_outcome}
use Rattle.nrca_graph.specs.ArrayFree.{term_at, paired_with, subscript_graph}
use Rattle.nrca_graph.specs.Laws.EncodingOrder.{encoding-array, encodings-list}
use Rattle.nrca_graph.specs.Laws.IndexOrder.{indices-ascend}
use Rattle.nrca_graph.specs.Laws.KeptForms.{AllMirror}
use Rattle.nrca_term.specs.Laws.Lets.{lets-value, plain-each}
use Rattle.nrca_graph.specs.Laws.Paired.{second_if, key_cells, graph-keyed, paired-value, cell-chosen}
use Rattle.nrca_graph.specs.Laws.StrictForms.{numbers-kept}
use Rattle.nrca_graph.specs.Laws.TranslatedParts.{BindersFit, part-is, all-terms, here-mirror, here-types, numbers-of}

-- terms of numbers as one index
pub sizes-value : (W : Outcomes) (env : List Datum) (is : List Term) (ns : List ℕ) → 1 ≤ length ns → each (cden W env) is ≡ Some (map datum.natural ns) → cden W env (sizes_term is) ≡ Some (index_value ns)
sizes-value W env [] [] h e = absurd (omega (arith, h))
sizes-value W env [] (n ∷ ns) h e = cc
sizes-value W env (i ∷ []) [] h e = absurd (omega (arith, h))
sizes-value W env (i ∷ []) (n ∷ []) h e = sym (each-get (cden W env) (i ∷ []) (datum.natural n ∷ []) 0 i e refl)
sizes-value W env (i ∷ []) (n ∷ m ∷ ns) h e = absurd (omega (arith, each-length (cden W env) (i ∷ []) (map datum.natural (n ∷ m ∷ ns)) e))
sizes-value W env (i ∷ j ∷ is) [] h e = absurd (omega (arith, h))
sizes-value W env (i ∷ j ∷ is) (n ∷ []) h e = absurd (omega (arith, each-length (cden W env) (i ∷ j ∷ is) (datum.natural n ∷ []) e))
sizes-value W env (i ∷ j ∷ is) (n ∷ m ∷ ns) h e = ap (λ o. o >>= tuple_of) (plain-each W env (i ∷ j ∷ is) ∙ e)

-- terms one of which is undefined
pub sizes-none : (W : Outcomes) (env : List Datum) (is : List Term) → each (cden W env) is ≡ None → cden W env (sizes_term is) ≡ None
sizes-none W env [] e = cc
sizes-none W env (i ∷ []) e = of (cden W env i) e
  where
    of : (o : Option Datum) → (o >>= λ y. Some [] >>= λ ys. Some (y ∷ ys)) ≡ None → o ≡ None
    of None k = refl
    of (Some v) k = cc
sizes-none W env (i ∷ j ∷ is) e = ap (λ o. o >>= tuple_of) (plain-each W env (i ∷ j ∷ is) ∙ e)

-- the node of a subscript whose parts are translated
pub subscript-node : (W : Outcomes) (around : List Datum) (rank : ℕ) (T : Ty) (ps : List Part) (qs : Parts) → IsRank rank → AllSound (map (arg []) (types.array_of rank T ∷ replicate rank types.natural)) ps →
    AllMirror (map (arg []) (types.array_of rank T ∷ replicate rank types.natural)) ps (part_values W around qs) → BindersFit (map (arg []) (types.array_of rank T ∷ replicate rank types.natural)) qs →
    cden W around (subscript_graph (terms_in qs)) ≡ encode_outcome (each here ps >>= strict_value Strict.sub)
subscript-node W around rank T ps none r s m b = absurd b
subscript-node W around rank T [] (part k a qs) r s m b = absurd s
subscript-node W around rank T (p ∷ ps) (part k a qs) r s m b = of (p []) (each here ps) refl refl
  where
    is : List Term
    is = terms_in qs

    body : Term
    body = get_term (paired_with (proj_term 2 2 (variable 1)) (variable 0))

    K : List Datum → Option Datum
    K ws = cden W (onto ws [] ++ around) body

    array-value : cden W around a ≡ encode_outcome (p [])
    array-value = sym (part-is W around k a [] b.0) ∙ m.0 [] tt

    index-values : each (cden W around) is ≡ (each here ps >>= λ vs. Some (map encoding vs))
    index-values = sym (all-terms W around (replicate rank types.natural) qs b.1) ∙ here-mirror (replicate rank types.natural) ps (part_values W around qs) m.1

    found : (v : Datum) (at : List ℕ) → HasType (types.array_of rank T) v → length at ≡ rank →
        cden W (index_value at ∷ encoding v ∷ around) body ≡ encode_outcome (cell_of v at)
    found v at h l =
        ap (λ o. (o >>= λ y. Some (y ∷ [])) >>= strict_value Strict.get)
        (paired-value W (index_value at ∷ encoding v ∷ around) (proj_term 2 2 (variable 1)) (variable 0) (index_value at) (key_cells (indices h.0) (map encoding h.1))
        (ap (part_of 2 2) (ap encoding h.2 ∙ encoding-array h.0 h.1) ∙ ap (λ ms. Some (set (data_of ms))) (graph-keyed (indices h.0) (map encoding h.1))) refl)
        ∙ ap only (list_of-data_of (canon (concat (map (second_if (index_value at)) (key_cells (indices h.0) (map encoding h.1))))))
        ∙ cell-chosen at (indices h.0) h.1 (Every-impl (λ b. length b ≡ length h.0) (λ b. length b ≡ length at) (λ b e. e ∙ h.3 ∙ sym l) (indices h.0) (indices_lengths h.0)) (indices-ascend h.0)
        ∙ sym (ap (λ x. encode_outcome (cell_of x at)) h.2 ∙ ap (λ cs. encode_outcome (paired_value at (zip (indices h.0) cs))) (list_of-data_of h.1))

    of : (o : Option Datum) (c : Option (List Datum)) → p [] ≡ o → each here ps ≡ c → cden W around (subscript_graph (a ∷ is)) ≡ encode_outcome ((p [] >>= λ y. each here ps >>= λ ys. Some (y ∷ ys)) >>= strict_value Strict.sub)
    of None c e f =
        lets-value W [] around (a ∷ sizes_term is ∷ []) body
        ∙ ap (λ x. (x >>= λ y. (cden W around (sizes_term is) >>= λ z. Some [] >>= λ zs. Some (z ∷ zs)) >>= λ ys. Some (y ∷ ys)) >>= K) (array-value ∙ ap encode_outcome e)
        ∙ sym (ap (λ x. encode_outcome ((x >>= λ y. each here ps >>= λ ys. Some (y ∷ ys)) >>= strict_value Strict.sub)) e)
    of (Some v) None e f =
        lets-value W [] around (a ∷ sizes_term is ∷ []) body
        ∙ ap (λ x. (x >>= λ y. (cden W around (sizes_term is) >>= λ z. Some [] >>= λ zs. Some (z ∷ zs)) >>= λ ys. Some (y ∷ ys)) >>= K) (array-value ∙ ap encode_outcome e)
        ∙ ap (λ x. ((x >>= λ z. Some [] >>= λ zs. Some (z ∷ zs)) >>= λ ys. Some (encoding v ∷ ys)) >>= K) (sizes-none W around is (index-values ∙ ap (λ c. c >>= λ vs. Some (map encoding vs)) f))
        ∙ sym (ap (λ x. encode_outcome ((x >>= λ y. each here ps >>= λ ys. Some (y ∷ ys)) >>= strict_value Strict.sub)) e ∙ ap (λ x. encode_outcome ((x >>= λ ys. Some (v ∷ ys)) >>= strict_value Strict.sub)) f)
    of (Some v) (Some ws) e f =
        let n = numbers-of rank ws (here-types (replicate rank types.natural) ps ws s.1 f) in
        lets-value W [] around (a ∷ sizes_term is ∷ []) body
        ∙ ap (λ x. (x >>= λ y. (cden W around (sizes_term is) >>= λ z. Some [] >>= λ zs. Some (z ∷ zs)) >>= λ ys. Some (y ∷ ys)) >>= K) (array-value ∙ ap encode_outcome e)
        ∙ ap (λ x. ((x >>= λ z. Some [] >>= λ zs. Some (z ∷ zs)) >>= λ ys. Some (encoding v ∷ ys)) >>= K)
        (sizes-value W around is n.0 (omega (arith, n.2, r.0)) (index-values ∙ ap (λ c. c >>= λ vs. Some (map encoding vs)) f ∙ ap (λ us. Some (map encoding us)) n.1 ∙ ap Some (numbers-kept n.0)))
        ∙ found v n.0 (s.0 [] v tt e) n.2
        ∙ sym (ap (λ x. encode_outcome ((x >>= λ y. each here ps >>= λ ys. Some (y ∷ ys)) >>= strict_value Strict.sub)) e ∙ ap (λ x. encode_outcome ((x >>= λ ys. Some (v ∷ ys)) >>= strict_value Strict.sub)) f
        ∙ ap (λ us. encode_outcome (each as_natural us >>= cell_of v)) n.1 ∙ ap (λ x. encode_outcome (x >>= cell_of v)) (each-naturals n.0))

-- an index is its own encoding
pub index-kept : (ns : List ℕ) → encoding (index_value ns) ≡ index_value ns
index-kept [] = refl
index-kept (n ∷ []) = refl
index-kept (m ∷ n ∷ ns) = ap (λ vs. datum.tuple (data_of vs)) (encodings-list (map datum.natural (m ∷ n ∷ ns)) ∙ numbers-kept (m ∷ n ∷ ns))

-- the node of dimensions whose part is translated
pub dimension-node : (W : Outcomes) (around : List Datum) (rank : ℕ) (A : Ty) (ps : List Part) (qs : Parts) → AllSound (map (arg []) (types.array_of rank A ∷ [])) ps →
    AllMirror (map (arg []) (types.array_of rank A ∷ [])) ps (part_values W around qs) → BindersFit (map (arg []) (types.array_of rank A ∷ [])) qs →
    cden W around (proj_term 1 2 (term_at (terms_in qs) 0)) ≡ encode_outcome (each here ps >>= strict_value (Strict.dim rank))
dimension-node W around rank A ps none s m b = absurd b
dimension-node W around rank A [] (part k a qs) s m b = absurd s
dimension-node W around rank A (p ∷ q ∷ ps) (part k a qs) s m b = absurd s.1
dimension-node W around rank A (p ∷ []) (part k a qs) s m b =
    ap (λ o. (o >>= λ y. Some (y ∷ [])) >>= strict_value (Strict.proj 1 2)) (sym (part-is W around k a [] b.0) ∙ m.0 [] tt) ∙ of (p []) refl
  where
    of : (o : Option Datum) → p [] ≡ o → ((encode_outcome (p []) >>= λ y. Some (y ∷ [])) >>= strict_value (Strict.proj 1 2)) ≡ encode_outcome ((p [] >>= λ y. Some [] >>= λ ys. Some (y ∷ ys)) >>= strict_value (Strict.dim rank))
    of None e =
        ap (λ o. (encode_outcome o >>= λ y. Some (y ∷ [])) >>= strict_value (Strict.proj 1 2)) e ∙ sym (ap (λ o. encode_outcome ((o >>= λ y. Some [] >>= λ ys. Some (y ∷ ys)) >>= strict_value (Strict.dim rank))) e)
    of (Some v) e =
        let h = s.0 [] v tt e in
        ap (λ o. (encode_outcome o >>= λ y. Some (y ∷ [])) >>= strict_value (Strict.proj 1 2)) e
        ∙ ap (part_of 1 2) (ap encoding h.2 ∙ encoding-array h.0 h.1)
        ∙ sym (ap (λ o. encode_outcome ((o >>= λ y. Some [] >>= λ ys. Some (y ∷ ys)) >>= strict_value (Strict.dim rank))) e
        ∙ ap (λ x. encode_outcome (dim_of rank x)) h.2
        ∙ ap (λ n. encode_outcome ((if nat_eq (length h.0) n then Some h.0 else None) >>= λ ds. Some (index_value ds))) (sym h.3)
        ∙ ap (λ t. encode_outcome ((if t then Some h.0 else None) >>= λ ds. Some (index_value ds))) (same (length h.0))
        ∙ ap Some (index-kept h.0))
      where
        same : (n : ℕ) → nat_eq n n ≡ true
        same n = grind (arith)
