-- A tabulation whose parts mean encoded values means the encoded array, undefined where a bound is.
use Rattle.std.proofs.Common.{◌≡◌, ℕ, List, [], ◌∷◌, ◌++◌, length, map, take, replicate, Option, Some, None, refl, sym, ap, ◌∙◌, arith}
use Rattle.std.proofs.lemmas.List.{length-map, length-replicate}
use Rattle.aql_value.specs.Datum as datum
use Rattle.aql_value.specs.Datum.{Datum}
use Rattle.aql_value.specs.Indices.{indices}
use Rattle.aql_value.specs.Laws.Lists.{Every-impl}
use Rattle.aql_value.specs.Operations.{as_natural, array_of, push_index}
use Rattle.aql_value.specs.Laws.Operations.{each-naturals}
use Rattle.aql_value.specs.Partial.{◌>>=◌, each}
use Rattle.aql_value.specs.Laws.Partial.{each-length}
use Rattle.aql_value.specs.Laws.RowMajor.{indices_lengths}
use Rattle.aql_value.specs.Lists.{onto}
use Rattle.aql_ty.specs.Types as types
use Rattle.aql_ty.specs.Types.{Ty, IsRank}
use Rattle.nrca_term.specs.Term.{Term, Parts, terms_in}
use Rattle.nrca_term.specs.Typing.{Arg, arg}
use Rattle.nrca_term.specs.Meaning.{Outcomes, Part, here, worth, tab_value, cden, part_values}
use Rattle.nrca_term.specs.Laws.Entering.{length-walked}
use Rattle.nrca_term.specs.Laws.Sound.{AllSound, index-have, body-arg}
use Rattle.nrca_term.specs.Subst.{shift_term}
use Rattle.nrca_graph.specs.Encoding.{encoding, encode_outcome}
use Rattle.nrca_graph.specs.ArrayFree.{term_at}
use Rattle.nrca_graph.specs.Tabulation.{tabulation_graph, table_term}
use Rattle.nrca_graph.specs.Laws.Tabulated.{tabulation-encoded}
use Rattle.nrca_term.specs.Laws.Lets.{lets-value, walked-append}
use Rattle.nrca_graph.specs.Laws.KeptForms.{AllMirror, mirror-get}
use Rattle.nrca_graph.specs.Laws.StrictForms.{numbers-kept}
use Rattle.nrca_graph.specs.Laws.TranslatedParts.{BindersFit, first-terms, body-term, first-mirror, first-types, numbers-of, walked-encoded}

-- the arguments of a tabulation
abbrev pub tab_args : ℕ → Ty → List Arg
tab_args rank A = replicate rank (arg [] types.natural) ++ arg (replicate rank types.natural) A ∷ []

-- the node of a tabulation whose parts are translated
pub tabulation-node : (W : Outcomes) (around : List Datum) (rank : ℕ) (A : Ty) (ps : List Part) (qs : Parts) → IsRank rank → AllSound (tab_args rank A) ps →
    AllMirror (tab_args rank A) ps (part_values W around qs) → BindersFit (tab_args rank A) qs →
    cden W around (tabulation_graph (take rank (terms_in qs)) (term_at (terms_in qs) rank)) ≡ encode_outcome (tab_value rank ps)
tabulation-node W around rank A ps qs r s m b = of (each here (take rank ps)) refl
  where
    ds : List Term
    ds = take rank (terms_in qs)

    body : Term
    body = term_at (terms_in qs) rank

    bounds : each (cden W around) ds ≡ (each here (take rank ps) >>= λ vs. Some (map encoding vs))
    bounds = sym (first-terms W around rank types.natural (arg (replicate rank types.natural) A ∷ []) qs b)
        ∙ first-mirror rank types.natural (arg (replicate rank types.natural) A ∷ []) ps (part_values W around qs) m

    at_index : (at : List ℕ) → length at ≡ rank → cden W (push_index at around) body ≡ encode_outcome (worth ps rank (push_index at []))
    at_index at e =
        ap (λ l. cden W l body) (sym (walked-append at [] around))
        ∙ sym (body-term W around rank types.natural (arg (replicate rank types.natural) A) qs b (push_index at []) (omega (arith, length-walked at [], e, length-replicate rank types.natural)))
        ∙ ap (worth (part_values W around qs) rank) (sym (walked-encoded at []))
        ∙ mirror-get (tab_args rank A) ps (part_values W around qs) rank (arg (replicate rank types.natural) A) m (body-arg rank (arg [] types.natural) (arg (replicate rank types.natural) A)) (push_index at []) (index-have at rank e)

    of : (o : Option (List Datum)) → each here (take rank ps) ≡ o → cden W around (tabulation_graph ds body) ≡ encode_outcome (tab_value rank ps)
    of None e =
        lets-value W [] around ds (table_term (length ds) (shift_term (length ds) (length ds) body))
        ∙ ap (λ o. o >>= λ ws. cden W (onto ws [] ++ around) (table_term (length ds) (shift_term (length ds) (length ds) body))) (bounds ∙ ap (λ o. o >>= λ vs. Some (map encoding vs)) e)
        ∙ sym (ap (λ o. encode_outcome (o >>= each as_natural >>= λ ns. each (λ at. worth ps rank (push_index at [])) (indices ns) >>= array_of ns)) e)
    of (Some vs) e =
        let n = numbers-of rank vs (first-types rank types.natural (arg (replicate rank types.natural) A ∷ []) ps vs s e) in
        let k : each (cden W around) ds ≡ Some (map datum.natural n.0) = bounds ∙ ap (λ o. o >>= λ us. Some (map encoding us)) e ∙ ap (λ us. Some (map encoding us)) n.1 ∙ ap Some (numbers-kept n.0) in
        tabulation-encoded W around ds body n.0 (λ at. worth ps rank (push_index at [])) (omega (arith, n.2, r.0)) (omega (arith, n.2, r.1))
        (omega (arith, each-length (cden W around) ds (map datum.natural n.0) k, length-map n.0 datum.natural)) k
        (Every-impl (λ at. length at ≡ length n.0) (λ at. cden W (push_index at around) body ≡ encode_outcome (worth ps rank (push_index at []))) (λ at l. at_index at (l ∙ n.2)) (indices n.0) (indices_lengths n.0))
        ∙ sym (ap (λ o. encode_outcome (o >>= each as_natural >>= λ ns. each (λ at. worth ps rank (push_index at [])) (indices ns) >>= array_of ns)) (e ∙ ap Some n.1)
        ∙ ap (λ o. encode_outcome (o >>= λ ns. each (λ at. worth ps rank (push_index at [])) (indices ns) >>= array_of ns)) (each-naturals n.0))
