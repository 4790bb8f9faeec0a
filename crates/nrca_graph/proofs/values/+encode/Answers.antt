use Rattle.std.proofs.Common.{[], ◌∷◌, ◌++◌, length, map, arith, sym, ap, subst, ◌∙◌}
use Rattle.std.proofs.lemmas.List.{map-append}
use Rattle.aql_value.specs.Datum.{data_of, tuple, set}
use Rattle.aql_value.specs.Indices.{indices}
use Rattle.aql_value.specs.Meaning.{datum}
use Rattle.aql_value.specs.Laws.Meaning.{length_meaning, get_or_meaning}
use Rattle.aql_value.specs.Canon.{canon}
use Rattle.aql_value.specs.Order.{datum_cmp}
use Rattle.std.specs.List.Sorted.{IsSorted}
use Rattle.aql_value.specs.Laws.Set.{ascending_sorted}
use Rattle.aql_value.specs.Laws.RowMajor.{indices_lengths}
use Rattle.nrca_graph.specs.Encoding.{encoding, IsPairAt}
use Rattle.nrca_graph.specs.Laws.EncodingOrder.{encodings-list, graph-ascends}
use Rattle.nrca_graph.specs.Laws.IndexOrder.{indices-ascend}
use Rattle.nrca_graph.proofs.ValueSteps.{graph-empty, encoded_next, array_made, pair_encoded, pairs_next, parts_made}
use Rattle.nrca_graph.proofs.values.+encode.Goals as goal

pub encode_array-returns : goal.encode_array-returns
encode_array-returns t c =
    array_made _ _ _ _ c.pair_value.result c.index_value.result c.encode_graph-graph.result (c.as_slice-dims.ensures.value ∙ c.behind-c.view_is ∙ c.dims.ensures) c.items.ensures.items c.index_value.ensures
    c.encode_graph-graph.ensures c.pair_value.ensures

pub encode_graph-from_sorted-requires : goal.encode_graph-from_sorted-requires
encode_graph-from_sorted-requires t c =
    let ds = c.args.dims.now in
    subst (IsSorted datum_cmp) (sym c.in_ok-pairs.ensures)
    (ascending_sorted _ (graph-ascends (length ds) (indices ds) (map encoding c.args.cells.now) (indices_lengths ds) (indices-ascend ds)))

pub encode_items-loop-v-preserved : goal.encode_items-loop-v-preserved
encode_items-loop-v-preserved t c =
    let p = ap (map datum) c.deref-v-items.ensures.value ∙ c.items.view_is in
    ap (map datum) c.in_ok-push.ensures.items
    ∙ map-append datum _ _
    ∙ (λ j. c.loop-v.invariant j ++ (c.in_ok-encoded.ensures ∙ ap encoding (sym (get_or_meaning _ _ _ _ p c.v-item.is))) j ∷ [])
    ∙ encoded_next _ c.loop-v.v-index (datum c.v-item.result) (omega (arith, length_meaning _ _ p, c.loop-v-test.true))

pub encode_pairs-loop-place-init : goal.encode_pairs-loop-place-init
encode_pairs-loop-place-init t c = (c.requires.rank, ap (map datum) c.new-pairs.ensures.items ∙ sym (graph-empty _))

pub encode_pairs-loop-place-preserved : goal.encode_pairs-loop-place-preserved
encode_pairs-loop-place-preserved t c =
    let p = ap (map datum) c.deref-cell-items.ensures.value ∙ c.cells.view_is in
    let ds = c.args.dims.now in
    let made = pair_encoded ds c.loop-place.place (datum c.cell-item.result) (datum c.in_ok-pair.pair) c.encode_value-cell.result c.encode_value-cell.ensures c.in_ok-pair.ensures in (
      omega (arith, c.loop-place.invariant.0),
      ap (map datum) c.in_ok-push.ensures.items
          ∙ map-append datum _ _
          ∙ pairs_next ds c.args.cells.now _ c.loop-place.place (datum c.cell-item.result) (datum c.in_ok-pair.pair) (omega (arith, length_meaning _ _ p, c.loop-place-test.true)) c.loop-place.invariant.1
          (subst (λ x. IsPairAt ds c.loop-place.place (encoding x) (datum c.in_ok-pair.pair)) (sym (get_or_meaning _ _ _ _ p c.cell-item.is)) made),
    )

pub encode_value-returns-in-Some : goal.encode_value-returns-in-Some
encode_value-returns-in-Some t c =
    ap (λ xs. tuple (data_of xs)) (parts_made _ _ (sym c.in-Some.is ∙ c.new.ensures) ∙ c.in_ok-items-in-Row.ensures ∙ ap (map encoding) c.items.ensures.items ∙ sym (encodings-list _))
    ∙ sym (ap (λ v. encoding (datum v)) c.in-Row.is)

pub encode_value-returns-in_ok-canon-in-Members : goal.encode_value-returns-in_ok-canon-in-Members
encode_value-returns-in_ok-canon-in-Members t c =
    ap (λ xs. set (data_of xs)) (c.in_ok-canon-in-Members.ensures ∙ ap canon (c.in_ok-items-in-Members.ensures ∙ ap (map encoding) c.items-in-Members.ensures.items ∙ sym (encodings-list _)))
    ∙ sym (ap (λ v. encoding (datum v)) c.in-Members.is)
