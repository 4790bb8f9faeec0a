use Rattle.std.proofs.Common.{◌∷◌, [], length, map, sym, ap, ◌∙◌, arith}
use Rattle.aql_value.specs.Indices.{indices}
use Rattle.aql_value.specs.Meaning.{datum}
use Rattle.aql_value.specs.Operations.{values_at}
use Rattle.nrca_forms.specs.Indexing.{pair_of, values_of}
use Rattle.std.proofs.lemmas.List.{length-map, map-append}
use Rattle.aql_value.specs.Laws.Indices.{length_indices}
use Rattle.nrca_forms.specs.Indexing.{put_group}
use Rattle.nrca_forms.proofs.Grouping.{no_groups, put_grouped}
use Rattle.nrca_forms.proofs.index.group_values.Goals as goal

pub loop-pair-init : goal.loop-pair-init
loop-pair-init c = c.in_ok-groups.ensures ∙ no_groups c.args.count (indices c.args.dims.now) (omega (arith, c.requires, length_indices c.args.dims.now))

pub group_value-requires : goal.group_value-requires
group_value-requires c =
    omega (arith, ap length c.loop-pair.invariant, length-map c.loop-pair.groups.items values_of, length-map (indices c.args.dims.now) (λ at. values_at at (map pair_of c.loop-pair.yielded)), length_indices c.args.dims.now)

pub loop-pair-preserved : goal.loop-pair-preserved
loop-pair-preserved c =
    c.in_ok-groups-2.ensures
    ∙ ap (put_group c.args.dims.now c.in-Some.pair.at (datum c.in-Some.pair.value)) c.loop-pair.invariant
    ∙ put_grouped c.args.dims.now c.in-Some.pair.at (datum c.in-Some.pair.value) (map pair_of c.loop-pair.yielded)
    ∙ ap (λ ps. map (λ at. values_at at ps) (indices c.args.dims.now)) (sym (map-append pair_of c.loop-pair.yielded (c.in-Some.pair ∷ [])))
