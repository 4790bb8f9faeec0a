use Rattle.std.proofs.Common.{◌≡◌, map, sym, ap, ◌∙◌}
use Rattle.aql_value.specs.Indices.{indices}
use Rattle.aql_value.specs.Operations.{set_of, values_at}
use Rattle.nrca_forms.specs.Indexing.{pair_of, values_of}
use Rattle.std.proofs.lemmas.Result.{IfOk-weaker}
use Rattle.std.proofs.lemmas.Simd.{map-map}
use Rattle.nrca_forms.proofs.index.cells_of.Goals as goal

pub returns : goal.returns
returns c =
    IfOk-weaker c.sets_of.result (λ cells. cells ≡ map (λ g. set_of (values_of g)) c.in_ok-groups.groups.items) (λ cells. cells ≡ map (λ at. set_of (values_at at (map pair_of c.args.pairs.items))) (indices c.args.dims.now))
    (λ cells e. e ∙ sym (map-map set_of values_of c.in_ok-groups.groups.items) ∙ ap (map set_of) c.in_ok-groups.ensures ∙ map-map set_of (λ at. values_at at (map pair_of c.args.pairs.items)) (indices c.args.dims.now))
    c.sets_of.ensures
