use Rattle.std.proofs.Common.{refl, sym, ◌∙◌}
use Rattle.aql_value.specs.Datum.{truth}
use Rattle.aql_value.specs.Meaning.{datum}
use Rattle.nrca_array.proofs.Steps.{map_take_more}
use Rattle.aql_value.specs.Laws.Lists.{map_pushed}
use Rattle.nrca_array.proofs.builder.truth_values.Goals as goal

pub loop-i-preserved : goal.loop-i-preserved
loop-i-preserved c =
    map_pushed datum _ _ _ (truth c.get.result) _ c.in_ok-push.ensures.items c.loop-i.invariant refl
    ∙ sym (map_take_more truth c.args.truths.now c.loop-i.i c.get.result c.get.ensures)
