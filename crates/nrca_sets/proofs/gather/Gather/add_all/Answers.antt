use Rattle.std.proofs.Common.{[], ◌∷◌, map}
use Rattle.std.proofs.lemmas.List.{map-append}
use Rattle.aql_value.specs.Meaning.{datum}
use Rattle.nrca_sets.specs.Laws.Packed.{canon_more}
use Rattle.nrca_sets.proofs.gather.Gather.add_all.Goals as goal

pub loop-value-preserved : goal.loop-value-preserved
loop-value-preserved c =
    canon_more c.loop-value.gather c.in_ok-gather.gather c.args.self (map datum c.loop-value.yielded) _ (datum c.in-Some.value) c.in_ok-gather.ensures c.loop-value.invariant (map-append datum c.loop-value.yielded (c.in-Some.value ∷ []))
