use Rattle.std.proofs.Common.{map, Some, sym, ap, ◌∙◌, arith}
use Rattle.aql_value.specs.Meaning.{datum}
use Rattle.aql_value.specs.Operations.{as_natural}
use Rattle.aql_value.specs.Partial.{each}
use Rattle.nrca_forms.proofs.Extents.{numbers_next, numbers_stop}
use Rattle.nrca_forms.proofs.index.naturals_of.Goals as goal

pub returns-in-None : goal.returns-in-None
returns-in-None c =
    let stop = numbers_stop c.deref-part-items.result.now c.loop-part.part-index c.part-item.result (omega arith) c.part-item.is c.in-None.ensures in
    sym (ap (each as_natural) (sym c.parts.view_is) ∙ ap (λ l. each as_natural (map datum l)) (sym c.deref-part-items.ensures.value) ∙ stop)

pub loop-part-preserved : goal.loop-part-preserved
loop-part-preserved c =
    numbers_next c.deref-part-items.result.now c.loop-part.part-index c.part-item.result c.loop-part.dims.items c.in-Some.n (omega arith) c.part-item.is c.loop-part.invariant c.in-Some.ensures
    ∙ ap Some (sym c.in_ok-push-in-Some.ensures.items)
