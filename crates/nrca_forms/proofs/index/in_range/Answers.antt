use Rattle.std.proofs.Common.{map, Some, None, Bool, sym, ap, ◌∙◌, arith}
use Rattle.std.specs.Prelude.{if◌then◌else◌}
use Rattle.aql_value.specs.Operations.{all_in_range}
use Rattle.nrca_forms.specs.Indexing.{extent}
use Rattle.nrca_forms.proofs.Extents.{none_past, some_next, in_range_more}
use Rattle.nrca_forms.proofs.index.in_range.Goals as goal

pub returns-in-None : goal.returns-in-None
returns-in-None c =
    let past = none_past c.deref-dim-items.result.now c.loop-dim.dim-index (omega arith) c.in-None.is in
    let false_all = ap (λ l. all_in_range (map extent l)) (sym c.deref-dim-items.ensures.value) ∙ past in
    sym (ap (λ (b : Bool). if b then Some (map extent c.args.extents.items) else None) false_all)

pub loop-dim-preserved : goal.loop-dim-preserved
loop-dim-preserved c =
    let inv = c.loop-dim.invariant in
    let new = c.in_ok-dims-in-Some.ensures in
    (some_next c.deref-dim-items.result.now c.loop-dim.dim-index c.in-Some.dim c.loop-dim.dims.items (omega arith) c.in-Some.is inv.0 ∙ sym new.0, ap all_in_range new.0 ∙ in_range_more c.loop-dim.dims.items c.in-Some.dim inv.1 new.1)
