use Rattle.std.proofs.Common.{refl, sym, ◌∙◌, arith}
use Rattle.aql_value.specs.Meaning.{datum}
use Rattle.nrca_array.specs.Stored.{kept_cells}
use Rattle.aql_value.specs.Laws.Lists.{map_pushed, range_more}
use Rattle.nrca_array.proofs.flat.Flat.window.Goals as goal

pub loop-i-preserved : goal.loop-i-preserved
loop-i-preserved c =
    map_pushed datum _ _ _ (datum c.in_ok-get.field-0) _ c.in_ok-push.ensures.items c.loop-i.invariant refl
    ∙ sym (range_more (kept_cells c.self.inside.cells) c.args.from c.loop-i.i (datum c.in_ok-get.field-0) (omega arith) c.in_ok-get.ensures)
