use Rattle.std.proofs.Common.{◌≡◌, ◌+◌, ◌-◌, Ok, Err, take, drop, ap, sym, subst, ◌∙◌, length}
use Rattle.std.specs.Prelude.{IfOk, IfErr}
use Rattle.aql_outside.specs.Contents.{bytes_in}
use Rattle.cdf_slab.specs.Walk.{steps_of, walk}
use Rattle.cdf_slab.specs.Slab.{IsLate}
use Rattle.aql_outside.specs.Laws.Causes.{blamed_as, blamed_then}
use Rattle.cdf_slab.proofs.Blocks.{read_next, read_fails, read_done, count_next, count_late, count_done, one_is}
use Rattle.cdf_slab.proofs.Parts.{part_reads, part_late, part_kinds}
use Rattle.cdf_slab.proofs.cells.+read_cells.Goals as goal

pub cells-preserved : goal.cells-preserved
cells-preserved t g c =
    let s = c.offset_along-here.ensures.turn in
    record {
      size = c.cells.invariant.size;
      room = s.next;
      many = count_next _ _ _ _ _ _ _ _ _ _ _ c.cells.invariant.many s c.cells-test.true c.in-Ok.ensures.many;
      kinds = λ h. part_kinds c.args.format c.block-part.result c.cells.all (Ok c.in-Ok.more) c.block-part.ensures.part c.in-Ok.ensures.kinds (c.cells.invariant.kinds h);
      kept = c.in-Ok.ensures.frame.kept ∙ c.cells.invariant.kept;
      blames = blamed_then _ _ _ _ _ _ c.cells.invariant.blames (λ x. x) (blamed_as _ _ ⊥ _ _ (λ e. cc) (λ x. absurd x) c.in-Ok.ensures.frame.blames);
      told = λ bytes there le p.
          let old = c.cells.invariant.told bytes there le p in
          let r = part_reads bytes c.args.format c.block-part.result c.cells.window c.read_cells.new.window (walk (steps_of (take (length c.args.axes.now - 1) (drop 1 c.args.axes.now))) c.offset_along-here.result) c.cells.all (Ok c.in-Ok.more) c.block-part.ensures.part (c.in-Ok.ensures.told bytes (ap (λ h. bytes_in h c.args.name.now) c.cells.invariant.kept ∙ there)) le old.0 in
          (r.1, read_next _ _ _ _ _ _ _ _ _ _ _ _ _ _ old.1 s c.cells-test.true r.0);
    }

pub returns-in-Err-clause-told : goal.returns-in-Err-clause-told
returns-in-Err-clause-told t g c = λ bytes there le p.
    let s = c.offset_along-here.ensures.turn in
    let old = c.cells.invariant.told bytes there le p in
    let r = part_reads bytes c.args.format c.block-part.result c.cells.window c.read_cells.new.window (walk (steps_of (take (length c.args.axes.now - 1) (drop 1 c.args.axes.now))) c.offset_along-here.result) c.cells.all (Err c.in-Err.fault) c.block-part.ensures.part (c.in-Err.ensures.told bytes (ap (λ h. bytes_in h c.args.name.now) c.cells.invariant.kept ∙ there)) le old.0 in
    (read_fails _ _ _ _ _ _ _ _ _ _ _ _ _ _ old.1 s c.cells-test.true r.0, tt)

pub returns-in-Err-clause-late : goal.returns-in-Err-clause-late
returns-in-Err-clause-late t g c =
    count_late c.args.format.signed _ _ _ _ _ _ _ _ _ _ c.in-Err.fault c.cells.invariant.many c.offset_along-here.ensures.turn c.cells-test.true (part_late c.args.format c.block-part.result _ c.in-Err.fault c.block-part.ensures.part c.in-Err.ensures.late)

pub returns-in-len1-clause-late : goal.returns-in-len1-clause-late
returns-in-len1-clause-late t g c =
    subst (λ l. IfErr c.read_row.result (IsLate c.args.format.signed (length c.args.cells + length (walk (steps_of l) c.args.base))))
    (sym (one_is c.args.axes.now (record { start = 0; count = 0; stride = 0; pitch = 0 }) c.in-len1.len_at_least c.in-len1.len_below)) c.read_row.ensures.late

pub returns-after-cells-clause-told : goal.returns-after-cells-clause-told
returns-after-cells-clause-told t g c = λ bytes there le p.
    let old = c.cells.invariant.told bytes there le p in
    (read_done _ _ _ _ _ _ _ _ _ _ old.1 c.cells-test.false, old.0)

pub returns-after-cells-clause-many : goal.returns-after-cells-clause-many
returns-after-cells-clause-many t g c = count_done _ _ _ _ _ _ _ c.cells.invariant.many c.cells-test.false

pub returns-in-len1-clause-many : goal.returns-in-len1-clause-many
returns-in-len1-clause-many t g c =
    subst (λ l. IfOk c.read_row.result (λ all. length all ≡ length c.args.cells + length (walk (steps_of l) c.args.base)))
    (sym (one_is c.args.axes.now (record { start = 0; count = 0; stride = 0; pitch = 0 }) c.in-len1.len_at_least c.in-len1.len_below)) c.read_row.ensures.many
