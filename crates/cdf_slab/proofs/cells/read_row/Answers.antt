use Rattle.std.proofs.Common.{◌+◌, ◌^◌, ◌-◌, ◌≤◌, map, Ok, Err, ap, sym, subst, ◌∙◌, arith}
use Rattle.aql_outside.specs.Contents.{bytes_in}
use Rattle.cdf_slab.specs.Numbers.{number_of}
use Rattle.nrca_array.specs.Runs.{run, HasAllBytes}
use Rattle.cdf_slab.specs.Walk.{step_of}
use Rattle.aql_outside.specs.Laws.Causes.{blamed_as, blamed_then}
use Rattle.cdf_slab.proofs.Blocks.{read_done}
use Rattle.cdf_slab.proofs.Goings.{goes-kinds, piece_late}
use Rattle.cdf_slab.proofs.Rows.{row_turn, row_next, row_fails, row_counts, row_late, run_told, has_run}
use Rattle.cdf_slab.proofs.cells.read_row.Goals as goal

pub bytes_from-requires-clause-within : goal.bytes_from-requires-clause-within
bytes_from-requires-clause-within g c = omega (arith, c.in-Ok.ensures.some, c.in-Ok.ensures.run.before 0 c.in-Ok.ensures.some)

pub push_run-requires-clause-whole : goal.push_run-requires-clause-whole
push_run-requires-clause-whole g c =
    subst (λ l. HasAllBytes l c.args.format.size c.step_along-step.result c.in-Ok.count) (sym c.bytes_from.ensures) (has_run c.run_in.new.window _ _ _ _ c.in-Ok.ensures.run)

pub row-preserved : goal.row-preserved
row-preserved g c =
    let n = c.in-Ok.count in
    let step = c.step_along-step.result in
    let here = c.offset_along-here.result in
    let le : c.row.i + n ≤ c.args.a.count = omega (arith, c.in-Ok.ensures.most, c.row-test.true) in
    let t = row_turn (step_of c.args.a) c.args.base c.row.i n c.args.format.size c.args.format.end here step (2 ^ 64 - 1) c.row.invariant.room c.offset_along-here.ensures.turn le c.row.invariant.step c.in-Ok.ensures.near in
    record {
      step = c.row.invariant.step;
      size = c.row.invariant.size;
      below = le;
      room = t.next;
      many = row_counts _ _ _ _ _ _ _ _ _ _ _ _ c.row.invariant.many t c.in-Ok-push_run.ensures.many;
      kinds = λ h.
          goes-kinds c.args.format.signed (map (number_of c.args.format.kind) (run c.args.format.size step n c.bytes_from.result.now)) c.row.all (Ok c.in-Ok-push_run.more) c.in-Ok-push_run.ensures.goes
          (c.row.invariant.kinds h);
      kept = c.in-Ok.ensures.frame.kept ∙ c.row.invariant.kept;
      blames = blamed_then _ _ _ _ _ _ c.row.invariant.blames (λ x. x) (blamed_as _ _ ⊥ _ _ (λ e. cc) (λ x. absurd x) c.in-Ok.ensures.frame.blames);
      told = λ bytes there le p.
          let old = c.row.invariant.told bytes there le p in
          let r = c.in-Ok.ensures.told bytes (ap (λ h. bytes_in h c.args.name.now) c.row.invariant.kept ∙ there) le old.0 in
          let m = run_told c.args.format.signed bytes c.run_in.new.window c.args.format.kind c.args.format.size here step n c.bytes_from.result.now c.row.all (Ok c.in-Ok-push_run.more) c.args.format.is c.in-Ok.ensures.run r.1 c.bytes_from.ensures c.in-Ok-push_run.ensures.goes in
          (r.1, row_next _ _ _ _ _ _ _ _ _ _ _ _ _ _ _ old.1 t m);
    }

pub returns-in-Err-push_run-clause-told : goal.returns-in-Err-push_run-clause-told
returns-in-Err-push_run-clause-told g c = λ bytes there is p.
    let n = c.in-Ok.count in
    let step = c.step_along-step.result in
    let here = c.offset_along-here.result in
    let le : c.row.i + n ≤ c.args.a.count = omega (arith, c.in-Ok.ensures.most, c.row-test.true) in
    let t = row_turn (step_of c.args.a) c.args.base c.row.i n c.args.format.size c.args.format.end here step (2 ^ 64 - 1) c.row.invariant.room c.offset_along-here.ensures.turn le c.row.invariant.step c.in-Ok.ensures.near in
    let old = c.row.invariant.told bytes there is p in
    let r = c.in-Ok.ensures.told bytes (ap (λ h. bytes_in h c.args.name.now) c.row.invariant.kept ∙ there) is old.0 in
    let m = run_told c.args.format.signed bytes c.run_in.new.window c.args.format.kind c.args.format.size here step n c.bytes_from.result.now c.row.all (Err c.in-Err-push_run.fault) c.args.format.is c.in-Ok.ensures.run r.1 c.bytes_from.ensures c.in-Err-push_run.ensures.goes in
    (row_fails _ _ _ _ _ _ _ _ _ _ _ _ _ _ _ old.1 t m, tt)

pub returns-in-Err-push_run-clause-late : goal.returns-in-Err-push_run-clause-late
returns-in-Err-push_run-clause-late g c =
    let n = c.in-Ok.count in
    let step = c.step_along-step.result in
    let here = c.offset_along-here.result in
    let le : c.row.i + n ≤ c.args.a.count = omega (arith, c.in-Ok.ensures.most, c.row-test.true) in
    let t = row_turn (step_of c.args.a) c.args.base c.row.i n c.args.format.size c.args.format.end here step (2 ^ 64 - 1) c.row.invariant.room c.offset_along-here.ensures.turn le c.row.invariant.step c.in-Ok.ensures.near in
    row_late c.args.format.signed c.args.format.kind c.args.format.size (step_of c.args.a) c.args.base c.row.i n c.args.format.end here step c.bytes_from.result.now c.row.all _ _ c.in-Err-push_run.fault c.row.invariant.many t c.in-Err-push_run.ensures.goes

pub returns-in-Err-clause-late : goal.returns-in-Err-clause-late
returns-in-Err-clause-late g c = piece_late c.args.format.signed _ c.in-Err.fault c.in-Err.ensures.late

pub returns-clause-told : goal.returns-clause-told
returns-clause-told g c = λ bytes there le p.
    let old = c.row.invariant.told bytes there le p in
    (read_done _ _ _ _ _ _ _ _ _ _ old.1 c.row-test.false, old.0)
