use Rattle.std.proofs.Common.{ap, sym, ◌∙◌, subst, take, ◌+◌, length}
use Rattle.aql_syntax.specs.View.{decls_of}
use Rattle.aql_infer.proofs.Progress.{Progress, checked_more, count_more}
use Rattle.aql_infer.proofs.check.infer_all_declarations.Goals as goal

pub loop-d-preserved : goal.loop-d-preserved
loop-d-preserved c =
    let i = c.loop-d.d-index in
    record {
      progress = subst (Progress (decls_of (take (i + 1) c.args.decls.now))) (sym c.in_ok-push-in-Ok.ensures.pushed)
          (checked_more c.args.decls.now i c.d-item.result c.loop-d.found c.in-Ok.p c.loop-d-test.true c.d-item.is c.loop-d.invariant.progress c.in-Ok.ensures.0 c.in-Ok.ensures.1);
      count = ap length c.in_ok-push-in-Ok.ensures.pushed ∙ count_more c.loop-d.found c.in-Ok.p i c.loop-d.invariant.count;
    }
