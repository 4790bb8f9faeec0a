use Rattle.std.proofs.Common.{sym, ◌∙◌, get_or, arith}
use Rattle.std.proofs.lemmas.Option.{slice_get-get_or}
use Rattle.aql_value.specs.Datum.{natural}
use Rattle.nrca_loops.specs.Runs.{list_with}
use Rattle.nrca_forms.specs.Laws.Index.{pairs_more}
use Rattle.nrca_forms.proofs.Members.{member_there}
use Rattle.nrca_forms.proofs.index.index_run.Goals as goal

pub loop-i-preserved : goal.loop-i-preserved
loop-i-preserved c =
    let m = get_or c.args.set.now c.loop-i.i (natural 0) in
    let at = slice_get-get_or c.args.set.now c.loop-i.i (natural 0) (omega arith) in
    c.in_ok-pairs.ensures
    ∙ (λ k. list_with (c.loop-i.invariant k) ((c.in_ok-pair.ensures ∙ member_there c.args.rank c.args.set.now c.loop-i.i m at) k))
    ∙ sym (pairs_more c.args.rank c.args.set.now c.args.from c.loop-i.i m (omega arith) at)
