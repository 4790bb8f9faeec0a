use Rattle.std.proofs.Common.{◌≡◌, ◌∙◌, length, subst, sym}
use Rattle.aql_types.specs.Forms.{forms}
use Rattle.aql_types.specs.Extents.{IsMemo}
use Rattle.aql_types.proofs.Memo.{memo_empty}
use Rattle.aql_types.proofs.measure.all_within.Goals as goal

pub are_within-requires-clause-memo : goal.are_within-requires-clause-memo
are_within-requires-clause-memo c =
    let fs = forms c.args.ps.now c.args.ns.now in
    let e : c.deref_mut.result.now ≡ c.in_ok-memo.memo.items = c.deref_mut.ensures.value in
    subst (λ es. IsMemo c.args.most es fs) (sym (e ∙ c.in_ok-memo.ensures)) (memo_empty c.args.most (length c.args.ns.now) fs)
