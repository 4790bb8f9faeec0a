use Rattle.std.proofs.Common.{subst, ap, ◌∙◌}
use Rattle.aql_ty.specs.Types.{apply_all}
use Rattle.aql_ty.specs.View.{types_of}
use Rattle.aql_types.specs.Pushed.{shift, PushesUses}
use Rattle.aql_types.specs.Laws.Pushing.{shift_none_all, pushed_uses}
use Rattle.aql_types.proofs.push.push_uses.Goals as goal

pub returns : goal.returns
returns c =
    subst (PushesUses c.in_ok-made.made c.args.g) (shift_none_all (types_of c.deref.result.now) ∙ ap types_of c.deref.ensures.value)
    (pushed_uses c.in_ok-made.field-0-0.items c.in_ok-made.made c.args.g (apply_all (shift 0) (types_of c.deref.result.now)) c.in_ok-made.ensures)
