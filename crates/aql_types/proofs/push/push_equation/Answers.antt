use Rattle.std.proofs.Common.{subst}
use Rattle.aql_ty.specs.View.{type_of}
use Rattle.aql_types.specs.Pushed.{Pushes}
use Rattle.aql_types.specs.Laws.Pushing.{shift_none, sides_pushed}
use Rattle.aql_types.proofs.push.push_equation.Goals as goal

pub returns : goal.returns
returns c =
    sides_pushed c.in_ok-left.left c.in_ok-right.right c.in_ok-right.g c.in_ok-left.g c.args.g (type_of c.args.e.left) (type_of c.args.e.right)
    (subst (Pushes c.in_ok-left.left c.in_ok-left.g c.args.g) (shift_none (type_of c.args.e.left)) c.in_ok-left.ensures)
    (subst (Pushes c.in_ok-right.right c.in_ok-right.g c.in_ok-left.g) (shift_none (type_of c.args.e.right)) c.in_ok-right.ensures)
