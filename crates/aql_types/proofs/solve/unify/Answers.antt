use Rattle.std.proofs.Common.{ap}
use Rattle.aql_ty.specs.View.{type_of, types_of}
use Rattle.aql_types.specs.EquationView.{equations_of}
use Rattle.aql_types.proofs.Unifying.{unified}
use Rattle.aql_types.proofs.solve.unify.Goals as goal

pub returns : goal.returns
returns c =
    unified c.solve.result (type_of c.args.a.now) (type_of c.args.b.now) (equations_of c.in_ok-work.work.items) (types_of c.new.result.items)
    c.in_ok-work.ensures (ap types_of c.new.ensures.items) c.solve.ensures
