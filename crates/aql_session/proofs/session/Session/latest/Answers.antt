use Rattle.std.proofs.Common.{◌<◌, Some, None, length, arith, sym}
use Rattle.aql_names.specs.Laws.Named.{last_named_inside}
use Rattle.aql_session.proofs.Binding.{latest-is}
use Rattle.aql_session.proofs.session.Session.latest.Goals as goal

pub returns-in-Some : goal.returns-in-Some
returns-in-Some c = latest-is c.self.inside.names c.self.inside.globals c.self.invariant.0 c.args.self.now c.self.view_is c.args.name.now (Some c.in-Some.i) c.in-Some.ensures

pub returns-in-None : goal.returns-in-None
returns-in-None c = latest-is c.self.inside.names c.self.inside.globals c.self.invariant.0 c.args.self.now c.self.view_is c.args.name.now None c.in-None.ensures

pub prove-unreachable-requires : goal.prove-unreachable-requires
prove-unreachable-requires c =
    let inside : c.in-Some.i < length c.self.inside.names = last_named_inside c.args.name.now c.self.inside.names c.in-Some.i (sym c.in-Some.ensures) in
    omega (arith, inside, c.len-count.ensures, c.if-prove.true)
