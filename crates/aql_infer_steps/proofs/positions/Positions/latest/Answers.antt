use Rattle.std.proofs.Common.{◌≡◌, List, None, subst, arith}
use Rattle.aql_syntax.specs.Names.{find}
use Rattle.aql_infer_steps.specs.View.{schemes_of}
use Rattle.aql_infer_steps.specs.Ground.{IsLatest}
use Rattle.aql_infer_steps.specs.declared.positions.Position.{Position}
use Rattle.aql_infer_steps.proofs.Finding.{latest-inside, latest-known, latest-none, latest-found}
use Rattle.aql_infer_steps.proofs.positions.Positions.latest.Goals as goal

pub index-requires : goal.index-requires
index-requires c = omega (arith, latest-inside c.args.x.now c.self.inside.items.items c.self.inside.names c.in-Some.i c.in-Some.ensures c.self.invariant.names, c.self.inside.items.ok.0)

pub index-requires-in-Some : goal.index-requires-in-Some
index-requires-in-Some c =
    omega (arith, latest-known c.args.x.now c.self.inside.items.items c.self.inside.names c.self.inside.ground.items c.in-Some.i c.self.invariant c.in-Some.ensures, c.self.inside.ground.ok.0)

pub returns-in-Some : goal.returns-in-Some
returns-in-Some c =
    subst (λ (ps : List Position). IsLatest c.args.x.now ps c.in-Some.i c.index.result.now c.index-in-Some.result.now) c.self.view_is
    (latest-found c.args.x.now c.self.inside.items.items c.self.inside.names c.self.inside.ground.items c.in-Some.i c.index.result.now c.index-in-Some.result.now c.self.invariant c.in-Some.ensures
    c.index.ensures c.index-in-Some.ensures)

pub returns-in-None : goal.returns-in-None
returns-in-None c =
    subst (λ (ps : List Position). find c.args.x.now (schemes_of ps) ≡ None) c.self.view_is
    (latest-none c.args.x.now c.self.inside.items.items c.self.inside.names c.in-None.ensures c.self.invariant.names)
