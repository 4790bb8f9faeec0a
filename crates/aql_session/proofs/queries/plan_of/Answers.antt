use Rattle.std.proofs.Common.{refl}
use Rattle.nrca_ranges.specs.Shapes.{shapes_in}
use Rattle.nrca_term.specs.View.{term_of}
use Rattle.aql_session.proofs.Planning.{plan-made, plan-means, plan-query, value-valid}
use Rattle.aql_session.proofs.queries.plan_of.Goals as goal

pub move_out-requires-clause-query : goal.move_out-requires-clause-query
move_out-requires-clause-query c =
    let V = c.args.globals.now in
    let gs = shapes_in c.args.shapes.now in
    let t = term_of c.args.start in
    let p = c.in-Ok.field-0 in
    let e = c.in-Ok.ensures in
    plan-query V t (term_of p.term) p.trace c.requires.query
    (plan-made V gs t (term_of p.term) p.trace c.requires.query c.requires.known c.constants.ensures e.replayed e.normal e.few)

pub returns-in-Ok-move_out-clause-planned : goal.returns-in-Ok-move_out-clause-planned
returns-in-Ok-move_out-clause-planned c =
    let V = c.args.globals.now in
    let gs = shapes_in c.args.shapes.now in
    let t = term_of c.args.start in
    let p = c.in-Ok.field-0 in
    let e = c.in-Ok.ensures in
    record {
      start = refl;
      plan = plan-made V gs t (term_of p.term) p.trace c.requires.query c.requires.known c.constants.ensures e.replayed e.normal e.few;
      moved = c.in-Ok-move_out.ensures.moved;
      same = plan-means V gs t (term_of p.term) p.trace c.requires.query c.requires.known c.constants.ensures e.replayed e.normal e.few;
      keeps = c.in-Ok-move_out.ensures.keeps;
      valid = value-valid V gs t (term_of p.term) p.trace c.requires.query c.requires.known c.constants.ensures e.replayed e.normal e.few;
    }
