use Rattle.std.proofs.Common.{◌+◌, ◌≤◌, ◌^◌, length, Some, sym, subst}
use Rattle.nrca_motion.specs.Moved.{IsChained, IsStillIn, KeepsMeaning}
use Rattle.nrca_ranges.specs.Shapes.{shapes_in}
use Rattle.nrca_term.specs.Term.{weight_of}
use Rattle.nrca_term.specs.View.{term_of}
use Rattle.aql_session.specs.Step.{IsMovedBy}
use Rattle.aql_session.proofs.Planning.{in-box, motion-made, motion-keeps}
use Rattle.aql_session.proofs.queries.move_out.Goals as goal

pub returns-in-Ok-clause-moved : goal.returns-in-Ok-clause-moved
returns-in-Ok-clause-moved c =
    let V = c.args.globals.now in
    let gs = shapes_in c.args.shapes.now in
    let t = term_of c.args.plan.now in
    let m = c.in-Ok.moved in
    let r = c.motion_over.result in
    let e = c.motion_over.ensures in
    subst (λ b. IsMovedBy b V t (Some m)) (sym c.if-options.true)
    (motion-made V gs t m c.requires.query c.requires.known
    (in-box r m (λ x. IsChained gs t x.moves (term_of x.term)) c.in-Ok.ensures e.moved)
    (in-box r m (λ x. IsStillIn gs (term_of x.term)) c.in-Ok.ensures e.still)
    (in-box r m (λ x. length x.moves ≤ (weight_of t + 1) ^ 3) c.in-Ok.ensures e.few))

pub returns-in-Ok-clause-keeps : goal.returns-in-Ok-clause-keeps
returns-in-Ok-clause-keeps c =
    let gs = shapes_in c.args.shapes.now in
    let t = term_of c.args.plan.now in
    motion-keeps c.args.globals.now gs t c.in-Ok.moved c.requires.query c.requires.known
    (in-box c.motion_over.result c.in-Ok.moved (λ x. KeepsMeaning gs t (term_of x.term)) c.in-Ok.ensures c.motion_over.ensures.meaning)
