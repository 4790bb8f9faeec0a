use Rattle.std.proofs.Common.{arith, sym, subst, ◌∙◌}
use Rattle.std.proofs.lemmas.Result.{IfOk-weaker, IfErr-weaker}
use Rattle.aql_syntax.specs.Laws.View.{length-decls_of}
use Rattle.nrca_encoded.specs.Graphs.{IsTypedOver}
use Rattle.nrca_term.specs.View.{term_of}
use Rattle.aql_session.specs.Planned.{EvaluatesOne, PassAll}
use Rattle.aql_session.specs.Executions.{IsEvaluatedAt, IsSpentAt, budget_of, declaration_of, declarations_at, motion_of}
use Rattle.aql_session.proofs.Evaluating.{evaluated-is, spent-is}
use Rattle.aql_session.proofs.Planning.{plan-query, unchanged-plan, unmoved-plan}
use Rattle.aql_session.proofs.queries.run_query.Goals as goal

pub start_of_query-requires-clause-last : goal.start_of_query-requires-clause-last
start_of_query-requires-clause-last g c = omega (arith, length-decls_of c.args.at.now.decls.now.items.items, c.requires.stands.last)

pub returns-in-Ok-clause-evaluated : goal.returns-in-Ok-clause-evaluated
returns-in-Ok-clause-evaluated g c =
    let p = c.args.at.now in
    IfOk-weaker c.run_planned.result (EvaluatesOne c.args.globals.now (budget_of p) c.in-Ok.planned) (IsEvaluatedAt p c.args.globals.now)
    (λ q h d e. evaluated-is (declarations_at p) c.args.globals.now p.n c.requires.stands.many c.requires.stands.last d (term_of c.in_ok-start.start)
    (c.in_ok-start.ensures.start d e) (declaration_of p) e c.requires.query (motion_of p) (budget_of p) c.in-Ok.planned q c.in-Ok.ensures.planned h)
    c.run_planned.ensures.evaluated

pub returns-in-Ok-clause-spent : goal.returns-in-Ok-clause-spent
returns-in-Ok-clause-spent g c =
    let p = c.args.at.now in
    IfErr-weaker c.run_planned.result (PassAll c.args.globals.now (budget_of p) c.in-Ok.planned) (IsSpentAt p c.args.globals.now)
    (λ f h d e. spent-is (declarations_at p) c.args.globals.now p.n c.requires.stands.many c.requires.stands.last d (term_of c.in_ok-start.start)
    (c.in_ok-start.ensures.start d e) (motion_of p) (budget_of p) c.in-Ok.planned c.in-Ok.ensures.planned f h)
    c.run_planned.ensures.spent

-- the plan of a query is typed
pub returns-in-Ok-clause-typed : goal.returns-in-Ok-clause-typed
returns-in-Ok-clause-typed g c =
    let p = c.args.at.now in
    let V = c.args.globals.now in
    let t = term_of c.in_ok-start.start in
    let r = c.in-Ok.planned in
    IfOk-weaker c.run_planned.result (EvaluatesOne V (budget_of p) r) (λ q. IsTypedOver V (term_of q.plan))
    (λ q h. subst (IsTypedOver V) (sym h.plan) (plan-query V t (term_of r.plan) r.trace (c.in_ok-start.ensures.query V c.requires.stands) c.in-Ok.ensures.planned.plan))
    c.run_planned.ensures.evaluated

pub run_planned-requires-clause-unchanged : goal.run_planned-requires-clause-unchanged
run_planned-requires-clause-unchanged g c κs within = λ e.
    unchanged-plan c.args.globals.now (term_of c.in_ok-start.start) (term_of c.in-Ok.planned.plan) c.in-Ok.planned.trace c.in-Ok.ensures.planned.plan e
    ∙ sym c.in-Ok.ensures.planned.start

pub run_planned-requires-clause-unmoved : goal.run_planned-requires-clause-unmoved
run_planned-requires-clause-unmoved g c κs within = λ e.
    unmoved-plan (motion_of c.args.at.now) c.args.globals.now (term_of c.in-Ok.planned.plan) c.in-Ok.planned.moved c.in-Ok.ensures.planned.moved e
