use Rattle.std.proofs.Common.{◌≡◌, [], sym, subst}
use Rattle.std.proofs.lemmas.Result.{IfOk-weaker, IfErr-weaker}
use Rattle.aql_desugar_spec.specs.Positions.{outcomes_of}
use Rattle.nrca_term.specs.Meaning.{cden}
use Rattle.nrca_term.specs.View.{term_of}
use Rattle.aql_session.specs.Numbered.{so_far}
use Rattle.aql_session.specs.Executions.{IsPositionCause, IsExecution, IsExecutionWithGraph, RunsPosition, budget_of, declarations_at, graphs_of, motion_of}
use Rattle.aql_session.specs.Step.{IsGraphBy}
use Rattle.aql_session.specs.declared.answer.StepFault.TheVariants as faults
use Rattle.aql_session.proofs.Evaluating.{outcomes-at}
use Rattle.aql_session.proofs.Running.{memory-cause, plain-run, spent-cause}
use Rattle.aql_session.proofs.executions.run_plain.Goals as goal

pub returns-in-Ok-clause-ran : goal.returns-in-Ok-clause-ran
returns-in-Ok-clause-ran g c = λ holds.
    let p = c.args.at.now in
    let V = c.args.globals.now in
    let q = c.in-Ok.evaluated in
    IfOk-weaker c.with_graph.result (IsExecutionWithGraph p V q) (RunsPosition p V holds)
    (λ r h d e.
    let earlier = so_far p.decls.now V in
    let is = c.in-Ok.ensures.evaluated d e in
    let same = outcomes-at (declarations_at p) V p.n c.requires.stands.many c.requires.stands.last in
    let graph = subst (λ W. IsGraphBy (graphs_of p) W (budget_of p) (term_of q.plan) (cden W [] (term_of q.plan)) r.graph) same h.1 in
    subst (IsExecution d earlier (motion_of p) (graphs_of p) (budget_of p) holds) (sym h.0)
    (plain-run d earlier (motion_of p) (graphs_of p) (budget_of p) holds q r.graph (c.requires.plain d e) is
    (subst (λ o. IsGraphBy (graphs_of p) (outcomes_of earlier) (budget_of p) (term_of q.plan) o r.graph) is.same graph)))
    c.with_graph.ensures.ran

pub returns-in-Ok-clause-cause : goal.returns-in-Ok-clause-cause
returns-in-Ok-clause-cause g c = λ holds before now.
    let p = c.args.at.now in
    let V = c.args.globals.now in
    IfErr-weaker c.with_graph.result (λ f. f ≡ faults.Memory) (IsPositionCause p V holds before now)
    (λ f h d e. memory-cause d (so_far p.decls.now V) (motion_of p) (budget_of p) holds before now f h)
    c.with_graph.ensures.fault

pub returns-in-Err-clause-cause : goal.returns-in-Err-clause-cause
returns-in-Err-clause-cause g c = λ holds before now d e.
    spent-cause d (so_far c.args.at.now.decls.now c.args.globals.now) (motion_of c.args.at.now) (budget_of c.args.at.now) holds before now c.in-Err.fault (c.in-Err.ensures.spent d e)
