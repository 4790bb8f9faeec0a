use Rattle.std.proofs.Common.{arith}
use Rattle.std.proofs.lemmas.Result.{IfOk-weaker}
use Rattle.nrca_term.specs.View.{term_of}
use Rattle.aql_desugar.specs.Laws.Parts.{ok_join}
use Rattle.aql_desugar.specs.Translation.{Translates, IsSmallWherePrincipal}
use Rattle.aql_session.specs.Executions.{IsStartAt, IsQueryTermAt, declaration_of, declarations_at, sorts_at}
use Rattle.aql_session.proofs.Planning.{query-term}
use Rattle.aql_session.proofs.Translated.{some-query, start-is, names-before}
use Rattle.aql_session.proofs.queries.start_of_query.Goals as goal

pub translate_within-requires-clause-query : goal.translate_within-requires-clause-query
translate_within-requires-clause-query c = some-query (declarations_at c.args.at.now) c.args.at.now.n (declaration_of c.args.at.now) c.requires.query

pub translate_within-requires-clause-named : goal.translate_within-requires-clause-named
translate_within-requires-clause-named c = names-before (declarations_at c.args.at.now) c.args.at.now.n c.args.names.now c.requires.named

pub translate_within-requires-clause-within : goal.translate_within-requires-clause-within
translate_within-requires-clause-within c = c.requires.limits c.args.at.now.n c.requires.first (omega arith)

pub returns-clause-start : goal.returns-clause-start
returns-clause-start c =
    let p = c.args.at.now in
    IfOk-weaker c.translate_within.result (λ x. Translates p.decls.now p.typed.now p.n (term_of x)) (λ x. IsStartAt p (term_of x))
    (λ x h d e. start-is (declarations_at p) (sorts_at p) p.n d (term_of x) e c.requires.query h)
    c.translate_within.ensures.translated

pub returns-clause-query : goal.returns-clause-query
returns-clause-query c =
    let p = c.args.at.now in
    ok_join c.translate_within.result (λ x. Translates p.decls.now p.typed.now p.n (term_of x)) (λ x. IsSmallWherePrincipal p.decls.now p.typed.now (term_of x))
    (λ x. IsQueryTermAt p (term_of x))
    (λ x h small V stands. query-term (declarations_at p) (sorts_at p) p.n V (term_of x) stands c.requires.query h small)
    c.translate_within.ensures.translated c.translate_within.ensures.small
