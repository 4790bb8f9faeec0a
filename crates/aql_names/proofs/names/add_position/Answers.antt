use Rattle.std.proofs.Common.{◌∙◌}
use Rattle.std.proofs.lemmas.Result.{MatchResult-from_err}
use Rattle.aql_names.proofs.Keys.{gains-known, same-known}
use Rattle.aql_names.proofs.names.add_position.Goals as goal

pub returns-in_err-push-in-Some-clause-as_before : goal.returns-in_err-push-in-Some-clause-as_before
returns-in_err-push-in-Some-clause-as_before c =
    MatchResult-from_err c.from_residual.result _ _ c.from_residual.ensures.0 (λ _.
    same-known c.args.positions.now c.as_slice.result.now c.name.inside.bytes c.index_mut.result.now c.push.new.self c.in-Some.k
    c.in-Some.ensures.index c.in-Some.ensures.value c.index_mut.ensures.value c.in_err-push-in-Some.ensures.items)

pub returns-in_ok-push-in-Some-clause-added : goal.returns-in_ok-push-in-Some-clause-added
returns-in_ok-push-in-Some-clause-added c =
    gains-known c.args.positions.now c.args.name.now c.as_slice.result.now c.name.inside.bytes c.index_mut.result.now c.push.new.self c.args.n c.in-Some.k
    (c.as_slice.ensures.value ∙ c.name.view_is) c.in-Some.ensures.index c.in-Some.ensures.value c.index_mut.ensures.value c.in_ok-push-in-Some.ensures.items
