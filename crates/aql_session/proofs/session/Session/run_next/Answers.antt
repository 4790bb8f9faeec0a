use Rattle.std.proofs.Common.{◌∙◌, ap, sym, subst}
use Rattle.std.specs.Prelude.{IfOk, IfErr}
use Rattle.aql_session.specs.Bound.{outcomes}
use Rattle.aql_session.specs.Numbered.{so_far}
use Rattle.aql_session.specs.Executions.{IsReadyOver, RunsPosition, PositionFails, budget_of}
use Rattle.aql_session.specs.Step.{ReadsNoFile}
use Rattle.aql_session.proofs.Binding.{names-are, outcomes-zip}
use Rattle.aql_session.proofs.session.Session.run_next.Goals as goal

pub run_declaration-requires-clause-stands : goal.run_declaration-requires-clause-stands
run_declaration-requires-clause-stands g c κs within =
    let z = sym (ap outcomes c.self.view_is) ∙ outcomes-zip c.self.inside.names c.self.inside.globals c.self.invariant.0 in
    subst (IsReadyOver c.args.at.now) z c.requires.stands

pub run_declaration-requires-clause-named : goal.run_declaration-requires-clause-named
run_declaration-requires-clause-named g c κs within =
    sym (names-are c.self.inside.names c.self.inside.globals c.self.invariant.0 c.args.self.now c.self.view_is) ∙ c.requires.named

pub returns-clause-ran : goal.returns-clause-ran
returns-clause-ran g c =
    let z = sym (outcomes-zip c.self.inside.names c.self.inside.globals c.self.invariant.0) ∙ ap outcomes c.self.view_is in
    subst (λ V. IfOk c.run_declaration.result (RunsPosition c.args.at.now V (g.F.Files.holds c.args.files.now))) z c.run_declaration.ensures.ran

pub returns-clause-cause : goal.returns-clause-cause
returns-clause-cause g c =
    let z = sym (outcomes-zip c.self.inside.names c.self.inside.globals c.self.invariant.0) ∙ ap outcomes c.self.view_is in
    subst (λ V. IfErr c.run_declaration.result (PositionFails c.args.at.now V g.F.Files c.args.files.now c.run_declaration.new.files)) z
    c.run_declaration.ensures.cause

pub returns-clause-untouched : goal.returns-clause-untouched
returns-clause-untouched g c =
    let z = sym (outcomes-zip c.self.inside.names c.self.inside.globals c.self.invariant.0) ∙ ap outcomes c.self.view_is in
    λ d e u. c.run_declaration.ensures.untouched d e (subst (λ V. ReadsNoFile d (so_far c.args.at.now.decls.now V) (budget_of c.args.at.now)) (sym z) u)
