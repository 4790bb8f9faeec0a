use Rattle.std.proofs.Common.{Some, refl, ap, ◌∙◌}
use Rattle.aql_outside.specs.Laws.Causes.{none_blamed}
use Rattle.aql_syntax.specs.Tree.{val, bare}
use Rattle.aql_syntax.specs.View.{decl_of, tree_of}
use Rattle.aql_session.specs.Numbered.{so_far}
use Rattle.aql_session.specs.Executions.{budget_of, declaration_of, motion_of}
use Rattle.aql_session.proofs.Running.{plain-device}
use Rattle.aql_session.proofs.executions.run_declaration.Goals as goal

pub run_plain-requires-clause-query : goal.run_plain-requires-clause-query
run_plain-requires-clause-query g c κs within =
    (val c.in-Val.name (tree_of c.in-Val.expr), tree_of c.in-Val.expr, c.declaration.ensures ∙ ap (λ x. Some (decl_of x)) c.in-Val.is, refl)

pub run_plain-requires-in-Bare-clause-query : goal.run_plain-requires-in-Bare-clause-query
run_plain-requires-in-Bare-clause-query g c κs within =
    (bare (tree_of c.in-Bare.expr), tree_of c.in-Bare.expr, c.declaration.ensures ∙ ap (λ x. Some (decl_of x)) c.in-Bare.is, refl)

pub returns-in-Val-clause-ran : goal.returns-in-Val-clause-ran
returns-in-Val-clause-ran g c = c.run_plain.ensures.ran (g.F.Files.holds c.args.files.now)

pub returns-in-Val-clause-cause : goal.returns-in-Val-clause-cause
returns-in-Val-clause-cause g c = c.run_plain.ensures.cause (g.F.Files.holds c.args.files.now) (g.F.Files.faults c.args.files.now) _

pub returns-in-Bare-clause-ran : goal.returns-in-Bare-clause-ran
returns-in-Bare-clause-ran g c = c.run_plain-in-Bare.ensures.ran (g.F.Files.holds c.args.files.now)

pub returns-in-Bare-clause-cause : goal.returns-in-Bare-clause-cause
returns-in-Bare-clause-cause g c = c.run_plain-in-Bare.ensures.cause (g.F.Files.holds c.args.files.now) (g.F.Files.faults c.args.files.now) _

pub returns-in-Val-clause-blamed : goal.returns-in-Val-clause-blamed
returns-in-Val-clause-blamed g c =
    none_blamed _ _ _ (plain-device (declaration_of c.args.at.now) (decl_of c.declaration.result.now) (so_far c.args.at.now.decls.now c.args.globals.now)
    (motion_of c.args.at.now) (budget_of c.args.at.now) c.run_plain.result c.declaration.ensures c.run_plain.ensures.cause)

pub returns-in-Bare-clause-blamed : goal.returns-in-Bare-clause-blamed
returns-in-Bare-clause-blamed g c =
    none_blamed _ _ _ (plain-device (declaration_of c.args.at.now) (decl_of c.declaration.result.now) (so_far c.args.at.now.decls.now c.args.globals.now)
    (motion_of c.args.at.now) (budget_of c.args.at.now) c.run_plain-in-Bare.result c.declaration.ensures c.run_plain-in-Bare.ensures.cause)
