use Rattle.std.proofs.Common.{◌≤◌, ◌++◌, ◌∷◌, [], length, ap, ◌∙◌, arith}
use Rattle.aql_syntax.specs.Tree.{declared_name}
use Rattle.aql_syntax.specs.Laws.View.{length-decls_of}
use Rattle.nrca_loops.specs.Values.{held_value}
use Rattle.aql_session.specs.Bound.{outcomes}
use Rattle.aql_session.specs.Numbered.{declarations, sorts, sort_numbered, so_far}
use Rattle.aql_session.proofs.Running.{declaration-there, bound-many, sorts-many, answer-is, binds-is}
use Rattle.aql_session.proofs.session.Session.step.Goals as goal

pub run_next-requires-clause-stands : goal.run_next-requires-clause-stands
run_next-requires-clause-stands g c κs within =
    let ds = declarations c.args.decls.now in
    let last : c.args.n ≤ length ds = omega (arith, length-decls_of c.args.decls.now.items.items, c.requires.last) in
    record {
      first = c.requires.first;
      last = last;
      many = bound-many ds c.args.n c.args.self.now last c.requires.bound;
      checked = c.requires.checked;
      typed = c.requires.types.0;
      macros = c.requires.types.1;
      limits = c.requires.limits;
    }

pub keep-requires-clause-last : goal.keep-requires-clause-last
keep-requires-clause-last g c = omega (arith, length-decls_of c.args.decls.now.items.items, c.requires.last)

pub keep-requires-clause-typed : goal.keep-requires-clause-typed
keep-requires-clause-typed g c = sorts-many _ (declarations c.args.decls.now) (sorts c.args.typed.now) c.requires.checked

pub returns-in_ok-keep-in-Ok-clause-answer : goal.returns-in_ok-keep-in-Ok-clause-answer
returns-in_ok-keep-in-Ok-clause-answer g c = λ d e.
    let ds = declarations c.args.decls.now in
    let last : c.args.n ≤ length ds = omega (arith, length-decls_of c.args.decls.now.items.items, c.requires.last) in
    answer-is ds (sorts c.args.typed.now) c.args.n (outcomes c.args.self.now)
    (record {
      first = c.requires.first;
      last = last;
      many = bound-many ds c.args.n c.args.self.now last c.requires.bound;
      checked = c.requires.checked;
      typed = c.requires.types.0;
      macros = c.requires.types.1;
      limits = c.requires.limits;
    })
    d e c.args.options.now.motion c.args.options.now.graph c.args.options.now.budget (g.F.Files.holds c.args.files.now) c.in-Ok.run' c.in_ok-keep-in-Ok.field-0 (c.in-Ok.ensures.ran d e) (c.in_ok-keep-in-Ok.ensures.answer d e)

pub returns-in_ok-keep-in-Ok-clause-binds : goal.returns-in_ok-keep-in-Ok-clause-binds
returns-in_ok-keep-in-Ok-clause-binds g c = λ d e.
    binds-is d (so_far c.args.decls.now (outcomes c.args.self.now)) c.args.options.now.motion c.args.options.now.graph c.args.options.now.budget (g.F.Files.holds c.args.files.now) c.in-Ok.run' (sort_numbered c.args.typed.now c.args.n)
    c.in_ok-keep-in-Ok.field-0 c.args.self.now c.keep.new.self c.requires.types (c.in-Ok.ensures.ran d e) (c.in_ok-keep-in-Ok.ensures.answer d e)
    (c.in_ok-keep-in-Ok.ensures.bound d e ∙ ap (λ b. b ++ (declared_name d, held_value c.in-Ok.run'.value) ∷ []) c.run_next.ensures.as_before)

pub returns-in_ok-keep-in-Ok-clause-answerable : goal.returns-in_ok-keep-in-Ok-clause-answerable
returns-in_ok-keep-in-Ok-clause-answerable g c = λ d e. (c.in-Ok.ensures.ran d e).answerable

pub keep-requires-clause-valid : goal.keep-requires-clause-valid
keep-requires-clause-valid g c =
    let ds = declarations c.args.decls.now in
    let last : c.args.n ≤ length ds = omega (arith, length-decls_of c.args.decls.now.items.items, c.requires.last) in
    let d = declaration-there ds c.args.n c.requires.first last in
    (c.in-Ok.ensures.ran d.0 d.1).valid
