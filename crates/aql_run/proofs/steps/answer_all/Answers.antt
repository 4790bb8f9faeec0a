use Rattle.std.proofs.Common.{ap, arith, ◌∙◌, ◌≡◌}
use Rattle.aql_outside.specs.Laws.Causes.{blamed_then}
use Rattle.aql_options.specs.Settings.{settings_of}
use Rattle.aql_run.proofs.Going.{begins, goes_on, ends_here, all_here, no_memory}
use Rattle.aql_run.proofs.steps.answer_all.Goals as goal

pub positions-init : goal.positions-init
positions-init g c =
    begins c.args.prepared.now (settings_of c.args.options.now) (g.F.Files.holds c.args.files.now) (g.F.Files.holds c.declare_prelude.new.files) (c.declare_prelude.new.files ≡ c.args.files.now)
    c.args.answers.now.items c.in-Ok.session c.len-count.result (g.O.Sink.holds c.args.output.now) g.F.Files.quiet g.O.Sink.quiet
    (g.F.Files.faults c.args.files.now) (g.F.Files.faults c.declare_prelude.new.files) (g.O.Sink.faults c.args.output.now) c.requires.prepared
    c.in-Ok.ensures.made c.requires.none (c.len-count.ensures ∙ c.args.prepared.now.decls.items.ok.0) (ap g.F.Files.holds c.in-Ok.ensures.untouched)
    (ap g.F.Files.faults c.in-Ok.ensures.untouched) c.in-Ok.ensures.untouched

pub returns-in-Err-clause-early : goal.returns-in-Err-clause-early
returns-in-Err-clause-early g c =
    ends_here c.args.prepared.now (settings_of c.args.options.now) (g.F.Files.holds c.args.files.now) (g.F.Files.holds c.positions.files) (c.positions.files ≡ c.args.files.now)
    (c.answer_next.new.files ≡ c.args.files.now) c.positions.answers.items c.answer_next.new.answers.items
    c.positions.session c.positions.n c.len-count.result (g.O.Sink.holds c.args.output.now) (g.O.Sink.holds c.positions.output) (g.O.Sink.holds c.answer_next.new.output)
    g.F.Files.quiet g.O.Sink.quiet (g.F.Files.faults c.args.files.now) (g.F.Files.faults c.positions.files) (g.F.Files.faults c.answer_next.new.files)
    (g.O.Sink.faults c.args.output.now) (g.O.Sink.faults c.positions.output) c.in-Err.halt c.positions.invariant c.in-Err.ensures.files.later
    (λ same none. c.in-Err.ensures.untouched none ∙ same) (λ same over. c.in-Err.ensures.unread over ∙ same) c.in-Err.ensures.halts

pub returns-in-Err-clause-files : goal.returns-in-Err-clause-files
returns-in-Err-clause-files g c = blamed_then _ _ _ _ _ _ c.positions.invariant.files (λ x. x) c.in-Err.ensures.files

pub returns-in-Err-clause-output : goal.returns-in-Err-clause-output
returns-in-Err-clause-output g c = blamed_then _ _ _ _ _ _ c.positions.invariant.output (λ x. x) c.in-Err.ensures.output

pub positions-preserved : goal.positions-preserved
positions-preserved g c =
    goes_on c.args.prepared.now (settings_of c.args.options.now) (g.F.Files.holds c.args.files.now) (g.F.Files.holds c.positions.files) (g.F.Files.holds c.answer_next.new.files)
    (c.positions.files ≡ c.args.files.now) (c.answer_next.new.files ≡ c.args.files.now) c.positions.answers.items
    c.answer_next.new.answers.items c.positions.session c.answer_next.new.session c.positions.n c.len-count.result (g.O.Sink.holds c.args.output.now) (g.O.Sink.holds c.positions.output)
    (g.O.Sink.holds c.answer_next.new.output) g.F.Files.quiet g.O.Sink.quiet _ _ (g.F.Files.faults c.args.files.now) (g.F.Files.faults c.positions.files) (g.F.Files.faults c.answer_next.new.files)
    (g.O.Sink.faults c.args.output.now) (g.O.Sink.faults c.positions.output) (g.O.Sink.faults c.answer_next.new.output) c.positions.invariant (omega (arith, c.positions-test.true))
    c.in-Ok-answer_next.ensures.goes (λ same none. c.in-Ok-answer_next.ensures.untouched none ∙ same) c.in-Ok-answer_next.ensures.kept
    c.in-Ok-answer_next.ensures.files (λ x. cc) c.in-Ok-answer_next.ensures.output (λ x. cc)

pub returns-clause-done : goal.returns-clause-done
returns-clause-done g c =
    all_here c.args.prepared.now (settings_of c.args.options.now) (g.F.Files.holds c.args.files.now) (g.F.Files.holds c.positions.files) (c.positions.files ≡ c.args.files.now)
    c.positions.answers.items c.positions.session c.positions.n c.len-count.result
    (g.O.Sink.holds c.args.output.now) (g.O.Sink.holds c.positions.output) g.F.Files.quiet g.O.Sink.quiet (g.F.Files.faults c.args.files.now) (g.F.Files.faults c.positions.files)
    (g.O.Sink.faults c.args.output.now) (g.O.Sink.faults c.positions.output) c.requires.prepared c.positions.invariant (omega (arith, c.positions-test.false))
    (c.len-count.ensures ∙ c.args.prepared.now.decls.items.ok.0)

pub returns-in_default-clause-early : goal.returns-in_default-clause-early
returns-in_default-clause-early g c =
    no_memory c.args.prepared.now (settings_of c.args.options.now) (g.F.Files.holds c.args.files.now) (c.declare_prelude.new.files ≡ c.args.files.now) (g.F.Files.faults c.args.files.now)
    (g.F.Files.faults c.declare_prelude.new.files) c.args.answers.now.items (g.O.Sink.holds c.args.output.now) c.requires.none c.in_default.ensures.untouched
