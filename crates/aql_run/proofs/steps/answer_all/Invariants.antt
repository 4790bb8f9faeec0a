use Rattle.std.specs.Prelude.{◌≡◌}
use Rattle.aql_options.specs.Settings.{settings_of}
use Rattle.aql_run.proofs.Going.{Before}
use Rattle.aql_run.proofs.steps.answer_all.Given as goal

abbrev pub invariant-positions : goal.invariant-positions
invariant-positions g l =
    Before l.prepared (settings_of l.options) (g.F.Files.holds l.fn.files) (g.F.Files.holds l.files) (l.files ≡ l.fn.files) l.answers.items l.session l.n l.count
    (g.O.Sink.holds l.fn.output) (g.O.Sink.holds l.output) g.F.Files.quiet g.O.Sink.quiet (g.F.Files.faults l.fn.files) (g.F.Files.faults l.files)
    (g.O.Sink.faults l.fn.output) (g.O.Sink.faults l.output)
