use Rattle.std.specs.Prelude.{◌≡◌, ◌≤◌, ◌+◌, ◌-◌}
use Rattle.aql_prelude.specs.Prelude.{prelude_count}
use Rattle.aql_run.specs.Steps.{Declared}
use Rattle.aql_run.proofs.steps.declare_prelude.Given as goal

abbrev pub invariant-prelude : goal.invariant-prelude
invariant-prelude g l = (l.n ≤ prelude_count + 1) × Declared l.script.prepared.now (l.n - 1) l.session × (l.files ≡ l.fn.files)
