use Rattle.std.specs.Prelude.{◌≡◌, take}
use Rattle.aql_syntax.specs.View.{decls_of}
use Rattle.aql_prelude.specs.Prelude.{prelude_count}
use Rattle.aql_syntax.specs.Kept.{extents_after}
use Rattle.aql_script.specs.Limits.{WithinBetween}
use Rattle.aql_script.proofs.limits.first_large.Given as goal

abbrev pub invariant-positions : goal.invariant-positions
invariant-positions l = record {
  kept : l.earlier ≡ extents_after (take l.i l.decls.items.items);
  within : WithinBetween (decls_of l.decls.items.items) prelude_count l.i;
}
