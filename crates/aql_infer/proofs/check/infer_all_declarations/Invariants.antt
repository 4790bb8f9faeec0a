use Rattle.std.proofs.Common.{◌≡◌, take, length}
use Rattle.aql_syntax.specs.View.{decls_of}
use Rattle.aql_infer.proofs.Progress.{Progress}
use Rattle.aql_infer.proofs.check.infer_all_declarations.Given as goal

abbrev pub invariant-loop-d : goal.invariant-loop-d
invariant-loop-d l = record {
  progress : Progress (decls_of (take l.d-index l.decls)) l.found;
  count : length l.found ≡ l.d-index;
}
