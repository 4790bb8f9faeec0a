use Rattle.std.specs.Prelude.{◌≡◌, ◌++◌}
use Rattle.aql_syntax.specs.View.{decls_of}
use Rattle.aql_script.specs.Script.{positions}
use Rattle.aql_script.proofs.preparing.behind_prelude.Given as goal

abbrev pub invariant-loop-d : goal.invariant-loop-d
invariant-loop-d l = decls_of l.all.items.items ++ decls_of l.d-iterator.rest.items ≡ positions (decls_of l.fn.own.items.items)
