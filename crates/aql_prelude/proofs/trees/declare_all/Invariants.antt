use Rattle.std.proofs.Common.{◌≡◌, ◌++◌, drop}
use Rattle.aql_syntax.specs.View.{decls_of}
use Rattle.aql_prelude.specs.Constants.{decls_of_constants}
use Rattle.aql_prelude.proofs.trees.declare_all.Given as goal

abbrev pub invariant-loop-constant : goal.invariant-loop-constant
invariant-loop-constant l = decls_of l.made.items ++ decls_of_constants (drop l.constant-index l.constants) ≡ decls_of_constants l.constants
