use Rattle.std.proofs.Common.{◌≡◌, ◌++◌, drop}
use Rattle.aql_syntax.specs.Measured.{names_of}
use Rattle.aql_desugar.proofs.positions.index_names.Given as goal

abbrev pub invariant-loop-d : goal.invariant-loop-d
invariant-loop-d l = l.names ++ names_of (drop l.d-index l.decls) ≡ names_of l.decls
