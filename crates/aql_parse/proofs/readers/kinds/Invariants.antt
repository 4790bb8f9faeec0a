use Rattle.std.proofs.Common.{◌≡◌, length}
use Rattle.aql_parse_spec.specs.Parsing.{kinds_of}
use Rattle.aql_parse.specs.Fields.{with_kinds}
use Rattle.aql_parse.proofs.readers.kinds.Given as goal

abbrev pub invariant-loop-first : goal.invariant-loop-first
invariant-loop-first l = with_kinds l.found.items (kinds_of l.rest) ≡ kinds_of l.letters

abbrev pub decreases-loop-first : goal.decreases-loop-first
decreases-loop-first l = length l.rest
