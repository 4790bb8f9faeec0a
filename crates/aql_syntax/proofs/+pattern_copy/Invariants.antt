use Rattle.std.proofs.Common.{◌≡◌, drop}
use Rattle.aql_syntax.specs.Tree.{append_pats}
use Rattle.aql_syntax.specs.View.{pats_of}
use Rattle.aql_syntax.proofs.+pattern_copy.Given as goal

abbrev pub invariant-copies::copy_patterns-loop-p : goal.invariant-copies::copy_patterns-loop-p
invariant-copies::copy_patterns-loop-p l = append_pats (pats_of l.made.items) (pats_of (drop l.p-index l.ps)) ≡ pats_of l.ps
