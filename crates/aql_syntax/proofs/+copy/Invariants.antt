use Rattle.std.proofs.Common.{◌≡◌, drop}
use Rattle.aql_syntax.specs.Tree.{append, append_quals, append_axes, append_defs}
use Rattle.aql_syntax.specs.View.{trees_of, quals_of, axes_in, defs_in}
use Rattle.aql_syntax.proofs.+copy.Given as goal

abbrev pub invariant-copies::copy_exprs-loop-e : goal.invariant-copies::copy_exprs-loop-e
invariant-copies::copy_exprs-loop-e l = append (trees_of l.made.items) (trees_of (drop l.e-index l.es)) ≡ trees_of l.es

abbrev pub invariant-copies::copy_quals-loop-q : goal.invariant-copies::copy_quals-loop-q
invariant-copies::copy_quals-loop-q l = append_quals (quals_of l.made.items) (quals_of (drop l.q-index l.quals)) ≡ quals_of l.quals

abbrev pub invariant-copies::copy_binds-loop-b : goal.invariant-copies::copy_binds-loop-b
invariant-copies::copy_binds-loop-b l = append_axes (axes_in l.made.items) (axes_in (drop l.b-index l.binds)) ≡ axes_in l.binds

abbrev pub invariant-copies::copy_lets-loop-b : goal.invariant-copies::copy_lets-loop-b
invariant-copies::copy_lets-loop-b l = append_defs (defs_in l.made.items) (defs_in (drop l.b-index l.binds)) ≡ defs_in l.binds
