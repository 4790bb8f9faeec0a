use Rattle.std.proofs.Common.{◌-◌}
use Rattle.nrca_term.specs.Nodes.{gen_term, variable}
use Rattle.nrca_graph.specs.Made.{MakesOf}
use Rattle.nrca_graph.specs.Tabulation.{nest}
use Rattle.nrca_graph.proofs.tables.loops.Given as goal

abbrev pub invariant-loop-level : goal.invariant-loop-level
invariant-loop-level l = MakesOf (nest l._level (gen_term (variable (l.rank - 1)))) l.fn.body l.inner
