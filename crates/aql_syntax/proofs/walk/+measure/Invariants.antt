use Rattle.std.proofs.Common.{◌≡◌, ◌+◌, ◌-◌, ◌*◌, ◌^◌, ◌<◌, ◌≤◌, drop, min, max}
use Rattle.aql_syntax.specs.View.{tree_of, trees_of, quals_of, axes_in, defs_in}
use Rattle.aql_syntax.specs.Measured.{qual_part}
use Rattle.aql_syntax.specs.Size.{sizes, greatest, axes_sizes, axes_greatest, quals_sizes, quals_greatest, defs_sizes, defs_greatest, levels}
use Rattle.aql_syntax.proofs.walk.+measure.Given as goal

abbrev pub decreases-measure : goal.decreases-measure
decreases-measure g l = 3 * levels (tree_of l.e.now) (g.M.Macros.extents l.macros.now)

abbrev pub decreases-two : goal.decreases-two
decreases-two g l = 3 * max (levels (tree_of l.a.now) (g.M.Macros.extents l.macros.now)) (levels (tree_of l.b.now) (g.M.Macros.extents l.macros.now)) + 1

abbrev pub decreases-measure_all : goal.decreases-measure_all
decreases-measure_all g l = 3 * greatest (trees_of l.es.now) (g.M.Macros.extents l.macros.now) + 1

abbrev pub decreases-measure_quals : goal.decreases-measure_quals
decreases-measure_quals g l = 3 * quals_greatest (quals_of l.quals.now) (g.M.Macros.extents l.macros.now) + 2

abbrev pub decreases-measure_qual : goal.decreases-measure_qual
decreases-measure_qual g l = 3 * levels (qual_part l.q.now) (g.M.Macros.extents l.macros.now) + 1

abbrev pub decreases-measure_binds : goal.decreases-measure_binds
decreases-measure_binds g l = 3 * axes_greatest (axes_in l.binds.now) (g.M.Macros.extents l.macros.now) + 1

abbrev pub decreases-measure_lets : goal.decreases-measure_lets
decreases-measure_lets g l = 3 * defs_greatest (defs_in l.binds.now) (g.M.Macros.extents l.macros.now) + 1

abbrev pub invariant-measure_all-loop-e : goal.invariant-measure_all-loop-e
invariant-measure_all-loop-e g l = record {
  size_fits : l.total.size < 2 ^ 64;
  levels_fit : l.total.levels < 2 ^ 64;
  size : min (l.total.size + sizes (trees_of (drop l.e-index l.es)) (g.M.Macros.extents l.macros)) (2 ^ 64 - 1) ≡ min (sizes (trees_of l.es) (g.M.Macros.extents l.macros)) (2 ^ 64 - 1);
  levels : min (max l.total.levels (greatest (trees_of (drop l.e-index l.es)) (g.M.Macros.extents l.macros))) (2 ^ 64 - 1) ≡ min (greatest (trees_of l.es) (g.M.Macros.extents l.macros)) (2 ^ 64 - 1);
  below : greatest (trees_of (drop l.e-index l.es)) (g.M.Macros.extents l.macros) ≤ greatest (trees_of l.es) (g.M.Macros.extents l.macros);
}

abbrev pub invariant-measure_quals-loop-q : goal.invariant-measure_quals-loop-q
invariant-measure_quals-loop-q g l = record {
  size_fits : l.total.size < 2 ^ 64;
  levels_fit : l.total.levels < 2 ^ 64;
  size : min (l.total.size + quals_sizes (quals_of (drop l.q-index l.quals)) (g.M.Macros.extents l.macros)) (2 ^ 64 - 1) ≡ min (quals_sizes (quals_of l.quals) (g.M.Macros.extents l.macros)) (2 ^ 64 - 1);
  levels : min (max l.total.levels (quals_greatest (quals_of (drop l.q-index l.quals)) (g.M.Macros.extents l.macros))) (2 ^ 64 - 1) ≡ min (quals_greatest (quals_of l.quals) (g.M.Macros.extents l.macros)) (2 ^ 64 - 1);
  below : quals_greatest (quals_of (drop l.q-index l.quals)) (g.M.Macros.extents l.macros) ≤ quals_greatest (quals_of l.quals) (g.M.Macros.extents l.macros);
}

abbrev pub invariant-measure_binds-loop-b : goal.invariant-measure_binds-loop-b
invariant-measure_binds-loop-b g l = record {
  size_fits : l.total.size < 2 ^ 64;
  levels_fit : l.total.levels < 2 ^ 64;
  size : min (l.total.size + axes_sizes (axes_in (drop l.b-index l.binds)) (g.M.Macros.extents l.macros)) (2 ^ 64 - 1) ≡ min (axes_sizes (axes_in l.binds) (g.M.Macros.extents l.macros)) (2 ^ 64 - 1);
  levels : min (max l.total.levels (axes_greatest (axes_in (drop l.b-index l.binds)) (g.M.Macros.extents l.macros))) (2 ^ 64 - 1) ≡ min (axes_greatest (axes_in l.binds) (g.M.Macros.extents l.macros)) (2 ^ 64 - 1);
  below : axes_greatest (axes_in (drop l.b-index l.binds)) (g.M.Macros.extents l.macros) ≤ axes_greatest (axes_in l.binds) (g.M.Macros.extents l.macros);
}

abbrev pub invariant-measure_lets-loop-b : goal.invariant-measure_lets-loop-b
invariant-measure_lets-loop-b g l = record {
  size_fits : l.total.size < 2 ^ 64;
  levels_fit : l.total.levels < 2 ^ 64;
  size : min (l.total.size + defs_sizes (defs_in (drop l.b-index l.binds)) (g.M.Macros.extents l.macros)) (2 ^ 64 - 1) ≡ min (defs_sizes (defs_in l.binds) (g.M.Macros.extents l.macros)) (2 ^ 64 - 1);
  levels : min (max l.total.levels (defs_greatest (defs_in (drop l.b-index l.binds)) (g.M.Macros.extents l.macros))) (2 ^ 64 - 1) ≡ min (defs_greatest (defs_in l.binds) (g.M.Macros.extents l.macros)) (2 ^ 64 - 1);
  below : defs_greatest (defs_in (drop l.b-index l.binds)) (g.M.Macros.extents l.macros) ≤ defs_greatest (defs_in l.binds) (g.M.Macros.extents l.macros);
}
