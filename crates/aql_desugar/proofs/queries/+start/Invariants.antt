use Rattle.std.proofs.Common.{◌≡◌, ◌+◌, ◌*◌, ◌≤◌, ◌++◌, drop, max, map}
use Rattle.aql_syntax.specs.Names.{find}
use Rattle.aql_syntax.specs.View.{tree_of, trees_of, quals_of, axes_in, defs_in}
use Rattle.aql_syntax.specs.Measured.{latest}
use Rattle.aql_syntax.specs.Size.{greatest, axes_greatest, quals_greatest, count_quals, defs_greatest, count_defs, levels, extents_of, extent_of}
use Rattle.nrca_term.specs.View.{term_of}
use Rattle.aql_desugar_spec.specs.Start.{knowns_of, starts, bound_terms}
use Rattle.aql_desugar.specs.Names.{binders_of}
use Rattle.aql_desugar.proofs.queries.+start.Given as goal

abbrev pub decreases-start : goal.decreases-start
decreases-start l = 6 * levels (tree_of l.e.now) (extents_of (latest l.earlier.now))

abbrev pub decreases-pair : goal.decreases-pair
decreases-pair l = 6 * max (levels (tree_of l.a.now) (extents_of (latest l.earlier.now))) (levels (tree_of l.b.now) (extents_of (latest l.earlier.now))) + 1

abbrev pub decreases-all : goal.decreases-all
decreases-all l = 6 * greatest (trees_of l.es.now) (extents_of (latest l.earlier.now)) + 1

abbrev pub decreases-bounds : goal.decreases-bounds
decreases-bounds l = 6 * axes_greatest (axes_in l.binds.now) (extents_of (latest l.earlier.now)) + 1

abbrev pub decreases-index_body : goal.decreases-index_body
decreases-index_body l = 6 * levels (tree_of l.body.now) (extents_of (latest l.earlier.now)) + 1

abbrev pub decreases-match_body : goal.decreases-match_body
decreases-match_body l = 6 * levels (tree_of l.body.now) (extents_of (latest l.earlier.now)) + 1

abbrev pub decreases-call : goal.decreases-call
decreases-call l = 6 * (extent_of (find l.name.now (extents_of (latest l.earlier.now)))).levels + 3

abbrev pub decreases-expand : goal.decreases-expand
decreases-expand l = 6 * (extent_of (find l.name.now (extents_of (latest l.earlier.now)))).levels + 2

abbrev pub decreases-comprehend : goal.decreases-comprehend
decreases-comprehend l =
    6 * max (quals_greatest (quals_of l.quals.now) (extents_of (latest l.earlier.now))) (levels (tree_of l.head.now) (extents_of (latest l.earlier.now))) + 3 * count_quals (quals_of l.quals.now) + 2

abbrev pub decreases-match_qualifiers : goal.decreases-match_qualifiers
decreases-match_qualifiers l =
    6 * max (quals_greatest (quals_of l.rest.now) (extents_of (latest l.earlier.now))) (levels (tree_of l.head.now) (extents_of (latest l.earlier.now))) + 3 * count_quals (quals_of l.rest.now) + 3

abbrev pub decreases-grid : goal.decreases-grid
decreases-grid l =
    6 * max (quals_greatest (quals_of l.rest.now) (extents_of (latest l.earlier.now))) (levels (tree_of l.head.now) (extents_of (latest l.earlier.now))) + 3 * count_quals (quals_of l.rest.now) + 4

abbrev pub decreases-bind_all : goal.decreases-bind_all
decreases-bind_all l =
    6 * max (defs_greatest (defs_in l.binds.now) (extents_of (latest l.earlier.now))) (levels (tree_of l.body.now) (extents_of (latest l.earlier.now))) + 2 * count_defs (defs_in l.binds.now) + 2

abbrev pub decreases-bind_rest : goal.decreases-bind_rest
decreases-bind_rest l =
    6 * max (defs_greatest (defs_in l.rest.now) (extents_of (latest l.earlier.now))) (levels (tree_of l.body.now) (extents_of (latest l.earlier.now))) + 2 * count_defs (defs_in l.rest.now) + 3

abbrev pub invariant-all-loop-e : goal.invariant-all-loop-e
invariant-all-loop-e l = record {
  made : map term_of l.made.items ++ starts (trees_of (drop l.e-index l.es)) (knowns_of (latest l.earlier)) (binders_of (λ x. x.now) l.initial.names.items l.base)
      ≡ starts (trees_of l.es) (knowns_of (latest l.earlier)) (binders_of (λ x. x.now) l.initial.names.items l.base);
  kept : l.names.items ≡ l.initial.names.items;
  below : greatest (trees_of (drop l.e-index l.es)) (extents_of (latest l.earlier)) ≤ greatest (trees_of l.es) (extents_of (latest l.earlier));
}

abbrev pub invariant-bounds-loop-b : goal.invariant-bounds-loop-b
invariant-bounds-loop-b l = record {
  made : map term_of l.made.items ++ bound_terms (axes_in (drop l.b-index l.binds)) (knowns_of (latest l.earlier)) (binders_of (λ x. x.now) l.initial.names.items l.base)
      ≡ bound_terms (axes_in l.binds) (knowns_of (latest l.earlier)) (binders_of (λ x. x.now) l.initial.names.items l.base);
  kept : l.names.items ≡ l.initial.names.items;
  below : axes_greatest (axes_in (drop l.b-index l.binds)) (extents_of (latest l.earlier)) ≤ axes_greatest (axes_in l.binds) (extents_of (latest l.earlier));
}
