use Rattle.std.proofs.Common.{◌≡◌}
use Rattle.aql_value.specs.Lists.{Every}
use Rattle.nrca_term.specs.View.{term_of}
use Rattle.nrca_ranges.specs.Context.{context_of}
use Rattle.nrca_ranges.specs.Shapes.{ranges_of}
use Rattle.nrca_normal.specs.Conditions.{IsDefinedAlong}
use Rattle.nrca_normal.specs.Ways.{other_ways}
use Rattle.nrca_normal.proofs.conditions.others_defined.Given as goal

abbrev pub invariant-loop-i : goal.invariant-loop-i
invariant-loop-i l = record {
  back : context_of l.ctx ≡ context_of l.fn.ctx;
  ranges : ranges_of l.ctx ≡ ranges_of l.fn.ctx;
  globals : l.ctx.globals ≡ l.fn.ctx.globals;
  defined : Every (IsDefinedAlong (ranges_of l.fn.ctx) (context_of l.fn.ctx) (term_of l.term)) (other_ways l.from l.but l.i);
}
