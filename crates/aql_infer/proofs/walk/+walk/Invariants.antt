use Rattle.aql_infer_steps.specs.Constraints.{after, pure, make_all, make_binds, make_bounds, make_each, make_rows}
use Rattle.aql_infer_steps.specs.View.{Extends, locals_of, schemes_of, sketch_type, state_of, types_in}
use Rattle.aql_syntax.specs.View.{axes_in, defs_in, quals_of, trees_of}
use Rattle.std.proofs.Common.{◌+◌, ◌*◌, drop, length, ◌++◌, ◌≡◌}
use Rattle.aql_infer.proofs.walk.+walk.Given as goal

abbrev pub decreases-infer : goal.decreases-infer
decreases-infer l = 8 * l.fuel

abbrev pub decreases-infer_form : goal.decreases-infer_form
decreases-infer_form l = 8 * l.fuel + 5

abbrev pub decreases-infer_two : goal.decreases-infer_two
decreases-infer_two l = 8 * l.fuel + 3

abbrev pub decreases-infer_choice : goal.decreases-infer_choice
decreases-infer_choice l = 8 * l.fuel + 4

abbrev pub decreases-infer_members : goal.decreases-infer_members
decreases-infer_members l = 8 * l.fuel + 3

abbrev pub decreases-infer_literal : goal.decreases-infer_literal
decreases-infer_literal l = 8 * l.fuel + 3

abbrev pub decreases-infer_subscript : goal.decreases-infer_subscript
decreases-infer_subscript l = 8 * l.fuel + 3

abbrev pub decreases-infer_comprehension : goal.decreases-infer_comprehension
decreases-infer_comprehension l = 8 * l.fuel + 3

abbrev pub decreases-infer_tabulation : goal.decreases-infer_tabulation
decreases-infer_tabulation l = 8 * l.fuel + 3

abbrev pub decreases-infer_let : goal.decreases-infer_let
decreases-infer_let l = 8 * l.fuel + 3

abbrev pub decreases-infer_function : goal.decreases-infer_function
decreases-infer_function l = 8 * l.fuel + 3

abbrev pub decreases-infer_sum : goal.decreases-infer_sum
decreases-infer_sum l = 8 * l.fuel + 3

abbrev pub decreases-infer_all : goal.decreases-infer_all
decreases-infer_all l = 8 * l.fuel + 1

abbrev pub decreases-infer_each : goal.decreases-infer_each
decreases-infer_each l = 8 * l.fuel + 1

abbrev pub decreases-infer_bounds : goal.decreases-infer_bounds
decreases-infer_bounds l = 8 * l.fuel + 1

abbrev pub decreases-infer_rows : goal.decreases-infer_rows
decreases-infer_rows l = 8 * l.fuel + 2

abbrev pub decreases-infer_row : goal.decreases-infer_row
decreases-infer_row l = 8 * l.fuel + 1

abbrev pub decreases-infer_binds : goal.decreases-infer_binds
decreases-infer_binds l = 8 * l.fuel + 1

abbrev pub invariant-infer_all-loop-e : goal.invariant-infer_all-loop-e
invariant-infer_all-loop-e l = record {
  made : after (make_all (trees_of (drop l.e-index l.es)) (schemes_of l.positions) (locals_of l.positions l.env.items) (state_of l.positions l.s)) (λ ts. pure (types_in l.positions l.made.items ++ ts))
      ≡ make_all (trees_of l.es) (schemes_of l.positions) (locals_of l.positions l.initial.env.items) (state_of l.positions l.fn.s);
  count : length l.made.items ≡ l.e-index;
  kept : l.env.items ≡ l.initial.env.items;
}

abbrev pub invariant-infer_binds-loop-b : goal.invariant-infer_binds-loop-b
invariant-infer_binds-loop-b l = record {
  made : make_binds (defs_in (drop l.b-index l.binds)) (schemes_of l.positions) (locals_of l.positions l.env.items) (state_of l.positions l.s)
      ≡ make_binds (defs_in l.binds) (schemes_of l.positions) (locals_of l.positions l.initial.env.items) (state_of l.positions l.fn.s);
  extends : Extends l.initial.env.items l.env.items;
}

abbrev pub invariant-infer_bounds-loop-b : goal.invariant-infer_bounds-loop-b
invariant-infer_bounds-loop-b l = record {
  made : make_bounds (axes_in (drop l.b-index l.binds)) (schemes_of l.positions) (locals_of l.positions l.env.items) (state_of l.positions l.s)
      ≡ make_bounds (axes_in l.binds) (schemes_of l.positions) (locals_of l.positions l.initial.env.items) (state_of l.positions l.fn.s);
  kept : l.env.items ≡ l.initial.env.items;
}

abbrev pub invariant-infer_each-loop-e : goal.invariant-infer_each-loop-e
invariant-infer_each-loop-e l = record {
  made : make_each (trees_of (drop l.e-index l.es)) (schemes_of l.positions) (locals_of l.positions l.env.items) (sketch_type l.positions l.t) (state_of l.positions l.s)
      ≡ make_each (trees_of l.es) (schemes_of l.positions) (locals_of l.positions l.initial.env.items) (sketch_type l.positions l.t) (state_of l.positions l.fn.s);
  kept : l.env.items ≡ l.initial.env.items;
}

abbrev pub invariant-infer_rows-loop-q : goal.invariant-infer_rows-loop-q
invariant-infer_rows-loop-q l = record {
  made : make_rows (quals_of (drop l.q-index l.quals)) (schemes_of l.positions) (locals_of l.positions l.env.items) (state_of l.positions l.s)
      ≡ make_rows (quals_of l.quals) (schemes_of l.positions) (locals_of l.positions l.initial.env.items) (state_of l.positions l.fn.s);
  extends : Extends l.initial.env.items l.env.items;
}
