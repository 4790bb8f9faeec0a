use Rattle.std.proofs.Common.{◌≡◌, ◌+◌, ◌-◌, ◌*◌, ◌≤◌, length}
use Rattle.std.specs.Option.{option_map}
use Rattle.aql_value.specs.Canon.{canon}
use Rattle.aql_value.specs.Partial.{each, total}
use Rattle.nrca_term.specs.Meaning.{cden}
use Rattle.nrca_term.specs.Term.{weight_of, list_weight, parts_of, terms_in}
use Rattle.nrca_term.specs.Turns.{settle}
use Rattle.nrca_term.specs.View.{term_of, terms_of}
use Rattle.std.specs.List.{slice_range}
use Rattle.nrca_loops.specs.Parts.{parts_value}
use Rattle.nrca_loops.specs.Values.{values}
use Rattle.nrca_loops.specs.Runs.{lists_join, member_list, sets_join, sum_value, union_value}
use Rattle.nrca_loops.specs.Walks.{IsAt}
use Rattle.nrca_eval.specs.Runs.{run_values, run_turns, cell_values, cell_turns}
use Rattle.nrca_eval.proofs.+eval.Given as goal

abbrev pub decreases-evaluator::node : goal.decreases-evaluator::node
decreases-evaluator::node g l = 8 * weight_of (term_of l.term.now) + 2

abbrev pub decreases-evaluator::eval_strict : goal.decreases-evaluator::eval_strict
decreases-evaluator::eval_strict g l = 8 * weight_of (term_of l.term.now) + 1

abbrev pub decreases-evaluator::eval_parts : goal.decreases-evaluator::eval_parts
decreases-evaluator::eval_parts g l = 8 * weight_of (term_of l.term.now)

abbrev pub decreases-evaluator::eval_all : goal.decreases-evaluator::eval_all
decreases-evaluator::eval_all g l = 8 * list_weight (terms_of l.terms.now) + 3

abbrev pub decreases-evaluator::eval_cell : goal.decreases-evaluator::eval_cell
decreases-evaluator::eval_cell g l = 8 * list_weight (terms_of l.at.now) + 4

abbrev pub decreases-evaluator::eval_let : goal.decreases-evaluator::eval_let
decreases-evaluator::eval_let g l = 8 * (weight_of (term_of l.bound.now) + weight_of (term_of l.body.now)) + 3

abbrev pub decreases-evaluator::eval_if : goal.decreases-evaluator::eval_if
decreases-evaluator::eval_if g l = 8 * (weight_of (term_of l.test.now) + weight_of (term_of l.yes.now) + weight_of (term_of l.no.now)) + 4

abbrev pub decreases-evaluator::eval_choice : goal.decreases-evaluator::eval_choice
decreases-evaluator::eval_choice g l = 8 * (weight_of (term_of l.test.now) + weight_of (term_of l.yes.now) + weight_of (term_of l.no.now)) + 3

abbrev pub decreases-evaluator::eval_default : goal.decreases-evaluator::eval_default
decreases-evaluator::eval_default g l = 8 * (weight_of (term_of l.first.now) + weight_of (term_of l.second.now)) + 3

abbrev pub decreases-evaluator::eval_members : goal.decreases-evaluator::eval_members
decreases-evaluator::eval_members g l = 8 * weight_of (term_of l.over.now) + 3

abbrev pub decreases-evaluator::eval_sum : goal.decreases-evaluator::eval_sum
decreases-evaluator::eval_sum g l = 8 * (weight_of (term_of l.over.now) + weight_of (term_of l.body.now)) + 9

abbrev pub decreases-evaluator::eval_union : goal.decreases-evaluator::eval_union
decreases-evaluator::eval_union g l = 8 * (weight_of (term_of l.over.now) + weight_of (term_of l.body.now)) + 9

abbrev pub decreases-evaluator::eval_tab : goal.decreases-evaluator::eval_tab
decreases-evaluator::eval_tab g l = 8 * (list_weight (terms_of l.bounds.now) + weight_of (term_of l.body.now)) + 9

abbrev pub decreases-loops::body_value : goal.decreases-loops::body_value
decreases-loops::body_value g l = 8 * weight_of (term_of l.body.now) + 3

abbrev pub decreases-loops::sum_run : goal.decreases-loops::sum_run
decreases-loops::sum_run g l = 8 * weight_of (term_of l.body.now) + 6

abbrev pub decreases-loops::sum_members : goal.decreases-loops::sum_members
decreases-loops::sum_members g l = 8 * weight_of (term_of l.body.now) + 8

abbrev pub decreases-loops::sum_members-run : goal.decreases-loops::sum_members-run
decreases-loops::sum_members-run g l = 8 * weight_of (term_of l.body.now) + 7

abbrev pub decreases-loops::union_members : goal.decreases-loops::union_members
decreases-loops::union_members g l = 8 * weight_of (term_of l.body.now) + 8

abbrev pub decreases-loops::union_members-run : goal.decreases-loops::union_members-run
decreases-loops::union_members-run g l = 8 * weight_of (term_of l.body.now) + 7

abbrev pub decreases-loops::fill_cells : goal.decreases-loops::fill_cells
decreases-loops::fill_cells g l = 8 * weight_of (term_of l.body.now) + 8

abbrev pub decreases-loops::fill_cells-run : goal.decreases-loops::fill_cells-run
decreases-loops::fill_cells-run g l = 8 * weight_of (term_of l.body.now) + 7

abbrev pub decreases-loops::members_run : goal.decreases-loops::members_run
decreases-loops::members_run g l = 8 * weight_of (term_of l.body.now) + 6

abbrev pub decreases-loops::body_members : goal.decreases-loops::body_members
decreases-loops::body_members g l = 8 * weight_of (term_of l.body.now) + 3

abbrev pub decreases-loops::cells_run : goal.decreases-loops::cells_run
decreases-loops::cells_run g l = 8 * weight_of (term_of l.body.now) + 6

abbrev pub decreases-loops::sum_block : goal.decreases-loops::sum_block
decreases-loops::sum_block g l = 8 * weight_of (term_of l.body.now) + 5

abbrev pub decreases-loops::sum_each : goal.decreases-loops::sum_each
decreases-loops::sum_each g l = 8 * weight_of (term_of l.body.now) + 4

abbrev pub decreases-loops::sum_run-by_blocks : goal.decreases-loops::sum_run-by_blocks
decreases-loops::sum_run-by_blocks g l = l.to - l.at

abbrev pub decreases-loops::members_block : goal.decreases-loops::members_block
decreases-loops::members_block g l = 8 * weight_of (term_of l.body.now) + 5

abbrev pub decreases-loops::members_each : goal.decreases-loops::members_each
decreases-loops::members_each g l = 8 * weight_of (term_of l.body.now) + 4

abbrev pub decreases-loops::members_run-by_blocks : goal.decreases-loops::members_run-by_blocks
decreases-loops::members_run-by_blocks g l = l.to - l.at

abbrev pub decreases-loops::cells_block : goal.decreases-loops::cells_block
decreases-loops::cells_block g l = 8 * weight_of (term_of l.body.now) + 5

abbrev pub decreases-loops::cells_each : goal.decreases-loops::cells_each
decreases-loops::cells_each g l = 8 * weight_of (term_of l.body.now) + 4

abbrev pub decreases-loops::cells_run-by_blocks : goal.decreases-loops::cells_run-by_blocks
decreases-loops::cells_run-by_blocks g l = l.to - l.at

abbrev pub invariant-evaluator::eval_parts-loop-i : goal.invariant-evaluator::eval_parts-loop-i
invariant-evaluator::eval_parts-loop-i g l =
    (parts_value l.parts ≡ each (cden l.machine.globals.now (values l.env)) (slice_range (terms_in (parts_of (term_of l.term))) 0 l.i))
    × (l.turns ≡ total (settle l.machine.globals.now (values l.env)) (slice_range (terms_in (parts_of (term_of l.term))) 0 l.i))
    × (l.turns ≤ l.budget)

abbrev pub invariant-evaluator::eval_all-loop-term : goal.invariant-evaluator::eval_all-loop-term
invariant-evaluator::eval_all-loop-term g l =
    (parts_value l.parts ≡ each (cden l.machine.globals.now (values l.env)) (slice_range (terms_of l.terms) 0 l.term-index))
    × (l.turns ≡ total (settle l.machine.globals.now (values l.env)) (slice_range (terms_of l.terms) 0 l.term-index))
    × (l.turns ≤ l.budget)

abbrev pub invariant-loops::sum_run-by_blocks : goal.invariant-loops::sum_run-by_blocks
invariant-loops::sum_run-by_blocks g l =
    (l.sum ≡ sum_value (run_values l.machine.globals.now (values l.env) (term_of l.body) (member_list l.members) l.from l.at))
    × (l.turns ≡ run_turns l.machine.globals.now (values l.env) (term_of l.body) (member_list l.members) l.from l.at)
    × (l.turns ≤ l.budget)
    × (l.from ≤ l.at)
    × (l.at ≤ l.to)

abbrev pub invariant-loops::members_run-by_blocks : goal.invariant-loops::members_run-by_blocks
invariant-loops::members_run-by_blocks g l =
    (option_map canon l.all ≡ union_value (run_values l.machine.globals.now (values l.env) (term_of l.body) (member_list l.members) l.from l.at))
    × (l.turns ≡ run_turns l.machine.globals.now (values l.env) (term_of l.body) (member_list l.members) l.from l.at)
    × (l.turns ≤ l.budget)
    × (l.from ≤ l.at)
    × (l.at ≤ l.to)

abbrev pub invariant-loops::cells_run-by_blocks : goal.invariant-loops::cells_run-by_blocks
invariant-loops::cells_run-by_blocks g l =
    (l.cells ≡ cell_values l.machine.globals.now (values l.env) (term_of l.body) l.dims l.from l.at)
    × (l.turns ≡ cell_turns l.machine.globals.now (values l.env) (term_of l.body) l.dims l.from l.at)
    × (l.turns ≤ l.budget)
    × (l.from ≤ l.at)
    × (l.at ≤ l.to)

abbrev pub invariant-loops::sum_each-loop-i : goal.invariant-loops::sum_each-loop-i
invariant-loops::sum_each-loop-i g l =
    (l.sum ≡ sum_value (run_values l.machine.globals.now (values l.env) (term_of l.body) (member_list l.members) l.from l.i))
    × (l.turns ≡ run_turns l.machine.globals.now (values l.env) (term_of l.body) (member_list l.members) l.from l.i)
    × (l.turns ≤ l.budget)
    × IsAt l.members l.i l.sides

abbrev pub invariant-loops::members_each-loop-i : goal.invariant-loops::members_each-loop-i
invariant-loops::members_each-loop-i g l =
    (option_map canon l.all ≡ sets_join (option_map canon l.initial.all) (union_value (run_values l.machine.globals.now (values l.env) (term_of l.body) (member_list l.members) l.fn.span.from l.i)))
    × (l.turns ≡ run_turns l.machine.globals.now (values l.env) (term_of l.body) (member_list l.members) l.fn.span.from l.i)
    × (l.turns ≤ l.budget)
    × IsAt l.members l.i l.sides

abbrev pub invariant-loops::cells_each-loop-place : goal.invariant-loops::cells_each-loop-place
invariant-loops::cells_each-loop-place g l =
    (l.cells ≡ lists_join l.initial.cells (cell_values l.machine.globals.now (values l.env) (term_of l.body) l.dims l.fn.span.from l.place))
    × (l.turns ≡ cell_turns l.machine.globals.now (values l.env) (term_of l.body) l.dims l.fn.span.from l.place)
    × (l.turns ≤ l.budget)
    × (length l.at.items ≡ length l.dims)
