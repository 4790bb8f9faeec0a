use Rattle.std.proofs.Common.{length, ◌≡◌, ◌≤◌, List, ℕ, Some, map}
use Rattle.aql_outside.specs.Causes.{Blames}
use Rattle.aql_outside.specs.Contents.{bytes_in}
use Rattle.aql_value.specs.Lists.{Every}
use Rattle.cdf_slab.specs.Numbers.{IsCell, number_at}
use Rattle.cdf_slab.specs.Walk.{step_of, steps_of, walk, RoomSoFar}
use Rattle.cdf_slab.specs.Window.{IsPiece}
use Rattle.cdf_slab.proofs.Blocks.{ReadSoFar, CountSoFar}
use Rattle.nrca_array.specs.Runs.{IsWidth}
use Rattle.cdf_slab.proofs.cells.+read_cells.Given as goal

abbrev pub decreases-read_cells : goal.decreases-read_cells
decreases-read_cells g l = length l.axes.now

abbrev pub invariant-cells : goal.invariant-cells
invariant-cells g l = record {
  size : IsWidth l.format.size;
  room : RoomSoFar (steps_of l.rest) (step_of l.a) l.base l.i l.format.size l.format.end;
  many : CountSoFar (steps_of l.rest) (step_of l.a) l.base l.i (length l.all) (length l.fn.cells) (length (walk (steps_of l.axes) l.base));
  kinds : Every (IsCell l.format.signed) l.fn.cells → Every (IsCell l.format.signed) l.all;
  kept : g.F.Files.holds l.files ≡ g.F.Files.holds l.fn.files;
  blames : Blames g.F.Files.quiet ⊥ (g.F.Files.faults l.fn.files) (g.F.Files.faults l.files);
  told : (bytes : List ℕ) → bytes_in (g.F.Files.holds l.fn.files) l.name ≡ Some bytes → l.format.end ≤ length bytes → IsPiece bytes l.fn.window →
      IsPiece bytes l.window
      × ReadSoFar l.format.signed bytes l.format.kind (steps_of l.rest) (step_of l.a) l.base l.i (map (number_at bytes l.format.kind) (walk (steps_of l.axes) l.base)) l.all l.fn.cells;
}
