use Rattle.std.proofs.Common.{length, ◌≡◌, ◌-◌, ◌≤◌, ◌^◌, ◌*◌, min, List, ℕ, Some, [], ◌∷◌, map}
use Rattle.aql_outside.specs.Causes.{Blames}
use Rattle.aql_outside.specs.Contents.{bytes_in}
use Rattle.aql_value.specs.Lists.{Every}
use Rattle.cdf_slab.specs.Numbers.{IsCell, number_at}
use Rattle.cdf_slab.specs.Walk.{step_of, walk, RoomSoFar}
use Rattle.cdf_slab.specs.Window.{IsPiece}
use Rattle.cdf_slab.proofs.Blocks.{ReadSoFar, CountSoFar}
use Rattle.nrca_array.specs.Runs.{IsWidth}
use Rattle.cdf_slab.proofs.cells.read_row.Given as goal

abbrev pub decreases-row : goal.decreases-row
decreases-row g l = l.a.count - l.i

abbrev pub invariant-row : goal.invariant-row
invariant-row g l = record {
  step : l.step ≡ min (l.a.stride * l.a.pitch) (2 ^ 64 - 1);
  size : IsWidth l.format.size;
  below : l.i ≤ l.a.count;
  room : RoomSoFar [] (step_of l.a) l.base l.i l.format.size l.format.end;
  many : CountSoFar [] (step_of l.a) l.base l.i (length l.all) (length l.fn.cells) (length (walk (step_of l.a ∷ []) l.base));
  kinds : Every (IsCell l.format.signed) l.fn.cells → Every (IsCell l.format.signed) l.all;
  kept : g.F.Files.holds l.files ≡ g.F.Files.holds l.fn.files;
  blames : Blames g.F.Files.quiet ⊥ (g.F.Files.faults l.fn.files) (g.F.Files.faults l.files);
  told : (bytes : List ℕ) → bytes_in (g.F.Files.holds l.fn.files) l.name ≡ Some bytes → l.format.end ≤ length bytes → IsPiece bytes l.fn.window →
      IsPiece bytes l.window
      × ReadSoFar l.format.signed bytes l.format.kind [] (step_of l.a) l.base l.i (map (number_at bytes l.format.kind) (walk (step_of l.a ∷ []) l.base)) l.all l.fn.cells;
}
