use Rattle.std.proofs.Common.{◌≡◌, ◌≤◌, ◌-◌, List, ℕ, Some, length}
use Rattle.aql_outside.specs.Causes.{Blames}
use Rattle.aql_outside.specs.Contents.{bytes_in}
use Rattle.cdf_header.specs.File.{IsFront}
use Rattle.cdf_header.proofs.file.grow.Given as goal

abbrev pub invariant-pieces : goal.invariant-pieces
invariant-pieces g l = record {
  kept : g.F.Files.holds l.files ≡ g.F.Files.holds l.fn.files;
  blames : Blames g.F.Files.quiet ⊥ (g.F.Files.faults l.fn.files) (g.F.Files.faults l.files);
  within : length l.front.items ≤ l.target;
  longer : length l.fn.front.items ≤ length l.front.items;
  told : (bytes : List ℕ) → bytes_in (g.F.Files.holds l.fn.files) l.name ≡ Some bytes → l.target ≤ length bytes → IsFront bytes l.fn.front.items → IsFront bytes l.front.items;
}

abbrev pub decreases-pieces : goal.decreases-pieces
decreases-pieces g l = l.target - length l.front.items
