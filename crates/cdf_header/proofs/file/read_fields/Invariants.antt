use Rattle.std.proofs.Common.{◌≡◌, ◌≤◌, ◌-◌, ◌+◌, ◌*◌, List, ℕ, Some, length, cond, false, true}
use Rattle.aql_outside.specs.Causes.{Blames}
use Rattle.aql_outside.specs.Contents.{bytes_in}
use Rattle.cdf_header.specs.File.{IsFront}
use Rattle.cdf_header.proofs.file.read_fields.Given as goal

abbrev pub invariant-fronts : goal.invariant-fronts
invariant-fronts g l = record {
  kept : g.F.Files.holds l.files ≡ g.F.Files.holds l.fn.files;
  blames : Blames g.F.Files.quiet ⊥ (g.F.Files.faults l.fn.files) (g.F.Files.faults l.files);
  magic : 4 ≤ length l.front.items;
  within : length l.front.items ≤ l.most;
  told : (bytes : List ℕ) → bytes_in (g.F.Files.holds l.fn.files) l.name ≡ Some bytes → l.fn.size ≡ length bytes → l.fn.whole ≡ true → IsFront bytes l.fn.start.items
      → IsFront bytes l.front.items × (l.ended ≡ false);
}

abbrev pub decreases-fronts : goal.decreases-fronts
decreases-fronts g l = 2 * (l.most - length l.front.items) + cond l.ended 0 1
