-- What calls leave of an object.
use Rattle.std.specs.Prelude.{◌≡◌, ℕ}
use Rattle.aql_outside.specs.Causes.{Blames}

-- What several calls leave of files that hold `holds` and count `faults`: they hold what they held, and their count of faults
-- did not fall, rose where they are blamed, and where they are quiet is greater only there.
pub record Leaves {S C : Type 0} (holds : S → C) (faults : S → ℕ) (quiet blamed : Type 0) (before now : S) : Type 0 where
  pub kept : holds now ≡ holds before
  pub blames : Blames quiet blamed (faults before) (faults now)
