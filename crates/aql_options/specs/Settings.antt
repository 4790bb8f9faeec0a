-- What the answers of a run and its lines depend on besides the script: all of the options but the number of workers.
use Rattle.std.specs.Prelude.{ℕ, Bool, Option}
use Rattle.aql_options.specs.declared.words.Options.{Options}

-- the turns that each declaration may take, whether plans are shown, the size of the built-in script, where that is asked for, and whether
-- what is moved in plans may be evaluated and is shown with them, and whether the array-free forms of plans are evaluated and shown
pub record Settings : Type 0 where
  pub budget : ℕ
  pub plan : Bool
  pub sample : Option ℕ
  pub motion : Bool
  pub graph : Bool

-- those of the options of a run
abbrev pub settings_of : Options → Settings
settings_of options = record { budget = options.budget; plan = options.plan; sample = options.sample; motion = options.motion; graph = options.graph }
