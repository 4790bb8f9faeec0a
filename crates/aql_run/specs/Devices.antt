-- The devices of a run, each as one thing.
use Rattle.std.specs.Prelude.{◌≡◌, ◌<◌, ◌⊎◌, ℕ, List, Option}
use Rattle.aql_outside.specs.Contents.{Content}
use Rattle.aql_outside.specs.declared.device.Source as source
use Rattle.aql_outside.specs.declared.device.Files as files
use Rattle.aql_session.specs.Device.{Device}
use Rattle.aql_run.specs.declared.status.Status.{Status}
use Rattle.aql_run.specs.declared.status.Status.TheVariants as status
use Rattle.aql_run.specs.Outcome.{Told}

-- the devices of a run, and what each may tell: the source what is left of it, the sink what it took, the files what they hold
pub record Devices : Type 1 where
  pub source : Device (Option (List ℕ))
  pub sink : Device (Option (List ℕ))
  pub files : Device (Option Content)

-- what the causes of statuses speak of: the counts of the source before and after, what is left of it, and the files
abbrev pub told_of : (input_before input_now : ℕ) → (left : Option (List ℕ)) → Device (Option Content) → Told
told_of input_before input_now left files = record {
  input_before = input_before;
  input_now = input_now;
  left = left;
  files_before = files.faults_before;
  files_now = files.faults_after;
  holds = files.before;
}

-- the causes of a run's statuses speak of its devices
abbrev pub told_by : Devices → Told
told_by d = told_of d.source.faults_before d.source.faults_after d.source.after d.files

-- no failure of a source is passed over: if it is quiet and its count is greater than before, the run ended with Input, or with Output where that
-- line could not be written
abbrev pub NoticesInput : {S : Type 0} → source.Ghosts S → (old new : S) → Status → Type 0
NoticesInput s old new end = s.quiet → s.faults old < s.faults new → (end ≡ status.Input) ⊎ (end ≡ status.Output)

-- the same of files, with Files in the place of Input
abbrev pub NoticesFiles : {F : Type 0} → files.Ghosts F → (old new : F) → Status → Type 0
NoticesFiles f old new end = f.quiet → f.faults old < f.faults new → (end ≡ status.Files) ⊎ (end ≡ status.Output)
