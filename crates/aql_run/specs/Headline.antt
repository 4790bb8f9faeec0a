-- What a run promises, of three things: the words of its command line, what its devices told and counted before and after it, and its report.
use Rattle.std.specs.Prelude.{◌≡◌, ◌≤◌, ◌<◌, ◌+◌, ◌⊎◌, ℕ, List, Some, length}
use Rattle.std.specs.Io.KnownBytes.{Consumes, Appends}
use Rattle.aql_outside.specs.Causes.{Rose}
use Rattle.aql_run.specs.Codes.{code_of}
use Rattle.aql_run.specs.declared.status.Status.{Status}
use Rattle.aql_run.specs.declared.status.Status.TheVariants as statuses
use Rattle.aql_session.specs.Device.{Device}
use Rattle.aql_options.specs.Words.{options_of}
use Rattle.aql_run.specs.Complete.{EndsWell}
use Rattle.aql_run.specs.Devices.{Devices, told_by}
use Rattle.aql_run.specs.Outcome.{RunsWords}
use Rattle.aql_run.specs.Reading.{most_bytes}
use Rattle.aql_run.specs.declared.report.Report.{Report}

-- What a device's count of failed calls says of the end of a run. The count does not fall. The run blames the device only where the count rose. No
-- failure is passed over: if the device is quiet, so that calls which end well leave its count, and the count is greater, the run ended by it.
pub record Accounts {T : Type 0} (d : Device T) (blamed answer : Type 0) : Type 0 where
  pub later : d.faults_before ≤ d.faults_after
  pub failed : blamed → Rose d.faults_before d.faults_after
  pub noticed : d.quiet → d.faults_before < d.faults_after → answer

-- What a run promises, for any number of workers.
pub record Headline (words : List (List ℕ)) (d : Devices) (r : Report) : Type 0 where
  -- the number of this status is answered
  pub status : Status
  pub number : r.status ≡ code_of status
  -- The bytes that were taken from the source, and those that were given to the sink. A device that tells its bytes tells these; of one that
  -- tells nothing they are some bytes.
  pub taken : List ℕ
  pub written : List ℕ
  pub consumed : Consumes d.source.before d.source.after taken
  pub appended : Appends d.sink.before d.sink.after written
  pub few : length taken ≤ most_bytes + 1
  -- the cause of the status stands, and the answers and the written bytes are those that belong to it
  pub cause : RunsWords status words (told_by d) d.files.same taken r.answers.items.items r.stop written
  -- a sound script that was read whole is answered whole, or memory is wanting, where no count of failed calls rose
  pub complete : EndsWell status words (told_by d) (Rose d.sink.faults_before d.sink.faults_after) taken
  -- where the words have no reading nothing is touched, and with a sample the source is not
  pub usage : status ≡ statuses.Usage → d.source.same × d.sink.same
  pub sample : (n : ℕ) → (options_of words).sample ≡ Some n → d.source.same
  -- A failure of the source ends the run with `Input`, one of the files with `Files`, and one of the sink with `Output`. Where the sink fails at
  -- the line that tells of the first two, it is `Output` too.
  pub input : Accounts d.source (status ≡ statuses.Input) ((status ≡ statuses.Input) ⊎ (status ≡ statuses.Output))
  pub output : Accounts d.sink (status ≡ statuses.Output) (status ≡ statuses.Output)
  pub files : Accounts d.files (status ≡ statuses.Files) ((status ≡ statuses.Files) ⊎ (status ≡ statuses.Output))
  -- the files keep what they hold
  pub kept : d.files.after ≡ d.files.before
