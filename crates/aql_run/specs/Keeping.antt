-- What is kept of a run beside its report: the script that it read, and the fault of that script.
use Rattle.std.specs.Prelude.{◌≡◌, ℕ, List, Option, Some, None, Err}
use Rattle.aql_script.specs.declared.fault.ScriptFault.{ScriptFault}
use Rattle.aql_session.specs.Device.{Device}
use Rattle.aql_options.specs.Words.{options_of}
use Rattle.aql_run.specs.Codes.{code_of}
use Rattle.aql_run.specs.Ending.{Readies, Refused}
use Rattle.aql_run.specs.Reading.{ReadsWhole}
use Rattle.aql_run.specs.Sample.{sample_text}
use Rattle.aql_run.specs.declared.status.Status.{Status}
use Rattle.aql_run.specs.declared.status.Status.TheVariants as status

-- a run that ended so has read its script: every declaration was answered, or the script, a declaration or a file has a fault
abbrev pub HasScript : Status → Type 0
HasScript status.Done = Unit {0}
HasScript status.Memory = ⊥
HasScript status.Usage = ⊥
HasScript status.Text = Unit {0}
HasScript status.Syntax = Unit {0}
HasScript status.Type = Unit {0}
HasScript status.Deep = Unit {0}
HasScript status.Large = Unit {0}
HasScript status.Long = ⊥
HasScript status.File = Unit {0}
HasScript status.Input = ⊥
HasScript status.Output = ⊥
HasScript status.Spent = Unit {0}
HasScript status.Files = Unit {0}

-- a run that ended so has a script with a fault, so that no declaration was begun
abbrev pub IsOfScript : Status → Type 0
IsOfScript status.Done = ⊥
IsOfScript status.Memory = ⊥
IsOfScript status.Usage = ⊥
IsOfScript status.Text = Unit {0}
IsOfScript status.Syntax = Unit {0}
IsOfScript status.Type = Unit {0}
IsOfScript status.Deep = Unit {0}
IsOfScript status.Large = Unit {0}
IsOfScript status.Long = ⊥
IsOfScript status.File = ⊥
IsOfScript status.Input = ⊥
IsOfScript status.Output = ⊥
IsOfScript status.Spent = ⊥
IsOfScript status.Files = ⊥

-- the script of a run: what the source gave up to its end, or the text of the sample that is asked for
abbrev pub IsRead : (sample : Option ℕ) → (source : Device (Option (List ℕ))) → (script : List ℕ) → Type 0
IsRead None source script = ReadsWhole source.before source.after script
IsRead (Some n) source script = script ≡ sample_text n

-- the same of the sample that the words ask for
unfoldable pub ReadsScript : (words : List (List ℕ)) → (source : Device (Option (List ℕ))) → (script : List ℕ) → Type 0
ReadsScript words source script = IsRead (options_of words).sample source script

-- There is no fault of the script, and the status is of none; or this is the first fault of the script, in the order of the causes, and
-- its line was written as far as that went.
unfoldable pub IsRefused : (script : List ℕ) → (sink : Device (Option (List ℕ))) → Status → Option ScriptFault → Type 0
IsRefused script sink s None = IsOfScript s → ⊥
IsRefused script sink s (Some f) = Readies script (Err f) × Refused f sink s

-- what is kept beside a report that has this number for its status
pub record Keeps (words : List (List ℕ)) (source sink : Device (Option (List ℕ))) (number : ℕ) (text : List ℕ) (found : Option ScriptFault) : Type 0 where
  -- with the statuses 0, 3 to 7, 9, 12 and 13 the text is the script of the run
  pub script : (s : Status) → number ≡ code_of s → HasScript s → ReadsScript words source text
  -- what is kept of a fault is the fault of the printed line, and with the statuses 3 to 7 there is one
  pub fault : (s : Status) → number ≡ code_of s → IsRefused text sink s found
