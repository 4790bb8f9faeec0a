-- What the functions within this crate say of the end of a run.
use Rattle.std.specs.Prelude.{◌≡◌, ◌≤◌, ◌+◌, ◌⊎◌, ℕ, List, [], Option, Some, Result, codes, length, OnOk, IfOk, IfErr, IsErrOf}
use Rattle.std.specs.Io.KnownBytes.{Appends, Consumes}
use Rattle.aql_outside.specs.Contents.{Content}
use Rattle.aql_session.specs.Device.{Device}
use Rattle.aql_session.specs.declared.answer.Answer.{Answer}
use Rattle.aql_session.specs.declared.answer.StepFault.{StepFault}
use Rattle.aql_session.specs.declared.answer.StepFault.TheVariants as faults
use Rattle.aql_options.specs.Words.{HasReading, options_of}
use Rattle.aql_options.specs.declared.words.Options.{Options}
use Rattle.aql_options.specs.declared.fault.WordFault.{WordFault}
use Rattle.aql_options.specs.declared.fault.WordFault.TheVariants as wording
use Rattle.aql_script.specs.declared.preparing.Prepared.{Prepared}
use Rattle.aql_script.specs.declared.fault.ScriptFault.{ScriptFault}
use Rattle.aql_script.specs.declared.fault.ScriptFault.TheVariants as refused
use Rattle.aql_script.specs.Script.{Prepares, ReadsAlone}
use Rattle.aql_run.specs.Lines.{at_byte, in_declaration}
use Rattle.aql_run.specs.Sample.{sample_text}
use Rattle.aql_options.specs.Settings.{Settings}
use Rattle.aql_run.specs.Steps.{own, IsPrepared, AnswersAll, EndsAt}
use Rattle.aql_run.specs.declared.steps.Halt.{Halt}
use Rattle.aql_run.specs.Codes.{code_of}
use Rattle.aql_run.specs.Devices.{Devices, told_by, told_of}
use Rattle.aql_run.specs.Outcome.{IsCut, IsScript, RunsWords, Serves, file_line, stop_of}
use Rattle.aql_run.specs.Reading.{most_bytes}
use Rattle.aql_run.specs.declared.report.End.{End}
use Rattle.aql_run.specs.declared.report.Report.{Report}
use Rattle.aql_run.specs.declared.report.Stop.TheVariants as stops
use Rattle.aql_run.specs.declared.status.Status.{Status}
use Rattle.aql_run.specs.declared.status.Status.TheVariants as status

-- The bytes that a call took from the source, at most one more than a script may have, and gave to the sink, by what these tell before and
-- after it. Where a device tells nothing, they are some bytes.
abbrev pub Passes : (source sink : Device (Option (List ℕ))) → (List ℕ → List ℕ → Type 0) → Type 0
Passes source sink P = (taken written : List ℕ) × Consumes source.before source.after taken × Appends sink.before sink.after written
    × (length taken ≤ most_bytes + 1) × P taken written

-- What the calls below say, each under a word that no proof opens by itself: a script's positions hold the whole prelude, and the
-- words those of the command. Each names what is run, the settings, the answers, the devices and the end, in this order.

-- the options of the words, or why there are none
unfoldable pub ReadsOptions : (words : List (List ℕ)) → Result Options WordFault → Type 0
ReadsOptions words r = IfOk r (λ o. HasReading words × (o ≡ options_of words)) × (IsErrOf r wording.Usage → HasReading words → ⊥)

-- the words ask for the built-in script of n cells
unfoldable pub HasSample : (words : List (List ℕ)) → ℕ → Type 0
HasSample words n = (options_of words).sample ≡ Some n

-- the positions of a script, or its first fault
unfoldable pub Readies : (script : List ℕ) → Result Prepared ScriptFault → Type 0
Readies script r = Prepares script r

-- these are positions of a script
unfoldable pub IsReady : Prepared → Type 0
IsReady p = IsPrepared p

-- the declarations were answered, or the first ones
unfoldable pub Answering : Prepared → Settings → List Answer → (sink : Device (Option (List ℕ))) → (files : Device (Option Content)) →
    Result (Unit {0}) Halt → Type 0
Answering p settings answers sink files r = OnOk r (AnswersAll p settings answers sink files) × IfErr r (EndsAt p settings answers sink files)

-- the line was written and the status stands; or the sink failed and a part of the line is lacking; or there was no memory for it
abbrev pub EndsWith : (sink : Device (Option (List ℕ))) → (line : List ℕ) → Status → (result : Status) → Type 0
EndsWith sink line wanted result = (written : List ℕ) × Appends sink.before sink.after written
    × (((result ≡ wanted) × (written ≡ line)) ⊎ (((result ≡ status.Output) × IsCut written line) ⊎ ((result ≡ status.Memory) × (written ≡ []))))

-- the line of a script with a fault
abbrev pub refusal_line : ScriptFault → List ℕ
refusal_line (refused.Text k) = at_byte (codes "text") k
refusal_line (refused.Deep k) = at_byte (codes "deep") k
refusal_line (refused.Syntax n) = in_declaration (codes "syntax") n
refusal_line (refused.Type n) = in_declaration (codes "type") n
refusal_line (refused.Large n) = in_declaration (codes "large") n
refusal_line refused.Memory = []

-- the line was written as far as that went, for the status of the fault; for want of memory nothing
unfoldable pub Refused : ScriptFault → (sink : Device (Option (List ℕ))) → (result : Status) → Type 0
Refused (refused.Text k) sink result = EndsWith sink (refusal_line (refused.Text k)) status.Text result
Refused (refused.Deep k) sink result = EndsWith sink (refusal_line (refused.Deep k)) status.Deep result
Refused (refused.Syntax n) sink result = EndsWith sink (refusal_line (refused.Syntax n)) status.Syntax result
Refused (refused.Type n) sink result = EndsWith sink (refusal_line (refused.Type n)) status.Type result
Refused (refused.Large n) sink result = EndsWith sink (refusal_line (refused.Large n)) status.Large result
Refused refused.Memory sink result = (result ≡ status.Memory) × Appends sink.before sink.after []

-- the status of a declaration's fault
abbrev pub stop_status : StepFault → Status
stop_status (faults.Query start plan trace moved) = status.Spent
stop_status (faults.Cells cells) = status.Spent
stop_status (faults.File f) = status.File
stop_status (faults.Csv f) = status.File
stop_status faults.Device = status.Files
stop_status faults.Memory = status.Memory

-- its line in declaration n
abbrev pub stop_line : ℕ → StepFault → List ℕ
stop_line n (faults.Query start plan trace moved) = in_declaration (codes "budget") n
stop_line n (faults.Cells cells) = in_declaration (codes "budget") n
stop_line n (faults.File f) = file_line n (faults.File f)
stop_line n (faults.Csv f) = file_line n (faults.Csv f)
stop_line n faults.Device = codes "fault files\n"
stop_line n faults.Memory = []

-- the line of the fault of declaration n was written, and the fault is kept; or the sink failed and a front of the line was
-- written; or there was no memory for it
unfoldable pub Stopped : ℕ → StepFault → (sink : Device (Option (List ℕ))) → End → Type 0
Stopped n f sink e = (written : List ℕ) × Appends sink.before sink.after written
    × (((e.status ≡ stop_status f) × (e.stop ≡ stop_of f) × (written ≡ stop_line n f))
    ⊎ (((e.status ≡ status.Output) × (e.stop ≡ stops.Other) × IsCut written (stop_line n f))
    ⊎ ((e.status ≡ status.Memory) × (e.stop ≡ stops.Other) × (written ≡ []))))

-- what was written for a script, whatever the source told and was taken for it
unfoldable pub Responds : (script : List ℕ) → Settings → List Answer → (sink : Device (Option (List ℕ))) → (files : Device (Option Content)) → End → Type 0
Responds script settings answers sink files e = (written : List ℕ) × Appends sink.before sink.after written
    × ((input_before input_now : ℕ) (left : Option (List ℕ)) (taken : List ℕ) → IsScript settings.sample left taken script →
    Serves e.status settings (told_of input_before input_now left files) files.same taken answers e.stop written)

-- what was written for a script with these declarations
unfoldable pub AnswersEach : Prepared → Settings → List Answer → (sink : Device (Option (List ℕ))) → (files : Device (Option Content)) → End → Type 0
AnswersEach p settings answers sink files e = (script : List ℕ) → ReadsAlone script (own p) → Responds script settings answers sink files e

-- what was written for the built-in script of n cells
unfoldable pub Samples : ℕ → Settings → List Answer → (sink : Device (Option (List ℕ))) → (files : Device (Option Content)) → End → Type 0
Samples n settings answers sink files e = Responds (sample_text n) settings answers sink files e

-- what was taken from the source and written by a run with these settings
unfoldable pub Serving : Settings → List Answer → Devices → End → Type 0
Serving settings answers d e =
    Passes d.source d.sink (λ taken written. Serves e.status settings (told_by d) d.files.same taken answers e.stop written)

-- the same of a run with these words
unfoldable pub Running : (words : List (List ℕ)) → List Answer → Devices → End → Type 0
Running words answers d e = Passes d.source d.sink (λ taken written. RunsWords e.status words (told_by d) d.files.same taken answers e.stop written)

-- the same of the report that it makes, with the number of the status
unfoldable pub Reported : (words : List (List ℕ)) → Devices → Report → Type 0
Reported words d r = (s : Status) × (r.status ≡ code_of s)
    × Passes d.source d.sink (λ taken written. RunsWords s words (told_by d) d.files.same taken r.answers.items.items r.stop written)
