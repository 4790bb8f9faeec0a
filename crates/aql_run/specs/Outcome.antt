-- What a run did, over the words, the bytes that it took from the source and gave to the sink, and the files.
use Rattle.std.specs.Prelude.{◌≡◌, ◌≢◌, ◌≤◌, ◌<◌, ◌+◌, ◌-◌, ◌⊎◌, ℕ, List, [], ◌++◌, Option, Some, None, length, take, drop, codes}
use Rattle.std.specs.Io.KnownBytes.{IsAtEnd}
use Rattle.std.specs.Option.{ForSome}
use Rattle.aql_outside.specs.Causes.{Rose}
use Rattle.aql_outside.specs.Contents.{Content}
use Rattle.aql_ty.specs.Types.{Sort}
use Rattle.aql_syntax.specs.Grammar.{SyntaxFaultAt}
use Rattle.aql_syntax.specs.Lexis.{Lexeme, TextFaultAt}
use Rattle.aql_syntax.specs.Script.{values}
use Rattle.aql_syntax.specs.Size.{AreWithinLimits}
use Rattle.aql_syntax.specs.Tree.{Declaration}
use Rattle.aql_infer.specs.Checked.{IsFirstUntyped}
use Rattle.aql_lex.specs.Lexed.{IsDeepAt}
use Rattle.nrca_term.specs.Meaning.{Outcomes}
use Rattle.aql_prelude.specs.Prelude.{prelude_count}
use Rattle.aql_script.specs.Script.{IsTokenisedAs, ReadsAlone, AreTyped, positions, IsFirstLarge}
use Rattle.aql_session.specs.Reading.{reading}
use Rattle.aql_session.specs.declared.answer.Answer.{Answer}
use Rattle.aql_session.specs.declared.answer.StepFault.{StepFault}
use Rattle.aql_session.specs.declared.answer.StepFault.TheVariants as faults
use Rattle.aql_options.specs.Words.{HasReading, options_of}
use Rattle.aql_options.specs.Settings.{Settings, settings_of}
use Rattle.aql_run.specs.Answered.{AreAnswered, IsStopped, ReadNoFile, reach}
use Rattle.aql_run.specs.Entry.{entries}
use Rattle.aql_run.specs.Lines.{at_byte, in_declaration, of_file, of_table}
use Rattle.aql_run.specs.Sample.{sample_text}
use Rattle.aql_run.specs.declared.status.Status.{Status}
use Rattle.aql_run.specs.declared.status.Status.TheVariants as status
use Rattle.aql_run.specs.Reading.{most_bytes}
use Rattle.aql_run.specs.declared.report.Stop.{Stop}
use Rattle.aql_run.specs.declared.report.Stop.TheVariants as stops

-- What is known of a run besides the words: the counts of faults of the source and of the files before and after it, what the
-- source tells that it still has, and what the files hold.
pub record Told : Type 0 where
  pub input_before : ℕ
  pub input_now : ℕ
  pub left : Option (List ℕ)
  pub files_before : ℕ
  pub files_now : ℕ
  pub holds : Option Content

-- the bytes of a list are at its front
abbrev pub IsPrefix : List ℕ → List ℕ → Type 0
IsPrefix front all = (rest : List ℕ) × (all ≡ front ++ rest)

-- they are at its front, and some bytes behind them are lacking
abbrev pub IsCut : List ℕ → List ℕ → Type 0
IsCut front all = (rest : List ℕ) × (rest ≢ []) × (all ≡ front ++ rest)

-- the bytes taken are all that the source had, within the limit on a script
abbrev pub IsWhole : List ℕ → Option (List ℕ) → Type 0
IsWhole taken left = (length taken ≤ most_bytes) × IsAtEnd left

-- The script of a run. Without a sample it is all that the source gave, up to its end. With one it is the sample's text, and nothing was taken.
abbrev pub IsScript : (sample : Option ℕ) → (left : Option (List ℕ)) → (taken script : List ℕ) → Type 0
IsScript None left taken script = (script ≡ taken) × IsWhole taken left
IsScript (Some n) left taken script = (taken ≡ []) × (script ≡ sample_text n)

-- A run over a script that has no fault of its own: the script, its declarations with their principal types, all within the limits; the outcomes of
-- the declarations that were answered, their answers, and the lines that these print. Over told files the outcomes are those that the script has
-- over these files, one for each answer. If none of the declarations that were begun reads a file, `same` holds: the files are as before.
pub record HasRun (settings : Settings) (told : Told) (same : Type 0) (begun : ℕ) (taken : List ℕ) (answers : List Answer) (lines : List ℕ) : Type 0 where
  pub script : List ℕ
  pub ds : List Declaration
  pub sorts : List Sort
  pub outcomes : Outcomes
  pub is : IsScript settings.sample told.left taken script
  pub reads : ReadsAlone script ds
  pub typed : AreTyped ds sorts
  pub limits : AreWithinLimits (positions ds) (prelude_count + length ds)
  pub answered : AreAnswered ds sorts settings told.holds answers outcomes
  pub script_values : ForSome told.holds (λ files. take (length outcomes) (values (reading files) (positions ds)) ≡ outcomes)
  pub printed : lines ≡ entries settings.plan answers (drop prelude_count outcomes)
  pub untouched : ReadNoFile ds settings.budget outcomes begun → same

-- the next declaration was not answered
abbrev pub StopsEarly : {settings : Settings} {told : Told} {same : Type 0} {begun : ℕ} {taken lines : List ℕ} {answers : List Answer} →
    HasRun settings told same begun taken answers lines → StepFault → Type 0
StopsEarly {settings} {told} {same} {begun} {taken} {lines} {answers} run f =
    IsStopped run.ds settings told.holds told.files_before told.files_now (length answers) run.outcomes f

-- what is kept of a fault of a step
abbrev pub stop_of : StepFault → Stop
stop_of (faults.Query start plan trace moved) = stops.Query start plan trace moved
stop_of (faults.Cells cells) = stops.Cells cells
stop_of (faults.File fault) = stops.File fault
stop_of (faults.Csv fault) = stops.Csv fault
stop_of f = stops.Other

-- the budget was passed
abbrev pub IsBudgetFault : StepFault → Type 0
IsBudgetFault (faults.Query start plan trace moved) = Unit {0}
IsBudgetFault (faults.Cells cells) = Unit {0}
IsBudgetFault f = ⊥

-- a file cannot be read as it is asked for
abbrev pub IsFileFault : StepFault → Type 0
IsFileFault (faults.File fault) = Unit {0}
IsFileFault (faults.Csv fault) = Unit {0}
IsFileFault f = ⊥

-- the line that tells a fault of a file, in declaration n; of other faults there is none
abbrev pub file_line : ℕ → StepFault → List ℕ
file_line n (faults.File fault) = of_file n fault
file_line n (faults.Csv fault) = of_table n fault
file_line n f = []

-- no declaration was begun, so that nothing was answered and the files are as before, and one line is all that is written
abbrev pub BeginsNone : (same : Type 0) → List Answer → Stop → (lines line fault : List ℕ) → Type 0
BeginsNone same answers stop lines line fault = (answers ≡ []) × (stop ≡ stops.Other) × (lines ≡ []) × (line ≡ fault) × same

-- the script has a fault, and no declaration was begun
abbrev pub HasScriptFault : Settings → Told → (same : Type 0) → (taken : List ℕ) → List Answer → Stop → (lines line fault : List ℕ) → (List ℕ → Type 0) → Type 0
HasScriptFault settings told same taken answers stop lines line fault P =
    (script : List ℕ) × IsScript settings.sample told.left taken script × P script × BeginsNone same answers stop lines line fault

-- What a run with a status has done: the cause of the status, the answers and the stop of the report, the lines of these answers, and behind them the
-- line of the fault. Usage, Memory and Output have no line of their own, and come below.
abbrev pub Writes : Status → Settings → Told → (same : Type 0) → (taken : List ℕ) → List Answer → Stop → (lines line : List ℕ) → Type 0
Writes status.Done settings told same taken answers stop lines line =
    (run : HasRun settings told same (length answers) taken answers lines) × (length answers ≡ length run.ds) × (stop ≡ stops.Done) × (line ≡ [])
Writes status.Text settings told same taken answers stop lines line =
    (k : ℕ) × HasScriptFault settings told same taken answers stop lines line (at_byte (codes "text") k) (λ script. TextFaultAt k script)
Writes status.Deep settings told same taken answers stop lines line =
    (k : ℕ) × HasScriptFault settings told same taken answers stop lines line (at_byte (codes "deep") k) (λ script. IsDeepAt k script)
Writes status.Syntax settings told same taken answers stop lines line =
    (n : ℕ) × HasScriptFault settings told same taken answers stop lines line (in_declaration (codes "syntax") n) (λ script. (ls : List Lexeme) × IsTokenisedAs script ls × SyntaxFaultAt n ls)
Writes status.Type settings told same taken answers stop lines line =
    (n : ℕ) × HasScriptFault settings told same taken answers stop lines line (in_declaration (codes "type") n)
    (λ script. (ds : List Declaration) × ReadsAlone script ds × (1 ≤ n) × IsFirstUntyped [] (positions ds) (prelude_count + n))
Writes status.Large settings told same taken answers stop lines line =
    (n : ℕ) × HasScriptFault settings told same taken answers stop lines line (in_declaration (codes "large") n)
    (λ script. (ds : List Declaration) × ReadsAlone script ds × ((sorts : List Sort) × AreTyped ds sorts) × IsFirstLarge ds n)
Writes status.Long settings told same taken answers stop lines line =
    (settings.sample ≡ None) × (most_bytes < length taken) × BeginsNone same answers stop lines line (codes "fault long\n")
Writes status.Input settings told same taken answers stop lines line =
    (settings.sample ≡ None) × (length taken ≤ most_bytes) × Rose told.input_before told.input_now
    × BeginsNone same answers stop lines line (codes "fault input\n")
Writes status.File settings told same taken answers stop lines line =
    (f : StepFault) × IsFileFault f × (run : HasRun settings told same (length answers + 1) taken answers lines) × StopsEarly run f × (stop ≡ stop_of f)
    × (line ≡ file_line (length answers + 1) f)
Writes status.Spent settings told same taken answers stop lines line =
    (f : StepFault) × IsBudgetFault f × (run : HasRun settings told same (reach f (length answers)) taken answers lines) × StopsEarly run f × (stop ≡ stop_of f)
    × (line ≡ in_declaration (codes "budget") (length answers + 1))
Writes status.Files settings told same taken answers stop lines line =
    (run : HasRun settings told same (length answers + 1) taken answers lines) × StopsEarly run faults.Device × (stop ≡ stops.Other) × (line ≡ codes "fault files\n")
Writes status.Usage settings told same taken answers stop lines line = ⊥
Writes status.Memory settings told same taken answers stop lines line = ⊥
Writes status.Output settings told same taken answers stop lines line = ⊥

-- the whole output of a run that ends with a status: the lines of its answers, and then the line of its fault
abbrev pub WritesAll : Status → Settings → Told → (same : Type 0) → (taken : List ℕ) → List Answer → Stop → (written : List ℕ) → Type 0
WritesAll s settings told same taken answers stop written = (lines line : List ℕ) × Writes s settings told same taken answers stop lines line × (written ≡ lines ++ line)

-- the line of the fault of such a run was cut, behind all lines of its answers
abbrev pub CutsFault : Settings → Told → (same : Type 0) → (taken : List ℕ) → List Answer → (written : List ℕ) → Type 0
CutsFault settings told same taken answers written =
    (other : Status) × (kept : Stop) × (lines line front : List ℕ) × Writes other settings told same taken answers kept lines line × IsCut front line × (written ≡ lines ++ front)

-- an output that ends within the last answer's lines: it has all lines of the answers before, and a front of those of the last
pub record CutsLast (settings : Settings) (told : Told) (same : Type 0) (begun : ℕ) (taken : List ℕ) (answers : List Answer) (written : List ℕ) : Type 0 where
  pub lines : List ℕ
  pub run : HasRun settings told same begun taken answers lines
  pub front : IsPrefix written lines
  pub whole : IsPrefix (entries settings.plan (take (length answers - 1) answers) (drop prelude_count run.outcomes)) written

-- What a run with a status has written, where the words have a reading. Memory: nothing, or an output that ends within the last answer's lines.
-- Output, where the sink failed: such an output with some of its lines lacking, or all lines of the answers and a front of the line of a fault. Any
-- other status: the whole output.
abbrev pub Serves : Status → Settings → Told → (same : Type 0) → (taken : List ℕ) → List Answer → Stop → (written : List ℕ) → Type 0
Serves status.Memory settings told same taken answers stop written =
    (stop ≡ stops.Other) × (((answers ≡ []) × (written ≡ []) × same) ⊎ CutsLast settings told same (length answers + 1) taken answers written)
Serves status.Output settings told same taken answers stop written =
    (stop ≡ stops.Other) × (((c : CutsLast settings told same (length answers) taken answers written) × (c.front.0 ≢ [])) ⊎ CutsFault settings told same taken answers written)
Serves status.Usage settings told same taken answers stop written = ⊥
Serves s settings told same taken answers stop written = WritesAll s settings told same taken answers stop written

-- nothing was answered, taken or written, and the files are as before
abbrev pub DoesNothing : (same : Type 0) → (taken : List ℕ) → List Answer → Stop → (written : List ℕ) → Type 0
DoesNothing same taken answers stop written = (taken ≡ []) × (answers ≡ []) × (stop ≡ stops.Other) × (written ≡ []) × same

-- What a run does by the words of its command line. Words without a reading end it with Usage, and nothing is done. Want of memory may end it
-- before anything is done. Else the words have a reading, and the run serves their settings.
abbrev pub RunsWords : Status → (words : List (List ℕ)) → Told → (same : Type 0) → (taken : List ℕ) → List Answer → Stop → (written : List ℕ) → Type 0
RunsWords status.Usage words told same taken answers stop written = (HasReading words → ⊥) × DoesNothing same taken answers stop written
RunsWords status.Memory words told same taken answers stop written =
    DoesNothing same taken answers stop written ⊎ (HasReading words × Serves status.Memory (settings_of (options_of words)) told same taken answers stop written)
RunsWords other words told same taken answers stop written = HasReading words × Serves other (settings_of (options_of words)) told same taken answers stop written
