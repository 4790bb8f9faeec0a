-- The declarations of a script that were answered, and why the next one was not.
use Rattle.std.specs.Prelude.{◌≡◌, ◌≤◌, ◌<◌, ℕ, ◌+◌, List, length, take, replicate, Option, Some, None}
use Rattle.std.specs.List.{slice_get}
use Rattle.std.specs.Option.{ForSome}
use Rattle.aql_outside.specs.Contents.{Content}
use Rattle.aql_value.specs.Datum.{Datum}
use Rattle.aql_ty.specs.Types.{Sort}
use Rattle.aql_syntax.specs.Script.{Earlier, globals_of, outcome_after}
use Rattle.aql_syntax.specs.Tree.{Declaration}
use Rattle.nrca_term.specs.Meaning.{Outcomes}
use Rattle.aql_prelude.specs.Prelude.{prelude_count}
use Rattle.aql_session.specs.Bound.{earlier_of}
use Rattle.aql_session.specs.Reading.{reading}
use Rattle.nrca_term.specs.View.{term_of}
use Rattle.aql_session.specs.Step.{IsAnswer, IsAnswerable, IsCounted, IsOutcome, IsCause, ReadsNoFile}
use Rattle.aql_session.specs.declared.answer.Answer.{Answer}
use Rattle.aql_session.specs.declared.answer.StepFault.{StepFault}
use Rattle.aql_session.specs.declared.answer.StepFault.TheVariants as faults
use Rattle.aql_script.specs.Script.{positions}
use Rattle.aql_options.specs.Settings.{Settings}

-- the answer of a declaration after others, and its outcome: what it denotes or reads; where the files are told, the script's
-- outcome over them; and which term counts, with what it and reading the outcome took
pub record IsAnswered (d : Declaration) (earlier : Earlier) (sort : Option Sort) (settings : Settings) (holds : Option Content) (a : Answer) (o : Option Datum) : Type 0 where
  pub answer : IsAnswer d earlier sort settings.motion settings.graph settings.budget a
  pub answerable : IsAnswerable d earlier settings.budget holds
  pub outcome : IsOutcome d earlier holds o
  pub told : ForSome holds (λ files. outcome_after (reading files) d (globals_of earlier) ≡ Some o)
  pub counts : IsCounted d earlier settings.budget holds (term_of a.plan) a.moved o (a.by, a.turns)

-- The first declarations of a script have these answers, one for each in order, and with the prelude's positions, which have
-- none, these outcomes.
pub record AreAnswered (ds : List Declaration) (sorts : List Sort) (settings : Settings) (holds : Option Content) (answers : List Answer) (V : Outcomes) : Type 0 where
  pub few : length answers ≤ length ds
  pub many : length V ≡ prelude_count + length answers
  pub prelude : take prelude_count V ≡ replicate prelude_count None
  pub each : (i : ℕ) (d : Declaration) (a : Answer) (o : Option Datum) → slice_get (positions ds) (prelude_count + i) ≡ Some d → slice_get answers i ≡ Some a →
      slice_get V (prelude_count + i) ≡ Some o → IsAnswered d (earlier_of (positions ds) (take (prelude_count + i) V)) (slice_get sorts (prelude_count + i)) settings holds a o

-- why the declaration behind those that were answered has no answer: its fault, which stands there; the files had these counts of failed calls
-- before and after the run
abbrev pub IsStopped : List Declaration → Settings → Option Content → (before now : ℕ) → (answered : ℕ) → Outcomes → StepFault → Type 0
IsStopped ds settings holds before now answered V f =
    (d : Declaration) × (slice_get (positions ds) (prelude_count + answered) ≡ Some d) × IsCause d (earlier_of (positions ds) V) settings.motion settings.budget holds before now f

-- the first so many declarations of a script read no file
abbrev pub ReadNoFile : List Declaration → (budget : ℕ) → Outcomes → (begun : ℕ) → Type 0
ReadNoFile ds budget V begun = (i : ℕ) (d : Declaration) → i < begun → slice_get (positions ds) (prelude_count + i) ≡ Some d →
    ReadsNoFile d (earlier_of (positions ds) (take (prelude_count + i) V)) budget

-- how many declarations may have called the files, if this fault ended the run behind n answers: a declaration whose turns pass the budget has not
abbrev pub reach : StepFault → (answered : ℕ) → ℕ
reach (faults.Query start plan trace moved) n = n
reach f n = n + 1
