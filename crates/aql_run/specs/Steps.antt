-- What the functions within this crate say of the run of the declarations.
use Rattle.std.specs.Prelude.{◌≡◌, ◌≢◌, ℕ, suc, ◌+◌, ◌-◌, ◌⊎◌, List, [], ◌∷◌, ◌++◌, length, take, drop, replicate, Option, Some, None, Result, IsErrOf}
use Rattle.std.specs.List.{slice_get}
use Rattle.std.specs.Io.KnownBytes.{Appends}
use Rattle.aql_outside.specs.Contents.{Content}
use Rattle.aql_value.specs.Datum.{Datum}
use Rattle.aql_ty.specs.Types.{Sort}
use Rattle.aql_infer_steps.specs.Typed.{sorts_of}
use Rattle.aql_syntax.specs.Size.{AreWithinLimits}
use Rattle.aql_syntax.specs.Tree.{Declaration}
use Rattle.aql_syntax.specs.View.{decls_of}
use Rattle.nrca_term.specs.Meaning.{Outcomes}
use Rattle.aql_prelude.specs.Prelude.{prelude_count}
use Rattle.aql_script.specs.Script.{AreTyped, positions}
use Rattle.aql_script.specs.declared.preparing.Prepared.{Prepared}
use Rattle.aql_session.specs.Bound.{Bound, outcomes, AreBound, earlier_of}
use Rattle.aql_session.specs.Device.{Device}
use Rattle.aql_session.specs.Step.{IsOverTurns, OutcomesFit, ReadsNoFile}
use Rattle.aql_session.specs.declared.answer.Answer.{Answer}
use Rattle.aql_session.specs.declared.answer.StepFault.TheVariants as faults
use Rattle.aql_options.specs.Settings.{Settings}
use Rattle.aql_run.specs.Answered.{AreAnswered, IsStopped, ReadNoFile, reach}
use Rattle.aql_run.specs.Entry.{entry, entries}
use Rattle.aql_run.specs.declared.steps.Halt.{Halt}
use Rattle.aql_run.specs.declared.steps.Halt.TheVariants as halts

-- the script's own declarations, behind those of the prelude
abbrev pub own : Prepared → List Declaration
own p = drop prelude_count (decls_of p.decls.items.items)

-- the principal sorts of the positions
abbrev pub sorts_in : Prepared → List Sort
sorts_in p = sorts_of p.typed.items.items

-- the positions of a script with their principal sorts, within the limits
pub record IsPrepared (p : Prepared) : Type 0 where
  pub all : decls_of p.decls.items.items ≡ positions (own p)
  pub typed : AreTyped (own p) (sorts_in p)
  pub limits : AreWithinLimits (positions (own p)) (prelude_count + length (own p))

-- the session has the prelude's positions and those of the declarations that have these answers
pub record Progress (p : Prepared) (settings : Settings) (holds : Option Content) (answers : List Answer) (s : Bound) : Type 0 where
  pub bound : AreBound (positions (own p)) (prelude_count + 1 + length answers) s
  pub types : OutcomesFit (earlier_of (positions (own p)) (outcomes s))
  pub answered : AreAnswered (own p) (sorts_in p) settings holds answers (outcomes s)

-- one answer more, and its lines
pub record AnswersOne (p : Prepared) (settings : Settings) (holds : Option Content) (answers answers' : List Answer) (s s' : Bound) (old new : Option (List ℕ)) : Type 0 where
  pub answer : Answer
  pub outcome : Option Datum
  pub longer : answers' ≡ answers ++ answer ∷ []
  pub outcomes : outcomes s' ≡ outcomes s ++ outcome ∷ []
  pub progress : Progress p settings holds answers' s'
  pub written : Appends old new (entry settings.plan answer outcome)

-- one answer more, and a front of its lines
pub record CutsEntry (p : Prepared) (settings : Settings) (holds : Option Content) (answers answers' : List Answer) (V : Outcomes) (old new : Option (List ℕ)) : Type 0 where
  pub answer : Answer
  pub outcome : Option Datum
  pub longer : answers' ≡ answers ++ answer ∷ []
  pub answered : AreAnswered (own p) (sorts_in p) settings holds answers' (V ++ outcome ∷ [])
  pub front : List ℕ
  pub rest : List ℕ
  pub split : entry settings.plan answer outcome ≡ front ++ rest
  pub written : Appends old new front

-- declaration k of a script, counted from 0, reads no file
abbrev pub NextReadsNoFile : Prepared → (budget : ℕ) → (k : ℕ) → Outcomes → Type 0
NextReadsNoFile p budget k V = (d : Declaration) → slice_get (positions (own p)) (prelude_count + k) ≡ Some d → ReadsNoFile d (earlier_of (positions (own p)) V) budget

-- no answer more, and nothing written
pub record AnswersNone (answers answers' : List Answer) (old new : Option (List ℕ)) : Type 0 where
  pub same : answers' ≡ answers
  pub written : Appends old new []

-- the next declaration was not answered, or its lines were not all written
abbrev pub Halts : Prepared → Settings → Option Content → (before now : ℕ) → (answers answers' : List Answer) → Outcomes → (old new : Option (List ℕ)) → Halt → Type 0
Halts p settings holds before now answers answers' V old new (halts.Fault f) =
    AnswersNone answers answers' old new × IsStopped (own p) settings holds before now (length answers) V f
Halts p settings holds before now answers answers' V old new halts.Memory = AnswersNone answers answers' old new ⊎ CutsEntry p settings holds answers answers' V old new
Halts p settings holds before now answers answers' V old new halts.Sink = (c : CutsEntry p settings holds answers answers' V old new) × (c.rest ≢ [])

-- the turns of the next declaration passed the budget
abbrev pub IsOver : Halt → Type 0
IsOver (halts.Fault f) = IsOverTurns f
IsOver halts.Memory = ⊥
IsOver halts.Sink = ⊥

-- memory or the sink was wanting
abbrev pub IsNoFault : Halt → Type 0
IsNoFault (halts.Fault f) = ⊥
IsNoFault halts.Memory = Unit {0}
IsNoFault halts.Sink = Unit {0}

-- the first k positions, which are macros of the prelude, are bound
pub record Declared (p : Prepared) (k : ℕ) (s : Bound) : Type 0 where
  pub bound : AreBound (positions (own p)) (suc k) s
  pub none : outcomes s ≡ replicate k None
  pub types : OutcomesFit (earlier_of (positions (own p)) (outcomes s))

-- The declarations so far were answered and their lines written; declaration n of the positions is next. Where none so far reads a file,
-- the files are as before.
pub record Going (p : Prepared) (o : Settings) (holds : Option Content) (same : Type 0) (answers : List Answer) (s : Bound) (n : ℕ) (old now : Option (List ℕ)) : Type 0 where
  pub progress : Progress p o holds answers s
  pub next : n ≡ prelude_count + 1 + length answers
  pub written : Appends old now (entries o.plan answers (drop prelude_count (outcomes s)))
  pub untouched : ReadNoFile (own p) o.budget (outcomes s) (length answers) → same

-- Every declaration was answered, and the lines of all were written. Where none of them reads a file, the files are as before, as `same`
-- says.
pub record AllAnswered (p : Prepared) (o : Settings) (holds : Option Content) (same : Type 0) (answers : List Answer) (old new : Option (List ℕ)) : Type 0 where
  pub outcomes : Outcomes
  pub answered : AreAnswered (own p) (sorts_in p) o holds answers outcomes
  pub all : length answers ≡ length (own p)
  pub untouched : ReadNoFile (own p) o.budget outcomes (length answers) → same
  pub written : Appends old new (entries o.plan answers (drop prelude_count outcomes))

-- These were answered, and all their lines but a back of the last one's were written. Where the first so many read no file, the files are
-- as before.
pub record CutsLines (p : Prepared) (o : Settings) (holds : Option Content) (same : Type 0) (begun : ℕ) (answers : List Answer) (written : List ℕ) : Type 0 where
  pub outcomes : Outcomes
  pub answered : AreAnswered (own p) (sorts_in p) o holds answers outcomes
  pub back : List ℕ
  pub front : entries o.plan answers (drop prelude_count outcomes) ≡ written ++ back
  pub last : List ℕ
  pub whole : written ≡ entries o.plan (take (length answers - 1) answers) (drop prelude_count outcomes) ++ last
  pub untouched : ReadNoFile (own p) o.budget outcomes begun → same

-- not all were answered, or not all lines written
abbrev pub EndsEarly : Prepared → Settings → Option Content → (same : Type 0) → (before now : ℕ) → List Answer → (old new : Option (List ℕ)) → Halt → Type 0
EndsEarly p o holds same before now answers old new (halts.Fault f) =
    (V : Outcomes) × AreAnswered (own p) (sorts_in p) o holds answers V × IsStopped (own p) o holds before now (length answers) V f
    × Appends old new (entries o.plan answers (drop prelude_count V)) × (ReadNoFile (own p) o.budget V (reach f (length answers)) → same)
EndsEarly p o holds same before now answers old new halts.Memory = (written : List ℕ) × Appends old new written
    × (((answers ≡ []) × (written ≡ []) × same) ⊎ CutsLines p o holds same (length answers + 1) answers written)
EndsEarly p o holds same before now answers old new halts.Sink =
    (written : List ℕ) × Appends old new written × ((c : CutsLines p o holds same (length answers) answers written) × (c.back ≢ []))

-- Over a sink and files as they were and are.

-- every declaration was answered, with these answers
abbrev pub AnswersAll : Prepared → Settings → List Answer → (sink : Device (Option (List ℕ))) → (files : Device (Option Content)) → Type 0
AnswersAll p o answers sink files = AllAnswered p o files.before files.same answers sink.before sink.after

-- not all were answered, or not all lines written, and why
abbrev pub EndsAt : Prepared → Settings → List Answer → (sink : Device (Option (List ℕ))) → (files : Device (Option Content)) → Halt → Type 0
EndsAt p o answers sink files h = EndsEarly p o files.before files.same files.faults_before files.faults_after answers sink.before sink.after h

-- a call on the files failed
abbrev pub IsOfDevice : {T : Type 0} → Result T Halt → Type 0
IsOfDevice r = IsErrOf r (halts.Fault faults.Device)
