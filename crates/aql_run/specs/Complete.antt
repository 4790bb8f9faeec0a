-- When a run ends well: what it must be given for that.
use Rattle.std.specs.Prelude.{◌≡◌, ◌≤◌, ◌+◌, ◌⊎◌, ℕ, List, [], length, take, replicate, Option, Some, None}
use Rattle.std.specs.List.{slice_get}
use Rattle.std.specs.Option.{ForSome}
use Rattle.aql_outside.specs.Causes.{Rose}
use Rattle.aql_outside.specs.Contents.{Content}
use Rattle.aql_value.specs.Datum.{Datum}
use Rattle.aql_syntax.specs.Script.{Earlier, globals_of, outcome_after}
use Rattle.aql_syntax.specs.Size.{AreWithinLimits}
use Rattle.aql_syntax.specs.Tree.{Declaration, val, mac, read, bare}
use Rattle.aql_syntax.specs.Work.{work}
use Rattle.aql_lex.specs.Lexed.{OneList, TokensOrTextFault, ShallowOrDeep}
use Rattle.nrca_term.specs.Meaning.{Outcomes}
use Rattle.aql_prelude.specs.Prelude.{prelude_count}
use Rattle.aql_prelude.specs.Typing.{HaveSorts}
use Rattle.aql_script.specs.Script.{IsParsedAs, positions}
use Rattle.aql_session.specs.Asked.{Asked}
use Rattle.aql_session.specs.Bound.{earlier_of}
use Rattle.aql_session.specs.Reading.{reading, IsFaultless}
use Rattle.aql_session.specs.Step.{IsAffordable, IsOutcome, asks}
use Rattle.aql_options.specs.Words.{HasReading, options_of}
use Rattle.aql_run.specs.Outcome.{Told, IsScript}
use Rattle.aql_run.specs.declared.status.Status.{Status}
use Rattle.aql_run.specs.declared.status.Status.TheVariants as status

-- the turns of a declaration's query as written, of a readval those of its argument; a macro has none
abbrev pub work_of : Declaration → Earlier → ℕ
work_of (val x e) earlier = work e (globals_of earlier) []
work_of (mac f p body) earlier = 0
work_of (read x r e) earlier = work e (globals_of earlier) []
work_of (bare e) earlier = work e (globals_of earlier) []

-- the outcomes of the first positions: none for each macro of the prelude, and then one after another; where the files are told,
-- those over them
pub record AreOutcomes (ds : List Declaration) (holds : Option Content) (V : Outcomes) : Type 0 where
  pub prelude : take prelude_count V ≡ replicate prelude_count None
  pub each : (i : ℕ) (d : Declaration) (o : Option Datum) → slice_get (positions ds) (prelude_count + i) ≡ Some d → slice_get V (prelude_count + i) ≡ Some o →
      IsOutcome d (earlier_of (positions ds) (take (prelude_count + i) V)) holds o
      × ForSome holds (λ files. outcome_after (reading files) d (globals_of (earlier_of (positions ds) (take (prelude_count + i) V))) ≡ Some o)

-- the turns of a declaration are within the budget, and so are the cells that it reads, or the bytes of a file of records; and what it
-- reads of the files, which are told, has no fault
pub record IsWithinBudget (d : Declaration) (earlier : Earlier) (budget : ℕ) (holds : Option Content) : Type 0 where
  pub turns : work_of d earlier ≤ budget
  pub cells : (a : Asked) → asks d earlier ≡ Some a → IsAffordable budget holds a
  pub file : (a : Asked) → asks d earlier ≡ Some a → (files : Content) × (holds ≡ Some files) × IsFaultless files a

-- the words have a reading, and so has the script, with a typing, within the limits and the budget, and no fault of a file
pub record IsSound (words : List (List ℕ)) (script : List ℕ) (holds : Option Content) : Type 0 where
  pub reads : HasReading words
  pub ds : List Declaration
  pub are : IsParsedAs script ds
  pub typed : HaveSorts [] (positions ds)
  pub limits : AreWithinLimits (positions ds) (prelude_count + length ds)
  pub within : (V : Outcomes) (d : Declaration) → AreOutcomes ds holds V → slice_get (positions ds) (length V) ≡ Some d →
      IsWithinBudget d (earlier_of (positions ds) V) (options_of words).budget holds

-- A sound script is answered whole: where all of it was read and no count of failed calls rose, the run ends with every declaration answered, or for
-- want of memory.
abbrev pub EndsWell : Status → (words : List (List ℕ)) → Told → (sink : Type 0) → (taken : List ℕ) → Type 0
EndsWell s words told sink taken = (script : List ℕ) → IsScript (options_of words).sample told.left taken script → IsSound words script told.holds →
    (Rose told.input_before told.input_now → ⊥) → (Rose told.files_before told.files_now → ⊥) → (sink → ⊥) → (s ≡ status.Done) ⊎ (s ≡ status.Memory)

-- what is known of the tokens of a script: it has one list of them, or a byte where none begins, and is deep or not
unfoldable pub Tokenised : Type 0
Tokenised = OneList × TokensOrTextFault × ShallowOrDeep
