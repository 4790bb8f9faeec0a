-- Declarations of a script by their numbers, counted from 1, and what `step` says of one over the outcomes of those before it.
use Rattle.std.specs.Prelude.{ℕ, ◌-◌, List, Option}
use Rattle.std.specs.List.{slice_get}
use Rattle.std.specs.Option.{ForSome}
use Rattle.aql_outside.specs.Contents.{Content}
use Rattle.aql_outside.specs.declared.device.Files as files
use Rattle.aql_ty.specs.Types.{Sort}
use Rattle.aql_infer_steps.specs.Typed.{sorts_of}
use Rattle.aql_infer_steps.specs.declared.typed.Typed.{Typed}
use Rattle.aql_syntax.specs.Script.{Earlier}
use Rattle.aql_syntax.specs.Tree.{Declaration}
use Rattle.aql_syntax.specs.View.{decls_of}
use Rattle.aql_syntax.specs.declared.ast.Decls.{Decls}
use Rattle.nrca_term.specs.Meaning.{Outcomes}
use Rattle.aql_options.specs.Settings.{Settings}
use Rattle.aql_session.specs.Bound.{Bound, earlier_of, outcomes}
use Rattle.aql_session.specs.Step.{IsAnswer, IsAnswerable, BindsPosition, IsCause, ReadsNoFile}
use Rattle.aql_session.specs.declared.answer.Answer.{Answer}
use Rattle.aql_session.specs.declared.answer.StepFault.{StepFault}

-- the declarations of a script
abbrev pub declarations : Decls → List Declaration
declarations decls = decls_of decls.items.items

-- the sorts that the check found, one for each
abbrev pub sorts : Typed → List Sort
sorts typed = sorts_of typed.items.items

-- declaration n
abbrev pub declaration_numbered : Decls → (n : ℕ) → Option Declaration
declaration_numbered decls n = slice_get (declarations decls) (n - 1)

-- its sort
abbrev pub sort_numbered : Typed → (n : ℕ) → Option Sort
sort_numbered typed n = slice_get (sorts typed) (n - 1)

-- the first declarations with these outcomes, the latest first
abbrev pub so_far : Decls → Outcomes → Earlier
so_far decls V = earlier_of (declarations decls) V

-- this is the answer of declaration n over the outcomes of those before it
abbrev pub IsAnswerTo : Decls → Typed → (n : ℕ) → Outcomes → Settings → Answer → Type 0
IsAnswerTo decls typed n V settings a =
    ForSome (declaration_numbered decls n) (λ d. IsAnswer d (so_far decls V) (sort_numbered typed n) settings.motion settings.graph settings.budget a)

-- declaration n is answerable within the budget over files that hold this
abbrev pub MayBeAnswered : Decls → (n : ℕ) → Outcomes → Settings → Option Content → Type 0
MayBeAnswered decls n V settings holds = ForSome (declaration_numbered decls n) (λ d. IsAnswerable d (so_far decls V) settings.budget holds)

-- declaration n is bound behind the positions before it, to its outcome over files that hold this, and the answer says what that took
abbrev pub BindsNext : Decls → (n : ℕ) → Settings → Option Content → (old new : Bound) → Answer → Type 0
BindsNext decls n settings holds old new a =
    ForSome (declaration_numbered decls n) (λ d. BindsPosition d (so_far decls (outcomes old)) settings.budget holds old new a)

-- why declaration n has no answer; the counts of faults are those of the files before and after
abbrev pub IsCauseOf : Decls → (n : ℕ) → Outcomes → Settings → Option Content → (before now : ℕ) → StepFault → Type 0
IsCauseOf decls n V settings holds before now f =
    ForSome (declaration_numbered decls n) (λ d. IsCause d (so_far decls V) settings.motion settings.budget holds before now f)

-- why it has none over files as they were and are
abbrev pub StepFails : {F : Type 0} → Decls → (n : ℕ) → Outcomes → Settings → files.Ghosts F → (old new : F) → StepFault → Type 0
StepFails decls n V settings f old new fault = IsCauseOf decls n V settings (f.holds old) (f.faults old) (f.faults new) fault

-- this holds where declaration n reads no file
abbrev pub UnlessRead : Decls → (n : ℕ) → Outcomes → Settings → Type 0 → Type 0
UnlessRead decls n V settings P = ForSome (declaration_numbered decls n) (λ d. ReadsNoFile d (so_far decls V) settings.budget → P)
