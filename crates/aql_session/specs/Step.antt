-- What `step` answers of a declaration, what it binds it to, and why it answers a fault.
use Rattle.std.specs.Prelude.{◌≡◌, ℕ, ◌+◌, ◌-◌, ◌^◌, ◌<◌, ◌≤◌, min, nat_lt, Bool, List, [], ◌∷◌, ◌++◌, length, Option, Some, None, option_map, true, false, Ok, Err, if◌then◌else◌}
use Rattle.std.specs.Global.{Box}
use Rattle.std.specs.Option.{ForSome}
use Rattle.std.specs.Str.{IsUtf8}
use Rattle.aql_outside.specs.Causes.{Rose}
use Rattle.aql_outside.specs.Contents.{Content}
use Rattle.aql_value.specs.Datum.{Datum, array, data_of}
use Rattle.aql_value.specs.Partial.{◌>>=◌}
use Rattle.aql_ty.specs.Types.{Sort}
use Rattle.aql_ty.specs.ValueTypes.{HasType}
use Rattle.aql_ty.specs.View.{sort_of}
use Rattle.aql_syntax.specs.Denotation.{den}
use Rattle.aql_syntax.specs.Script.{Earlier, globals_of, outcome_after}
use Rattle.aql_syntax.specs.Sound.{declarations_of, OutcomesTyped}
use Rattle.aql_syntax.specs.Tree.{Tree, Reader, Declaration, val, mac, read, bare, declared_name}
use Rattle.aql_syntax.specs.Typing.{reader_type, environment_of, IsPrincipal}
use Rattle.aql_syntax.specs.declared.ast.Kind.{Kind}
use Rattle.aql_csv.specs.File.{set_of}
use Rattle.aql_csv.specs.declared.fault.CsvFault.{CsvFault}
use Rattle.aql_csv.specs.declared.fault.CsvFault.TheVariants as csv_faults
use Rattle.nrca_term.specs.Meaning.{Outcomes}
use Rattle.nrca_term.specs.Nodes.{bottom_term}
use Rattle.nrca_term.specs.Term.{Term}
use Rattle.nrca_term.specs.Turns.{settle}
use Rattle.nrca_term.specs.declared.trace.Step as code
use Rattle.nrca_term.specs.View.{term_of}
use Rattle.nrca_normal.specs.Planned.{IsPlan}
use Rattle.nrca_encoded.specs.Graphs.{IsGraph}
use Rattle.nrca_encoded.specs.declared.ran.Graph.{Graph}
use Rattle.nrca_motion.specs.Moved.{IsMotion}
use Rattle.nrca_motion.specs.declared.moves.Move as motion_code
use Rattle.nrca_motion.specs.declared.still.Moved.{Moved}
use Rattle.aql_desugar_spec.specs.Positions.{outcomes_of}
use Rattle.aql_desugar_spec.specs.Start.{start, knowns_of, query}
use Rattle.cdf_header.specs.declared.fault.CdfFault.{CdfFault}
use Rattle.cdf_header.specs.declared.fault.CdfFault.TheVariants as file_faults
use Rattle.cdf_header.specs.File.{IsVersion}
use Rattle.cdf_slab.specs.Slab.{IsOfRequest, first_zero}
use Rattle.aql_session.specs.Asked.{Hyperslab, Asked, hyperslab, table, asked_of, file_of, cells}
use Rattle.aql_session.specs.Bound.{Bound}
use Rattle.aql_session.specs.Reading.{IsFaultless, file_in, read_fault, read_table, read_value, reading}
use Rattle.aql_session.specs.declared.answer.Answer.{Answer}
use Rattle.aql_session.specs.declared.answer.Ran.{Ran}
use Rattle.aql_session.specs.declared.answer.Ran.TheVariants as ran
use Rattle.aql_session.specs.declared.answer.StepFault.{StepFault}
use Rattle.aql_session.specs.declared.answer.StepFault.TheVariants as faults

-- Conditions.

-- no macro has a value
abbrev pub NoMacroHasValue : Earlier → Type 0
NoMacroHasValue [] = Unit {0}
NoMacroHasValue ((mac f p body, o) ∷ earlier) = (o ≡ None) × NoMacroHasValue earlier
NoMacroHasValue ((d, o) ∷ earlier) = NoMacroHasValue earlier

-- each value has every type of its position, and no macro has one
abbrev pub OutcomesFit : Earlier → Type 0
OutcomesFit earlier = OutcomesTyped earlier × NoMacroHasValue earlier

-- A declaration d after others with their outcomes, the latest first.

-- the start term of a query over the declarations before it; Bottom where there is none
abbrev pub start_term : Option Tree → List Declaration → Term
start_term None before = bottom_term
start_term (Some e) before = start e (knowns_of before) []

-- of a declaration: of its expression, of a readval that of its argument; a macro has none
abbrev pub start_of : Declaration → Earlier → Term
start_of d earlier = start_term (query d) (declarations_of earlier)

-- the turns of a term over the outcomes so far
abbrev pub turns_in : Earlier → Term → ℕ
turns_in earlier t = settle (outcomes_of earlier) [] t

-- those of the start term
abbrev pub query_turns : Declaration → Earlier → ℕ
query_turns d earlier = turns_in earlier (start_of d earlier)

-- what a readval asks for, where its argument has a value
abbrev pub asks : Declaration → Earlier → Option Asked
asks (read x r e) earlier = den e (globals_of earlier) [] >>= asked_of r
asks d earlier = None

-- Of what code motion makes of a plan: None where it was not asked for, and then the plan stands for it.

-- the moved term
abbrev pub moved_term : (plan : Term) → Option (Box Moved) → Term
moved_term plan None = plan
moved_term plan (Some m) = term_of m.value.term

-- the moves that lead there from the plan
abbrev pub moves_of : Option (Box Moved) → List motion_code.Move
moves_of None = []
moves_of (Some m) = m.value.moves

-- the turns of the moved term over these outcomes, where there is one
abbrev pub moved_turns : Outcomes → Option (Box Moved) → Option ℕ
moved_turns V None = None
moved_turns V (Some m) = Some (settle V [] (term_of m.value.term))

-- What the word `--motion` asks for: a moved term, to which moves lead from the plan, and in which no move is left. Without the word there is none.
abbrev pub IsMovedBy : (motion : Bool) → Outcomes → (plan : Term) → Option (Box Moved) → Type 0
IsMovedBy true V plan (Some m) = IsMotion V plan m.value.moves (term_of m.value.term)
IsMovedBy true V plan None = ⊥
IsMovedBy false V plan moved = moved ≡ None

-- With the word `--graph` there is the array-free form of a query's plan, and it came to the query's encoded outcome, or its turns pass the budget;
-- without it there is none.
abbrev pub IsGraphBy : (graphs : Bool) → Outcomes → (budget : ℕ) → (plan : Term) → (outcome : Option Datum) → Option (Box Graph) → Type 0
IsGraphBy true V budget plan o (Some g) = IsGraph V budget plan o g.value
IsGraphBy true V budget plan o None = ⊥
IsGraphBy false V budget plan o graph = graph ≡ None

-- the first of these turns that are within the budget, with what was evaluated
abbrev pub first_within : (budget : ℕ) → List (Ran × ℕ) → Option (Ran × ℕ)
first_within budget [] = None
first_within budget (c ∷ cs) = if nat_lt budget c.1 then first_within budget cs else Some c

-- the moved term as what may be evaluated, where there is one
abbrev pub by_moved : Option ℕ → List (Ran × ℕ)
by_moved None = []
by_moved (Some moved) = (ran.Moved, moved) ∷ []

-- which term counts, and its turns: the plan where its turns are within the budget, else the start term where its turns are, else the moved
-- term where there is one and its turns are
abbrev pub choice : (budget plan start : ℕ) → (moved : Option ℕ) → Option (Ran × ℕ)
choice budget plan start moved = first_within budget ((ran.Plan, plan) ∷ (ran.Start, start) ∷ by_moved moved)

-- the same of a declaration's query, this plan of it, and what was moved
abbrev pub choice_of : Declaration → Earlier → (budget : ℕ) → (plan : Term) → Option (Box Moved) → Option (Ran × ℕ)
choice_of d earlier budget plan moved = choice budget (turns_in earlier plan) (query_turns d earlier) (moved_turns (outcomes_of earlier) moved)

-- What is asked for.

-- these bytes give the table; where the files are told they are those of the file
pub record GivesTable (file : List ℕ) (header : Bool) (ks : List Kind) (holds : Option Content) (w : Datum) (bytes : List ℕ) : Type 0 where
  pub gives : set_of header ks bytes ≡ Ok w
  pub told : ForSome holds (λ files. files file ≡ Some bytes)

-- what was read is a value of this form: a hyperslab an array with the counts as dimensions, a table the one that some bytes give
abbrev pub HasForm : Option Content → Asked → Datum → Type 0
HasForm holds (hyperslab h) w = (content : List Datum) × (w ≡ array h.count (data_of content))
HasForm holds (table file header ks) w = (bytes : List ℕ) × GivesTable file header ks holds w bytes

-- what reading this value took: the cells of a hyperslab; of a table the bytes that give it, which are within the budget
abbrev pub IsCount : (budget : ℕ) → Option Content → Asked → Datum → ℕ → Type 0
IsCount budget holds (hyperslab h) w n = n ≡ cells h
IsCount budget holds (table file header ks) w n = (bytes : List ℕ) × GivesTable file header ks holds w bytes × (n ≡ length bytes) × (n ≤ budget)

-- the same of an outcome; nothing where nothing is asked for
abbrev pub IsCountOf : (budget : ℕ) → Option Content → Option Asked → Option Datum → ℕ → Type 0
IsCountOf budget holds None o n = n ≡ 0
IsCountOf budget holds (Some a) o n = (w : Datum) × (o ≡ Some w) × IsCount budget holds a w n

-- reading it takes no more than the budget: the cells of a hyperslab, the bytes of a file of records where the files are told
abbrev pub IsAffordable : (budget : ℕ) → Option Content → Asked → Type 0
IsAffordable budget holds (hyperslab h) = cells h ≤ budget
IsAffordable budget holds (table file header ks) = ForSome holds (λ files. ForSome (file_in files file) (λ bytes. length bytes ≤ budget))

-- calls are made on the files for it
abbrev pub CallsFiles : (budget : ℕ) → Asked → Type 0
CallsFiles budget (hyperslab h) = cells h ≤ budget
CallsFiles budget (table file header ks) = IsUtf8 file

-- no call is made on them: the cells of a hyperslab pass the budget, the name of a file of records is not UTF-8
abbrev pub CallsNoFile : (budget : ℕ) → Asked → Type 0
CallsNoFile budget (hyperslab h) = budget < cells h
CallsNoFile budget (table file header ks) = IsUtf8 file → ⊥

-- no stride is 0
abbrev pub HasStrides : Asked → Type 0
HasStrides (hyperslab h) = first_zero 1 h.stride ≡ None
HasStrides (table file header ks) = Unit {0}

-- it is read only where it takes no more than the budget, the file's name is UTF-8, no stride is 0, and the files, where they are told,
-- have no fault
pub record IsReadable (budget : ℕ) (holds : Option Content) (a : Asked) : Type 0 where
  pub within : IsAffordable budget holds a
  pub named : IsUtf8 (file_of a)
  pub strides : HasStrides a
  pub file : ForSome holds (λ files. IsFaultless files a)

-- What a declaration took.

-- which term counts, and what a declaration with this outcome took: the turns of its query, and of a readval, by that choice, those of its
-- argument and what reading took
abbrev pub IsCounted : Declaration → Earlier → (budget : ℕ) → Option Content → (plan : Term) → (moved : Option (Box Moved)) → (outcome : Option Datum) →
    (took : Ran × ℕ) → Type 0
IsCounted (mac f p body) earlier budget holds plan moved o took = took ≡ (ran.Declared, 0)
IsCounted (read x r e) earlier budget holds plan moved o took =
    (c : Ran × ℕ) × (n : ℕ) × (choice_of (read x r e) earlier budget plan moved ≡ Some c) × (took ≡ (ran.Read, c.1 + n))
    × IsCountOf budget holds (asks (read x r e) earlier) o n
IsCounted d earlier budget holds plan moved o took = choice_of d earlier budget plan moved ≡ Some took

-- The answer.

-- the trace leads from the start term to the plan, which is a normal form; of a macro both are Bottom
abbrev pub HasPlan : Declaration → Earlier → (start : Term) → List code.Step → (plan : Term) → Type 0
HasPlan (mac f p body) earlier start trace plan = (plan ≡ bottom_term) × (trace ≡ [])
HasPlan d earlier start trace plan = IsPlan (outcomes_of earlier) start trace plan

-- with the word `--motion` there is a moved term of the plan, of a readval of that of its argument; without it, and of a macro, there is none
abbrev pub HasMotion : Declaration → Earlier → (motion : Bool) → (plan : Term) → (moved : Option (Box Moved)) → Type 0
HasMotion (mac f p body) earlier motion plan moved = moved ≡ None
HasMotion d earlier motion plan moved = IsMovedBy motion (outcomes_of earlier) plan moved

-- with the word `--graph` there is the array-free form of a query's plan, with the query's encoded outcome; without it, of a macro and of a readval
-- there is none
abbrev pub HasGraph : Declaration → Earlier → (graphs : Bool) → (budget : ℕ) → (plan : Term) → Option (Box Graph) → Type 0
HasGraph (val x e) earlier graphs budget plan graph = IsGraphBy graphs (outcomes_of earlier) budget plan (den e (globals_of earlier) []) graph
HasGraph (mac f p body) earlier graphs budget plan graph = graph ≡ None
HasGraph (read x r e) earlier graphs budget plan graph = graph ≡ None
HasGraph (bare e) earlier graphs budget plan graph = IsGraphBy graphs (outcomes_of earlier) budget plan (den e (globals_of earlier) []) graph

-- the answer of a declaration: its name, its type, its start term, the plan with the rewritings that lead there, with the word `--motion`
-- what is moved in the plan, and with the word `--graph` the array-free form of a query's plan
pub record IsAnswer (d : Declaration) (earlier : Earlier) (sort : Option Sort) (motion graphs : Bool) (budget : ℕ) (a : Answer) : Type 0 where
  pub name : a.name ≡ declared_name d
  -- its type is the one that was found, and principal
  pub found : sort ≡ Some (sort_of a.ty)
  pub principal : IsPrincipal d (environment_of (declarations_of earlier)) (sort_of a.ty)
  pub start : term_of a.start ≡ start_of d earlier
  pub planned : HasPlan d earlier (term_of a.start) a.trace (term_of a.plan)
  pub moved : HasMotion d earlier motion (term_of a.plan) a.moved
  pub graph : HasGraph d earlier graphs budget (term_of a.plan) a.graph

-- it is answered only where what it asks for is readable
abbrev pub IsAnswerable : Declaration → Earlier → (budget : ℕ) → Option Content → Type 0
IsAnswerable d earlier budget holds = ForSome (asks d earlier) (IsReadable budget holds)

-- The outcome.

-- a value that was read: of the reader's type and its form, and the one that the files tell
pub record IsRead (r : Reader) (a : Asked) (holds : Option Content) (w : Datum) : Type 0 where
  pub typed : HasType (reader_type r) w
  pub form : HasForm holds a w
  pub told : ForSome holds (λ files. read_value files a ≡ Some w)

-- of a readval: undefined exactly where its argument is
abbrev pub IsReadOutcome : Reader → (argument : Option Datum) → Option Content → Option Datum → Type 0
IsReadOutcome r None holds o = o ≡ None
IsReadOutcome r (Some v) holds o = (a : Asked) × (w : Datum) × (asked_of r v ≡ Some a) × (o ≡ Some w) × IsRead r a holds w

-- a query's outcome is what it denotes; a macro has no value
abbrev pub IsOutcome : Declaration → Earlier → Option Content → Option Datum → Type 0
IsOutcome (val x e) earlier holds o = o ≡ den e (globals_of earlier) []
IsOutcome (mac f p body) earlier holds o = o ≡ None
IsOutcome (read x r e) earlier holds o = IsReadOutcome r (den e (globals_of earlier) []) holds o
IsOutcome (bare e) earlier holds o = o ≡ den e (globals_of earlier) []

-- one position more is bound, under the declaration's name, and the answer says what was evaluated and what that took
pub record BindsPosition (d : Declaration) (earlier : Earlier) (budget : ℕ) (holds : Option Content) (old new : Bound) (a : Answer) : Type 0 where
  pub outcome : Option Datum
  pub bound : new ≡ old ++ (declared_name d, outcome) ∷ []
  pub is : IsOutcome d earlier holds outcome
  -- where it is a value it has every type of the position, and a macro has none
  pub typed : OutcomesFit ((d, outcome) ∷ earlier)
  -- where the files are told it is the script's outcome over them
  pub told : ForSome holds (λ files. outcome_after (reading files) d (globals_of earlier) ≡ Some outcome)
  -- the plan counts exactly where its turns are within the budget, the start term exactly where those of the plan are not and its own are,
  -- the moved term exactly where neither are and its own are
  pub counts : IsCounted d earlier budget holds (term_of a.plan) a.moved outcome (a.by, a.turns)

-- The faults.

-- with some plan of the query, and what is moved in it, one of the terms counts: its turns are within the budget
abbrev pub MayBeEvaluated : Declaration → Earlier → (motion : Bool) → (budget : ℕ) → Type 0
MayBeEvaluated d earlier motion budget =
    (trace : List code.Step) × (plan : Term) × (moved : Option (Box Moved)) × (c : Ran × ℕ) × IsPlan (outcomes_of earlier) (start_of d earlier) trace plan
    × IsMovedBy motion (outcomes_of earlier) plan moved × (choice_of d earlier budget plan moved ≡ Some c)

-- the argument of a readval has a value and was evaluated within the budget, and what it asks for is such
abbrev pub AsksFor : Declaration → Earlier → (motion : Bool) → (budget : ℕ) → (Asked → Type 0) → Type 0
AsksFor d earlier motion budget P = MayBeEvaluated d earlier motion budget × (a : Asked) × (asks d earlier ≡ Some a) × P a

-- a fault that is the file's own: no failed call, and no want of memory
abbrev pub IsOfFile : CdfFault → Type 0
IsOfFile file_faults.Device = ⊥
IsOfFile file_faults.Memory = ⊥
IsOfFile f = Unit {0}

-- a version that a fault names is none that is read
abbrev pub IsOfVersion : CdfFault → Type 0
IsOfVersion (file_faults.Version v) = IsVersion v → ⊥
IsOfVersion f = Unit {0}

-- a fault of a hyperslab, whatever the files tell: where the name is not UTF-8 there is no such file, and what the fault says of
-- the version, the rank, the strides, the dimensions and the cells is so
pub record IsRequestFault (a : Hyperslab) (f : CdfFault) : Type 0 where
  pub own : IsOfFile f
  pub unnamed : (IsUtf8 a.file → ⊥) → f ≡ file_faults.Absent
  pub version : IsOfVersion f
  pub request : IsOfRequest a.start a.count a.stride a.signed f

-- a fault of a file of records: neither the device nor memory, and no size that passes the budget
abbrev pub IsOfTable : CsvFault → Type 0
IsOfTable csv_faults.Absent = Unit {0}
IsOfTable (csv_faults.Cut k) = Unit {0}
IsOfTable (csv_faults.Fields r n) = Unit {0}
IsOfTable (csv_faults.Number r f) = Unit {0}
IsOfTable f = ⊥

-- the fault of a record is that of some bytes within the budget, and so is the place of a missing byte
abbrev pub IsOfBytes : (header : Bool) → List Kind → (budget : ℕ) → CsvFault → Type 0
IsOfBytes header ks budget (csv_faults.Fields r n) = (bytes : List ℕ) × (length bytes ≤ budget) × (set_of header ks bytes ≡ Err (csv_faults.Fields r n))
IsOfBytes header ks budget (csv_faults.Number r f) = (bytes : List ℕ) × (length bytes ≤ budget) × (set_of header ks bytes ≡ Err (csv_faults.Number r f))
IsOfBytes header ks budget (csv_faults.Cut k) = k < budget
IsOfBytes header ks budget f = Unit {0}

-- a fault of a table, whatever the files tell: where the name is not UTF-8 there is no such file
pub record IsTableFault (file : List ℕ) (header : Bool) (ks : List Kind) (budget : ℕ) (f : CsvFault) : Type 0 where
  pub own : IsOfTable f
  pub unnamed : (IsUtf8 file → ⊥) → f ≡ csv_faults.Absent
  pub given : IsOfBytes header ks budget f

-- reading it passes the budget: the cells of a hyperslab, of which so many are told; or a file of records is there and has so many bytes
abbrev pub PassesBudget : (budget : ℕ) → Option Content → (c : ℕ) → Asked → Type 0
PassesBudget budget holds c (hyperslab h) = (budget < cells h) × (c ≡ min (cells h) (2 ^ 128 - 1))
PassesBudget budget holds c (table file header ks) = (budget < c) × IsUtf8 file × ForSome holds (λ files. option_map length (files file) ≡ Some c)

-- the cells of a hyperslab are within the budget, and this is the first fault of its file
abbrev pub HasFileFault : (budget : ℕ) → Option Content → CdfFault → Asked → Type 0
HasFileFault budget holds f (hyperslab h) = (cells h ≤ budget) × IsRequestFault h f × ForSome holds (λ files. read_fault files h ≡ Some f)
HasFileFault budget holds f (table file header ks) = ⊥

-- a file of records is absent or its size is within the budget, and this is its first fault
abbrev pub HasTableFault : (budget : ℕ) → Option Content → CsvFault → Asked → Type 0
HasTableFault budget holds f (hyperslab h) = ⊥
HasTableFault budget holds f (table file header ks) =
    IsAffordable budget holds (table file header ks) × IsTableFault file header ks budget f
    × ForSome holds (λ files. read_table files file header ks ≡ Err f)

-- a query's start term, a plan of it and what is moved in it; the turns of all three terms pass the budget
abbrev pub IsSpent : Declaration → Earlier → (motion : Bool) → (budget : ℕ) → (start : Term) → List code.Step → (plan : Term) → (moved : Option (Box Moved)) → Type 0
IsSpent d earlier motion budget start trace plan moved =
    (start ≡ start_of d earlier) × IsPlan (outcomes_of earlier) (start_of d earlier) trace plan
    × (budget < query_turns d earlier) × (budget < turns_in earlier plan)
    × IsMovedBy motion (outcomes_of earlier) plan moved × (budget < turns_in earlier (moved_term plan moved))

-- What each fault of a declaration stands for. Query: the turns of the start term, of a plan of it and of its moved term all pass the budget. Each
-- of the next four wants an argument that has a value and was evaluated within the budget. Cells: the cells that are asked for pass the budget, or
-- the bytes of a file of records do. File and Csv: they do not, and this is the first fault that the files tell. Device: a call was made on the
-- files, and the count of failed calls rose. Memory: nothing is said of it.
abbrev pub IsCause : Declaration → Earlier → (motion : Bool) → (budget : ℕ) → Option Content → (before now : ℕ) → StepFault → Type 0
IsCause d earlier motion budget holds before now (faults.Query start plan trace moved) =
    IsSpent d earlier motion budget (term_of start) trace (term_of plan) moved
IsCause d earlier motion budget holds before now (faults.Cells c) = AsksFor d earlier motion budget (PassesBudget budget holds c)
IsCause d earlier motion budget holds before now (faults.File f) = AsksFor d earlier motion budget (HasFileFault budget holds f)
IsCause d earlier motion budget holds before now (faults.Csv f) = AsksFor d earlier motion budget (HasTableFault budget holds f)
IsCause d earlier motion budget holds before now faults.Device = AsksFor d earlier motion budget (λ a. CallsFiles budget a × Rose before now)
IsCause d earlier motion budget holds before now faults.Memory = Unit {0}

-- no file is read: there is no argument, or it is undefined, or no call is made for what it asks for
abbrev pub ReadsNoFile : Declaration → Earlier → (budget : ℕ) → Type 0
ReadsNoFile d earlier budget = ForSome (asks d earlier) (CallsNoFile budget)

-- the turns passed the budget
abbrev pub IsOverTurns : StepFault → Type 0
IsOverTurns (faults.Query start plan trace moved) = Unit {0}
IsOverTurns f = ⊥
