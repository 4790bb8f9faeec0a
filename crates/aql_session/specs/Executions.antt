-- What the functions within this crate say of one another's answers.
use Rattle.std.specs.Prelude.{◌≡◌, ℕ, ◌-◌, ◌<◌, ◌≤◌, Bool, List, [], ◌∷◌, ◌++◌, length, map, take, Option, Some, None, option_map, Ok, if◌then◌else◌}
use Rattle.std.specs.Global.{Box, Vec}
use Rattle.std.specs.Option.{ForSome}
use Rattle.std.specs.Str.{IsUtf8}
use Rattle.aql_outside.specs.Causes.{Rose}
use Rattle.aql_outside.specs.Contents.{Content}
use Rattle.aql_outside.specs.declared.device.Files as files
use Rattle.aql_value.specs.Datum.{Datum, Table}
use Rattle.aql_value.specs.Meaning.{datum}
use Rattle.aql_value.specs.declared.value.Value.{Value}
use Rattle.aql_value.specs.Operations.{as_natural}
use Rattle.aql_value.specs.Partial.{◌>>=◌}
use Rattle.aql_value.specs.Valid.{IsValue}
use Rattle.aql_ty.specs.Types as types
use Rattle.aql_ty.specs.Types.{Ty, Sort}
use Rattle.aql_ty.specs.ValueTypes.{HasType}
use Rattle.aql_ty.specs.View.{sort_of}
use Rattle.aql_syntax.specs.Denotation.{den}
use Rattle.aql_syntax.specs.Script.{Earlier, globals_of}
use Rattle.aql_syntax.specs.Size.{before, AreWithinLimits}
use Rattle.aql_syntax.specs.Sound.{OutcomesTyped}
use Rattle.aql_syntax.specs.Tree.{Name, Tree, Reader, Declaration, val, mac, read, bare, declared_name}
use Rattle.aql_syntax.specs.Typing.{reader_type, argument_type, record_type}
use Rattle.aql_syntax.specs.View.{reader_of}
use Rattle.aql_syntax.specs.declared.ast.CsvReader.{CsvReader}
use Rattle.aql_syntax.specs.declared.ast.Reader as ast
use Rattle.aql_csv.specs.declared.fault.CsvFault.{CsvFault}
use Rattle.aql_csv.specs.declared.fault.CsvFault.TheVariants as csv_faults
use Rattle.aql_infer_steps.specs.Typed.{ArePrincipal}
use Rattle.nrca_array.specs.Held.{table_datum}
use Rattle.nrca_array.specs.declared.held.Held.{Held}
use Rattle.nrca_encoded.specs.Graphs.{IsTypedOver}
use Rattle.nrca_encoded.specs.declared.ran.Graph.{Graph}
use Rattle.nrca_loops.specs.Values.{held_value}
use Rattle.nrca_term.specs.Meaning.{Outcomes, cden}
use Rattle.nrca_term.specs.Term.{Term}
use Rattle.nrca_term.specs.View.{term_of}
use Rattle.nrca_normal.specs.Planned.{IsPlan}
use Rattle.aql_desugar_spec.specs.Positions.{outcomes_of}
use Rattle.aql_desugar_spec.specs.Start.{query}
use Rattle.cdf_header.specs.Places.{variable_at}
use Rattle.cdf_header.specs.declared.fault.CdfFault.{CdfFault}
use Rattle.cdf_header.specs.declared.fault.CdfFault.TheVariants as file_faults
use Rattle.cdf_slab.specs.Slab.{IsShaped, first_zero}
use Rattle.aql_value.specs.Limits.{most_workers}
use Rattle.aql_options.specs.Settings.{settings_of}
use Rattle.aql_session.specs.Asked.{Hyperslab, Asked, hyperslab, table, hyperslab_from, asked_of}
use Rattle.aql_session.specs.Bound.{Bound, earlier_of}
use Rattle.aql_session.specs.Numbered.{declarations, sorts, declaration_numbered, sort_numbered, so_far, IsCauseOf, UnlessRead}
use Rattle.aql_session.specs.Reading.{open_hyperslab, read_fault, read_hyperslab, read_value}
use Rattle.aql_session.specs.Step.{CallsFiles, CallsNoFile, HasFileFault, HasForm, HasPlan, HasTableFault, HasGraph, HasMotion, IsAnswerable, IsCount, IsCounted, IsCountOf, IsGraphBy, IsMovedBy, IsOutcome, IsReadable, IsReadOutcome, IsRequestFault, IsSpent, NoMacroHasValue, PassesBudget, choice_of, start_of, start_term}
use Rattle.aql_session.specs.declared.answer.Answer.{Answer}
use Rattle.aql_session.specs.declared.answer.StepFault.{StepFault}
use Rattle.aql_session.specs.declared.answer.StepFault.TheVariants as faults
use Rattle.aql_session.specs.declared.queries.Evaluated.{Evaluated}
use Rattle.aql_session.specs.declared.readings.Found.{Found}
use Rattle.aql_session.specs.declared.readings.Read.{Read}
use Rattle.aql_session.specs.declared.readings.Request.{Request}
use Rattle.aql_session.specs.declared.readings.Request.TheVariants as requests
use Rattle.aql_session.specs.declared.readings.SlabRequest.{SlabRequest}
use Rattle.aql_session.specs.declared.executions.CheckedDeclaration.{CheckedDeclaration}
use Rattle.aql_session.specs.declared.executions.Execution.{Execution}

-- n is a position of declarations that were checked, and the outcomes of those before it are at hand, each of its types
pub record IsReadyAt (ds : List Declaration) (sorts : List Sort) (n : ℕ) (V : Outcomes) : Type 0 where
  pub first : 1 ≤ n
  pub last : n ≤ length ds
  pub many : length V ≡ n - 1
  pub checked : ArePrincipal [] ds sorts
  pub typed : OutcomesTyped (earlier_of ds V)
  pub macros : NoMacroHasValue (earlier_of ds V)
  pub limits : AreWithinLimits ds n

-- the position is no macro
abbrev pub IsQuery : Option Declaration → Type 0
IsQuery position = (d : Declaration) × (e : Tree) × (position ≡ Some d) × (query d ≡ Some e)

-- what the query of a declaration denotes
abbrev pub query_value : Declaration → Earlier → Option Datum
query_value d earlier = query d >>= λ e. den e (globals_of earlier) []

-- the query of a declaration was evaluated, by its plan, as it is translated, or by what is moved in the plan; the value is one of the language
pub record IsEvaluated (d : Declaration) (earlier : Earlier) (motion : Bool) (budget : ℕ) (q : Evaluated) : Type 0 where
  pub start : term_of q.start ≡ start_of d earlier
  pub planned : IsPlan (outcomes_of earlier) (start_of d earlier) q.trace (term_of q.plan)
  pub moved : IsMovedBy motion (outcomes_of earlier) (term_of q.plan) q.moved
  pub counts : choice_of d earlier budget (term_of q.plan) q.moved ≡ Some (q.by, q.turns)
  pub value : held_value q.value ≡ query_value d earlier
  pub same : cden (outcomes_of earlier) [] (term_of q.plan) ≡ query_value d earlier
  pub valid : ForSome (held_value q.value) IsValue

-- it was not evaluated: the turns of all its terms pass the budget, or memory was wanting
abbrev pub IsSpentFault : Declaration → Earlier → (motion : Bool) → (budget : ℕ) → StepFault → Type 0
IsSpentFault d earlier motion budget (faults.Query start plan trace moved) =
    IsSpent d earlier motion budget (term_of start) trace (term_of plan) moved
IsSpentFault d earlier motion budget faults.Memory = Unit {0}
IsSpentFault d earlier motion budget f = ⊥

-- the hyperslab that a request asks for
abbrev pub slab_asked : SlabRequest → Hyperslab
slab_asked r = record { file = r.file; variable = r.variable; start = r.start.items; count = r.count.items; stride = r.stride.items; signed = r.signed }

-- the table that is asked for by a file's name and a reader
abbrev pub table_asked : List ℕ → CsvReader → Asked
table_asked file reader = table file reader.header reader.kinds.items.items

-- what a request asks for
abbrev pub request_asked : Request → Asked
request_asked (requests.Slab r) = hyperslab (slab_asked r)
request_asked (requests.Table file reader) = table_asked file reader.now

-- the index of one number, where the value is one
abbrev pub single_index : Datum → Option (List ℕ)
single_index v = as_natural v >>= λ n. Some (n ∷ [])

-- an index for each dimension, of 1 to 8
pub record HasRank (a : Hyperslab) : Type 0 where
  pub some : 1 ≤ length a.start
  pub few : length a.start ≤ 8
  pub counts : length a.count ≡ length a.start
  pub strides : length a.stride ≡ length a.start

-- the type of the cells: naturals, or pairs of a sign and a natural
abbrev pub cell_type : (signed : Bool) → Ty
cell_type signed = if signed then types.product (types.type types.truth (types.type types.natural types.no_type)) else types.natural

-- the type of what is asked for
abbrev pub asked_type : Asked → Ty
asked_type (hyperslab h) = types.array_of (length h.count) (cell_type h.signed)
asked_type (table file header ks) = types.set_of (record_type ks)

-- it can be read: a hyperslab has an index for each dimension, a record at least one field
abbrev pub IsProper : Asked → Type 0
IsProper (hyperslab h) = HasRank h
IsProper (table file header ks) = 1 ≤ length ks

-- the fault of a step for one of a file
abbrev pub handed_on : CdfFault → StepFault
handed_on file_faults.Device = faults.Device
handed_on file_faults.Memory = faults.Memory
handed_on f = faults.File f

-- the fault of a step for one of a file of records
abbrev pub table_handed_on : CsvFault → StepFault
table_handed_on (csv_faults.Long n) = faults.Cells n
table_handed_on csv_faults.Device = faults.Device
table_handed_on csv_faults.Memory = faults.Memory
table_handed_on f = faults.Csv f

-- the bytes of the file that these files hold, with what was found in it
pub record IsFileAt (a : Hyperslab) (files : Content) (found : Found) : Type 0 where
  pub bytes : List ℕ
  pub utf8 : IsUtf8 a.file
  pub there : files a.file ≡ Some bytes
  pub size : found.header.bytes ≡ length bytes
  pub is : open_hyperslab files a ≡ Ok (record { bytes = bytes; head = found.header; variable = variable_at found.header found.variable })

-- what was found of what is asked for: the file's header and its variable, and where the files are told the ones of its bytes
pub record IsOpened (a : Hyperslab) (holds : Option Content) (found : Found) : Type 0 where
  pub variable : found.variable < length found.header.vars
  pub told : ForSome holds (λ files. IsFileAt a files found)

-- what was read of what is asked for
pub record IsSlabOf (a : Hyperslab) (holds : Option Content) (t : Table) : Type 0 where
  pub shaped : IsShaped a.count a.signed t
  pub named : IsUtf8 a.file
  pub strides : first_zero 1 a.stride ≡ None
  pub told : ForSome holds (λ files. (read_fault files a ≡ None) × (read_hyperslab files a ≡ Some (table_datum t)))

-- what was read of what is asked for
pub record IsReadOf (a : Asked) (budget : ℕ) (holds : Option Content) (x : Read) : Type 0 where
  pub value : Datum
  pub is : held_value x.value ≡ Some value
  pub counts : IsCount budget holds a value x.turns
  pub few : x.turns ≤ budget
  pub readable : IsReadable budget holds a
  pub typed : HasType (asked_type a) value
  pub form : HasForm holds a value
  pub told : ForSome holds (λ files. read_value files a ≡ Some value)
  pub valid : IsValue value

-- why the file was not read
abbrev pub IsFileCause : Hyperslab → Option Content → (before now : ℕ) → StepFault → Type 0
IsFileCause a holds before now (faults.File f) = IsRequestFault a f × ForSome holds (λ files. read_fault files a ≡ Some f)
IsFileCause a holds before now faults.Device = Rose before now
IsFileCause a holds before now faults.Memory = Unit {0}
IsFileCause a holds before now f = ⊥

-- why what is asked for was not read: it passes the budget, or the file has a fault
abbrev pub IsReadCause : Asked → (budget : ℕ) → Option Content → (before now : ℕ) → StepFault → Type 0
IsReadCause a budget holds before now (faults.Query start plan trace moved) = ⊥
IsReadCause a budget holds before now (faults.Cells c) = PassesBudget budget holds c a
IsReadCause a budget holds before now (faults.File f) = HasFileFault budget holds f a
IsReadCause a budget holds before now (faults.Csv f) = HasTableFault budget holds f a
IsReadCause a budget holds before now faults.Device = CallsFiles budget a × Rose before now
IsReadCause a budget holds before now faults.Memory = Unit {0}

-- what the outcome of a reader's argument asks for
abbrev pub asked_in : Reader → Option Datum → Option Asked
asked_in r argument = argument >>= asked_of r

-- a request that the value of an argument asks for, of the reader's type
pub record IsRequestOf (r : Reader) (v : Datum) (request : Request) : Type 0 where
  pub is : asked_of r v ≡ Some (request_asked request)
  pub proper : IsProper (request_asked request)
  pub type : reader_type r ≡ asked_type (request_asked request)

-- what was read by the outcome of a reader's argument
pub record IsReadBy (r : Reader) (argument : Option Datum) (budget : ℕ) (holds : Option Content) (x : Read) : Type 0 where
  pub counts : IsCountOf budget holds (asked_in r argument) (held_value x.value) x.turns
  pub few : x.turns ≤ budget
  pub readable : ForSome (asked_in r argument) (IsReadable budget holds)
  pub outcome : IsReadOutcome r argument holds (held_value x.value)
  pub valid : ForSome (held_value x.value) IsValue

-- why nothing was read by the outcome of a reader's argument: what is asked for, and the cause
abbrev pub IsArgumentCause : Reader → (argument : Option Datum) → (budget : ℕ) → Option Content → (before now : ℕ) → StepFault → Type 0
IsArgumentCause r argument budget holds before now faults.Memory = Unit {0}
IsArgumentCause r argument budget holds before now f = (a : Asked) × (asked_in r argument ≡ Some a) × IsReadCause a budget holds before now f

-- neither a macro nor a readval
abbrev pub IsValueDeclaration : Declaration → Type 0
IsValueDeclaration (val x e) = Unit {0}
IsValueDeclaration (mac f p body) = ⊥
IsValueDeclaration (read x r e) = ⊥
IsValueDeclaration (bare e) = Unit {0}

-- the position is a readval by this reader
abbrev pub IsReadval : Option Declaration → Reader → Type 0
IsReadval position r = (x : Name) × (e : Tree) × (position ≡ Some (read x r e))

-- a declaration was run
pub record IsExecution (d : Declaration) (earlier : Earlier) (motion graphs : Bool) (budget : ℕ) (holds : Option Content) (r : Execution) : Type 0 where
  pub start : term_of r.start ≡ start_of d earlier
  pub planned : HasPlan d earlier (start_of d earlier) r.trace (term_of r.plan)
  pub moved : HasMotion d earlier motion (term_of r.plan) r.moved
  pub graph : HasGraph d earlier graphs budget (term_of r.plan) r.graph
  pub counts : IsCounted d earlier budget holds (term_of r.plan) r.moved (held_value r.value) (r.by, r.turns)
  pub answerable : IsAnswerable d earlier budget holds
  pub outcome : IsOutcome d earlier holds (held_value r.value)
  pub valid : ForSome (held_value r.value) IsValue

-- the answer of a run
pub record IsAnswerOf (d : Declaration) (sort : Option Sort) (r : Execution) (a : Answer) : Type 0 where
  pub name : a.name ≡ declared_name d
  pub found : sort ≡ Some (sort_of a.ty)
  pub start : term_of a.start ≡ term_of r.start
  pub plan : term_of a.plan ≡ term_of r.plan
  pub trace : a.trace ≡ r.trace
  pub moved : a.moved ≡ r.moved
  pub graph : a.graph ≡ r.graph
  pub by : a.by ≡ r.by
  pub turns : a.turns ≡ r.turns

-- Over the values of the code.

-- the numbers of a list, where there is one
abbrev pub items_of : Option (Vec ℕ) → Option (List ℕ)
items_of o = option_map (λ v. v.items) o

-- what is asked for by four values and the stride
abbrev pub asked_by : (rank : ℕ) → (signed : Bool) → (Value × Value × Value × Value) → (stride : Option (List ℕ)) → Option Hyperslab
asked_by rank signed p stride = hyperslab_from rank signed (datum p.0) (datum p.1) (datum p.2) (datum p.3) stride

-- the request is one for this, where anything is asked for
abbrev pub Requests : Option Asked → Option Request → Type 0
Requests asks r = option_map request_asked r ≡ asks

-- the same of a hyperslab
abbrev pub RequestsSlab : Option Hyperslab → Option SlabRequest → Type 0
RequestsSlab asks r = option_map slab_asked r ≡ asks

-- what the outcome of a reader's argument asks for, as they are held
abbrev pub asked_held : ast.Reader → Option Held → Option Asked
asked_held reader argument = asked_in (reader_of reader) (held_value argument)

-- the value of a reader's argument, where there is one, is of the type that the reader takes
abbrev pub ArgumentFits : ast.Reader → Option Held → Type 0
ArgumentFits reader argument = ForSome (held_value argument) (HasType (argument_type (reader_of reader)))

-- no call is made on the files for what a reader's argument asks for
abbrev pub AsksNoFile : ast.Reader → Option Held → (budget : ℕ) → Type 0
AsksNoFile reader argument budget = ForSome (asked_held reader argument) (CallsNoFile budget)

-- what was read by a reader's argument
abbrev pub ReadsBy : ast.Reader → Option Held → (budget : ℕ) → Option Content → Read → Type 0
ReadsBy reader argument budget holds x = IsReadBy (reader_of reader) (held_value argument) budget holds x

-- why nothing was read by it over files as they were and are
abbrev pub ArgumentFails : {F : Type 0} → ast.Reader → Option Held → (budget : ℕ) → files.Ghosts F → (old new : F) → StepFault → Type 0
ArgumentFails reader argument budget f old new fault =
    IsArgumentCause (reader_of reader) (held_value argument) budget (f.holds old) (f.faults old) (f.faults new) fault

-- why what is asked for was not read over files as they were and are
abbrev pub ReadvalFails : {F : Type 0} → Asked → (budget : ℕ) → files.Ghosts F → (old new : F) → StepFault → Type 0
ReadvalFails a budget f old new fault = IsReadCause a budget (f.holds old) (f.faults old) (f.faults new) fault

-- why the file of a hyperslab was not read
abbrev pub FileFails : {F : Type 0} → Hyperslab → files.Ghosts F → (old new : F) → StepFault → Type 0
FileFails a f old new fault = IsFileCause a (f.holds old) (f.faults old) (f.faults new) fault

-- Of a position: declaration n of a script that was checked, and how it is run.

-- the declarations of its script
abbrev pub declarations_at : CheckedDeclaration → List Declaration
declarations_at p = declarations p.decls.now

-- the sorts of these
abbrev pub sorts_at : CheckedDeclaration → List Sort
sorts_at p = sorts p.typed.now

-- its declaration
abbrev pub declaration_of : CheckedDeclaration → Option Declaration
declaration_of p = declaration_numbered p.decls.now p.n

-- the budget that it is run with
abbrev pub budget_of : CheckedDeclaration → ℕ
budget_of p = p.options.now.budget

-- whether it is run with the word `--motion`
abbrev pub motion_of : CheckedDeclaration → Bool
motion_of p = p.options.now.motion

-- whether it is run with the word `--graph`
abbrev pub graphs_of : CheckedDeclaration → Bool
graphs_of p = p.options.now.graph

-- the number of workers is one that evaluation takes
abbrev pub HasWorkers : CheckedDeclaration → Type 0
HasWorkers p = (1 ≤ p.options.now.workers) × (p.options.now.workers ≤ most_workers)

-- it stands over these outcomes
abbrev pub IsReadyOver : CheckedDeclaration → Outcomes → Type 0
IsReadyOver p V = IsReadyAt (declarations_at p) (sorts_at p) p.n V

-- these are the names of the positions before it
abbrev pub AreNamesAt : CheckedDeclaration → List Name → Type 0
AreNamesAt p names = names ≡ map declared_name (take (p.n - 1) (declarations_at p))

-- its declaration was run
abbrev pub RunsPosition : CheckedDeclaration → Outcomes → Option Content → Execution → Type 0
RunsPosition p V holds r = ForSome (declaration_of p) (λ d. IsExecution d (so_far p.decls.now V) (motion_of p) (graphs_of p) (budget_of p) holds r)

-- why its declaration has no answer; the counts of faults are those of the files before and after
abbrev pub IsPositionCause : CheckedDeclaration → Outcomes → Option Content → (before now : ℕ) → StepFault → Type 0
IsPositionCause p V holds before now f = IsCauseOf p.decls.now p.n V (settings_of p.options.now) holds before now f

-- why it has none over files as they were and are
abbrev pub PositionFails : {F : Type 0} → CheckedDeclaration → Outcomes → files.Ghosts F → (old new : F) → StepFault → Type 0
PositionFails p V f old new fault = IsPositionCause p V (f.holds old) (f.faults old) (f.faults new) fault

-- this holds where its declaration reads no file
abbrev pub UnlessReadAt : CheckedDeclaration → Outcomes → Type 0 → Type 0
UnlessReadAt p V P = UnlessRead p.decls.now p.n V (settings_of p.options.now) P

-- the start term of its query
abbrev pub IsStartAt : CheckedDeclaration → Term → Type 0
IsStartAt p t = ForSome (declaration_of p) (λ d. t ≡ start_term (query d) (before (declarations_at p) p.n))

-- over outcomes over which it stands that term has a type
abbrev pub IsQueryTermAt : CheckedDeclaration → Term → Type 0
IsQueryTermAt p t = (V : Outcomes) → IsReadyOver p V → IsTypedOver V t

-- its query was evaluated within the budget
abbrev pub IsEvaluatedAt : CheckedDeclaration → Outcomes → Evaluated → Type 0
IsEvaluatedAt p V q = ForSome (declaration_of p) (λ d. IsEvaluated d (so_far p.decls.now V) (motion_of p) (budget_of p) q)

-- the run of a query that was evaluated, with this array-free form
abbrev pub execution_with : Evaluated → Option (Box Graph) → Execution
execution_with q g = record { start = q.start; plan = q.plan; trace = q.trace; moved = q.moved; graph = g; by = q.by; turns = q.turns; value = q.value }

-- with the word `--graph` it has the array-free form of its plan
abbrev pub IsExecutionWithGraph : CheckedDeclaration → Outcomes → Evaluated → Execution → Type 0
IsExecutionWithGraph p V q r =
    (r ≡ execution_with q r.graph) × IsGraphBy (graphs_of p) V (budget_of p) (term_of q.plan) (cden V [] (term_of q.plan)) r.graph

-- or it was not
abbrev pub IsSpentAt : CheckedDeclaration → Outcomes → StepFault → Type 0
IsSpentAt p V f = ForSome (declaration_of p) (λ d. IsSpentFault d (so_far p.decls.now V) (motion_of p) (budget_of p) f)

-- the answer of a run of it
abbrev pub AnswersExecution : CheckedDeclaration → Execution → Answer → Type 0
AnswersExecution p r a = ForSome (declaration_of p) (λ d. IsAnswerOf d (sort_numbered p.typed.now p.n) r a)

-- the name that it binds
abbrev pub IsNameAt : CheckedDeclaration → Name → Type 0
IsNameAt p name = ForSome (declaration_of p) (λ d. name ≡ declared_name d)

-- one position more is bound, to the value of a run of it
abbrev pub BindsExecution : CheckedDeclaration → Execution → (old new : Bound) → Type 0
BindsExecution p r old new = ForSome (declaration_of p) (λ d. new ≡ old ++ (declared_name d, held_value r.value) ∷ [])
