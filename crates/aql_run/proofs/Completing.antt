-- A run that is given what it must be ends well.
use Rattle.std.proofs.Common.{◌≡◌, ◌∙◌, ◌≤◌, ◌<◌, ◌+◌, ◌⊎◌, inl, inr, ℕ, zero, suc, List, [], ◌∷◌, refl, sym, ap, subst, length, arith, append-nil}
use Rattle.std.specs.Prelude.{Bool, Option, Some, None, option_map, if◌then◌else◌}
use Rattle.std.specs.List.{slice_get}
use Rattle.aql_outside.specs.Causes.{Rose}
use Rattle.aql_outside.specs.Contents.{Content}
use Rattle.aql_ty.specs.Types.{Sort}
use Rattle.aql_syntax.specs.Grammar.{ReadsScript}
use Rattle.aql_syntax.specs.Lexis.{Lexeme}
use Rattle.aql_syntax.specs.Script.{Earlier, globals_of}
use Rattle.aql_syntax.specs.Sound.{declarations_of}
use Rattle.aql_syntax.specs.Size.{most_nodes, most_levels, AreWithinLimits}
use Rattle.aql_syntax.specs.Tree.{Tree, Declaration, val, mac, read, bare}
use Rattle.aql_syntax.specs.Work.{work}
use Rattle.aql_infer.specs.Checked.{IsFirstUntyped}
use Rattle.aql_lex.specs.Lexed.{OneList, TokensOrTextFault, ShallowOrDeep}
use Rattle.aql_parse_spec.specs.Laws.Scripts.{either}
use Rattle.nrca_term.specs.Meaning.{Outcomes}
use Rattle.nrca_term.specs.Turns.{settle}
use Rattle.aql_desugar_spec.specs.Positions.{outcomes_of}
use Rattle.aql_desugar_spec.specs.Laws.Positions.{start-turns}
use Rattle.aql_desugar_spec.specs.Start.{start, knowns_of}
use Rattle.aql_prelude.specs.Prelude.{prelude_count}
use Rattle.aql_prelude.specs.Typing.{HaveSorts}
use Rattle.aql_script.specs.Script.{IsTokenisedAs, IsParsedAs, positions, IsFirstLarge}
use Rattle.aql_session.specs.Bound.{earlier_of}
use Rattle.std.proofs.lemmas.Str.{is_utf8-from_IsUtf8}
use Rattle.aql_csv.specs.declared.fault.CsvFault.{CsvFault}
use Rattle.cdf_header.specs.declared.fault.CdfFault.{CdfFault}
use Rattle.aql_session.specs.Asked.{Asked, hyperslab, table}
use Rattle.aql_session.specs.Reading.{IsFaultless, file_in}
use Rattle.aql_session.specs.Step.{HasFileFault, HasTableFault, IsAffordable, IsCause, PassesBudget, query_turns}
use Rattle.aql_session.specs.declared.answer.Answer.{Answer}
use Rattle.aql_session.specs.declared.answer.StepFault.{StepFault}
use Rattle.aql_session.specs.declared.answer.StepFault.TheVariants as faults
use Rattle.aql_options.specs.Words.{options_of}
use Rattle.aql_options.specs.Settings.{Settings, settings_of}
use Rattle.aql_run.specs.Answered.{AreAnswered, reach}
use Rattle.aql_run.specs.Laws.Answered.{told_at}
use Rattle.aql_run.specs.Complete.{work_of, AreOutcomes, IsWithinBudget, IsSound, EndsWell, Tokenised}
use Rattle.aql_run.specs.Outcome.{Told, IsScript, HasRun, StopsEarly, HasScriptFault, RunsWords, IsBudgetFault, IsFileFault}
use Rattle.aql_run.specs.Reading.{most_bytes}
use Rattle.aql_run.specs.declared.report.Stop.{Stop}
use Rattle.aql_run.specs.declared.status.Status.{Status}
use Rattle.aql_run.specs.declared.status.Status.TheVariants as status

-- ---- the script

-- a run has one script
same_script : (sample : Option ℕ) (left : Option (List ℕ)) (taken script given : List ℕ) → IsScript sample left taken given → IsScript sample left taken script → script ≡ given
same_script (Some n) left taken script given (_, it) (none, is) = is ∙ sym it
same_script None left taken script given (it, _) (is, whole) = is ∙ sym it

-- and as far as it is the source's, a short one
short_script : (sample : Option ℕ) (left : Option (List ℕ)) (taken script : List ℕ) → sample ≡ None → IsScript sample left taken script → length taken ≤ most_bytes
short_script (Some n) left taken script e is = absurd cc
short_script None left taken script e (is, (few, _)) = few

-- ---- faults of a script that it does not have

typed_or_not : (earlier ds : List Declaration) (n : ℕ) → HaveSorts earlier ds → IsFirstUntyped earlier ds n → ⊥
typed_or_not earlier [] n h u = u
typed_or_not earlier (d ∷ ds) zero h u = u
typed_or_not earlier (d ∷ ds) (suc zero) ((s, has), more) u = u s has
typed_or_not earlier (d ∷ ds) (suc (suc k)) h u = typed_or_not (d ∷ earlier) ds (suc k) h.1 u.1

within_or_large : (ds : List Declaration) (n : ℕ) → AreWithinLimits (positions ds) (prelude_count + length ds) → IsFirstLarge ds n → ⊥
within_or_large ds n h f =
    let last = f.last in
    let k = h (prelude_count + n) (omega arith) (omega (arith, last)) in
    of f.large k.0 k.1
  where
    of : {a b : ℕ} → (most_nodes < a) ⊎ (most_levels < b) → a ≤ most_nodes → b ≤ most_levels → ⊥
    of (inl x) y z = absurd (omega (arith, x, y))
    of (inr x) y z = absurd (omega (arith, x, z))

-- ---- faults of a declaration that it does not have

turns_are : (d : Declaration) (earlier : Earlier) → query_turns d earlier ≡ work_of d earlier
turns_are (val x e) earlier = of e earlier
  where
    of : (e : Tree) (earlier : Earlier) → settle (outcomes_of earlier) [] (start e (knowns_of (declarations_of earlier)) []) ≡ work e (globals_of earlier) []
    of e earlier = ap (λ V. settle V [] (start e (knowns_of (declarations_of earlier)) [])) (sym (append-nil (outcomes_of earlier))) ∙ start-turns earlier [] e
turns_are (mac f p body) earlier = refl
turns_are (read x r e) earlier =
    ap (λ V. settle V [] (start e (knowns_of (declarations_of earlier)) [])) (sym (append-nil (outcomes_of earlier))) ∙ start-turns earlier [] e
turns_are (bare e) earlier =
    ap (λ V. settle V [] (start e (knowns_of (declarations_of earlier)) [])) (sym (append-nil (outcomes_of earlier))) ∙ start-turns earlier [] e

-- what is affordable passes no budget, of files that have no fault
no_passing : (budget c : ℕ) (holds : Option Content) (a : Asked) → IsAffordable budget holds a → ((files : Content) × (holds ≡ Some files) × IsFaultless files a) → PassesBudget budget holds c a → ⊥
no_passing budget c holds (hyperslab h) few file (past, is) = absurd (omega (arith, few, past))
no_passing budget c holds (table name header ks) few (files, is, _) (past, utf8, told) =
    go (files name) (ap (λ b. if b then files name else None) (is_utf8-from_IsUtf8 name utf8)) (told files is)
  where
    go : (o : Option (List ℕ)) → file_in files name ≡ o → option_map length o ≡ Some c → ⊥
    go None e t = absurd cc
    go (Some bytes) e t =
        let l : length bytes ≡ c = cc in
        let w = few files is bytes e in
        absurd (omega (arith, past, l, w))

-- nor has it a fault
no_file_fault : (budget : ℕ) (holds : Option Content) (f : CdfFault) (a : Asked) → ((files : Content) × (holds ≡ Some files) × IsFaultless files a) → HasFileFault budget holds f a → ⊥
no_file_fault budget holds f (hyperslab h) (files, is, none) (few, own, told) = let some = sym none ∙ told files is in absurd cc
no_file_fault budget holds f (table name header ks) file h = h

no_table_fault : (budget : ℕ) (holds : Option Content) (f : CsvFault) (a : Asked) → ((files : Content) × (holds ≡ Some files) × IsFaultless files a) → HasTableFault budget holds f a → ⊥
no_table_fault budget holds f (hyperslab h) file t = t
no_table_fault budget holds f (table name header ks) (files, is, (w, ok)) (few, own, told) = let both = sym ok ∙ told files is in absurd cc

no_cause : (d : Declaration) (earlier : Earlier) (motion : Bool) (budget : ℕ) (holds : Option Content) (before now : ℕ) (f : StepFault) → IsWithinBudget d earlier budget holds → (Rose before now → ⊥) →
    IsCause d earlier motion budget holds before now f → (f ≡ faults.Memory → ⊥) → ⊥
no_cause d earlier motion budget holds before now (faults.Query start plan trace moved) h quiet (_, _, past, _, _, _) other =
    let turns = h.turns in let same = turns_are d earlier in absurd (omega (arith, past, turns, same))
no_cause d earlier motion budget holds before now (faults.Cells c) h quiet (within, a, e, past) other = no_passing budget c holds a (h.cells a e) (h.file a e) past
no_cause d earlier motion budget holds before now (faults.File f) h quiet (within, a, e, fault) other = no_file_fault budget holds f a (h.file a e) fault
no_cause d earlier motion budget holds before now (faults.Csv f) h quiet (within, a, e, fault) other = no_table_fault budget holds f a (h.file a e) fault
no_cause d earlier motion budget holds before now faults.Device h quiet (within, a, e, (calls, rose)) other = quiet rose
no_cause d earlier motion budget holds before now faults.Memory h quiet cause other = other refl

-- the outcomes of the answers are those of the positions
are_outcomes : (ds : List Declaration) (sorts : List Sort) (settings : Settings) (holds : Option Content) (answers : List Answer) (V : Outcomes) →
    AreAnswered ds sorts settings holds answers V → AreOutcomes ds holds V
are_outcomes ds sorts settings holds answers V h = record {
  prelude = h.prelude;
  each = λ i d o there is. told_at ds sorts settings holds answers V i d o h there is;
}

-- no declaration of a sound script has a fault but want of memory
never_stops : (words : List (List ℕ)) (told : Told) (same : Type 0) (begun : ℕ) (taken lines given : List ℕ) (answers : List Answer) (f : StepFault) →
    IsScript (options_of words).sample told.left taken given → IsSound words given told.holds →
    (Rose told.files_before told.files_now → ⊥) → (run : HasRun (settings_of (options_of words)) told same begun taken answers lines) → StopsEarly run f → (f ≡ faults.Memory → ⊥) → ⊥
never_stops words told same begun taken lines given answers f it h quiet run (d, there, cause) other =
    let the : run.script ≡ given = same_script (options_of words).sample told.left taken run.script given it run.is in
    let ds : h.ds ≡ run.ds = run.reads.1 h.ds (subst (λ (x : List ℕ). IsParsedAs x h.ds) (sym the) h.are) in
    let many = run.answered.many in
    let at : slice_get (positions run.ds) (length run.outcomes) ≡ Some d = ap (slice_get (positions run.ds)) many ∙ there in
    let is : AreOutcomes h.ds told.holds run.outcomes =
    subst (λ (l : List Declaration). AreOutcomes l told.holds run.outcomes) (sym ds)
    (are_outcomes run.ds run.sorts (settings_of (options_of words)) told.holds answers run.outcomes run.answered) in
    let within : IsWithinBudget d (earlier_of (positions h.ds) run.outcomes) (options_of words).budget told.holds =
    h.within run.outcomes d is (ap (λ (l : List Declaration). slice_get (positions l) (length run.outcomes)) ds ∙ at) in
    no_cause d (earlier_of (positions run.ds) run.outcomes) (options_of words).motion (options_of words).budget told.holds told.files_before told.files_now f
    (subst (λ (l : List Declaration). IsWithinBudget d (earlier_of (positions l) run.outcomes) (options_of words).budget told.holds) ds within) quiet cause other

-- a script that is refused is the one of the run, with the reading that it has
refuses_none : (words : List (List ℕ)) (told : Told) (same : Type 0) (taken given : List ℕ) (answers : List Answer) (stop : Stop) (lines line fault : List ℕ) (P : List ℕ → Type 0) →
    IsScript (options_of words).sample told.left taken given → (h : IsSound words given told.holds) → HasScriptFault (settings_of (options_of words)) told same taken answers stop lines line fault P →
    ((script : List ℕ) → IsParsedAs script h.ds → P script → ⊥) → ⊥
refuses_none words told same taken given answers stop lines line fault P it h (script, is, p, _) never =
    let the : script ≡ given = same_script (options_of words).sample told.left taken script given it is in
    never script (subst (λ (x : List ℕ). IsParsedAs x h.ds) (sym the) h.are) p

spells_one : OneList → (script : List ℕ) (ls ms : List Lexeme) → IsTokenisedAs script ls → IsTokenisedAs script ms → ls ≡ ms
spells_one one script ls ms (ts, a, _) (us, b, _) = (one script ts us ls ms a b).lexemes

spent_not_memory : (f : StepFault) → IsBudgetFault f → f ≡ faults.Memory → ⊥
spent_not_memory (faults.Query start plan trace moved) h e = absurd cc
spent_not_memory (faults.Cells c) h e = absurd cc
spent_not_memory (faults.File f) h e = h
spent_not_memory (faults.Csv f) h e = h
spent_not_memory faults.Device h e = h
spent_not_memory faults.Memory h e = h

file_not_memory : (f : StepFault) → IsFileFault f → f ≡ faults.Memory → ⊥
file_not_memory (faults.Query start plan trace moved) h e = h
file_not_memory (faults.Cells c) h e = h
file_not_memory (faults.File f) h e = absurd cc
file_not_memory (faults.Csv f) h e = absurd cc
file_not_memory faults.Device h e = h
file_not_memory faults.Memory h e = h

-- the end of a run over a sound script
module _ (one : OneList) (text : TokensOrTextFault) (deep : ShallowOrDeep) (words : List (List ℕ)) (told : Told) (same sink : Type 0) (taken : List ℕ) (answers : List Answer) (stop : Stop)
    (written given : List ℕ) (it : IsScript (options_of words).sample told.left taken given) (h : IsSound words given told.holds)
    (source : Rose told.input_before told.input_now → ⊥) (quiet : Rose told.files_before told.files_now → ⊥) where
  ends : (s : Status) → RunsWords s words told same taken answers stop written → (s ≡ status.Output → ⊥) → (s ≡ status.Done) ⊎ (s ≡ status.Memory)
  ends status.Done runs whole = inl refl
  ends status.Memory runs whole = inr refl
  ends status.Usage runs whole = absurd (runs.0 h.reads)
  ends status.Output runs whole = absurd (whole refl)
  ends status.Text (_, (lines, line, (k, r), _)) whole =
      absurd (refuses_none words told same taken given answers stop lines line _ _ it h r (λ script are p. text k script are.1.0 are.0 are.1.1 p))
  ends status.Deep (_, (lines, line, (k, r), _)) whole =
      absurd (refuses_none words told same taken given answers stop lines line _ _ it h r (λ script are p. deep k script are.1.0 (are.0, (are.1.1, are.1.2)) p))
  ends status.Syntax (_, (lines, line, (n, r), _)) whole =
      absurd (refuses_none words told same taken given answers stop lines line _ _ it h r
      (λ script are p. either h.ds n p.0 (subst (λ (l : List Lexeme). ReadsScript h.ds l) (spells_one one script are.0 p.0 are.1 p.1) are.2) p.2))
  ends status.Type (_, (lines, line, (n, r), _)) whole =
      absurd (refuses_none words told same taken given answers stop lines line _ _ it h r
      (λ script are p. typed_or_not [] (positions h.ds) (prelude_count + n) h.typed
      (subst (λ (l : List Declaration). IsFirstUntyped [] (positions l) (prelude_count + n)) (sym (p.1.1 h.ds are)) p.3)))
  ends status.Large (_, (lines, line, (n, r), _)) whole =
      absurd (refuses_none words told same taken given answers stop lines line _ _ it h r
      (λ script are p. within_or_large h.ds n h.limits (subst (λ (l : List Declaration). IsFirstLarge l n) (sym (p.1.1 h.ds are)) p.3)))
  ends status.Long (_, (lines, line, (none, long, _), _)) whole =
      let few = short_script (options_of words).sample told.left taken given none it in absurd (omega (arith, long, few))
  ends status.Input (_, (lines, line, (none, few, rose, _), _)) whole = absurd (source rose)
  ends status.File (_, (lines, line, (f, of_file, run, stops, _, _), _)) whole =
      absurd (never_stops words told same (length answers + 1) taken lines given answers f it h quiet run stops (file_not_memory f of_file))
  ends status.Spent (_, (lines, line, (f, spent, run, stops, _, _), _)) whole =
      absurd (never_stops words told same (reach f (length answers)) taken lines given answers f it h quiet run stops (spent_not_memory f spent))
  ends status.Files (_, (lines, line, (run, stops, _, _), _)) whole =
      absurd (never_stops words told same (length answers + 1) taken lines given answers faults.Device it h quiet run stops (λ e. absurd cc))

pub ends_well : Tokenised → (s : Status) (words : List (List ℕ)) (told : Told) (same sink : Type 0) (taken : List ℕ) (answers : List Answer) (stop : Stop) (written : List ℕ) →
    (s ≡ status.Output → sink) → RunsWords s words told same taken answers stop written → EndsWell s words told sink taken
unfolding Tokenised
ends_well (one, text, deep) s words told same sink taken answers stop written output runs given it h source quiet whole =
    ends one text deep words told same sink taken answers stop written given it h source quiet s runs (λ is. whole (output is))
