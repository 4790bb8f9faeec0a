-- How the parts of a run make its outcome.
use Rattle.std.proofs.Common.{◌≡◌, ◌∙◌, ◌<◌, ◌+◌, ◌-◌, ◌⊎◌, inl, inr, ℕ, zero, suc, List, [], ◌∷◌, ◌++◌, refl, sym, ap, subst, length, take, drop, arith, append_assoc, append-nil}
use Rattle.std.specs.Prelude.{Option, Some, None, Bool, Result, Ok, Err, OnOk, IfOk, IfErr, IsErrOf, codes}
use Rattle.std.specs.Io.KnownBytes.{Appends, Consumes}
use Rattle.aql_outside.specs.Causes.{Rose}
use Rattle.aql_outside.specs.Contents.{Content}
use Rattle.aql_value.specs.Datum.{Datum}
use Rattle.aql_syntax.specs.Size.{AreWithinLimits}
use Rattle.aql_syntax.specs.Tree.{Declaration}
use Rattle.nrca_term.specs.Meaning.{Outcomes}
use Rattle.aql_options.specs.Words.{HasReading, options_of}
use Rattle.aql_options.specs.declared.words.Options.{Options}
use Rattle.aql_options.specs.declared.fault.WordFault.{WordFault}
use Rattle.aql_options.specs.declared.fault.WordFault.TheVariants as wording
use Rattle.aql_prelude.specs.Prelude.{prelude_count}
use Rattle.aql_script.specs.Laws.Position.{drop_prelude}
use Rattle.aql_script.specs.Script.{Prepares, ReadsAlone, AreTyped, positions}
use Rattle.aql_script.specs.declared.preparing.Prepared.{Prepared}
use Rattle.aql_script.specs.declared.fault.ScriptFault.{ScriptFault}
use Rattle.aql_script.specs.declared.fault.ScriptFault.TheVariants as refused
use Rattle.aql_session.specs.Device.{Device}
use Rattle.aql_session.specs.declared.answer.Answer.{Answer}
use Rattle.aql_session.specs.declared.answer.StepFault.{StepFault}
use Rattle.aql_session.specs.declared.answer.StepFault.TheVariants as faults
use Rattle.aql_options.specs.Settings.{Settings, settings_of}
use Rattle.aql_run.specs.Answered.{AreAnswered, IsStopped, ReadNoFile, reach}
use Rattle.aql_run.specs.Laws.Answered.{are_values}
use Rattle.aql_run.specs.Entry.{entry, entries}
use Rattle.aql_run.specs.Lines.{at_byte, in_declaration}
use Rattle.aql_run.specs.Sample.{sample_text}
use Rattle.aql_run.specs.Steps.{own, sorts_in, IsPrepared, AnswersAll, CutsLines, EndsAt}
use Rattle.aql_run.specs.declared.steps.Halt.{Halt}
use Rattle.aql_run.specs.declared.steps.Halt.TheVariants as halts
use Rattle.aql_run.specs.Codes.{code_of}
use Rattle.aql_run.specs.Laws.Codes.{status_is}
use Rattle.aql_run.specs.Complete.{EndsWell, Tokenised}
use Rattle.aql_run.specs.Devices.{Devices, told_by, told_of}
use Rattle.aql_run.specs.Reading.{most_bytes, ReadsWhole, ReadFails}
use Rattle.aql_run.specs.declared.reading.ReadFault.TheVariants as reading
use Rattle.aql_run.specs.Outcome.{Told, IsPrefix, IsCut, IsScript, HasRun, CutsLast, stop_of, Writes, WritesAll, Serves, RunsWords}
use Rattle.aql_run.proofs.Completing.{ends_well}
use Rattle.aql_run.specs.Ending.{Passes, Answering, AnswersEach, ReadsOptions, HasSample, EndsWith, IsReady, Readies, Refused, Reported, Responds, Running, Samples, Serving, Stopped, refusal_line, stop_status, stop_line}
use Rattle.aql_run.specs.declared.report.End.{End}
use Rattle.aql_run.specs.declared.report.Report.{Report}
use Rattle.aql_run.specs.declared.report.Stop.{Stop}
use Rattle.aql_run.specs.declared.report.Stop.TheVariants as stops
use Rattle.aql_run.specs.declared.status.Status.{Status}
use Rattle.aql_run.specs.declared.status.Status.TheVariants as status

-- ---- the script of positions that were prepared

-- the script's own declarations stand behind those of the prelude
prepared_is : (script : List ℕ) (p : Prepared) → Prepares script (Ok p) → IsPrepared p × ReadsAlone script (own p)
prepared_is script p (ds, reads, all, typed, limits) =
    let same : own p ≡ ds = ap (drop prelude_count) all ∙ drop_prelude ds in (
      record {
        all = all ∙ ap positions (sym same);
        typed = subst (λ (l : List Declaration). AreTyped l (sorts_in p)) (sym same) typed;
        limits = subst (λ (l : List Declaration). AreWithinLimits (positions l) (prelude_count + length l)) (sym same) limits;
      },
      subst (ReadsAlone script) (sym same) reads,
    )

pub readies : (script : List ℕ) (r : Result Prepared ScriptFault) → Prepares script r → Readies script r
unfolding Readies
readies script r h = h

pub ready_of : (script : List ℕ) (p : Prepared) → Readies script (Ok p) → IsReady p
unfolding Readies IsReady
ready_of script p h = let (is, _) = prepared_is script p h in is

pub is_prepared : (p : Prepared) → IsReady p → IsPrepared p
unfolding IsReady
is_prepared p h = h

pub answering : (p : Prepared) (o : Settings) (answers : List Answer) (sink : Device (Option (List ℕ))) (files : Device (Option Content)) (r : Result (Unit {0}) Halt) →
    OnOk r (AnswersAll p o answers sink files) → IfErr r (EndsAt p o answers sink files) → Answering p o answers sink files r
unfolding Answering
answering p o answers sink files r done early = (done, early)

-- ---- the lines of answers

-- the lines of the first answers are a front of those of all
entries_front : (plan : Bool) (answers : List Answer) (os : List (Option Datum)) (k : ℕ) → IsPrefix (entries plan (take k answers) os) (entries plan answers os)
entries_front plan answers os zero = (entries plan answers os, refl)
entries_front plan [] os (suc k) = ([], refl)
entries_front plan (a ∷ answers) [] (suc k) = ([], refl)
entries_front plan (a ∷ answers) (o ∷ os) (suc k) =
    let (rest, e) = entries_front plan answers os k in
    (rest, ap (λ l. entry plan a o ++ l) e ∙ sym (append_assoc (entry plan a o) (entries plan (take k answers) os) rest))

-- a run with these answers
has_run : (p : Prepared) (o : Settings) (told : Told) (same : Type 0) (begun : ℕ) (taken script : List ℕ) (answers : List Answer) (V : Outcomes) → IsPrepared p →
    ReadsAlone script (own p) → IsScript o.sample told.left taken script → AreAnswered (own p) (sorts_in p) o told.holds answers V →
    (ReadNoFile (own p) o.budget V begun → same) → HasRun o told same begun taken answers (entries o.plan answers (drop prelude_count V))
has_run p o told same begun taken script answers V h reads is answered untouched = record {
  script = script;
  ds = own p;
  sorts = sorts_in p;
  outcomes = V;
  is = is;
  reads = reads;
  typed = h.typed;
  limits = h.limits;
  answered = answered;
  script_values = are_values (own p) (sorts_in p) o told.holds answers V answered;
  printed = refl;
  untouched = untouched;
}

-- all the lines, and then a text of which nothing is a line
cuts_behind : (p : Prepared) (o : Settings) (told : Told) (same : Type 0) (begun : ℕ) (taken script : List ℕ) (answers : List Answer) (V : Outcomes) (more : List ℕ) → IsPrepared p →
    ReadsAlone script (own p) → IsScript o.sample told.left taken script → AreAnswered (own p) (sorts_in p) o told.holds answers V →
    (ReadNoFile (own p) o.budget V begun → same) → IsPrefix more [] → CutsLast o told same begun taken answers (entries o.plan answers (drop prelude_count V) ++ more)
unfolding has_run
cuts_behind p o told same begun taken script answers V more h reads is answered untouched (none, e) =
    let (last, f) = entries_front o.plan answers (drop prelude_count V) (length answers - 1) in
    record {
      lines = entries o.plan answers (drop prelude_count V);
      run = has_run p o told same begun taken script answers V h reads is answered untouched;
      front = (
        none,
        sym (append-nil (entries o.plan answers (drop prelude_count V))) ∙ (ap (λ l. entries o.plan answers (drop prelude_count V) ++ l) e
            ∙ sym (append_assoc (entries o.plan answers (drop prelude_count V)) more none)),
      );
      whole = (last ++ more, ap (λ l. l ++ more) f ∙ append_assoc (entries o.plan (take (length answers - 1) answers) (drop prelude_count V)) last more);
    }

-- a front of the lines
cuts : (p : Prepared) (o : Settings) (told : Told) (same : Type 0) (begun : ℕ) (taken script : List ℕ) (answers : List Answer) (written : List ℕ) → IsPrepared p → ReadsAlone script (own p) →
    IsScript o.sample told.left taken script → CutsLines p o told.holds same begun answers written → CutsLast o told same begun taken answers written
unfolding has_run
cuts p o told same begun taken script answers written h reads is c = record {
  lines = entries o.plan answers (drop prelude_count c.outcomes);
  run = has_run p o told same begun taken script answers c.outcomes h reads is c.answered c.untouched;
  front = (c.back, c.front);
  whole = (c.last, c.whole);
}

-- ---- the ends of the run of the declarations

ends_done : (p : Prepared) (o : Settings) (answers : List Answer) (sink : Device (Option (List ℕ))) (files : Device (Option Content)) → IsPrepared p →
    AnswersAll p o answers sink files → AnswersEach p o answers sink files (record { status = status.Done; stop = stops.Done })
unfolding AnswersEach Responds has_run
ends_done p o answers sink files h all =
    λ script reads. (
      entries o.plan answers (drop prelude_count all.outcomes),
      all.written,
      λ input_before input_now left taken is. (
        entries o.plan answers (drop prelude_count all.outcomes),
        [],
        (
          has_run p o (told_of input_before input_now left files) files.same (length answers) taken script answers all.outcomes h reads is all.answered all.untouched,
          all.all,
          refl,
          refl,
        ),
        sym (append-nil (entries o.plan answers (drop prelude_count all.outcomes))),
      ),
    )

ends_memory : (p : Prepared) (o : Settings) (answers : List Answer) (sink : Device (Option (List ℕ))) (files : Device (Option Content)) → IsPrepared p →
    EndsAt p o answers sink files halts.Memory → AnswersEach p o answers sink files (record { status = status.Memory; stop = stops.Other })
unfolding AnswersEach Responds
ends_memory p o answers sink files h (written, appended, inl none) = λ script reads. (written, appended, λ input_before input_now left taken is. (refl, inl none))
ends_memory p o answers sink files h (written, appended, inr c) =
    λ script reads. (
      written,
      appended,
      λ input_before input_now left taken is.
          (refl, inr (cuts p o (told_of input_before input_now left files) files.same (length answers + 1) taken script answers written h reads is c)),
    )

ends_sink : (p : Prepared) (o : Settings) (answers : List Answer) (sink : Device (Option (List ℕ))) (files : Device (Option Content)) → IsPrepared p →
    EndsAt p o answers sink files halts.Sink → AnswersEach p o answers sink files (record { status = status.Output; stop = stops.Other })
unfolding AnswersEach Responds cuts
ends_sink p o answers sink files h (written, appended, (c, some)) =
    λ script reads. (
      written,
      appended,
      λ input_before input_now left taken is.
          (refl, inl (cuts p o (told_of input_before input_now left files) files.same (length answers) taken script answers written h reads is c, some)),
    )

-- ---- the fault of a declaration

-- what is written for it, or for want of memory nothing
abbrev FaultWrites : StepFault → Settings → Told → (same : Type 0) → (taken : List ℕ) → List Answer → (lines line : List ℕ) → Type 0
FaultWrites f o told same taken answers lines line =
    Writes (stop_status f) o told same taken answers (stop_of f) lines line
    ⊎ ((stop_status f ≡ status.Memory) × (stop_of f ≡ stops.Other) × CutsLast o told same (length answers + 1) taken answers (lines ++ line))

fault_writes : (p : Prepared) (o : Settings) (told : Told) (same : Type 0) (taken script : List ℕ) (answers : List Answer) (V : Outcomes) (f : StepFault) → IsPrepared p →
    ReadsAlone script (own p) → IsScript o.sample told.left taken script → AreAnswered (own p) (sorts_in p) o told.holds answers V →
    IsStopped (own p) o told.holds told.files_before told.files_now (length answers) V f → (ReadNoFile (own p) o.budget V (reach f (length answers)) → same) →
    FaultWrites f o told same taken answers (entries o.plan answers (drop prelude_count V)) (stop_line (length answers + 1) f)
unfolding has_run
fault_writes p o told same taken script answers V (faults.Query start plan trace moved) h reads is answered stopped untouched =
    inl (faults.Query start plan trace moved, tt, has_run p o told same (length answers) taken script answers V h reads is answered untouched, stopped, refl, refl)
fault_writes p o told same taken script answers V (faults.Cells cells) h reads is answered stopped untouched =
    inl (faults.Cells cells, tt, has_run p o told same (length answers + 1) taken script answers V h reads is answered untouched, stopped, refl, refl)
fault_writes p o told same taken script answers V (faults.File f) h reads is answered stopped untouched =
    inl (faults.File f, tt, has_run p o told same (length answers + 1) taken script answers V h reads is answered untouched, stopped, refl, refl)
fault_writes p o told same taken script answers V (faults.Csv f) h reads is answered stopped untouched =
    inl (faults.Csv f, tt, has_run p o told same (length answers + 1) taken script answers V h reads is answered untouched, stopped, refl, refl)
fault_writes p o told same taken script answers V faults.Device h reads is answered stopped untouched =
    inl (has_run p o told same (length answers + 1) taken script answers V h reads is answered untouched, stopped, refl, refl)
fault_writes p o told same taken script answers V faults.Memory h reads is answered stopped untouched =
    inr (refl, refl, cuts_behind p o told same (length answers + 1) taken script answers V [] h reads is answered untouched ([], refl))

-- the statuses of faults serve what they write
fault_serves : (f : StepFault) (o : Settings) (told : Told) (same : Type 0) (taken : List ℕ) (answers : List Answer) (lines line : List ℕ) → FaultWrites f o told same taken answers lines line →
    Serves (stop_status f) o told same taken answers (stop_of f) (lines ++ line)
fault_serves (faults.Query start plan trace moved) o told same taken answers lines line (inl w) = (lines, line, w, refl)
fault_serves (faults.Query start plan trace moved) o told same taken answers lines line (inr (e, _, _)) = absurd cc
fault_serves (faults.Cells cells) o told same taken answers lines line (inl w) = (lines, line, w, refl)
fault_serves (faults.Cells cells) o told same taken answers lines line (inr (e, _, _)) = absurd cc
fault_serves (faults.File f) o told same taken answers lines line (inl w) = (lines, line, w, refl)
fault_serves (faults.File f) o told same taken answers lines line (inr (e, _, _)) = absurd cc
fault_serves (faults.Csv f) o told same taken answers lines line (inl w) = (lines, line, w, refl)
fault_serves (faults.Csv f) o told same taken answers lines line (inr (e, _, _)) = absurd cc
fault_serves faults.Device o told same taken answers lines line (inl w) = (lines, line, w, refl)
fault_serves faults.Device o told same taken answers lines line (inr (e, _, _)) = absurd cc
fault_serves faults.Memory o told same taken answers lines line (inl w) = absurd w
fault_serves faults.Memory o told same taken answers lines line (inr (_, _, c)) = (refl, inr c)

-- want of memory has no line
no_line : (f : StepFault) (n : ℕ) → stop_status f ≡ status.Memory → stop_line n f ≡ []
no_line (faults.Query start plan trace moved) n m = absurd cc
no_line (faults.Cells cells) n m = absurd cc
no_line (faults.File f) n m = absurd cc
no_line (faults.Csv f) n m = absurd cc
no_line faults.Device n m = absurd cc
no_line faults.Memory n m = refl

-- nothing is cut from no line
none_cut : (front : List ℕ) → IsCut front [] → ⊥
none_cut [] (rest, some, e) = some (sym e)
none_cut (x ∷ front) (rest, some, e) = cc

-- the sink failed behind a front of what is written for it
fault_cut : (f : StepFault) (p : Prepared) (o : Settings) (told : Told) (same : Type 0) (taken script : List ℕ) (answers : List Answer) (V : Outcomes) (front : List ℕ) → IsPrepared p →
    ReadsAlone script (own p) → IsScript o.sample told.left taken script → AreAnswered (own p) (sorts_in p) o told.holds answers V →
    IsStopped (own p) o told.holds told.files_before told.files_now (length answers) V f → (ReadNoFile (own p) o.budget V (reach f (length answers)) → same) →
    IsCut front (stop_line (length answers + 1) f) → Serves status.Output o told same taken answers stops.Other (entries o.plan answers (drop prelude_count V) ++ front)
fault_cut f p o told same taken script answers V front h reads is answered stopped untouched split =
    by (fault_writes p o told same taken script answers V f h reads is answered stopped untouched)
  where
    lines : List ℕ
    lines = entries o.plan answers (drop prelude_count V)

    by : FaultWrites f o told same taken answers lines (stop_line (length answers + 1) f) → Serves status.Output o told same taken answers stops.Other (lines ++ front)
    by (inl w) = (refl, inr (stop_status f, stop_of f, lines, stop_line (length answers + 1) f, front, w, split, refl))
    by (inr (m, _, _)) = absurd (none_cut front (subst (IsCut front) (no_line f (length answers + 1) m) split))

-- what was given to the sink by one call and by another is what was given to it by both
abbrev Joins : (first second both : Device (Option (List ℕ))) → Type 0
Joins first second both =
    (a b : List ℕ) → Appends first.before first.after a → Appends second.before second.after b → Appends both.before both.after (a ++ b)

ends_fault : (p : Prepared) (o : Settings) (answers : List Answer) (f : StepFault) (n : ℕ) (first second sink : Device (Option (List ℕ))) (files : Device (Option Content)) (e : End) →
    Joins first second sink → IsPrepared p → EndsAt p o answers first files (halts.Fault f) → n ≡ length answers + 1 → Stopped n f second e → AnswersEach p o answers sink files e
unfolding AnswersEach Responds Stopped
ends_fault p o answers f n first second sink files e joins h (V, answered, stopped, appended, untouched) is (line, more, ends) =
    λ script reads. (
      entries o.plan answers (drop prelude_count V) ++ line,
      joins (entries o.plan answers (drop prelude_count V)) line appended more,
      λ input_before input_now left taken of_script. by script reads input_before input_now left taken of_script ends,
    )
  where
    at : stop_line n f ≡ stop_line (length answers + 1) f
    at = ap (λ k. stop_line k f) is

    all_reached : (f : StepFault) → ReadNoFile (own p) o.budget V (length answers + 1) → ReadNoFile (own p) o.budget V (reach f (length answers))
    all_reached (faults.Query start plan trace moved) h = λ i d lt. h i d (omega (arith, lt))
    all_reached (faults.Cells c) h = h
    all_reached (faults.File g) h = h
    all_reached (faults.Csv g) h = h
    all_reached faults.Device h = h
    all_reached faults.Memory h = h

    by : (script : List ℕ) → ReadsAlone script (own p) → (input_before input_now : ℕ) (left : Option (List ℕ)) (taken : List ℕ) → IsScript o.sample left taken script →
        (((e.status ≡ stop_status f) × (e.stop ≡ stop_of f) × (line ≡ stop_line n f))
        ⊎ (((e.status ≡ status.Output) × (e.stop ≡ stops.Other) × IsCut line (stop_line n f))
        ⊎ ((e.status ≡ status.Memory) × (e.stop ≡ stops.Other) × (line ≡ [])))) →
        Serves e.status o (told_of input_before input_now left files) files.same taken answers e.stop (entries o.plan answers (drop prelude_count V) ++ line)
    by script reads input_before input_now left taken of_script (inl (s, k, l)) =
        let told : Told = told_of input_before input_now left files in
        subst (λ (x : Status). Serves x o told files.same taken answers e.stop (entries o.plan answers (drop prelude_count V) ++ line)) (sym s)
        (subst (λ (x : Stop). Serves (stop_status f) o told files.same taken answers x (entries o.plan answers (drop prelude_count V) ++ line)) (sym k)
        (subst (λ (w : List ℕ). Serves (stop_status f) o told files.same taken answers (stop_of f) (entries o.plan answers (drop prelude_count V) ++ w)) (sym (l ∙ at))
        (fault_serves f o told files.same taken answers (entries o.plan answers (drop prelude_count V)) (stop_line (length answers + 1) f)
        (fault_writes p o told files.same taken script answers V f h reads of_script answered stopped untouched))))
    by script reads input_before input_now left taken of_script (inr (inl (s, k, split))) =
        let told : Told = told_of input_before input_now left files in
        subst (λ (x : Status). Serves x o told files.same taken answers e.stop (entries o.plan answers (drop prelude_count V) ++ line)) (sym s)
        (subst (λ (x : Stop). Serves status.Output o told files.same taken answers x (entries o.plan answers (drop prelude_count V) ++ line)) (sym k)
        (fault_cut f p o told files.same taken script answers V line h reads of_script answered stopped untouched (subst (IsCut line) at split)))
    by script reads input_before input_now left taken of_script (inr (inr (s, k, none))) =
        let told : Told = told_of input_before input_now left files in
        subst (λ (x : Status). Serves x o told files.same taken answers e.stop (entries o.plan answers (drop prelude_count V) ++ line)) (sym s)
        (subst (λ (x : Stop). Serves status.Memory o told files.same taken answers x (entries o.plan answers (drop prelude_count V) ++ line)) (sym k) (
          refl,
          inr (cuts_behind p o told files.same (length answers + 1) taken script answers V line h reads of_script answered
              (λ reads. untouched (all_reached f reads)) ([], sym (append-nil line ∙ none))),
        ))

-- ---- the same of what the call answered

pub answers_done : (p : Prepared) (o : Settings) (answers : List Answer) (sink : Device (Option (List ℕ))) (files : Device (Option Content)) (u : Unit {0}) → IsReady p →
    Answering p o answers sink files (Ok u) → AnswersEach p o answers sink files (record { status = status.Done; stop = stops.Done })
unfolding IsReady Answering
answers_done p o answers sink files u h (all, _) = ends_done p o answers sink files h all

pub answers_memory : (p : Prepared) (o : Settings) (answers : List Answer) (sink : Device (Option (List ℕ))) (files : Device (Option Content)) (halt : Halt) → halt ≡ halts.Memory →
    IsReady p → Answering p o answers sink files (Err halt) → AnswersEach p o answers sink files (record { status = status.Memory; stop = stops.Other })
unfolding IsReady Answering
answers_memory p o answers sink files halt is h (_, early) = ends_memory p o answers sink files h (subst (EndsAt p o answers sink files) is early)

pub answers_sink : (p : Prepared) (o : Settings) (answers : List Answer) (sink : Device (Option (List ℕ))) (files : Device (Option Content)) (halt : Halt) → halt ≡ halts.Sink →
    IsReady p → Answering p o answers sink files (Err halt) → AnswersEach p o answers sink files (record { status = status.Output; stop = stops.Other })
unfolding IsReady Answering
answers_sink p o answers sink files halt is h (_, early) = ends_sink p o answers sink files h (subst (EndsAt p o answers sink files) is early)

pub answers_fault : (p : Prepared) (o : Settings) (answers : List Answer) (f : StepFault) (n : ℕ) (first second sink : Device (Option (List ℕ))) (files : Device (Option Content)) (e : End)
    (halt : Halt) → Joins first second sink → halt ≡ halts.Fault f → IsReady p → Answering p o answers first files (Err halt) → n ≡ length answers + 1 → Stopped n f second e →
    AnswersEach p o answers sink files e
unfolding IsReady Answering
answers_fault p o answers f n first second sink files e halt joins is h (_, early) at stopped =
    ends_fault p o answers f n first second sink files e joins h (subst (EndsAt p o answers first files) is early) at stopped

-- the line of a fault was written as far as that went, and the fault is kept where it was written whole
pub stopped_as : (n : ℕ) (f : StepFault) (sink : Device (Option (List ℕ))) (line : List ℕ) (wanted s : Status) (e : End) → stop_status f ≡ wanted → stop_line n f ≡ line →
    (wanted ≡ status.Output → ⊥) → (wanted ≡ status.Memory → ⊥) → EndsWith sink line wanted s → e.status ≡ s → (s ≡ wanted → e.stop ≡ stop_of f) →
    ((s ≡ wanted → ⊥) → e.stop ≡ stops.Other) → Stopped n f sink e
unfolding Stopped
stopped_as n f sink line wanted s e st ln no_output no_memory (written, appended, inl (is, all)) same kept other =
    (written, appended, inl (same ∙ (is ∙ sym st), kept is, all ∙ sym ln))
stopped_as n f sink line wanted s e st ln no_output no_memory (written, appended, inr (inl (is, split))) same kept other =
    (written, appended, inr (inl (same ∙ is, other (λ x. no_output (sym x ∙ is)), subst (IsCut written) (sym ln) split)))
stopped_as n f sink line wanted s e st ln no_output no_memory (written, appended, inr (inr (is, nothing))) same kept other =
    (written, appended, inr (inr (same ∙ is, other (λ x. no_memory (sym x ∙ is)), nothing)))

-- ---- the fault of a script, and of the source

-- one line was written, or a front of it, or there was no memory for it
served : (o : Settings) (told : Told) (same : Type 0) (taken : List ℕ) (answers : List Answer) (line : List ℕ) (wanted s : Status) (written : List ℕ) → answers ≡ [] → same →
    Writes wanted o told same taken answers stops.Other [] line →
    ((w : List ℕ) → WritesAll wanted o told same taken answers stops.Other w → Serves wanted o told same taken answers stops.Other w) →
    (((s ≡ wanted) × (written ≡ line)) ⊎ (((s ≡ status.Output) × IsCut written line) ⊎ ((s ≡ status.Memory) × (written ≡ [])))) →
    Serves s o told same taken answers stops.Other written
served o told same taken answers line wanted s written none there w serves (inl (e, all)) =
    subst (λ (x : Status). Serves x o told same taken answers stops.Other written) (sym e)
    (subst (λ (l : List ℕ). Serves wanted o told same taken answers stops.Other l) (sym all) (serves line ([], line, w, refl)))
served o told same taken answers line wanted s written none there w serves (inr (inl (e, front))) =
    subst (λ (x : Status). Serves x o told same taken answers stops.Other written) (sym e) (refl, inr (wanted, stops.Other, [], line, written, w, front, refl))
served o told same taken answers line wanted s written none there w serves (inr (inr (e, nothing))) =
    subst (λ (x : Status). Serves x o told same taken answers stops.Other written) (sym e) (refl, inl (none, nothing, there))

-- the line of each fault of a script
pub refused_text : (f : ScriptFault) (k : ℕ) (sink : Device (Option (List ℕ))) (s : Status) → f ≡ refused.Text k → EndsWith sink (at_byte (codes "text") k) status.Text s → Refused f sink s
unfolding Refused
refused_text f k sink s is h = subst (λ (x : ScriptFault). Refused x sink s) (sym is) h

pub refused_deep : (f : ScriptFault) (k : ℕ) (sink : Device (Option (List ℕ))) (s : Status) → f ≡ refused.Deep k → EndsWith sink (at_byte (codes "deep") k) status.Deep s → Refused f sink s
unfolding Refused
refused_deep f k sink s is h = subst (λ (x : ScriptFault). Refused x sink s) (sym is) h

pub refused_syntax : (f : ScriptFault) (n : ℕ) (sink : Device (Option (List ℕ))) (s : Status) → f ≡ refused.Syntax n → EndsWith sink (in_declaration (codes "syntax") n) status.Syntax s → Refused f sink s
unfolding Refused
refused_syntax f n sink s is h = subst (λ (x : ScriptFault). Refused x sink s) (sym is) h

pub refused_type : (f : ScriptFault) (n : ℕ) (sink : Device (Option (List ℕ))) (s : Status) → f ≡ refused.Type n → EndsWith sink (in_declaration (codes "type") n) status.Type s → Refused f sink s
unfolding Refused
refused_type f n sink s is h = subst (λ (x : ScriptFault). Refused x sink s) (sym is) h

pub refused_large : (f : ScriptFault) (n : ℕ) (sink : Device (Option (List ℕ))) (s : Status) → f ≡ refused.Large n → EndsWith sink (in_declaration (codes "large") n) status.Large s → Refused f sink s
unfolding Refused
refused_large f n sink s is h = subst (λ (x : ScriptFault). Refused x sink s) (sym is) h

pub refused_memory : (f : ScriptFault) (sink : Device (Option (List ℕ))) → f ≡ refused.Memory → Appends sink.before sink.after [] → Refused f sink status.Memory
unfolding Refused
refused_memory f sink is nothing = subst (λ (x : ScriptFault). Refused x sink status.Memory) (sym is) (refl, nothing)

-- the line of each fault of a declaration
pub stopped_memory : (n : ℕ) (sink : Device (Option (List ℕ))) → Appends sink.before sink.after [] → Stopped n faults.Memory sink (record { status = status.Memory; stop = stops.Other })
unfolding Stopped
stopped_memory n sink nothing = ([], nothing, inl (refl, refl, refl))

-- of a script with a fault
refuses_with : (script : List ℕ) (o : Settings) (answers : List Answer) (sink : Device (Option (List ℕ))) (files : Device (Option Content)) (line : List ℕ) (wanted s : Status) →
    answers ≡ [] → files.same → ((told : Told) (taken : List ℕ) → IsScript o.sample told.left taken script → Writes wanted o told files.same taken answers stops.Other [] line) →
    ((told : Told) (taken w : List ℕ) → WritesAll wanted o told files.same taken answers stops.Other w → Serves wanted o told files.same taken answers stops.Other w) →
    EndsWith sink line wanted s → Responds script o answers sink files (record { status = s; stop = stops.Other })
unfolding Responds
refuses_with script o answers sink files line wanted s none there writes serves (written, appended, ends) = (
  written,
  appended,
  λ input_before input_now left taken is. served o (told_of input_before input_now left files) files.same taken answers line wanted s written none there
      (writes (told_of input_before input_now left files) taken is) (serves (told_of input_before input_now left files) taken) ends,
)

ends_refused : (script : List ℕ) (o : Settings) (f : ScriptFault) (answers : List Answer) (sink : Device (Option (List ℕ))) (files : Device (Option Content)) (s : Status) →
    answers ≡ [] → files.same → Prepares script (Err f) → Refused f sink s → Responds script o answers sink files (record { status = s; stop = stops.Other })
unfolding Responds Refused
ends_refused script o (refused.Text k) answers sink files s none there h ends =
    refuses_with script o answers sink files (refusal_line (refused.Text k)) status.Text s none there
    (λ told taken is. (k, (script, is, h, (none, refl, refl, refl, there)))) (λ told taken w x. x) ends
ends_refused script o (refused.Deep k) answers sink files s none there h ends =
    refuses_with script o answers sink files (refusal_line (refused.Deep k)) status.Deep s none there
    (λ told taken is. (k, (script, is, h, (none, refl, refl, refl, there)))) (λ told taken w x. x) ends
ends_refused script o (refused.Syntax n) answers sink files s none there h ends =
    refuses_with script o answers sink files (refusal_line (refused.Syntax n)) status.Syntax s none there
    (λ told taken is. (n, (script, is, h, (none, refl, refl, refl, there)))) (λ told taken w x. x) ends
ends_refused script o (refused.Type n) answers sink files s none there h ends =
    refuses_with script o answers sink files (refusal_line (refused.Type n)) status.Type s none there
    (λ told taken is. (n, (script, is, h, (none, refl, refl, refl, there)))) (λ told taken w x. x) ends
ends_refused script o (refused.Large n) answers sink files s none there h ends =
    refuses_with script o answers sink files (refusal_line (refused.Large n)) status.Large s none there
    (λ told taken is. (n, (script, is, h, (none, refl, refl, refl, there)))) (λ told taken w x. x) ends
ends_refused script o refused.Memory answers sink files s none there h (e, nothing) = (
  [],
  nothing,
  λ input_before input_now left taken is.
      subst (λ (x : Status). Serves x o (told_of input_before input_now left files) files.same taken answers stops.Other []) (sym e) (refl, inl (none, refl, there)),
)

-- a script that was read
pub responds : (script : List ℕ) (p : Prepared) (o : Settings) (answers : List Answer) (sink : Device (Option (List ℕ))) (files : Device (Option Content)) (e : End) →
    Readies script (Ok p) → AnswersEach p o answers sink files e → Responds script o answers sink files e
unfolding Readies AnswersEach
responds script p o answers sink files e h answered = let (_, reads) = prepared_is script p h in answered script reads

-- a script that was refused
pub responds_refused : (script : List ℕ) (f : ScriptFault) (o : Settings) (answers : List Answer) (sink : Device (Option (List ℕ))) (files : Device (Option Content)) (s : Status) →
    answers ≡ [] → files.same → Readies script (Err f) → Refused f sink s → Responds script o answers sink files (record { status = s; stop = stops.Other })
unfolding Readies
responds_refused script f o answers sink files s none there h ends = ends_refused script o f answers sink files s none there h ends

-- of the source
pub ends_long : (o : Settings) (answers : List Answer) (d : Devices) (s : Status) →
    o.sample ≡ None → answers ≡ [] → d.files.same → ReadFails d.source.before d.source.after reading.Long → EndsWith d.sink (codes "fault long\n") status.Long s →
    Serving o answers d (record { status = s; stop = stops.Other })
unfolding Serving
ends_long o answers d s sample none there (taken, consumed, long) (written, appended, ends) =
    let more : most_bytes < length taken = omega (arith, long) in (
      taken,
      written,
      consumed,
      appended,
      omega (arith, long),
      served o (told_by d) d.files.same taken answers (codes "fault long\n") status.Long s written none there
          (sample, more, (none, refl, refl, refl, there)) (λ w x. x) ends,
    )

pub ends_input : (o : Settings) (answers : List Answer) (d : Devices) (s : Status) →
    o.sample ≡ None → answers ≡ [] → d.files.same → ReadFails d.source.before d.source.after reading.Failed → Rose d.source.faults_before d.source.faults_after →
    EndsWith d.sink (codes "fault input\n") status.Input s → Serving o answers d (record { status = s; stop = stops.Other })
unfolding Serving
ends_input o answers d s sample none there (taken, consumed, short) rose (written, appended, ends) = (
  taken,
  written,
  consumed,
  appended,
  omega (arith, short),
  served o (told_by d) d.files.same taken answers (codes "fault input\n") status.Input s written none there
      (sample, short, rose, (none, refl, refl, refl, there)) (λ w x. x) ends,
)

pub ends_unread : (o : Settings) (answers : List Answer) (d : Devices) → answers ≡ [] → d.files.same → Appends d.sink.before d.sink.after [] →
    ReadFails d.source.before d.source.after reading.Memory → Serving o answers d (record { status = status.Memory; stop = stops.Other })
unfolding Serving
ends_unread o answers d none there nothing (taken, consumed, few) = (taken, [], consumed, nothing, few, (refl, inl (none, refl, there)))

-- ---- a script of the source, and the built-in one

pub ends_read : (o : Settings) (script : List ℕ) (answers : List Answer) (d : Devices) (e : End) →
    o.sample ≡ None → ReadsWhole d.source.before d.source.after script → (text : List ℕ) → text ≡ script → Responds text o answers d.sink d.files e → Serving o answers d e
unfolding Serving Responds
ends_read o script answers d e sample (consumed, atend, few) text is (written, appended, serves) = (
  script,
  written,
  consumed,
  appended,
  omega (arith, few),
  serves d.source.faults_before d.source.faults_after d.source.after script
      (subst (λ (x : Option ℕ). IsScript x d.source.after script text) (sym sample) (is, (few, atend))),
)

pub samples : (n : ℕ) (script : List ℕ) (o : Settings) (answers : List Answer) (sink : Device (Option (List ℕ))) (files : Device (Option Content)) (e : End) → script ≡ sample_text n →
    Responds script o answers sink files e → Samples n o answers sink files e
unfolding Samples
samples n script o answers sink files e is h = subst (λ (x : List ℕ). Responds x o answers sink files e) is h

pub ends_unmade : (n : ℕ) (o : Settings) (answers : List Answer) (sink : Device (Option (List ℕ))) (files : Device (Option Content)) → answers ≡ [] → files.same →
    Appends sink.before sink.after [] → Samples n o answers sink files (record { status = status.Memory; stop = stops.Other })
unfolding Samples Responds
ends_unmade n o answers sink files none there nothing = ([], nothing, λ input_before input_now left taken is. (refl, inl (none, refl, there)))

pub ends_sample : (o : Settings) (n : ℕ) (answers : List Answer) (d : Devices) (e : End) → o.sample ≡ Some n → Consumes d.source.before d.source.after [] →
    Samples n o answers d.sink d.files e → Serving o answers d e
unfolding Serving Samples Responds
ends_sample o n answers d e sample none (written, appended, serves) = (
  [],
  written,
  none,
  appended,
  omega arith,
  serves d.source.faults_before d.source.faults_after d.source.after []
      (subst (λ (x : Option ℕ). IsScript x d.source.after [] (sample_text n)) (sym sample) (refl, refl)),
)

-- ---- the words

runs : (s : Status) (words : List (List ℕ)) (o : Settings) (told : Told) (same : Type 0) (taken : List ℕ) (answers : List Answer) (stop : Stop) (written : List ℕ) → HasReading words → o ≡ settings_of (options_of words) →
    Serves s o told same taken answers stop written → RunsWords s words told same taken answers stop written
runs status.Usage words o told same taken answers stop written reads is h = absurd h
runs status.Memory words o told same taken answers stop written reads is h = inr (reads, subst (λ (x : Settings). Serves status.Memory x told same taken answers stop written) is h)
runs status.Done words o told same taken answers stop written reads is h = (reads, subst (λ (x : Settings). Serves status.Done x told same taken answers stop written) is h)
runs status.Text words o told same taken answers stop written reads is h = (reads, subst (λ (x : Settings). Serves status.Text x told same taken answers stop written) is h)
runs status.Syntax words o told same taken answers stop written reads is h = (reads, subst (λ (x : Settings). Serves status.Syntax x told same taken answers stop written) is h)
runs status.Type words o told same taken answers stop written reads is h = (reads, subst (λ (x : Settings). Serves status.Type x told same taken answers stop written) is h)
runs status.Deep words o told same taken answers stop written reads is h = (reads, subst (λ (x : Settings). Serves status.Deep x told same taken answers stop written) is h)
runs status.Large words o told same taken answers stop written reads is h = (reads, subst (λ (x : Settings). Serves status.Large x told same taken answers stop written) is h)
runs status.Long words o told same taken answers stop written reads is h = (reads, subst (λ (x : Settings). Serves status.Long x told same taken answers stop written) is h)
runs status.File words o told same taken answers stop written reads is h = (reads, subst (λ (x : Settings). Serves status.File x told same taken answers stop written) is h)
runs status.Input words o told same taken answers stop written reads is h = (reads, subst (λ (x : Settings). Serves status.Input x told same taken answers stop written) is h)
runs status.Output words o told same taken answers stop written reads is h = (reads, subst (λ (x : Settings). Serves status.Output x told same taken answers stop written) is h)
runs status.Spent words o told same taken answers stop written reads is h = (reads, subst (λ (x : Settings). Serves status.Spent x told same taken answers stop written) is h)
runs status.Files words o told same taken answers stop written reads is h = (reads, subst (λ (x : Settings). Serves status.Files x told same taken answers stop written) is h)

words_run : (words : List (List ℕ)) (o : Settings) (answers : List Answer) (d : Devices) (e : End) → HasReading words → o ≡ settings_of (options_of words) →
    Serving o answers d e → Running words answers d e
unfolding Serving Running
words_run words o answers d e reads is (taken, written, consumed, appended, few, h) =
    (taken, written, consumed, appended, few, runs e.status words o (told_by d) d.files.same taken answers e.stop written reads is h)

-- nothing was taken and nothing given
abbrev IsUntouched : Devices → Type 0
IsUntouched d = Consumes d.source.before d.source.after [] × Appends d.sink.before d.sink.after [] × d.files.same

no_words : (words : List (List ℕ)) (answers : List Answer) (d : Devices) → answers ≡ [] → IsUntouched d → (HasReading words → ⊥) →
    Running words answers d (record { status = status.Usage; stop = stops.Other })
unfolding Running
no_words words answers d none (unread, unwritten, there) no_reading =
    ([], [], unread, unwritten, omega arith, (no_reading, (refl, none, refl, refl, there)))

pub no_memory : (words : List (List ℕ)) (answers : List Answer) (d : Devices) → answers ≡ [] → IsUntouched d →
    Running words answers d (record { status = status.Memory; stop = stops.Other })
unfolding Running
no_memory words answers d none (unread, unwritten, there) = ([], [], unread, unwritten, omega arith, inl (refl, none, refl, refl, there))

pub asked : (words : List (List ℕ)) (r : Result Options WordFault) → IfOk r (λ o. HasReading words × (o ≡ options_of words)) → (IsErrOf r wording.Usage → HasReading words → ⊥) → ReadsOptions words r
unfolding ReadsOptions
asked words r read usage = (read, usage)

pub asks_sample : (words : List (List ℕ)) (o : Options) (n : ℕ) → ReadsOptions words (Ok o) → HasSample words n → o.sample ≡ Some n
unfolding ReadsOptions HasSample
asks_sample words o n ((reads, is), _) a = ap (λ (x : Options). x.sample) is ∙ a

pub options_run : (words : List (List ℕ)) (o : Options) (answers : List Answer) (d : Devices) (e : End) → ReadsOptions words (Ok o) → Serving (settings_of o) answers d e → Running words answers d e
unfolding ReadsOptions
options_run words o answers d e ((reads, is), _) h = words_run words (settings_of o) answers d e reads (ap settings_of is) h

pub words_refused : (words : List (List ℕ)) (f : WordFault) (answers : List Answer) (d : Devices) → f ≡ wording.Usage → answers ≡ [] → IsUntouched d → ReadsOptions words (Err f) →
    Running words answers d (record { status = status.Usage; stop = stops.Other })
unfolding ReadsOptions
words_refused words f answers d is none untouched (_, usage) = no_words words answers d none untouched (usage (ap Err is))

-- a run whose words have a reading does not end with that fault
pub never_usage : (o : Settings) (answers : List Answer) (d : Devices) (e : End) → Serving o answers d e → e.status ≡ status.Usage → ⊥
unfolding Serving
never_usage o answers d e (taken, written, consumed, appended, few, h) is =
    subst (λ (s : Status). Serves s o (told_by d) d.files.same taken answers e.stop written) is h

-- ---- the report

pub reports : (words : List (List ℕ)) (d : Devices) (e : End) (r : Report) → r.status ≡ code_of e.status → r.stop ≡ e.stop → Running words r.answers.items.items d e → Reported words d r
unfolding Running Reported
reports words d e r is same (taken, written, consumed, appended, few, h) = (
  e.status,
  is,
  (
    taken,
    written,
    consumed,
    appended,
    few,
    subst (λ (x : Stop). RunsWords e.status words (told_by d) d.files.same taken r.answers.items.items x written) (sym same) h,
  ),
)

pub reported_sample : (words : List (List ℕ)) (n : ℕ) → (options_of words).sample ≡ Some n → HasSample words n
unfolding HasSample
reported_sample words n is = is

pub reported_serves : (words : List (List ℕ)) (sink : Type 0) (d : Devices) (r : Report) → Tokenised → (r.status ≡ 11 → sink) → Reported words d r →
    (s : Status) × (r.status ≡ code_of s)
    × Passes d.source d.sink (λ taken written. RunsWords s words (told_by d) d.files.same taken r.answers.items.items r.stop written × EndsWell s words (told_by d) sink taken)
unfolding Reported
reported_serves words sink d r lexed output (s, code, (taken, written, consumed, appended, few, h)) = (
  s,
  code,
  (
    taken,
    written,
    consumed,
    appended,
    few,
    (h, ends_well lexed s words (told_by d) d.files.same sink taken r.answers.items.items r.stop written (λ is. output (code ∙ ap code_of is)) h),
  ),
)

pub reported_input : (words : List (List ℕ)) (d : Devices) (r : Report) → Reported words d r → r.status ≡ 10 → Rose d.source.faults_before d.source.faults_after
unfolding Reported
reported_input words d r (s, code, (taken, written, consumed, appended, few, h)) is =
    let (reads, (lines, line, (none, short, rose, _), _)) =
    subst (λ (x : Status). RunsWords x words (told_by d) d.files.same taken r.answers.items.items r.stop written) (status_is s status.Input r.status code is) h in rose

pub reported_files : (words : List (List ℕ)) (d : Devices) (r : Report) → Reported words d r → r.status ≡ 13 → Rose d.files.faults_before d.files.faults_after
unfolding Reported
reported_files words d r (s, code, (taken, written, consumed, appended, few, h)) is =
    let (reads, (lines, line, (run, stops, _, _), _)) =
    subst (λ (x : Status). RunsWords x words (told_by d) d.files.same taken r.answers.items.items r.stop written) (status_is s status.Files r.status code is) h in
    let (d, there, (within, a, asked, (cells, rose))) = stops in rose
