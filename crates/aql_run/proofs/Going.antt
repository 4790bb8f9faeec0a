-- From one declaration to the next, and to the end.
use Rattle.std.proofs.Common.{ℕ, zero, suc, ◌≡◌, ◌+◌, ◌-◌, ◌<◌, ◌≤◌, inl, inr, List, [], ◌∷◌, ◌++◌, refl, sym, ap, ◌∙◌, subst, length, take, drop, append_assoc, append-nil, length-append, length-drop, arith, Bool}
use Rattle.std.proofs.KnownBytes.{Appends-nil, Appends-trans}
use Rattle.std.proofs.Math.Seq.{take-append_seam}
use Rattle.std.proofs.lemmas.List.{take-append-le}
use Rattle.std.specs.List.{slice_get}
use Rattle.std.specs.Io.KnownBytes.{Appends}
use Rattle.std.specs.Prelude.{Option, Some}
use Rattle.aql_outside.specs.Causes.{Blames, Rose}
use Rattle.aql_outside.specs.Contents.{Content}
use Rattle.aql_value.specs.Datum.{Datum}
use Rattle.aql_syntax.specs.Script.{Earlier}
use Rattle.aql_syntax.specs.Tree.{Declaration}
use Rattle.aql_syntax.specs.Laws.View.{length-decls_of}
use Rattle.nrca_term.specs.Meaning.{Outcomes}
use Rattle.aql_script.specs.Laws.Position.{length_positions}
use Rattle.aql_script.specs.declared.preparing.Prepared.{Prepared}
use Rattle.aql_script.specs.Script.{positions}
use Rattle.aql_outside.specs.Laws.Causes.{blamed_as, blamed_then}
use Rattle.aql_session.specs.Bound.{Bound, outcomes, earlier_of}
use Rattle.aql_session.specs.Step.{IsCause, ReadsNoFile}
use Rattle.aql_session.specs.declared.answer.Answer.{Answer}
use Rattle.aql_session.specs.declared.answer.StepFault.{StepFault}
use Rattle.aql_session.specs.declared.answer.StepFault.TheVariants as faults
use Rattle.aql_prelude.specs.Prelude.{prelude_count}
use Rattle.aql_options.specs.Settings.{Settings}
use Rattle.aql_run.specs.Answered.{AreAnswered, IsStopped, ReadNoFile, reach}
use Rattle.aql_run.specs.Entry.{entry, entries}
use Rattle.aql_run.specs.Steps.{own, sorts_in, IsPrepared, Declared, AnswersOne, NextReadsNoFile, CutsEntry, Halts, IsOver, Going, AllAnswered, CutsLines, EndsEarly}
use Rattle.aql_run.specs.declared.steps.Halt.{Halt}
use Rattle.aql_run.specs.declared.steps.Halt.TheVariants as halts
use Rattle.aql_run.proofs.Prelude.{at_first, prelude_last}

-- Lines of several answers.
entries_more : (plan : Bool) (answers : List Answer) (os : List (Option Datum)) (a : Answer) (o : Option Datum) → length os ≡ length answers →
    entries plan (answers ++ a ∷ []) (os ++ o ∷ []) ≡ entries plan answers os ++ entry plan a o
entries_more plan [] [] a o e = append-nil (entry plan a o)
entries_more plan [] (x ∷ os) a o e = absurd (omega (arith, e))
entries_more plan (b ∷ answers) [] a o e = absurd (omega (arith, e))
entries_more plan (b ∷ answers) (x ∷ os) a o e =
    ap (λ l. entry plan b x ++ l) (entries_more plan answers os a o (omega (arith, e))) ∙ sym (append_assoc (entry plan b x) (entries plan answers os) (entry plan a o))

-- an outcome behind those of the answers prints nothing
entries_ignore : (plan : Bool) (answers : List Answer) (os : List (Option Datum)) (o : Option Datum) → length os ≡ length answers →
    entries plan answers (os ++ o ∷ []) ≡ entries plan answers os
entries_ignore plan [] os o e = refl
entries_ignore plan (b ∷ answers) [] o e = absurd (omega (arith, e))
entries_ignore plan (b ∷ answers) (x ∷ os) o e = ap (λ l. entry plan b x ++ l) (entries_ignore plan answers os o (omega (arith, e)))

entries_none : (plan : Bool) (answers : List Answer) → entries plan answers [] ≡ []
entries_none plan [] = refl
entries_none plan (a ∷ answers) = refl

-- the lines of all are those of all but the last, and then others
entries_last : (plan : Bool) (answers : List Answer) (os : List (Option Datum)) → (last : List ℕ) × (entries plan answers os ≡ entries plan (take (length answers - 1) answers) os ++ last)
entries_last plan [] os = ([], refl)
entries_last plan (a ∷ []) os = (entries plan (a ∷ []) os, refl)
entries_last plan (a ∷ b ∷ answers) [] =
    let front = take (length (a ∷ b ∷ answers) - 1) (a ∷ b ∷ answers) in ([], sym (append-nil (entries plan front []) ∙ entries_none plan front))
entries_last plan (a ∷ b ∷ answers) (o ∷ os) =
    let x = entries_last plan (b ∷ answers) os in (
      x.0,
      ap (λ l. entry plan a o ++ l) x.1
          ∙ (sym (append_assoc (entry plan a o) (entries plan (take (length (b ∷ answers) - 1) (b ∷ answers)) os) x.0)
          ∙ ap (λ k. entries plan (take k (a ∷ b ∷ answers)) (o ∷ os) ++ x.0) (shifted answers)),
    )
  where
    shifted : (l : List Answer) → suc (length (b ∷ l) - 1) ≡ length (a ∷ b ∷ l) - 1
    shifted l = omega arith

drop_more : (V : Outcomes) (o : Option Datum) (n : ℕ) → n ≤ length V → drop n (V ++ o ∷ []) ≡ drop n V ++ o ∷ []
drop_more V o zero le = refl
drop_more [] o (suc n) le = absurd (omega (arith, le))
drop_more (v ∷ V) o (suc n) le = drop_more V o n (omega (arith, le))

-- ---- the declarations that read no file

-- fewer of those that read none
read_fewer : (ds : List Declaration) (budget : ℕ) (V : Outcomes) (k m : ℕ) → k ≤ m → ReadNoFile ds budget V m → ReadNoFile ds budget V k
read_fewer ds budget V k m le h i d lt = h i d (omega (arith, le, lt))

-- where one outcome more is known, the same of those before it
read_before : (ds : List Declaration) (budget : ℕ) (V W : Outcomes) (o : Option Datum) (k : ℕ) → length V ≡ prelude_count + k → W ≡ V ++ o ∷ [] →
    ReadNoFile ds budget W k → ReadNoFile ds budget V k
read_before ds budget V W o k many is h i d lt there =
    subst (λ (X : Outcomes). ReadsNoFile d (earlier_of (positions ds) X) budget)
    (ap (take (prelude_count + i)) is ∙ take-append-le (prelude_count + i) V (o ∷ []) (omega (arith, many, lt))) (h i d lt there)

-- and of the one of which it is
read_last : (ds : List Declaration) (budget : ℕ) (V W : Outcomes) (after : Outcomes) (k m : ℕ) (d : Declaration) → length V ≡ prelude_count + k → W ≡ V ++ after → k < m →
    ReadNoFile ds budget W m → slice_get (positions ds) (prelude_count + k) ≡ Some d → ReadsNoFile d (earlier_of (positions ds) V) budget
read_last ds budget V W after k m d many is lt h there =
    subst (λ (X : Outcomes). ReadsNoFile d (earlier_of (positions ds) X) budget)
    (ap (take (prelude_count + k)) is ∙ (ap (λ n. take n (V ++ after)) (sym many) ∙ take-append_seam V after)) (h k d lt there)

-- a run with no answer yet
pub going_first : (p : Prepared) (o : Settings) (holds : Option Content) (same : Type 0) (answers : List Answer) (s : Bound) (old : Option (List ℕ)) → Declared p prelude_count s →
    answers ≡ [] → same → Going p o holds same answers s (prelude_count + 1) old old
going_first p o holds same answers s old h none there =
    subst (λ (l : List Answer). Going p o holds same l s (prelude_count + 1) old old) (sym none)
    (record { progress = at_first p o holds s h; next = refl; written = Appends-nil old; untouched = λ reads. there })

-- one answer more
pub going_next : (p : Prepared) (o : Settings) (holds : Option Content) (same same' : Type 0) (answers answers' : List Answer) (s s' : Bound) (n : ℕ) (old mid new : Option (List ℕ)) →
    Going p o holds same answers s n old mid → AnswersOne p o holds answers answers' s s' mid new → (same → NextReadsNoFile p o.budget (length answers) (outcomes s) → same') →
    Going p o holds same' answers' s' (n + 1) old new
going_next p o holds same same' answers answers' s s' n old mid new h g more =
    let is = h.next in
    let count = h.progress.answered.many in
    let longer = ap length g.longer ∙ length-append answers (g.answer ∷ []) in
    record {
      progress = g.progress;
      next = omega (arith, is, longer);
      written = subst (Appends old new) (sym (lines (length-drop prelude_count (outcomes s) ∙ omega (arith, count)) (omega (arith, count))))
          (Appends-trans old mid new (entries o.plan answers (drop prelude_count (outcomes s))) (entry o.plan g.answer g.outcome) h.written g.written);
      untouched = λ reads. more
          (h.untouched (read_before (own p) o.budget (outcomes s) (outcomes s') g.outcome (length answers) count g.outcomes
          (read_fewer (own p) o.budget (outcomes s') (length answers) (length answers') (omega (arith, longer)) reads)))
          (λ d there. read_last (own p) o.budget (outcomes s) (outcomes s') (g.outcome ∷ []) (length answers) (length answers') d count g.outcomes (omega (arith, longer)) reads there);
    }
  where
    lines : length (drop prelude_count (outcomes s)) ≡ length answers → prelude_count ≤ length (outcomes s) →
        entries o.plan answers' (drop prelude_count (outcomes s')) ≡ entries o.plan answers (drop prelude_count (outcomes s)) ++ entry o.plan g.answer g.outcome
    lines same le =
        ap (λ (l : List Answer). entries o.plan l (drop prelude_count (outcomes s'))) g.longer
        ∙ (ap (λ (V : Outcomes). entries o.plan (answers ++ g.answer ∷ []) (drop prelude_count V)) g.outcomes
        ∙ (ap (entries o.plan (answers ++ g.answer ∷ [])) (drop_more (outcomes s) g.outcome prelude_count le)
        ∙ entries_more o.plan answers (drop prelude_count (outcomes s)) g.answer g.outcome same))

-- every position was gone over
pub all_answered : (p : Prepared) (o : Settings) (holds : Option Content) (same : Type 0) (answers : List Answer) (s : Bound) (n : ℕ) (old new : Option (List ℕ)) → IsPrepared p →
    Going p o holds same answers s n old new → n ≡ length p.decls.items.items + 1 → AllAnswered p o holds same answers old new
all_answered p o holds same answers s n old new h g e =
    let is = g.next in
    let all = ap length h.all in
    let own_count = length_positions (own p) in
    let count = length-decls_of p.decls.items.items in
    record { outcomes = outcomes s; answered = g.progress.answered; all = omega (arith, is, all, own_count, count, e); written = g.written; untouched = g.untouched }

-- a cause within a call is one within a longer call
rose_wider : (before now before' now' : ℕ) → before' ≤ before → now ≤ now' → Rose before now → Rose before' now'
rose_wider before now before' now' a b h = omega (arith, a, b, h)

cause_wider : (d : Declaration) (earlier : Earlier) (motion : Bool) (budget : ℕ) (holds : Option Content) (before now before' now' : ℕ) (f : StepFault) → before' ≤ before → now ≤ now' →
    IsCause d earlier motion budget holds before now f → IsCause d earlier motion budget holds before' now' f
cause_wider d earlier motion budget holds before now before' now' (faults.Query start plan trace moved) a b h = h
cause_wider d earlier motion budget holds before now before' now' (faults.Cells c) a b h = h
cause_wider d earlier motion budget holds before now before' now' (faults.File f) a b h = h
cause_wider d earlier motion budget holds before now before' now' (faults.Csv f) a b h = h
cause_wider d earlier motion budget holds before now before' now' faults.Device a b (within, asked, is, (few, rose)) =
    (within, asked, is, (few, rose_wider before now before' now' a b rose))
cause_wider d earlier motion budget holds before now before' now' faults.Memory a b h = h

-- the lines so far are those of the answers, all of them
none_cut : (p : Prepared) (o : Settings) (holds : Option Content) (same : Type 0) (begun : ℕ) (answers : List Answer) (V : Outcomes) →
    AreAnswered (own p) (sorts_in p) o holds answers V → (ReadNoFile (own p) o.budget V begun → same) →
    CutsLines p o holds same begun answers (entries o.plan answers (drop prelude_count V))
none_cut p o holds same begun answers V h untouched =
    let x = entries_last o.plan answers (drop prelude_count V) in
    record { outcomes = V; answered = h; back = []; front = sym (append-nil (entries o.plan answers (drop prelude_count V))); last = x.0; whole = x.1; untouched = untouched }

-- a front of the last answer's lines
one_cut : (p : Prepared) (o : Settings) (holds : Option Content) (same : Type 0) (begun : ℕ) (answers answers' : List Answer) (V : Outcomes) (mid new : Option (List ℕ)) →
    AreAnswered (own p) (sorts_in p) o holds answers V → (c : CutsEntry p o holds answers answers' V mid new) → (ReadNoFile (own p) o.budget (V ++ c.outcome ∷ []) begun → same) →
    (d : CutsLines p o holds same begun answers' (entries o.plan answers (drop prelude_count V) ++ c.front)) × (d.back ≡ c.rest)
one_cut p o holds same begun answers answers' V mid new h c untouched =
    let count = h.many in
    made (length-drop prelude_count V ∙ omega (arith, count)) (omega (arith, count))
  where
    shown : Outcomes → List ℕ
    shown W = entries o.plan answers (drop prelude_count W)

    short : take (length answers' - 1) answers' ≡ answers
    short =
        let long = ap length c.longer ∙ length-append answers (c.answer ∷ []) in
        let at : length answers' - 1 ≡ length answers = omega (arith, long) in
        ap (λ k. take k answers') at ∙ (ap (take (length answers)) c.longer ∙ take-append_seam answers (c.answer ∷ []))

    made : length (drop prelude_count V) ≡ length answers → prelude_count ≤ length V → (d : CutsLines p o holds same begun answers' (shown V ++ c.front)) × (d.back ≡ c.rest)
    made many le = (
      record {
        outcomes = V ++ c.outcome ∷ [];
        answered = c.answered;
        back = c.rest;
        front = ap (λ (l : List Answer). entries o.plan l (drop prelude_count (V ++ c.outcome ∷ []))) c.longer
            ∙ (ap (entries o.plan (answers ++ c.answer ∷ [])) (drop_more V c.outcome prelude_count le)
            ∙ (entries_more o.plan answers (drop prelude_count V) c.answer c.outcome many
            ∙ (ap (λ l. shown V ++ l) c.split ∙ sym (append_assoc (shown V) c.front c.rest))));
        last = c.front;
        whole = ap (λ l. l ++ c.front)
            (sym (ap (λ (l : List Answer). entries o.plan l (drop prelude_count (V ++ c.outcome ∷ []))) short
            ∙ (ap (entries o.plan answers) (drop_more V c.outcome prelude_count le) ∙ entries_ignore o.plan answers (drop prelude_count V) c.outcome many)));
        untouched = untouched;
      },
      refl,
    )

-- The run ends before the last declaration, or before its lines are all written. Where the next declaration reads no file, or its turns
-- passed the budget, the files are as before it.
module _ (p : Prepared) (o : Settings) (holds : Option Content) (same same' : Type 0) (answers answers' : List Answer) (s : Bound) (n : ℕ) (old mid new : Option (List ℕ))
    (g : Going p o holds same answers s n old mid) (more : same → NextReadsNoFile p o.budget (length answers) (outcomes s) → same') where
  abbrev V : Outcomes
  V = outcomes s

  count : length V ≡ prelude_count + length answers
  count = g.progress.answered.many

  -- nothing more was answered
  stayed : (m : ℕ) → length answers + 1 ≤ m → ReadNoFile (own p) o.budget V m → same'
  stayed m le reads = more (g.untouched (read_fewer (own p) o.budget V (length answers) m (omega (arith, le)) reads))
      (λ d there. read_last (own p) o.budget V V [] (length answers) m d count (sym (append-nil V)) (omega (arith, le)) reads there)

  -- one declaration more was answered
  went : (c : CutsEntry p o holds answers answers' V mid new) (m : ℕ) → length answers' ≤ m → ReadNoFile (own p) o.budget (V ++ c.outcome ∷ []) m → same'
  went c m le reads =
      let longer = ap length c.longer ∙ length-append answers (c.answer ∷ []) in
      more
      (g.untouched (read_before (own p) o.budget V (V ++ c.outcome ∷ []) c.outcome (length answers) count refl
      (read_fewer (own p) o.budget (V ++ c.outcome ∷ []) (length answers) m (omega (arith, le, longer)) reads)))
      (λ d there. read_last (own p) o.budget V (V ++ c.outcome ∷ []) (c.outcome ∷ []) (length answers) m d count refl (omega (arith, le, longer)) reads there)

  lines : Appends mid new [] → Appends old new (entries o.plan answers (drop prelude_count V))
  lines w = subst (Appends old new) (append-nil _) (Appends-trans old mid new (entries o.plan answers (drop prelude_count V)) [] g.written w)

  came : (f : StepFault) → (same → IsOver (halts.Fault f) → same') → ReadNoFile (own p) o.budget V (reach f (length answers)) → same'
  came (faults.Query start plan trace moved) over reads = over (g.untouched reads) tt
  came (faults.Cells c) over reads = stayed (length answers + 1) (omega arith) reads
  came (faults.File f) over reads = stayed (length answers + 1) (omega arith) reads
  came (faults.Csv f) over reads = stayed (length answers + 1) (omega arith) reads
  came faults.Device over reads = stayed (length answers + 1) (omega arith) reads
  came faults.Memory over reads = stayed (length answers + 1) (omega arith) reads

  pub ends_early : (before now before' now' : ℕ) (halt : Halt) → before' ≤ before → now ≤ now' → (same → IsOver halt → same') →
      Halts p o holds before now answers answers' V mid new halt → EndsEarly p o holds same' before' now' answers' old new halt
  ends_early before now before' now' (halts.Fault f) a b over (stays, (d, there, cause)) = (
    V,
    subst (λ (l : List Answer). AreAnswered (own p) (sorts_in p) o holds l V) (sym stays.same) g.progress.answered,
    subst (λ (l : List Answer). IsStopped (own p) o holds before' now' (length l) V f) (sym stays.same)
        (d, there, cause_wider d _ o.motion o.budget holds before now before' now' f a b cause),
    subst (λ (l : List Answer). Appends old new (entries o.plan l (drop prelude_count V))) (sym stays.same) (lines stays.written),
    subst (λ (l : List Answer). ReadNoFile (own p) o.budget V (reach f (length l)) → same') (sym stays.same) (came f over),
  )
  ends_early before now before' now' halts.Memory a b over (inl stays) = (
    entries o.plan answers (drop prelude_count V),
    lines stays.written,
    inr (subst (λ (l : List Answer). CutsLines p o holds same' (length l + 1) l (entries o.plan answers (drop prelude_count V))) (sym stays.same)
        (none_cut p o holds same' (length answers + 1) answers V g.progress.answered (stayed (length answers + 1) (omega arith)))),
  )
  ends_early before now before' now' halts.Memory a b over (inr cut) = (
    entries o.plan answers (drop prelude_count V) ++ cut.front,
    Appends-trans old mid new (entries o.plan answers (drop prelude_count V)) cut.front g.written cut.written,
    inr (one_cut p o holds same' (length answers' + 1) answers answers' V mid new g.progress.answered cut (went cut (length answers' + 1) (omega arith))).0,
  )
  ends_early before now before' now' halts.Sink a b over (cut, some) = (
    entries o.plan answers (drop prelude_count V) ++ cut.front,
    Appends-trans old mid new (entries o.plan answers (drop prelude_count V)) cut.front g.written cut.written,
    (let (d, is) = one_cut p o holds same' (length answers') answers answers' V mid new g.progress.answered cut (went cut (length answers') (omega arith)) in
        (d, λ none. some (sym is ∙ none))),
  )

pub no_memory : (p : Prepared) (o : Settings) (holds : Option Content) (same : Type 0) (before now : ℕ) (answers : List Answer) (old : Option (List ℕ)) → answers ≡ [] → same →
    EndsEarly p o holds same before now answers old old halts.Memory
no_memory p o holds same before now answers old e there = ([], Appends-nil old, inl (e, refl, there))

-- what holds before each position: what was gone over, and the same files, with counts for which no device is blamed
pub record Before (p : Prepared) (o : Settings) (h0 h : Option Content) (same : Type 0) (answers : List Answer) (s : Bound) (n count : ℕ) (old mid : Option (List ℕ))
    (quiet loud : Type 0) (f0 f k0 k : ℕ) : Type 0 where
  pub within : n ≤ count + 1
  pub going : Going p o h same answers s n old mid
  pub kept : h ≡ h0
  pub files : Blames quiet ⊥ f0 f
  pub output : Blames loud ⊥ k0 k

pub begins : (p : Prepared) (o : Settings) (h0 h : Option Content) (same : Type 0) (answers : List Answer) (s : Bound) (count : ℕ) (old : Option (List ℕ)) (quiet loud : Type 0) (f0 f k0 : ℕ) →
    IsPrepared p → Declared p prelude_count s → answers ≡ [] → count ≡ length p.decls.items.items → h ≡ h0 → f ≡ f0 → same →
    Before p o h0 h same answers s (prelude_count + 1) count old old quiet loud f0 f k0 k0
begins p o h0 h same answers s count old quiet loud f0 f k0 prepared made none is kept count_is there =
    let long = prelude_last p prelude_count prepared (omega arith) in
    record {
      within = omega (arith, long, is);
      going = going_first p o h same answers s old made none there;
      kept = kept;
      files = record { later = omega (arith, count_is); failed = λ b. absurd b; noticed = λ q less. absurd (omega (arith, less, count_is)) };
      output = record { later = omega arith; failed = λ b. absurd b; noticed = λ q less. absurd (omega (arith, less)) };
    }

pub goes_on : (p : Prepared) (o : Settings) (h0 h h' : Option Content) (same same' : Type 0) (answers answers' : List Answer) (s s' : Bound) (n count : ℕ) (old mid new : Option (List ℕ))
    (quiet loud a b : Type 0) (f0 f f' k0 k k' : ℕ) → Before p o h0 h same answers s n count old mid quiet loud f0 f k0 k → n < count + 1 → AnswersOne p o h answers answers' s s' mid new →
    (same → NextReadsNoFile p o.budget (length answers) (outcomes s) → same') → h' ≡ h → Blames quiet a f f' → (a → ⊥) → Blames loud b k k' → (b → ⊥) →
    Before p o h0 h' same' answers' s' (n + 1) count old new quiet loud f0 f' k0 k'
goes_on p o h0 h h' same same' answers answers' s s' n count old mid new quiet loud a b f0 f f' k0 k k' w lt goes more kept u quietly v never =
    let next = going_next p o h same same' answers answers' s s' n old mid new w.going goes more in
    record {
      within = omega (arith, lt);
      going = subst (λ (z : Option Content). Going p o z same' answers' s' (n + 1) old new) (sym kept) next;
      kept = kept ∙ w.kept;
      files = blamed_then quiet ⊥ ⊥ f0 f f' w.files (λ x. x) (blamed_as quiet a ⊥ f f' quietly (λ x. absurd x) u);
      output = blamed_then loud ⊥ ⊥ k0 k k' w.output (λ x. x) (blamed_as loud b ⊥ k k' never (λ x. absurd x) v);
    }

pub ends_here : (p : Prepared) (o : Settings) (h0 h : Option Content) (same same' : Type 0) (answers answers' : List Answer) (s : Bound) (n count : ℕ) (old mid new : Option (List ℕ))
    (quiet loud : Type 0) (f0 f f' k0 k : ℕ) (halt : Halt) → Before p o h0 h same answers s n count old mid quiet loud f0 f k0 k → f ≤ f' →
    (same → NextReadsNoFile p o.budget (length answers) (outcomes s) → same') → (same → IsOver halt → same') →
    Halts p o h f f' answers answers' (outcomes s) mid new halt → EndsEarly p o h0 same' f0 f' answers' old new halt
ends_here p o h0 h same same' answers answers' s n count old mid new quiet loud f0 f f' k0 k halt w u more over halts =
    subst (λ (z : Option Content). EndsEarly p o z same' f0 f' answers' old new halt) w.kept
    (ends_early p o h same same' answers answers' s n old mid new w.going more f f' f0 f' halt w.files.later (omega arith) over halts)

pub all_here : (p : Prepared) (o : Settings) (h0 h : Option Content) (same : Type 0) (answers : List Answer) (s : Bound) (n count : ℕ) (old mid : Option (List ℕ)) (quiet loud : Type 0)
    (f0 f k0 k : ℕ) → IsPrepared p → Before p o h0 h same answers s n count old mid quiet loud f0 f k0 k → count + 1 ≤ n → count ≡ length p.decls.items.items → AllAnswered p o h0 same answers old mid
all_here p o h0 h same answers s n count old mid quiet loud f0 f k0 k prepared w ge is =
    let within = w.within in
    subst (λ (z : Option Content). AllAnswered p o z same answers old mid) w.kept (all_answered p o h same answers s n old mid prepared w.going (omega (arith, within, ge, is)))
