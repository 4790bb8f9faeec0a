-- One declaration more is answered.
use Rattle.std.proofs.Common.{ℕ, zero, suc, ◌≡◌, ◌+◌, ◌-◌, ◌<◌, ◌≤◌, ◌⊎◌, inl, inr, List, [], ◌∷◌, ◌++◌, refl, sym, ap, ◌∙◌, subst, length, take, map, length-append, arith}
use Rattle.std.proofs.lemmas.Bool.{cases_lt}
use Rattle.std.proofs.lemmas.List.{take-append-le, map-append}
use Rattle.std.proofs.lemmas.Option.{slice_get_cases, slice_get_within, same_Some}
use Rattle.std.proofs.Math.Seq.{take-append_seam}
use Rattle.std.specs.List.{slice_get}
use Rattle.std.specs.Io.KnownBytes.{Appends}
use Rattle.std.specs.Prelude.{Option, Some, None, Result, Ok, Err, OnOk, IfErr, get_or}
use Rattle.std.specs.Option.{ForSome}
use Rattle.aql_outside.specs.Contents.{Content}
use Rattle.aql_value.specs.Datum.{Datum}
use Rattle.aql_value.specs.Laws.Lists.{slice_get-append_left, slice_get-append_right}
use Rattle.aql_ty.specs.Types.{Sort}
use Rattle.aql_syntax.specs.Script.{Earlier, globals_of, outcome_after}
use Rattle.aql_syntax.specs.Size.{IsWithinLimits, AreWithinLimits}
use Rattle.aql_syntax.specs.Tree.{Declaration, declared_name}
use Rattle.aql_syntax.specs.View.{decls_of}
use Rattle.aql_syntax.specs.Laws.View.{length-decls_of}
use Rattle.aql_options.specs.Settings.{Settings}
use Rattle.aql_value.specs.Partial.{◌>>=◌}
use Rattle.nrca_term.specs.Meaning.{Outcomes, outcome}
use Rattle.aql_prelude.specs.Prelude.{prelude_count}
use Rattle.aql_script.specs.Laws.Position.{length_positions}
use Rattle.aql_script.specs.Script.{positions}
use Rattle.aql_script.specs.declared.preparing.Prepared.{Prepared}
use Rattle.aql_session.specs.Bound.{Bound, names, outcomes, AreBound, onto, earlier_of}
use Rattle.aql_session.specs.Reading.{reading}
use Rattle.nrca_term.specs.View.{term_of}
use Rattle.aql_session.specs.Step.{OutcomesFit, IsAnswer, IsAnswerable, IsCounted, IsOutcome, IsCause, BindsPosition, ReadsNoFile}
use Rattle.aql_session.specs.declared.answer.StepFault.{StepFault}
use Rattle.aql_session.specs.declared.answer.Answer.{Answer}
use Rattle.aql_run.specs.Answered.{IsAnswered, AreAnswered, IsStopped}
use Rattle.aql_run.specs.Entry.{entry}
use Rattle.aql_run.specs.Writing.{WritesFront}
use Rattle.aql_run.specs.declared.steps.Halt.{Halt}
use Rattle.aql_run.specs.declared.steps.Halt.TheVariants as halts
use Rattle.aql_run.specs.Steps.{own, sorts_in, IsPrepared, Progress, AnswersOne, NextReadsNoFile, CutsEntry, Halts, IsNoFault}

-- the images of one element more
pub map_take_next : {X Y : Type 0} (f : X → Y) (xs : List X) (i : ℕ) (x : X) → slice_get xs i ≡ Some x → map f (take (suc i) xs) ≡ map f (take i xs) ++ f x ∷ []
map_take_next f [] i x e = absurd cc
map_take_next f (y ∷ ys) zero x e = ap (λ z. f z ∷ []) (same_Some y x e)
map_take_next f (y ∷ ys) (suc i) x e = ap (λ l. f y ∷ l) (map_take_next f ys i x e)

pub onto_none : (ds : List Declaration) (earlier : Earlier) → onto ds [] earlier ≡ earlier
onto_none [] earlier = refl
onto_none (d ∷ ds) earlier = refl

-- the declaration behind those with outcomes comes first with its own
pub onto_next : (ds : List Declaration) (V : Outcomes) (earlier : Earlier) (d : Declaration) (o : Option Datum) → slice_get ds (length V) ≡ Some d →
    onto ds (V ++ o ∷ []) earlier ≡ (d, o) ∷ onto ds V earlier
onto_next [] V earlier d o e = absurd cc
onto_next (x ∷ ds) [] earlier d o e = onto_none ds ((x, o) ∷ earlier) ∙ ap (λ z. (z, o) ∷ earlier) (same_Some x d e)
onto_next (x ∷ ds) (v ∷ V) earlier d o e = onto_next ds V ((x, v) ∷ earlier) d o e

-- an element behind others
behind : {A : Type 0} (xs : List A) (x y : A) (i : ℕ) → length xs ≤ i → slice_get (xs ++ x ∷ []) i ≡ Some y → (i ≡ length xs) × (x ≡ y)
behind xs x y i le e = at (i - length xs) (sym (slice_get-append_right xs (x ∷ []) i le) ∙ e) refl
  where
    at : (k : ℕ) → slice_get (x ∷ []) k ≡ Some y → i - length xs ≡ k → (i ≡ length xs) × (x ≡ y)
    at zero f h = (omega (arith, le, h), same_Some x y f)
    at (suc k) f h = absurd cc

-- the answers with one more
pub answered_more : (ds : List Declaration) (sorts : List Sort) (settings : Settings) (holds : Option Content) (answers : List Answer) (V : Outcomes) (d : Declaration) (a : Answer) (o : Option Datum) →
    AreAnswered ds sorts settings holds answers V → slice_get (positions ds) (prelude_count + length answers) ≡ Some d →
    IsAnswered d (earlier_of (positions ds) V) (slice_get sorts (prelude_count + length answers)) settings holds a o →
    AreAnswered ds sorts settings holds (answers ++ a ∷ []) (V ++ o ∷ [])
answered_more ds sorts settings holds answers V d a o h there own = record {
  few = omega (arith, slice_get_within (positions ds) (prelude_count + length answers) d there, length_positions ds, length-append answers (a ∷ []));
  many = length-append V (o ∷ []) ∙ (ap (λ n. n + 1) h.many ∙ (omega (arith, length-append answers (a ∷ []))));
  prelude = let n = h.many in take-append-le prelude_count V (o ∷ []) (omega (arith, n)) ∙ h.prelude;
  each = λ i e b p f g k. at i e b p f g k (cases_lt i (length answers));
}
  where
    Answers : (i : ℕ) (e : Declaration) (b : Answer) (p : Option Datum) → Outcomes → Type 0
    Answers i e b p W = IsAnswered e (earlier_of (positions ds) W) (slice_get sorts (prelude_count + i)) settings holds b p

    last : (i : ℕ) (e : Declaration) (b : Answer) (p : Option Datum) → i ≡ length answers → a ≡ b → o ≡ p → d ≡ e → Answers i e b p (take (prelude_count + i) (V ++ o ∷ []))
    last i e b p is same result decl =
        subst (λ n. Answers n e b p (take (prelude_count + n) (V ++ o ∷ []))) (sym is)
        (subst (λ (x : Answer). Answers (length answers) e x p (take (prelude_count + length answers) (V ++ o ∷ []))) same
        (subst (λ (x : Option Datum). Answers (length answers) e a x (take (prelude_count + length answers) (V ++ o ∷ []))) result
        (subst (λ (x : Declaration). Answers (length answers) x a o (take (prelude_count + length answers) (V ++ o ∷ []))) decl
        (subst (λ (W : Outcomes). Answers (length answers) d a o W) (sym (ap (λ n. take n (V ++ o ∷ [])) (sym h.many) ∙ take-append_seam V (o ∷ []))) own))))

    at : (i : ℕ) (e : Declaration) (b : Answer) (p : Option Datum) → slice_get (positions ds) (prelude_count + i) ≡ Some e → slice_get (answers ++ a ∷ []) i ≡ Some b →
        slice_get (V ++ o ∷ []) (prelude_count + i) ≡ Some p → (i < length answers) ⊎ (length answers ≤ i) → Answers i e b p (take (prelude_count + i) (V ++ o ∷ []))
    at i e b p f g k (inl lt) =
        let n = h.many in
        let below : prelude_count + i < length V = omega (arith, lt, n) in
        subst (λ (W : Outcomes). Answers i e b p W) (sym (take-append-le (prelude_count + i) V (o ∷ []) (omega (arith, below))))
        (h.each i e b p f (sym (slice_get-append_left answers (a ∷ []) i lt) ∙ g) (sym (slice_get-append_left V (o ∷ []) (prelude_count + i) below) ∙ k))
    at i e b p f g k (inr le) =
        let n = h.many in
        let x = behind answers a b i le g in
        let y = behind V o p (prelude_count + i) (omega (arith, le, n)) k in
        last i e b p x.0 x.1 y.1 (same_Some d e (sym there ∙ (ap (λ m. slice_get (positions ds) (prelude_count + m)) (sym x.0) ∙ f)))

-- what a step says of the declaration that stands next, and of the session after it
pub record HasStepped (p : Prepared) (o : Settings) (holds : Option Content) (answers : List Answer) (s s' : Bound) (a : Answer) : Type 0 where
  pub outcome : Option Datum
  pub outcomes : outcomes s' ≡ outcomes s ++ outcome ∷ []
  pub progress : Progress p o holds (answers ++ a ∷ []) s'

-- declaration n of the positions
pub next_there : (p : Prepared) (n : ℕ) (d : Declaration) (k : ℕ) → IsPrepared p → n ≡ prelude_count + 1 + k → slice_get (decls_of p.decls.items.items) (n - 1) ≡ Some d →
    slice_get (positions (own p)) (prelude_count + k) ≡ Some d
next_there p n d k h is e =
    let at : n - 1 ≡ prelude_count + k = omega (arith, is) in
    ap (λ (l : List Declaration). slice_get l (prelude_count + k)) (sym h.all) ∙ (ap (slice_get (decls_of p.decls.items.items)) (sym at) ∙ e)

pub stepped : (p : Prepared) (o : Settings) (holds : Option Content) (answers : List Answer) (s s' : Bound) (a : Answer) (n : ℕ) (d : Declaration) → IsPrepared p →
    n ≡ prelude_count + 1 + length answers → Progress p o holds answers s → slice_get (decls_of p.decls.items.items) (n - 1) ≡ Some d →
    IsAnswer d (earlier_of (decls_of p.decls.items.items) (outcomes s)) (slice_get (sorts_in p) (n - 1)) o.motion o.graph o.budget a →
    IsAnswerable d (earlier_of (decls_of p.decls.items.items) (outcomes s)) o.budget holds →
    BindsPosition d (earlier_of (decls_of p.decls.items.items) (outcomes s)) o.budget holds s s' a → HasStepped p o holds answers s s' a
stepped p o holds answers s s' a n d h is so_far e answer answerable binds =
    let there = next_there p n d (length answers) h is e in
    let count = so_far.answered.many in
    let at : n - 1 ≡ prelude_count + length answers = omega (arith, is) in
    let has : OutcomesFit (earlier_of (positions (own p)) (outcomes s ++ binds.outcome ∷ [])) =
    subst OutcomesFit (sym (onto_next (positions (own p)) (outcomes s) [] d binds.outcome (ap (slice_get (positions (own p))) count ∙ there)))
    (subst (λ (ds : List Declaration). OutcomesFit ((d, binds.outcome) ∷ earlier_of ds (outcomes s))) h.all binds.typed) in
    let more : outcomes s' ≡ outcomes s ++ binds.outcome ∷ [] = ap outcomes binds.bound ∙ map-append (λ b. b.1) s ((declared_name d, binds.outcome) ∷ []) in
    record {
      outcome = binds.outcome;
      outcomes = more;
      progress = record {
        bound = named there;
        types = subst (λ (V : Outcomes). OutcomesFit (earlier_of (positions (own p)) V)) (sym more) has;
        answered = subst (λ (V : Outcomes). AreAnswered (own p) (sorts_in p) o holds (answers ++ a ∷ []) V) (sym more)
            (answered_more (own p) (sorts_in p) o holds answers (outcomes s) d a binds.outcome so_far.answered there (record {
              answer = subst (λ (k : ℕ). IsAnswer d (earlier_of (positions (own p)) (outcomes s)) (slice_get (sorts_in p) k) o.motion o.graph o.budget a) at
                  (subst (λ (ds : List Declaration). IsAnswer d (earlier_of ds (outcomes s)) (slice_get (sorts_in p) (n - 1)) o.motion o.graph o.budget a) h.all answer);
              answerable = subst (λ (ds : List Declaration). IsAnswerable d (earlier_of ds (outcomes s)) o.budget holds) h.all answerable;
              outcome = subst (λ (ds : List Declaration). IsOutcome d (earlier_of ds (outcomes s)) holds binds.outcome) h.all binds.is;
              told = subst (λ (ds : List Declaration). ForSome holds (λ files. outcome_after (reading files) d (globals_of (earlier_of ds (outcomes s))) ≡ Some binds.outcome)) h.all binds.told;
              counts = subst (λ (ds : List Declaration). IsCounted d (earlier_of ds (outcomes s)) o.budget holds (term_of a.plan) a.moved binds.outcome (a.by, a.turns)) h.all binds.counts;
            }));
      };
    }
  where
    named : slice_get (positions (own p)) (prelude_count + length answers) ≡ Some d → AreBound (positions (own p)) (prelude_count + 1 + length (answers ++ a ∷ [])) s'
    named there =
        let long = length-append answers (a ∷ []) in
        let last : prelude_count + 1 + length (answers ++ a ∷ []) - 1 ≡ suc (prelude_count + length answers) = omega (arith, long) in
        let first : prelude_count + 1 + length answers - 1 ≡ prelude_count + length answers = omega arith in
        ap names binds.bound
        ∙ (map-append (λ b. b.0) s ((declared_name d, binds.outcome) ∷ [])
        ∙ (ap (λ l. l ++ declared_name d ∷ []) (so_far.bound ∙ ap (λ k. map declared_name (take k (positions (own p)))) first)
        ∙ (sym (map_take_next declared_name (positions (own p)) (prelude_count + length answers) d there)
        ∙ ap (λ k. map declared_name (take k (positions (own p)))) (sym last))))

-- the limits on the declarations up to the next one
pub next_within : (p : Prepared) (n : ℕ) → IsPrepared p → n ≤ length p.decls.items.items → AreWithinLimits (decls_of p.decls.items.items) n
next_within p n h last m one le =
    let count = length-decls_of p.decls.items.items in
    let all = ap length h.all in
    let many = length_positions (own p) in
    let k = h.limits m one (omega (arith, le, last, count, all, many)) in
    subst (λ (ds : List Declaration). IsWithinLimits ds m) (sym h.all) k

-- there is a next declaration
pub next_is : (p : Prepared) (n : ℕ) → 1 ≤ n → n ≤ length p.decls.items.items → (d : Declaration) × (slice_get (decls_of p.decls.items.items) (n - 1) ≡ Some d)
next_is p n one le = get (slice_get_cases (decls_of p.decls.items.items) (n - 1)).1
  where
    get : ((x : Declaration) × (n - 1 < length (decls_of p.decls.items.items)) × (slice_get (decls_of p.decls.items.items) (n - 1) ≡ Some x)
        × (get_or (decls_of p.decls.items.items) (n - 1) x ≡ x))
        ⊎ ((length (decls_of p.decls.items.items) ≤ n - 1) × (slice_get (decls_of p.decls.items.items) (n - 1) ≡ None)) →
        (d : Declaration) × (slice_get (decls_of p.decls.items.items) (n - 1) ≡ Some d)
    get (inl (x, lt, e, f)) = (x, e)
    get (inr (past, e)) = let count = length-decls_of p.decls.items.items in absurd (omega (arith, one, le, past, count))

pub stopped : (p : Prepared) (settings : Settings) (holds : Option Content) (before now : ℕ) (answers : List Answer) (V : Outcomes) (n : ℕ) (f : StepFault) → IsPrepared p →
    n ≡ prelude_count + 1 + length answers → n ≤ length p.decls.items.items →
    ((d : Declaration) → slice_get (decls_of p.decls.items.items) (n - 1) ≡ Some d → IsCause d (earlier_of (decls_of p.decls.items.items) V) settings.motion settings.budget holds before now f) →
    IsStopped (own p) settings holds before now (length answers) V f
stopped p settings holds before now answers V n f h is le cause =
    let x = next_is p n (omega (arith, is)) le in (
      x.0,
      next_there p n x.0 (length answers) h is x.1,
      subst (λ (ds : List Declaration). IsCause x.0 (earlier_of ds V) settings.motion settings.budget holds before now f) h.all (cause x.0 x.1),
    )

next : (V : Outcomes) (n k : ℕ) → length V ≡ prelude_count + k → n ≡ prelude_count + 1 + k → n ≡ suc (length V)
next V n k many is = omega (arith, many, is)

last_is : (V : Outcomes) (o : Option Datum) → slice_get (V ++ o ∷ []) (length V) ≡ Some o
last_is [] o = refl
last_is (v ∷ V) o = last_is V o

-- the outcome of the last position
pub outcome_last : (V : Outcomes) (o : Option Datum) (n k : ℕ) → length V ≡ prelude_count + k → n ≡ prelude_count + 1 + k → outcome (V ++ o ∷ []) n ≡ o
outcome_last V o n k many is =
    subst (λ m. outcome (V ++ o ∷ []) m ≡ o) (sym (next V n k many is)) (ap (λ (x : Option (Option Datum)). x >>= λ z. z) (last_is V o))

pub has_stepped : (p : Prepared) (o : Settings) (holds : Option Content) (answers : List Answer) (s s' : Bound) (a : Answer) (n : ℕ) → IsPrepared p →
    n ≡ prelude_count + 1 + length answers → n ≤ length p.decls.items.items → Progress p o holds answers s →
    ((d : Declaration) → slice_get (decls_of p.decls.items.items) (n - 1) ≡ Some d → IsAnswer d (earlier_of (decls_of p.decls.items.items) (outcomes s)) (slice_get (sorts_in p) (n - 1)) o.motion o.graph o.budget a) →
    ((d : Declaration) → slice_get (decls_of p.decls.items.items) (n - 1) ≡ Some d → IsAnswerable d (earlier_of (decls_of p.decls.items.items) (outcomes s)) o.budget holds) →
    ((d : Declaration) → slice_get (decls_of p.decls.items.items) (n - 1) ≡ Some d → BindsPosition d (earlier_of (decls_of p.decls.items.items) (outcomes s)) o.budget holds s s' a) →
    HasStepped p o holds answers s s' a
has_stepped p o holds answers s s' a n h is le so_far answer answerable binds =
    let x = next_is p n (omega (arith, is)) le in
    stepped p o holds answers s s' a n x.0 h is so_far x.1 (answer x.0 x.1) (answerable x.0 x.1) (binds x.0 x.1)

-- The lines of the answer were written, all or a front of them.
module _ (p : Prepared) (o : Settings) (holds : Option Content) (answers answers' : List Answer) (s s' : Bound) (a : Answer) (out : Option Datum) (old new : Option (List ℕ)) where
  pub wrote : (r : Result (Unit {0}) Halt) (h : HasStepped p o holds answers s s' a) → answers' ≡ answers ++ a ∷ [] → out ≡ h.outcome →
      WritesFront old new (entry o.plan a out) r → OnOk r (AnswersOne p o holds answers answers' s s' old new)
  wrote (Ok x) h longer is (front, rest, split, appended, all, _) = record {
    answer = a;
    outcome = h.outcome;
    longer = longer;
    outcomes = h.outcomes;
    progress = subst (λ (l : List Answer). Progress p o holds l s') (sym longer) h.progress;
    written = subst (λ (z : Option Datum). Appends old new (entry o.plan a z)) is (subst (Appends old new) all appended);
  }
  wrote (Err e) h longer is w = tt

  cut : (h : HasStepped p o holds answers s s' a) → answers' ≡ answers ++ a ∷ [] → out ≡ h.outcome → (front rest : List ℕ) → entry o.plan a out ≡ front ++ rest →
      Appends old new front → CutsEntry p o holds answers answers' (outcomes s) old new
  cut h longer is front rest split appended = record {
    answer = a;
    outcome = h.outcome;
    longer = longer;
    answered = subst (λ (l : List Answer). AreAnswered (own p) (sorts_in p) o holds l (outcomes s ++ h.outcome ∷ [])) (sym longer)
        (subst (λ (V : Outcomes). AreAnswered (own p) (sorts_in p) o holds (answers ++ a ∷ []) V) h.outcomes h.progress.answered);
    front = front;
    rest = rest;
    split = subst (λ (z : Option Datum). entry o.plan a z ≡ front ++ rest) is split;
    written = appended;
  }

  pub halted : (r : Result (Unit {0}) Halt) (before now : ℕ) (h : HasStepped p o holds answers s s' a) → answers' ≡ answers ++ a ∷ [] → out ≡ h.outcome →
      WritesFront old new (entry o.plan a out) r → IfErr r IsNoFault → IfErr r (λ e. Halts p o holds before now answers answers' (outcomes s) old new e)
  unfolding cut
  halted (Ok x) before now h longer is w c = tt
  halted (Err (halts.Fault f)) before now h longer is w c = absurd c
  halted (Err halts.Memory) before now h longer is (front, rest, split, appended, all, _) c = inr (cut h longer is front rest split appended)
  halted (Err halts.Sink) before now h longer is (front, rest, split, appended, all, some) c = (cut h longer is front rest split appended, some)

-- where the next declaration reads no file
pub next_unread : (p : Prepared) (budget : ℕ) (V : Outcomes) (n k : ℕ) → IsPrepared p → n ≡ prelude_count + 1 + k → n ≤ length p.decls.items.items → NextReadsNoFile p budget k V →
    (d : Declaration) × (slice_get (decls_of p.decls.items.items) (n - 1) ≡ Some d) × ReadsNoFile d (earlier_of (decls_of p.decls.items.items) V) budget
next_unread p budget V n k h is le none =
    let x = next_is p n (omega (arith, is)) le in
    (x.0, x.1, subst (λ (ds : List Declaration). ReadsNoFile x.0 (earlier_of ds V) budget) (sym h.all) (none x.0 (next_there p n x.0 k h is x.1)))
