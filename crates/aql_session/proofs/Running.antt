-- The run of a declaration, beside what `step` says of it.
use Rattle.std.proofs.Common.{◌≡◌, Bool, ℕ, zero, suc, ◌+◌, ◌-◌, ◌^◌, ◌<◌, ◌≤◌, List, [], ◌∷◌, ◌++◌, length, take, Option, Some, None, refl, sym, ap, ◌∙◌, subst, arith, length-take}
use Rattle.std.specs.Prelude.{slice_get, get_or, option_map, Result, Err, IfErr}
use Rattle.std.specs.Global.{Box}
use Rattle.std.specs.Option.{ForSome}
use Rattle.std.proofs.lemmas.Option.{slice_get-get_or}
use Rattle.std.proofs.lemmas.List.{length-map}
use Rattle.aql_outside.specs.Contents.{Content}
use Rattle.aql_value.specs.Datum.{Datum}
use Rattle.aql_value.specs.Partial.{◌>>=◌}
use Rattle.aql_ty.specs.Types.{Ty, Sort, Subst, apply, value, macro, IsWithin}
use Rattle.aql_ty.specs.ValueTypes.{HasType}
use Rattle.aql_ty.specs.View.{sort_of}
use Rattle.aql_ty.specs.declared.ty.Scheme.{Scheme}
use Rattle.aql_infer_steps.specs.Typed.{ArePrincipal, sorts_of}
use Rattle.aql_infer_steps.specs.Laws.Principal.{sort-at}
use Rattle.aql_syntax.specs.Denotation.{den}
use Rattle.aql_syntax.specs.Script.{Earlier, globals_of, ReaderMeaning, read_outcome, outcome_after}
use Rattle.aql_syntax.specs.Size.{before}
use Rattle.aql_syntax.specs.Sound.{OutcomesTyped, ReadsHave}
use Rattle.aql_syntax.specs.Laws.Sound.{typed-value, outcome-has, apply-reader_type}
use Rattle.aql_syntax.specs.Tree.{Name, Tree, Reader, Declaration, val, mac, read, bare, declared_name}
use Rattle.aql_syntax.specs.Typing.{Has, DeclHas, IsPrincipal, environment_of, reader_type, argument_type}
use Rattle.aql_desugar_spec.specs.Positions.{outcomes_of}
use Rattle.nrca_encoded.specs.declared.ran.Graph.{Graph}
use Rattle.nrca_loops.specs.Values.{held_value}
use Rattle.nrca_term.specs.View.{term_of}
use Rattle.nrca_term.specs.Meaning.{Outcomes}
use Rattle.aql_value.specs.Limits.{most_budget}
use Rattle.aql_value.specs.Laws.Lists.{entry-there}
use Rattle.aql_session.specs.Bound.{Bound, AreBound, earlier_of, outcomes}
use Rattle.aql_session.specs.Reading.{read_value, reading}
use Rattle.aql_session.specs.Executions.{IsReadyAt, IsValueDeclaration, IsSpentFault, IsEvaluated, IsReadBy, IsArgumentCause, IsExecution, IsAnswerOf, asked_in, query_value, execution_with}
use Rattle.aql_session.specs.Step.{CallsNoFile, HasGraph, HasMotion, HasPlan, IsAnswer, IsCounted, IsCountOf, IsGraphBy, IsOutcome, IsReadable, IsReadOutcome, BindsPosition, IsCause, NoMacroHasValue, OutcomesFit, ReadsNoFile, asks, start_of}
use Rattle.aql_session.specs.declared.answer.Answer.{Answer}
use Rattle.aql_session.specs.declared.answer.Ran.TheVariants as ran
use Rattle.aql_session.specs.declared.answer.StepFault.{StepFault}
use Rattle.aql_session.specs.declared.answer.StepFault.TheVariants as faults
use Rattle.aql_session.specs.declared.queries.Evaluated.{Evaluated}
use Rattle.aql_session.specs.declared.readings.Read.{Read}
use Rattle.aql_session.specs.declared.executions.Execution.{Execution}
use Rattle.aql_session.proofs.Evaluating.{evaluated-may, evaluated-within}
use Rattle.aql_session.proofs.Positions.{declarations-before}

-- each number of a position has a declaration
pub declaration-there : (ds : List Declaration) (n : ℕ) → 1 ≤ n → n ≤ length ds → (d : Declaration) × (slice_get ds (n - 1) ≡ Some d)
declaration-there ds n h k = entry-there ds (n - 1) (omega (arith, h, k))

pub same-position : (p : Option Declaration) (c d : Declaration) → p ≡ Some c → p ≡ Some d → c ≡ d
same-position p c d e f = let y = sym e ∙ f in cc

-- a query that is evaluated and kept
pub plain-run : (d : Declaration) (earlier : Earlier) (motion graphs : Bool) (budget : ℕ) (holds : Option Content) (q : Evaluated) (g : Option (Box Graph)) → IsValueDeclaration d →
    IsEvaluated d earlier motion budget q → IsGraphBy graphs (outcomes_of earlier) budget (term_of q.plan) (query_value d earlier) g →
    IsExecution d earlier motion graphs budget holds (execution_with q g)
plain-run (val x e) earlier motion graphs budget holds q g p h k = record {
  start = h.start;
  planned = h.planned;
  moved = h.moved;
  graph = k;
  counts = h.counts;
  answerable = λ a k. cc;
  outcome = h.value;
  valid = h.valid;
}
plain-run (mac f p body) earlier motion graphs budget holds q g u h k = absurd u
plain-run (read x r e) earlier motion graphs budget holds q g u h k = absurd u
plain-run (bare e) earlier motion graphs budget holds q g p h k = record {
  start = h.start;
  planned = h.planned;
  moved = h.moved;
  graph = k;
  counts = h.counts;
  answerable = λ a k. cc;
  outcome = h.value;
  valid = h.valid;
}

-- want of memory is no fault of anything
pub memory-cause : (d : Declaration) (earlier : Earlier) (motion : Bool) (budget : ℕ) (holds : Option Content) (before now : ℕ) (f : StepFault) → f ≡ faults.Memory →
    IsCause d earlier motion budget holds before now f
memory-cause d earlier motion budget holds before now f e = subst (IsCause d earlier motion budget holds before now) (sym e) tt

pub spent-cause : (d : Declaration) (earlier : Earlier) (motion : Bool) (budget : ℕ) (holds : Option Content) (before now : ℕ) (f : StepFault) → IsSpentFault d earlier motion budget f →
    IsCause d earlier motion budget holds before now f
spent-cause d earlier motion budget holds before now (faults.Query s p t m) h = h
spent-cause d earlier motion budget holds before now (faults.Cells c) h = absurd h
spent-cause d earlier motion budget holds before now (faults.File f) h = absurd h
spent-cause d earlier motion budget holds before now (faults.Csv f) h = absurd h
spent-cause d earlier motion budget holds before now faults.Device h = absurd h
spent-cause d earlier motion budget holds before now faults.Memory h = tt

-- a query that is no readval's argument does not blame the files
pub plain-device : (position : Option Declaration) (d : Declaration) (earlier : Earlier) (motion : Bool) (budget : ℕ) (r : Result Execution StepFault) → position ≡ Some d →
    ((holds : Option Content) (before now : ℕ) → IfErr r (λ f. ForSome position (λ e. IsCause e earlier motion budget holds before now f))) → r ≡ Err faults.Device → ⊥
plain-device position d earlier motion budget r there cause device =
    let h : IfErr (let x : Result Execution StepFault = Err faults.Device in x) (λ f. ForSome position (λ e. IsCause e earlier motion budget None 1 0 f)) =
    subst (λ (x : Result Execution StepFault). IfErr x (λ f. ForSome position (λ e. IsCause e earlier motion budget None 1 0 f))) device (cause None 1 0) in
    let rose = (h d there).3.1 in absurd (omega (arith, rose))

module _ (x : Name) (r : Reader) (e : Tree) (earlier : Earlier) (motion : Bool) (budget : ℕ) (q : Evaluated) (h : IsEvaluated (read x r e) earlier motion budget q) where
  argument-is : held_value q.value ≡ den e (globals_of earlier) []
  argument-is = h.value

  asked-is : asked_in r (held_value q.value) ≡ asks (read x r e) earlier
  asked-is = ap (asked_in r) argument-is

  -- a readval: its argument, and what it asks for
  pub readval-run : (graphs : Bool) (holds : Option Content) (y : Read) → IsReadBy r (held_value q.value) budget holds y →
      IsExecution (read x r e) earlier motion graphs budget holds
      (record { start = q.start; plan = q.plan; trace = q.trace; moved = q.moved; graph = None; by = ran.Read; turns = q.turns + y.turns; value = y.value })
  readval-run graphs holds y k = record {
    start = h.start;
    planned = h.planned;
    moved = h.moved;
    graph = refl;
    counts = ((q.by, q.turns), y.turns, h.counts, refl, subst (λ o. IsCountOf budget holds o (held_value y.value) y.turns) asked-is k.counts);
    answerable = subst (λ o. ForSome o (IsReadable budget holds)) asked-is k.readable;
    outcome = subst (λ o. IsReadOutcome r o holds (held_value y.value)) argument-is k.outcome;
    valid = k.valid;
  }

  -- the turns fit
  pub readval-fits : (holds : Option Content) (y : Read) → budget ≤ most_budget → IsReadBy r (held_value q.value) budget holds y → q.turns + y.turns < 2 ^ 128
  readval-fits holds y b k = omega (arith, evaluated-within (read x r e) earlier motion budget q h, k.few, b)

  pub readval-cause : (holds : Option Content) (before now : ℕ) (f : StepFault) → IsArgumentCause r (held_value q.value) budget holds before now f → IsCause (read x r e) earlier motion budget holds before now f
  readval-cause holds before now (faults.Query s p t m) k = absurd k.2
  readval-cause holds before now (faults.Cells c) k = (evaluated-may (read x r e) earlier motion budget q h, k.0, sym asked-is ∙ k.1, k.2)
  readval-cause holds before now (faults.File f) k = (evaluated-may (read x r e) earlier motion budget q h, k.0, sym asked-is ∙ k.1, k.2)
  readval-cause holds before now (faults.Csv f) k = (evaluated-may (read x r e) earlier motion budget q h, k.0, sym asked-is ∙ k.1, k.2)
  readval-cause holds before now faults.Device k = (evaluated-may (read x r e) earlier motion budget q h, k.0, sym asked-is ∙ k.1, k.2)
  readval-cause holds before now faults.Memory k = tt

  -- where no file is read, no call is made for what is asked for
  pub readval-unread : ReadsNoFile (read x r e) earlier budget → ForSome (asked_in r (held_value q.value)) (CallsNoFile budget)
  readval-unread k = subst (λ o. ForSome o (CallsNoFile budget)) (sym asked-is) k

-- what the check says of a readval
record ReadHas (r : Reader) (e : Tree) (earlier : List Declaration) : Type 0 where
  pub within : IsWithin (reader_type r)
  pub has : Has e (environment_of earlier) [] (argument_type r)

sort-read : (x : Name) (r : Reader) (e : Tree) (earlier : List Declaration) (s : Sort) → DeclHas (read x r e) (environment_of earlier) s → ReadHas r e earlier
sort-read x r e earlier (value t) h = record { within = subst IsWithin h.0 h.1; has = h.3 }
sort-read x r e earlier (macro s t) h = absurd h

module _ (ds : List Declaration) (sorts : List Sort) (n : ℕ) (V : Outcomes) (stands : IsReadyAt ds sorts n V) where
  module _ (x : Name) (r : Reader) (e : Tree) (here : slice_get ds (n - 1) ≡ Some (read x r e)) where
    read-has : ReadHas r e (before ds n)
    read-has = let s = sort-at ds sorts n (read x r e) stands.checked here in sort-read x r e (before ds n) s.0 s.2.principal.has

    pub reader-within : IsWithin (reader_type r)
    reader-within = read-has.within

    -- the argument's value has the reader's argument type
    pub argument-typed : (o : Option Datum) → o ≡ query_value (read x r e) (earlier_of ds V) → ForSome o (HasType (argument_type r))
    argument-typed o q v k =
        typed-value (earlier_of ds V) stands.typed e (argument_type r) v
        (subst (λ l. Has e (environment_of l) [] (argument_type r)) (sym (declarations-before ds V n stands.many)) read-has.has) (sym q ∙ k)

  -- the answer of a run
  pub answer-is : (d : Declaration) → slice_get ds (n - 1) ≡ Some d → (motion graphs : Bool) (budget : ℕ) (holds : Option Content) (r : Execution) (a : Answer) →
      IsExecution d (earlier_of ds V) motion graphs budget holds r → IsAnswerOf d (slice_get sorts (n - 1)) r a → IsAnswer d (earlier_of ds V) (slice_get sorts (n - 1)) motion graphs budget a
  answer-is d e motion graphs budget holds r a h k =
      let s = sort-at ds sorts n d stands.checked e in
      let z : s.0 ≡ sort_of a.ty = (let y = sym s.1 ∙ k.found in cc) in
      record {
        name = k.name;
        found = k.found;
        principal =
            subst (λ l. IsPrincipal d (environment_of l) (sort_of a.ty)) (sym (declarations-before ds V n stands.many))
            (subst (IsPrincipal d (environment_of (before ds n))) z s.2.principal);
        start = k.start ∙ h.start;
        planned =
            subst (λ t. HasPlan d (earlier_of ds V) t a.trace (term_of a.plan)) (sym (k.start ∙ h.start))
            (subst (λ t. HasPlan d (earlier_of ds V) (start_of d (earlier_of ds V)) a.trace t) (sym k.plan)
            (subst (λ s. HasPlan d (earlier_of ds V) (start_of d (earlier_of ds V)) s (term_of r.plan)) (sym k.trace) h.planned));
        moved = subst (λ t. HasMotion d (earlier_of ds V) motion t a.moved) (sym k.plan) (subst (HasMotion d (earlier_of ds V) motion (term_of r.plan)) (sym k.moved) h.moved);
        graph = subst (λ t. HasGraph d (earlier_of ds V) graphs budget t a.graph) (sym k.plan)
            (subst (HasGraph d (earlier_of ds V) graphs budget (term_of r.plan)) (sym k.graph) h.graph);
      }

no-reading : ReaderMeaning
no-reading r v = None

no-reads : ReadsHave no-reading
unfolding no-reading
no-reads r a w e = cc

-- the outcome of a declaration has its types
outcome-typed : (d : Declaration) (earlier : Earlier) (holds : Option Content) (o : Option Datum) → OutcomesTyped earlier → IsOutcome d earlier holds o → OutcomesTyped ((d, o) ∷ earlier)
outcome-typed (val x e) earlier holds o h k = outcome-has no-reading no-reads earlier h (val x e) o (ap Some (sym k))
outcome-typed (mac f p body) earlier holds o h k = outcome-has no-reading no-reads earlier h (mac f p body) o (ap Some (sym k))
outcome-typed (bare e) earlier holds o h k = outcome-has no-reading no-reads earlier h (bare e) o (ap Some (sym k))
outcome-typed (read x r e) earlier holds o h k = ((λ t v i m u. go (den e (globals_of earlier) []) k t v i.0 m u), h)
  where
    go : (p : Option Datum) → IsReadOutcome r p holds o → (t : Ty) (v : Datum) → t ≡ reader_type r → o ≡ Some v → (u : Subst) → HasType (apply u t) v
    go None k t v i m u = let z = sym k ∙ m in cc
    go (Some a) k t v i m u =
        let z : k.1 ≡ v = (let y = sym k.3 ∙ m in cc) in
        subst (λ X. HasType X v) (sym (ap (apply u) i ∙ apply-reader_type u r)) (subst (HasType (reader_type r)) z k.4.typed)

-- a macro has no value
outcome-bare : (d : Declaration) (earlier : Earlier) (holds : Option Content) (o : Option Datum) → NoMacroHasValue earlier → IsOutcome d earlier holds o → NoMacroHasValue ((d, o) ∷ earlier)
outcome-bare (val x e) earlier holds o h k = h
outcome-bare (mac f p body) earlier holds o h k = (k, h)
outcome-bare (read x r e) earlier holds o h k = h
outcome-bare (bare e) earlier holds o h k = h

-- where the files are told, the outcome is the script's
outcome-told : (d : Declaration) (earlier : Earlier) (holds : Option Content) (o : Option Datum) → IsOutcome d earlier holds o → ForSome holds (λ files. outcome_after (reading files) d (globals_of earlier) ≡ Some o)
outcome-told (val x e) earlier holds o k files l = ap Some (sym k)
outcome-told (mac f p body) earlier holds o k files l = ap Some (sym k)
outcome-told (bare e) earlier holds o k files l = ap Some (sym k)
outcome-told (read x r e) earlier holds o k files l = go (den e (globals_of earlier) []) k
  where
    go : (p : Option Datum) → IsReadOutcome r p holds o → read_outcome (reading files r) p ≡ Some o
    go None k = ap Some (sym k)
    go (Some v) k =
        ap (λ w. option_map (λ y. Some y) (w >>= read_value files)) k.2 ∙ ap (option_map (λ y. Some y)) (k.4.told files l) ∙ ap Some (sym k.3)

-- the position that a run binds
pub binds-is : (d : Declaration) (earlier : Earlier) (motion graphs : Bool) (budget : ℕ) (holds : Option Content) (r : Execution) (sort : Option Sort) (a : Answer) (old new : Bound) →
    OutcomesFit earlier → IsExecution d earlier motion graphs budget holds r → IsAnswerOf d sort r a → new ≡ old ++ (declared_name d, held_value r.value) ∷ [] → BindsPosition d earlier budget holds old new a
binds-is d earlier motion graphs budget holds r sort a old new t h k e = record {
  outcome = held_value r.value;
  bound = e;
  is = h.outcome;
  typed = (outcome-typed d earlier holds (held_value r.value) t.0 h.outcome, outcome-bare d earlier holds (held_value r.value) t.1 h.outcome);
  told = outcome-told d earlier holds (held_value r.value) h.outcome;
  counts =
      subst (λ u. IsCounted d earlier budget holds u a.moved (held_value r.value) (a.by, a.turns)) (sym k.plan)
      (subst (λ m. IsCounted d earlier budget holds (term_of r.plan) m (held_value r.value) (a.by, a.turns)) (sym k.moved)
      (subst (λ b. IsCounted d earlier budget holds (term_of r.plan) r.moved (held_value r.value) (b, a.turns)) (sym k.by)
      (subst (λ n. IsCounted d earlier budget holds (term_of r.plan) r.moved (held_value r.value) (r.by, n)) (sym k.turns) h.counts)));
}

-- as many outcomes as positions before n
pub bound-many : (ds : List Declaration) (n : ℕ) (bound : Bound) → n ≤ length ds → AreBound ds n bound → length (outcomes bound) ≡ n - 1
bound-many ds n bound l e =
    omega (arith, l, ap length e, length-map bound (λ b. b.0), length-map bound (λ b. b.1), length-map (take (n - 1) ds) declared_name, length-take (n - 1) ds)

-- the scheme at a place
pub scheme-at : (xs : List Scheme) (i : ℕ) (x : Scheme) → i < length xs → x ≡ get_or xs i x → slice_get (sorts_of xs) i ≡ Some (sort_of x)
scheme-at xs i x l e = go xs i ∙ ap (option_map sort_of) (slice_get-get_or xs i x l ∙ ap Some (sym e))
  where
    go : (xs : List Scheme) (i : ℕ) → slice_get (sorts_of xs) i ≡ option_map sort_of (slice_get xs i)
    go [] i = refl
    go (x ∷ xs) zero = refl
    go (x ∷ xs) (suc i) = go xs i

pub length-sorts_of : (xs : List Scheme) → length (sorts_of xs) ≡ length xs
length-sorts_of [] = refl
length-sorts_of (x ∷ xs) = omega (arith, length-sorts_of xs)

-- as many sorts as declarations
pub sorts-many : (earlier ds : List Declaration) (ss : List Sort) → ArePrincipal earlier ds ss → length ss ≡ length ds
sorts-many earlier [] [] h = refl
sorts-many earlier [] (s ∷ ss) h = absurd h
sorts-many earlier (d ∷ ds) [] h = absurd h
sorts-many earlier (d ∷ ds) (s ∷ ss) h = omega (arith, sorts-many (d ∷ earlier) ds ss h.1)
