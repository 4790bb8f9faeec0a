-- The positions of the prelude.
use Rattle.std.proofs.Common.{ℕ, zero, suc, ◌≡◌, ◌+◌, ◌-◌, ◌<◌, ◌≤◌, List, [], ◌∷◌, ◌++◌, refl, sym, ap, ◌∙◌, subst, length, take, map, arith, true}
use Rattle.std.proofs.lemmas.List.{map-append, length-replicate}
use Rattle.std.specs.List.{slice_get}
use Rattle.std.specs.Prelude.{Option, Some, None, replicate}
use Rattle.aql_outside.specs.Contents.{Content}
use Rattle.aql_value.specs.Datum.{Datum}
use Rattle.aql_syntax.specs.Script.{Earlier}
use Rattle.aql_syntax.specs.Tree.{Declaration, val, mac, read, bare, declared_name}
use Rattle.aql_syntax.specs.View.{decls_of}
use Rattle.aql_syntax.specs.Laws.View.{length-decls_of}
use Rattle.aql_script.specs.Laws.Position.{length_positions}
use Rattle.aql_script.specs.Script.{positions}
use Rattle.aql_script.specs.declared.preparing.Prepared.{Prepared}
use Rattle.aql_session.specs.Bound.{Bound, names, outcomes, AreBound, earlier_of}
use Rattle.aql_session.specs.declared.answer.Answer.{Answer}
use Rattle.aql_session.specs.Step.{IsOutcome, OutcomesFit, BindsPosition, ReadsNoFile}
use Rattle.aql_prelude.specs.Prelude.{prelude_count}
use Rattle.aql_run.specs.Answered.{AreAnswered}
use Rattle.aql_run.specs.Laws.Answered.{is_macro, macro_at}
use Rattle.aql_options.specs.Settings.{Settings}
use Rattle.aql_run.specs.Steps.{own, sorts_in, IsPrepared, Declared, Progress}
use Rattle.aql_run.proofs.Answering.{map_take_next, onto_next, next_is}

-- each position of the prelude is a macro
prelude_macro : (p : Prepared) (k : ℕ) (d : Declaration) → IsPrepared p → k < prelude_count → slice_get (decls_of p.decls.items.items) k ≡ Some d → is_macro d ≡ true
prelude_macro p k d h lt e = macro_at (own p) k d lt (ap (λ (l : List Declaration). slice_get l k) (sym h.all) ∙ e)

-- a macro has no value
no_outcome : (d : Declaration) (earlier : Earlier) (holds : Option Content) (o : Option Datum) → is_macro d ≡ true → IsOutcome d earlier holds o → o ≡ None
no_outcome (val x e) earlier holds o m h = absurd cc
no_outcome (mac f p body) earlier holds o m h = h
no_outcome (read x r e) earlier holds o m h = absurd cc
no_outcome (bare e) earlier holds o m h = absurd cc

nones_last : (k : ℕ) (o : Option Datum) → o ≡ None → replicate k None ++ o ∷ [] ≡ replicate (suc k) None
nones_last zero o e = ap (λ (z : Option Datum). z ∷ []) e
nones_last (suc k) o e = ap (λ (l : List (Option Datum)). None ∷ l) (nones_last k o e)

length_nones : (k : ℕ) (V : List (Option Datum)) → V ≡ replicate k None → length V ≡ k
length_nones k V e = ap length e ∙ length-replicate k None

-- the prelude's positions are there
there_is : (p : Prepared) (k : ℕ) → IsPrepared p → k < prelude_count → (d : Declaration) × (slice_get (decls_of p.decls.items.items) k ≡ Some d)
there_is p k h lt =
    let n = length_positions (own p) in
    let e = ap length h.all in
    let c = length-decls_of p.decls.items.items in
    let same : suc k - 1 ≡ k = omega arith in
    let found = next_is p (suc k) (omega arith) (omega (arith, lt, n, e, c)) in
    (found.0, subst (λ i. slice_get (decls_of p.decls.items.items) i ≡ Some found.0) same found.1)

-- one position of the prelude more
pub one_declared : (p : Prepared) (budget : ℕ) (holds : Option Content) (s s' : Bound) (a : Answer) (k : ℕ) → IsPrepared p → k < prelude_count → Declared p k s →
    ((d : Declaration) → slice_get (decls_of p.decls.items.items) k ≡ Some d → BindsPosition d (earlier_of (decls_of p.decls.items.items) (outcomes s)) budget holds s s' a) →
    Declared p (suc k) s'
one_declared p budget holds s s' a k h lt so_far binds = let x = there_is p k h lt in made x.0 x.1 (binds x.0 x.1)
  where
    made : (d : Declaration) → slice_get (decls_of p.decls.items.items) k ≡ Some d → BindsPosition d (earlier_of (decls_of p.decls.items.items) (outcomes s)) budget holds s s' a → Declared p (suc k) s'
    made d e b =
        let there : slice_get (positions (own p)) k ≡ Some d = ap (λ (l : List Declaration). slice_get l k) (sym h.all) ∙ e in
        let here : suc k - 1 ≡ k = omega arith in
        let after : suc (suc k) - 1 ≡ suc k = omega arith in
        let nothing = no_outcome d (earlier_of (decls_of p.decls.items.items) (outcomes s)) holds b.outcome (prelude_macro p k d h lt e) b.is in
        let more : outcomes s' ≡ outcomes s ++ b.outcome ∷ [] = ap outcomes b.bound ∙ map-append (λ z. z.1) s ((declared_name d, b.outcome) ∷ []) in
        let count : length (outcomes s) ≡ k = length_nones k (outcomes s) so_far.none in
        record {
          bound = ap names b.bound
              ∙ (map-append (λ z. z.0) s ((declared_name d, b.outcome) ∷ [])
              ∙ (ap (λ l. l ++ declared_name d ∷ []) (so_far.bound ∙ ap (λ i. map declared_name (take i (positions (own p)))) here)
              ∙ (sym (map_take_next declared_name (positions (own p)) k d there) ∙ ap (λ i. map declared_name (take i (positions (own p)))) (sym after))));
          none = more ∙ (ap (λ (V : List (Option Datum)). V ++ b.outcome ∷ []) so_far.none ∙ nones_last k b.outcome nothing);
          types = subst (λ (V : List (Option Datum)). OutcomesFit (earlier_of (positions (own p)) V)) (sym more)
              (subst OutcomesFit (sym (onto_next (positions (own p)) (outcomes s) [] d b.outcome (ap (slice_get (positions (own p))) count ∙ there)))
              (subst (λ (ds : List Declaration). OutcomesFit ((d, b.outcome) ∷ earlier_of ds (outcomes s))) h.all b.typed));
        }

-- after the prelude no declaration of the script was answered
pub at_first : (p : Prepared) (settings : Settings) (holds : Option Content) (s : Bound) → Declared p prelude_count s → Progress p settings holds [] s
at_first p settings holds s h = record {
  bound = h.bound;
  types = h.types;
  answered = subst (λ (V : List (Option Datum)). AreAnswered (own p) (sorts_in p) settings holds [] V) (sym h.none) (record {
    few = omega arith;
    many = refl;
    prelude = refl;
    each = λ i d a o f g k. absurd cc;
  });
}

-- What a step asks of a session with the first positions, n being the next one.
prelude_long : (p : Prepared) → IsPrepared p → prelude_count ≤ length p.decls.items.items
prelude_long p h =
    let n = length_positions (own p) in
    let e = ap length h.all in
    let c = length-decls_of p.decls.items.items in
    omega (arith, n, e, c)

pub prelude_last : (p : Prepared) (n : ℕ) → IsPrepared p → n < prelude_count + 1 → n ≤ length p.decls.items.items
prelude_last p n h lt = let long = prelude_long p h in omega (arith, long, lt)

pub prelude_bound : (p : Prepared) (n : ℕ) (s : Bound) → IsPrepared p → 1 ≤ n → Declared p (n - 1) s → AreBound (decls_of p.decls.items.items) n s
prelude_bound p n s h one so_far =
    let same : suc (n - 1) - 1 ≡ n - 1 = omega arith in
    subst (λ (ds : List Declaration). names s ≡ map declared_name (take (n - 1) ds)) (sym h.all)
    (so_far.bound ∙ ap (λ k. map declared_name (take k (positions (own p)))) same)

pub prelude_types : (p : Prepared) (k : ℕ) (s : Bound) → IsPrepared p → Declared p k s → OutcomesFit (earlier_of (decls_of p.decls.items.items) (outcomes s))
prelude_types p k s h so_far = subst (λ (ds : List Declaration). OutcomesFit (earlier_of ds (outcomes s))) (sym h.all) so_far.types

-- the next position was bound
pub next_declared : (p : Prepared) (budget : ℕ) (holds : Option Content) (s s' : Bound) (a : Answer) (n : ℕ) → IsPrepared p → 1 ≤ n → n < prelude_count + 1 → Declared p (n - 1) s →
    ((d : Declaration) → slice_get (decls_of p.decls.items.items) (n - 1) ≡ Some d → BindsPosition d (earlier_of (decls_of p.decls.items.items) (outcomes s)) budget holds s s' a) →
    Declared p (n + 1 - 1) s'
next_declared p budget holds s s' a n h one lt so_far binds =
    let same : suc (n - 1) ≡ n + 1 - 1 = omega (arith, one) in
    subst (λ k. Declared p k s') same (one_declared p budget holds s s' a (n - 1) h (omega (arith, one, lt)) so_far binds)

macro_unread : (d : Declaration) (earlier : Earlier) (budget : ℕ) → is_macro d ≡ true → ReadsNoFile d earlier budget
macro_unread (val x e) earlier budget m = absurd cc
macro_unread (mac f p body) earlier budget m = λ a e. absurd cc
macro_unread (read x r e) earlier budget m = absurd cc
macro_unread (bare e) earlier budget m = absurd cc

-- the declarations of the prelude read no file
pub prelude_unread : (p : Prepared) (budget : ℕ) (V : List (Option Datum)) (n : ℕ) → IsPrepared p → 1 ≤ n → n < prelude_count + 1 →
    (d : Declaration) × (slice_get (decls_of p.decls.items.items) (n - 1) ≡ Some d) × ReadsNoFile d (earlier_of (decls_of p.decls.items.items) V) budget
prelude_unread p budget V n h one lt =
    let x = there_is p (n - 1) h (omega (arith, one, lt)) in
    (x.0, x.1, macro_unread x.0 (earlier_of (decls_of p.decls.items.items) V) budget (prelude_macro p (n - 1) x.0 h (omega (arith, one, lt)) x.1))
