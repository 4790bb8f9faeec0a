-- The evaluation of a query's terms is that of the query.
use Rattle.std.proofs.Common.{◌≡◌, ℕ, ◌-◌, ◌<◌, ◌≤◌, Bool, List, [], ◌∷◌, length, Option, Some, sym, ap, ◌∙◌, subst, arith, inl, inr, if◌then◌else◌}
use Rattle.std.specs.Global.{Box}
use Rattle.std.specs.Option.{ForSome}
use Rattle.std.proofs.lemmas.Bool.{cases_lt, le-ltb, lt-ltb}
use Rattle.aql_value.specs.Valid.{IsValue}
use Rattle.aql_syntax.specs.Size.{before}
use Rattle.aql_syntax.specs.Tree.{Declaration}
use Rattle.aql_syntax.specs.Script.{Earlier}
use Rattle.nrca_loops.specs.Values.{held_value}
use Rattle.nrca_term.specs.Meaning.{Outcomes, cden}
use Rattle.nrca_term.specs.Term.{Term}
use Rattle.nrca_term.specs.Turns.{settle}
use Rattle.nrca_term.specs.View.{term_of}
use Rattle.nrca_term.specs.declared.trace.Step as code
use Rattle.nrca_normal.specs.Planned.{IsPlan}
use Rattle.nrca_motion.specs.declared.still.Moved.{Moved}
use Rattle.aql_desugar_spec.specs.Positions.{outcomes_of}
use Rattle.aql_desugar_spec.specs.Start.{query}
use Rattle.aql_session.specs.Bound.{earlier_of}
use Rattle.aql_session.specs.Planned.{IsPlanned, EvaluatesOne, PassAll}
use Rattle.aql_session.specs.Executions.{IsQuery, IsEvaluated, IsSpentFault, query_value}
use Rattle.aql_session.specs.Step.{by_moved, choice, first_within, moved_term, moved_turns, start_term, start_of, query_turns, turns_in, IsMovedBy, MayBeEvaluated}
use Rattle.aql_session.specs.declared.answer.Ran.{Ran}
use Rattle.aql_session.specs.declared.answer.Ran.TheVariants as ran
use Rattle.aql_session.specs.declared.answer.StepFault.{StepFault}
use Rattle.aql_session.specs.declared.answer.StepFault.TheVariants as faults
use Rattle.aql_session.specs.declared.queries.Evaluated.{Evaluated}
use Rattle.aql_session.specs.declared.queries.Planned.{Planned}
use Rattle.aql_session.proofs.Positions.{start-at, value-at, outcomes-earlier}

-- Which term counts.

-- the first is within the budget, or it is passed over
within : (budget : ℕ) (c : Ran × ℕ) (cs : List (Ran × ℕ)) → c.1 ≤ budget → first_within budget (c ∷ cs) ≡ Some c
within budget c cs h = ap (λ b. if b then first_within budget cs else Some c) (le-ltb budget c.1 h)

past : (budget : ℕ) (c : Ran × ℕ) (cs : List (Ran × ℕ)) → budget < c.1 → first_within budget (c ∷ cs) ≡ first_within budget cs
past budget c cs h = ap (λ b. if b then first_within budget cs else Some c) (lt-ltb budget c.1 h)

-- the turns of what counts are within the budget
first-fits : (budget : ℕ) (cs : List (Ran × ℕ)) (c : Ran × ℕ) → first_within budget cs ≡ Some c → c.1 ≤ budget
first-fits budget [] c e = cc
first-fits budget (x ∷ cs) c e = elim (cases_lt budget x.1) [
  | inl h ↦ first-fits budget cs c (sym (past budget x cs h) ∙ e)
  | inr h ↦ (let z = sym (within budget x cs h) ∙ e in let y : x ≡ c = cc in subst (λ w. w.1 ≤ budget) y h)
]

module _ (d : Declaration) (earlier : Earlier) (motion : Bool) (budget : ℕ) (q : Evaluated) (h : IsEvaluated d earlier motion budget q) where
  -- a query that was evaluated took turns within the budget
  pub evaluated-within : q.turns ≤ budget
  evaluated-within = first-fits budget
      ((ran.Plan, turns_in earlier (term_of q.plan)) ∷ (ran.Start, query_turns d earlier) ∷ by_moved (moved_turns (outcomes_of earlier) q.moved)) (q.by, q.turns) h.counts

  -- and one of its terms counts
  pub evaluated-may : MayBeEvaluated d earlier motion budget
  evaluated-may = (q.trace, term_of q.plan, q.moved, (q.by, q.turns), h.planned, h.moved, h.counts)

-- the outcomes of the positions before position n
pub outcomes-at : (ds : List Declaration) (V : Outcomes) (n : ℕ) → length V ≡ n - 1 → n ≤ length ds → V ≡ outcomes_of (earlier_of ds V)
outcomes-at ds V n many last = let l : length V ≤ length ds = omega (arith, many, last) in sym (outcomes-earlier ds V l)

module _ (ds : List Declaration) (V : Outcomes) (n : ℕ) (many : length V ≡ n - 1) (last : n ≤ length ds) (d : Declaration) (t : Term)
    (start : t ≡ start_term (query d) (before ds n)) where
  term : t ≡ start_of d (earlier_of ds V)
  term = start ∙ start-at ds V n many last d

  outcomes-are : V ≡ outcomes_of (earlier_of ds V)
  outcomes-are = outcomes-at ds V n many last

  turns : (u : Term) → settle V [] u ≡ turns_in (earlier_of ds V) u
  turns u = ap (λ W. settle W [] u) outcomes-are

  plan-is : (trace : List code.Step) (u : Term) → IsPlan V t trace u → IsPlan (outcomes_of (earlier_of ds V)) (start_of d (earlier_of ds V)) trace u
  plan-is trace u p = subst (λ W. IsPlan W (start_of d (earlier_of ds V)) trace u) outcomes-are (subst (λ x. IsPlan V x trace u) term p)

  moved-is : (motion : Bool) (u : Term) (m : Option (Box Moved)) → IsMovedBy motion V u m → IsMovedBy motion (outcomes_of (earlier_of ds V)) u m
  moved-is motion u m h = subst (λ W. IsMovedBy motion W u m) outcomes-are h

  pub evaluated-is : (p : Option Declaration) → p ≡ Some d → IsQuery p → (motion : Bool) (budget : ℕ) (r : Planned) (q : Evaluated) → IsPlanned motion V t r → EvaluatesOne V budget r q →
      IsEvaluated d (earlier_of ds V) motion budget q
  evaluated-is p e k motion budget r q h x =
      let z : k.0 ≡ d = (let y = sym k.2 ∙ e in cc) in
      let v : held_value q.value ≡ cden V [] t = x.value ∙ ap (cden V []) h.start in
      let w : cden V [] t ≡ query_value d (earlier_of ds V) = ap (cden V []) term ∙ value-at ds V n many last d k.1 (subst (λ x. query x ≡ Some k.1) z k.3) in
      record {
        start = x.start ∙ h.start ∙ term;
        planned = subst (λ u. IsPlan (outcomes_of (earlier_of ds V)) (start_of d (earlier_of ds V)) q.trace u) (sym x.plan)
            (subst (λ s. IsPlan (outcomes_of (earlier_of ds V)) (start_of d (earlier_of ds V)) s (term_of r.plan)) (sym x.trace) (plan-is r.trace (term_of r.plan) h.plan));
        moved = subst (λ u. IsMovedBy motion (outcomes_of (earlier_of ds V)) u q.moved) (sym x.plan)
            (subst (IsMovedBy motion (outcomes_of (earlier_of ds V)) (term_of r.plan)) (sym x.moved) (moved-is motion (term_of r.plan) r.moved h.moved));
        counts =
            ap (λ n. choice budget n (query_turns d (earlier_of ds V)) (moved_turns (outcomes_of (earlier_of ds V)) q.moved))
            (sym (turns (term_of q.plan)) ∙ ap (settle V []) x.plan)
            ∙ ap (λ n. choice budget (settle V [] (term_of r.plan)) n (moved_turns (outcomes_of (earlier_of ds V)) q.moved))
            (sym (turns (start_of d (earlier_of ds V))) ∙ ap (settle V []) (sym term ∙ sym h.start))
            ∙ ap (choice budget (settle V [] (term_of r.plan)) (settle V [] (term_of r.start)))
            (ap (λ W. moved_turns W q.moved) (sym outcomes-are) ∙ ap (moved_turns V) x.moved)
            ∙ x.chosen;
        value = v ∙ w;
        same = ap (λ W. cden W [] (term_of q.plan)) (sym outcomes-are) ∙ ap (cden V []) x.plan ∙ h.same ∙ w;
        valid = subst (λ o. ForSome o IsValue) (sym v) h.valid;
      }

  pub spent-is : (motion : Bool) (budget : ℕ) (r : Planned) → IsPlanned motion V t r → (f : StepFault) → PassAll V budget r f → IsSpentFault d (earlier_of ds V) motion budget f
  spent-is motion budget r h (faults.Query s p u m) k = (
    k.0 ∙ h.start ∙ term,
    subst (λ x. IsPlan (outcomes_of (earlier_of ds V)) (start_of d (earlier_of ds V)) u x) (sym k.1)
        (subst (λ x. IsPlan (outcomes_of (earlier_of ds V)) (start_of d (earlier_of ds V)) x (term_of r.plan)) (sym k.2) (plan-is r.trace (term_of r.plan) h.plan)),
    subst (λ n. budget < n) (ap (settle V []) (h.start ∙ term) ∙ turns (start_of d (earlier_of ds V))) k.5,
    subst (λ n. budget < n) (ap (settle V []) (sym k.1) ∙ turns (term_of p)) k.4,
    subst (λ x. IsMovedBy motion (outcomes_of (earlier_of ds V)) x m) (sym k.1)
        (subst (IsMovedBy motion (outcomes_of (earlier_of ds V)) (term_of r.plan)) (sym k.3) (moved-is motion (term_of r.plan) r.moved h.moved)),
    subst (λ n. budget < n)
        (ap (settle V []) (ap (λ x. moved_term x r.moved) (sym k.1) ∙ ap (moved_term (term_of p)) (sym k.3)) ∙ turns (moved_term (term_of p) m)) k.6,
  )
  spent-is motion budget r h (faults.Cells c) k = absurd k
  spent-is motion budget r h (faults.File e) k = absurd k
  spent-is motion budget r h (faults.Csv e) k = absurd k
  spent-is motion budget r h faults.Device k = absurd k
  spent-is motion budget r h faults.Memory k = tt
