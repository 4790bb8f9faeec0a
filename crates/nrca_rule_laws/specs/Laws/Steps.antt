-- A step keeps the meaning, the types and the valid constants of a closed typed term and lowers its measure, and so does a chain of steps.
use Rattle.std.proofs.Math.Nat.{pow-zero, pow-succ'}
use Rattle.std.proofs.Common.{◌^◌, ◌≡◌, ℕ, ◌+◌, List, [], ◌∷◌, length, sym, ap, subst, ◌∙◌, arith, ◌*◌, ◌≤◌}
use Rattle.aql_value.specs.Lists.{Every}
use Rattle.aql_value.specs.Laws.Lists.{Every-join}
use Rattle.aql_value.specs.Valid.{IsValue}
use Rattle.aql_ty.specs.Types.{Ty}
use Rattle.aql_ty.specs.ValueTypes.{HaveTypes}
use Rattle.nrca_term.specs.declared.trace.Rule.{Rule}
use Rattle.nrca_term.specs.Term.{Term, weight_of}
use Rattle.nrca_term.specs.Meaning.{Outcomes, cden}
use Rattle.nrca_term.specs.Places.{reach}
use Rattle.nrca_term.specs.Laws.Placing.{cden-put_at}
use Rattle.nrca_term.specs.Laws.Measure.{left-falls, left-bound, below-put_at, below-weight, pairs-weight}
use Rattle.nrca_term.specs.Typing.{ctyped, OutcomesHave}
use Rattle.nrca_term.specs.Laws.TypedForm.{well_formed-typed}
use Rattle.nrca_term.specs.Laws.TypedPlaces.{typed-place, keeps-put_at}
use Rattle.nrca_term.specs.Facts.{facts_at, FactsHold}
use Rattle.nrca_term.specs.Laws.Contexts.{stands}
use Rattle.nrca_term.specs.Rules.{Side, Step, Replay}
use Rattle.nrca_term.specs.Valid.{HasConstants, AreValidOutcomes}
use Rattle.nrca_term.specs.Laws.Valid.{reach-valid}
use Rattle.std.proofs.lemmas.Nat.{mul-le}
use Rattle.nrca_term.specs.declared.trace.Step as code
use Rattle.nrca_term.specs.Measure.{Below, left_of}
use Rattle.nrca_rule_laws.specs.Laws.Lowering.{lowers}
use Rattle.nrca_rule_laws.specs.Laws.Keeping.{rule-keeps}
use Rattle.nrca_rule_laws.specs.Laws.Types.{rule-types}
use Rattle.nrca_rule_laws.specs.Laws.Constants.{rule-constants, constants-place, constants-put_at}

-- a step keeps the meaning of a closed typed term
pub step-keeps : (G : ℕ → Ty → Type 0) (V : Outcomes) → OutcomesHave G V → AreValidOutcomes V → (R : Rule) (path : List ℕ) (t u : Term) (T : Ty) → ctyped G [] t T → HasConstants t → Step V R path t u → cden V [] t ≡ cden V [] u
step-keeps G V g a R path t u T ty h s =
    let p = typed-place G path [] t s.from T ty s.found in
    cden-put_at V path [] t s.from s.to s.found
    (Every-join (λ vals. HaveTypes p.around vals × FactsHold V (facts_at t path) vals) (λ vals. Every IsValue vals × Side V R vals s.from s.to s.ways) (λ vals. cden V vals s.from ≡ cden V vals s.to)
    (λ vals m n. rule-keeps G V (facts_at t path) p.around vals p.type R s.from s.to s.ways
    (record { outcomes = g; are = a; have = m.0; values = n.0; facts = m.1; typed = p.typed; constants = constants-place path t s.from h s.found }) s.redex n.1 s.known)
    (reach V [] t path)
    (Every-join (HaveTypes p.around) (FactsHold V (facts_at t path)) _ (λ vals x y. (x, y)) (reach V [] t path) (p.values V [] g tt) (stands V t (well_formed-typed G [] t T ty) path))
    (Every-join (Every IsValue) (λ vals. Side V R vals s.from s.to s.ways) _ (λ vals x y. (x, y)) (reach V [] t path) (reach-valid V a t [] path h tt) s.side))
    ∙ sym (ap (cden V []) s.put)

-- a step keeps types
pub step-types : (G : ℕ → Ty → Type 0) (V : Outcomes) (R : Rule) (path : List ℕ) (t u : Term) (env : List Ty) (T : Ty) → ctyped G env t T → Step V R path t u → ctyped G env u T
step-types G V R path t u env T ty s = subst (λ x. ctyped G env x T) (sym s.put) (keeps-put_at G path t s.from s.to s.found (λ e A c. rule-types G e A R s.from s.to s.ways s.redex c) env T ty)

-- a step keeps valid constants
pub step-constants : (V : Outcomes) (R : Rule) (path : List ℕ) (t u : Term) → HasConstants t → Step V R path t u → HasConstants u
step-constants V R path t u h s = subst HasConstants (sym s.put) (constants-put_at path t s.from s.to s.found h (rule-constants R s.from s.to s.ways s.redex (constants-place path t s.from h s.found)))

-- a step lowers the measure
pub step-lowers : (G : ℕ → Ty → Type 0) (V : Outcomes) (R : Rule) (path : List ℕ) (t u : Term) (T : Ty) → ctyped G [] t T → Step V R path t u → Below u t
step-lowers G V R path t u T ty s =
    let p = typed-place G path [] t s.from T ty s.found in
    subst (λ x. Below x t) (sym s.put) (below-put_at path t s.from s.to s.found (lowers G p.around p.type R s.from s.to s.ways p.typed s.redex))

-- a chain keeps types
pub replay-types : (G : ℕ → Ty → Type 0) (V : Outcomes) (trace : List code.Step) (t u : Term) (T : Ty) → ctyped G [] t T → Replay V trace t u → ctyped G [] u T
replay-types G V [] t u T ty h = subst (λ x. ctyped G [] x T) h ty
replay-types G V (s ∷ trace) t u T ty h = replay-types G V trace h.0 u T (step-types G V s.rule s.path t h.0 [] T ty h.1) h.2

-- a chain keeps the meaning
pub replay-keeps : (G : ℕ → Ty → Type 0) (V : Outcomes) → OutcomesHave G V → AreValidOutcomes V → (trace : List code.Step) (t u : Term) (T : Ty) → ctyped G [] t T → HasConstants t → Replay V trace t u → cden V [] t ≡ cden V [] u
replay-keeps G V g a [] t u T ty c h = ap (cden V []) h
replay-keeps G V g a (s ∷ trace) t u T ty c h =
    step-keeps G V g a s.rule s.path t h.0 T ty c h.1 ∙ replay-keeps G V g a trace h.0 u T (step-types G V s.rule s.path t h.0 [] T ty h.1) (step-constants V s.rule s.path t h.0 c h.1) h.2

-- a chain's length is at most what its measure falls by
pub replay-falls : (G : ℕ → Ty → Type 0) (V : Outcomes) (w : ℕ) (trace : List code.Step) (t u : Term) (T : Ty) → ctyped G [] t T → weight_of t ≤ w → Replay V trace t u → length trace + left_of (w * w) u ≤ left_of (w * w) t
replay-falls G V w [] t u T ty l h = omega (arith, ap (left_of (w * w)) h)
replay-falls G V w (s ∷ trace) t u T ty l h =
    let b = step-lowers G V s.rule s.path t h.0 T ty h.1 in
    let m : weight_of h.0 ≤ w = omega (arith, l, below-weight h.0 t b) in
    omega (arith, replay-falls G V w trace h.0 u T (step-types G V s.rule s.path t h.0 [] T ty h.1) m h.2, left-falls (w * w) h.0 t (omega (arith, pairs-weight h.0, mul-le (weight_of h.0) (weight_of h.0) w w m m)) b)

-- a third power
pub cube : (n : ℕ) → n ^ 3 ≡ n * (n * n)
cube n = pow-succ' n 2 ∙ ap (λ m. n * m) (pow-succ' n 1 ∙ ap (λ m. n * m) (pow-succ' n 0 ∙ ap (λ m. n * m) (pow-zero n) ∙ omega arith))

-- a chain has at most (W + 1)^3 steps, W being the weight of its first term
pub replay-few : (G : ℕ → Ty → Type 0) (V : Outcomes) (trace : List code.Step) (t u : Term) (T : Ty) → ctyped G [] t T → Replay V trace t u → length trace ≤ (weight_of t + 1) ^ 3
replay-few G V trace t u T ty h = omega (arith, replay-falls G V (weight_of t) trace t u T ty (omega arith) h, left-bound t, cube (weight_of t + 1))
