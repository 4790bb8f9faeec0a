-- What a type tells of a term and its parts, and what rewritings keep and lower.
use Rattle.std.proofs.Common.{◌≡◌, ℕ, zero, suc, ◌+◌, ◌*◌, ◌<◌, ◌≤◌, List, [], ◌∷◌, ◌++◌, length, Some, sym, ap, subst, arith, inl}
use Rattle.std.proofs.lemmas.Nat.{mul-le}
use Rattle.std.proofs.lemmas.List.{length-append}
use Rattle.aql_ty.specs.Types.{Ty}
use Rattle.nrca_term.specs.declared.trace.Step.{Step}
use Rattle.nrca_term.specs.Term.{Term, Parts, node, none, part, parts_of, child_of, binders_of, count, weight_of}
use Rattle.nrca_term.specs.Typing.{Arg, ctyped, parts_typed, instances}
use Rattle.nrca_term.specs.TypedPlaces.{Keeps}
use Rattle.nrca_term.specs.Facts.{Context}
use Rattle.nrca_term.specs.Measure.{Below, left_of}
use Rattle.nrca_term.specs.Laws.TypedForm.{well_formed-typed, closed-typed}
use Rattle.nrca_term.specs.Laws.TypedPlaces.{typed-place, keeps-put_at}
use Rattle.nrca_term.specs.Laws.Measure.{below-put_at, below-weight, left-falls, pairs-weight, weight_of-child, form-positive, parts_weight-count}
use Rattle.nrca_rule_laws.specs.Fitting.{IsSmallPart}
use Rattle.nrca_rule_laws.specs.Laws.Lowering.{lowers}
use Rattle.nrca_ranges.specs.Bounds.{Ranges}
use Rattle.nrca_ranges.specs.Context.{IsSmallTerm}
use Rattle.nrca_ranges.specs.Laws.Entered.{room-part}
use Rattle.nrca_normal.specs.Conditions.{name_of}
use Rattle.nrca_normal.specs.Rewriting.{IsRewriting, Leads}
use Rattle.nrca_normal.specs.Descent.{IsTypedAmong, steps_left}

-- a typed term is small among its variables
pub typed-small : (n : ℕ) (t : Term) → IsTypedAmong n t → IsSmallTerm n t
typed-small n t h = subst (λ m. IsSmallTerm m t) h.among (closed-typed (instances h.given) h.env t h.type h.typed, omega (arith, h.small, h.among))

pub typed-room : (n : ℕ) (t : Term) → IsTypedAmong n t → IsSmallPart t
typed-room n t h = (n, (typed-small n t h).0, omega (arith, h.small))

-- a part has a type under its own variables
part-typed : (G : ℕ → Ty → Type 0) (env : List Ty) (ps : Parts) (args : List Arg) (i : ℕ) (u : Term) → parts_typed G env ps args → child_of ps i ≡ Some u →
    (a : Arg) × (length a.own ≡ binders_of ps i) × ctyped G (a.own ++ env) u a.has
part-typed G env none args i u t e = cc
part-typed G env (part k s ps) args zero u t e = let z : s ≡ u = cc in (t.0, t.3, subst (λ x. ctyped G (t.0.own ++ env) x t.0.has) z t.4)
part-typed G env (part k s ps) args (suc i) u t e = part-typed G env ps t.1 i u t.5 e

pub typed-part : (n : ℕ) (t : Term) (i : ℕ) (u : Term) → IsTypedAmong n t → child_of (parts_of t) i ≡ Some u → IsTypedAmong (n + binders_of (parts_of t) i) u
typed-part n (node f ps) i u h e =
    let a = part-typed (instances h.given) h.env ps h.typed.1 i u h.typed.3 e in
    record {
      given = h.given;
      env = a.0.own ++ h.env;
      type = a.0.has;
      typed = a.2;
      among = omega (arith, length-append a.0.own h.env, a.1, h.among);
      small = room-part n (node f ps) i u (well_formed-typed (instances h.given) h.env (node f ps) h.type h.typed) e h.small;
    }

pub part-number : (n : ℕ) (t : Term) (i : ℕ) → n + weight_of t ≤ 1280000 → i < count (parts_of t) → i < 1280000
part-number n (node f ps) i h l = omega (arith, l, h, parts_weight-count ps, form-positive f)

module _ (gs : Ranges) (c : Context) where
  -- a rewriting keeps types
  pub rewriting-types : (t u : Term) (s : Step) → IsRewriting gs c t s u → (given : List Ty) → Keeps (instances given) t u
  rewriting-types t u s h given = subst (Keeps (instances given) t) (sym h.put) (keeps-put_at (instances given) s.path t h.from h.to h.found (h.made.0.types given))

  -- and lowers the measure
  rewriting-falls : (t u : Term) (s : Step) (given env : List Ty) (T : Ty) → ctyped (instances given) env t T → IsRewriting gs c t s u → Below u t
  rewriting-falls t u s given env T ty h =
      let q = typed-place (instances given) s.path env t h.from T ty h.found in
      subst (λ x. Below x t) (sym h.put) (below-put_at s.path t h.from h.to h.found (lowers (instances given) q.around q.type (name_of h.firing) h.from h.to h.made.0.ways q.typed h.made.0.redex))

  -- so do several
  pub leads-types : (t u : Term) (steps : List Step) → Leads gs c t steps u → (given : List Ty) → Keeps (instances given) t u
  unfolding Leads
  leads-types t u [] h given = λ env T k. subst (λ x. ctyped (instances given) env x T) h k
  leads-types t u (s ∷ steps) h given = λ env T k. leads-types h.0 u steps h.2 given env T (rewriting-types t h.0 s h.1 given env T k)

  pub leads-weight : (t u : Term) (steps : List Step) (given env : List Ty) (T : Ty) → ctyped (instances given) env t T → Leads gs c t steps u → weight_of u ≤ weight_of t
  unfolding Leads
  leads-weight t u [] given env T ty h = omega (arith, ap weight_of h)
  leads-weight t u (s ∷ steps) given env T ty h =
      omega (arith, below-weight h.0 t (rewriting-falls t h.0 s given env T ty h.1), leads-weight h.0 u steps given env T (rewriting-types t h.0 s h.1 given env T ty) h.2)

  -- each lowers what is left to fall
  pub leads-left : (w : ℕ) (t u : Term) (steps : List Step) (given env : List Ty) (T : Ty) → weight_of t ≤ w → ctyped (instances given) env t T → Leads gs c t steps u → length steps + left_of (w * w) u ≤ left_of (w * w) t
  unfolding Leads
  leads-left w t u [] given env T l ty h = omega (arith, ap (left_of (w * w)) h)
  leads-left w t u (s ∷ steps) given env T l ty h =
      let b : Below h.0 t = rewriting-falls t h.0 s given env T ty h.1 in
      let m : weight_of h.0 ≤ w = omega (arith, l, below-weight h.0 t b) in
      let f : left_of (w * w) h.0 < left_of (w * w) t = left-falls (w * w) h.0 t (omega (arith, pairs-weight h.0, mul-le (weight_of h.0) (weight_of h.0) w w m m)) b in
      omega (arith, f, leads-left w h.0 u steps given env T m (rewriting-types t h.0 s h.1 given env T ty) h.2)

  pub leads-typed : (n : ℕ) (t u : Term) (steps : List Step) → IsTypedAmong n t → Leads gs c t steps u → IsTypedAmong n u
  leads-typed n t u steps k h = record {
    given = k.given;
    env = k.env;
    type = k.type;
    typed = leads-types t u steps h k.given k.env k.type k.typed;
    among = k.among;
    small = omega (arith, k.small, leads-weight t u steps k.given k.env k.type k.typed h);
  }

  pub leads-falls : (n : ℕ) (t u : Term) (steps : List Step) → IsTypedAmong n t → Leads gs c t steps u → length steps + steps_left u ≤ steps_left t
  unfolding steps_left
  leads-falls n t u steps k h = leads-left 1280000 t u steps k.given k.env k.type (omega (arith, k.small)) k.typed h

-- less is left in a part
pub part-falls : (n : ℕ) (t : Term) (i : ℕ) (u : Term) → IsTypedAmong n t → child_of (parts_of t) i ≡ Some u → steps_left u < steps_left t
unfolding steps_left
part-falls n t i u h e =
    let l : weight_of u < weight_of t = weight_of-child t i u e in
    let m : weight_of u ≤ 1280000 = omega (arith, l, h.small) in
    left-falls (1280000 * 1280000) u t (omega (arith, pairs-weight u, mul-le (weight_of u) (weight_of u) 1280000 1280000 m m)) (inl l)
