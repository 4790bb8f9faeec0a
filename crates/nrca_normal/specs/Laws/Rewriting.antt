-- Rewritings after one another; those of a part are rewritings of its node.
use Rattle.std.proofs.Common.{◌≡◌, ℕ, zero, suc, List, [], ◌∷◌, ◌++◌, map, Some, refl, sym, ap, subst, ◌∙◌, arith}
use Rattle.aql_value.specs.Partial.{◌>>=◌}
use Rattle.nrca_term.specs.declared.trace.Step.{Step}
use Rattle.nrca_term.specs.Term.{Term, Parts, node, none, part, parts_of, child_of, set_child, with_part}
use Rattle.nrca_term.specs.Places.{place_of, put_at, on_child}
use Rattle.nrca_term.specs.Facts.{Context, enter_facts, context_at, context_below}
use Rattle.nrca_rule_laws.specs.Laws.Search.{enter-on}
use Rattle.nrca_ranges.specs.Bounds.{Ranges}
use Rattle.nrca_ranges.specs.Transfer.{enter_ranges, ranges_at}
use Rattle.nrca_ranges.specs.Laws.Replaced.{ranges-put}
use Rattle.nrca_normal.specs.Conditions.{MayFire}
use Rattle.nrca_normal.specs.Rewriting.{IsRewriting, Leads, behind}

-- what is done to a part that is there
on-as : (ps : Parts) (i : ℕ) (p : Term) (g h : Term → Term) → child_of ps i ≡ Some p → g p ≡ h p → on_child ps i g ≡ on_child ps i h
on-as none i p g h e k = refl
on-as (part n t ps) zero p g h e k = let z : p ≡ t = cc in ap (λ x. part n x ps) (ap g (sym z) ∙ k ∙ ap h z)
on-as (part n t ps) (suc i) p g h e k = ap (part n t) (on-as ps i p g h e k)

on-self : (ps : Parts) (i : ℕ) (p : Term) → child_of ps i ≡ Some p → on_child ps i (λ s. p) ≡ ps
on-self none i p e = refl
on-self (part n t ps) zero p e = let z : p ≡ t = cc in ap (λ x. part n x ps) z
on-self (part n t ps) (suc i) p e = ap (part n t) (on-self ps i p e)

on-twice : (ps : Parts) (i : ℕ) (p q : Term) → on_child (on_child ps i (λ s. p)) i (λ s. q) ≡ on_child ps i (λ s. q)
on-twice none i p q = refl
on-twice (part n t ps) zero p q = refl
on-twice (part n t ps) (suc i) p q = ap (part n t) (on-twice ps i p q)

child-on : (ps : Parts) (i : ℕ) (p q : Term) → child_of ps i ≡ Some p → child_of (on_child ps i (λ s. q)) i ≡ Some q
child-on none i p q e = cc
child-on (part n t ps) zero p q e = refl
child-on (part n t ps) (suc i) p q e = child-on ps i p q e

set-on : (ps : Parts) (i : ℕ) (b q : Term) → set_child (set_child ps i b) i q ≡ on_child ps i (λ s. q)
set-on none i b q = refl
set-on (part n t ps) zero b q = refl
set-on (part n t ps) (suc i) b q = ap (part n t) (set-on ps i b q)

-- the same of a term: a part put in the place of another one
pub put-self : (t : Term) (i : ℕ) (p : Term) → child_of (parts_of t) i ≡ Some p → t ≡ put_at t (i ∷ []) p
put-self (node f ps) i p e = ap (node f) (sym (on-self ps i p e))

pub put-child : (t : Term) (i : ℕ) (p q : Term) → child_of (parts_of t) i ≡ Some p → child_of (parts_of (put_at t (i ∷ []) q)) i ≡ Some q
put-child (node f ps) i p q e = child-on ps i p q e

put-twice : (t : Term) (i : ℕ) (p q : Term) → put_at (put_at t (i ∷ []) p) (i ∷ []) q ≡ put_at t (i ∷ []) q
put-twice (node f ps) i p q = ap (node f) (on-twice ps i p q)

put-below : (t : Term) (i : ℕ) (p q r : Term) (path : List ℕ) → child_of (parts_of t) i ≡ Some p → q ≡ put_at p path r → put_at t (i ∷ []) q ≡ put_at t (i ∷ path) r
put-below (node f ps) i p q r path e k = ap (node f) (on-as ps i p (λ s. q) (λ s. put_at s path r) e k)

-- the context of part i does not depend on the part
pub enter-put : (c : Context) (t : Term) (i : ℕ) (q : Term) → enter_facts c (put_at t (i ∷ []) q) i ≡ enter_facts c t i
enter-put c (node f ps) i q = enter-on c f ps i i (λ s. q) (omega arith)

-- a part that was taken out for the while, another one standing in its place, and is put back
pub put-back : (t x y : Term) (i : ℕ) (b q : Term) → x ≡ with_part t i b → y ≡ with_part x i q → y ≡ put_at t (i ∷ []) q
put-back t x y i b q e k = k ∙ ap (λ z. with_part z i q) e ∙ twice t
  where
    twice : (t : Term) → with_part (with_part t i b) i q ≡ put_at t (i ∷ []) q
    twice (node f ps) = ap (node f) (set-on ps i b q)

module _ (gs : Ranges) where
  -- one after the other
  pub leads-append : (c : Context) (xs ys : List Step) (t m u : Term) → Leads gs c t xs m → Leads gs c m ys u → Leads gs c t (xs ++ ys) u
  unfolding Leads
  leads-append c [] ys t m u h k = subst (λ x. Leads gs c x ys u) (sym h) k
  leads-append c (s ∷ xs) ys t m u h k = (h.0, h.1, leads-append c xs ys h.0 m u h.2 k)

  pub leads-none : (c : Context) (t : Term) → Leads gs c t [] t
  unfolding Leads
  leads-none c t = refl

  pub leads-one : (c : Context) (t u : Term) (s : Step) → IsRewriting gs c t s u → Leads gs c t (s ∷ []) u
  unfolding Leads
  leads-one c t u s h = (u, h, refl)

  pub leads-same : (c : Context) (t u : Term) → Leads gs c t [] u → t ≡ u
  unfolding Leads
  leads-same c t u h = h

  -- a rewriting in a part is one of the node
  rewriting-above : (c : Context) (t p q : Term) (i : ℕ) (s : Step) → child_of (parts_of t) i ≡ Some p → IsRewriting (enter_ranges gs c t i) (enter_facts c t i) p s q → IsRewriting gs c t (behind (i ∷ []) s) (put_at t (i ∷ []) q)
  rewriting-above c t p q i s e h = record {
    firing = h.firing;
    from = h.from;
    to = h.to;
    rule = h.rule;
    found = ap (λ o. o >>= λ r. place_of r s.path) e ∙ h.found;
    fires =
        subst (λ o. MayFire (context_below gs o (λ r. ranges_at (enter_ranges gs c t i) (enter_facts c t i) r s.path)) (context_below c o (λ r. context_at enter_facts (enter_facts c t i) r s.path)) h.from h.firing) (sym e) h.fires;
    made = h.made;
    put = put-below t i p q h.to s.path e h.put;
  }

  -- and so are several
  pub leads-above : (c : Context) (t p q : Term) (i : ℕ) (steps : List Step) → child_of (parts_of t) i ≡ Some p → Leads (enter_ranges gs c t i) (enter_facts c t i) p steps q → Leads gs c t (map (behind (i ∷ [])) steps) (put_at t (i ∷ []) q)
  unfolding Leads
  leads-above c t p q i [] e h = put-self t i p e ∙ ap (λ x. put_at t (i ∷ []) x) h
  leads-above c t p q i (s ∷ steps) e h = (
    put_at t (i ∷ []) h.0,
    rewriting-above c t p h.0 i s e h.1,
    subst (λ x. Leads gs c (put_at t (i ∷ []) h.0) (map (behind (i ∷ [])) steps) x) (put-twice t i h.0 q)
        (leads-above c (put_at t (i ∷ []) h.0) h.0 q i steps (put-child t i p h.0 e) (subst (λ g. Leads g (enter_facts c (put_at t (i ∷ []) h.0) i) h.0 steps q) (sym (ranges-put gs c t i h.0)) (subst (λ d. Leads (enter_ranges gs c t i) d h.0 steps q) (sym (enter-put c t i h.0)) h.2))),
  )
