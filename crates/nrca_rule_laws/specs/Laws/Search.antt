-- What follows from the definitions of `Search`.
use Rattle.std.proofs.Common.{◌≡◌, ℕ, zero, suc, ◌+◌, ◌-◌, ◌<◌, ◌≤◌, ◌⊎◌, List, [], ◌∷◌, ◌++◌, Option, Some, None, refl, sym, ap, subst, ◌∙◌, arith, inl, inr}
use Rattle.std.proofs.lemmas.Option.{same_Some}
use Rattle.aql_value.specs.Partial.{◌>>=◌}
use Rattle.nrca_term.specs.Term.{Term, Parts, node, none, part, Form, parts_of, child_of, binders_of}
use Rattle.nrca_term.specs.Nodes.{variable, less_term}
use Rattle.nrca_term.specs.Subst.{shift_term}
use Rattle.nrca_term.specs.Places.{place_of, put_at, on_child}
use Rattle.nrca_term.specs.Laws.Measure.{through}
use Rattle.nrca_term.specs.Facts.{Context, Known, domain, test, denied, fact, test_fact, loop_fact, bound_facts, tab_facts, part_facts, enter_facts, context_below, context_at}
use Rattle.nrca_rule_laws.specs.Search.{ComesBefore, AllPlaces, AllBefore, FirstParts}

-- the context at a place of a part
context-child : (c : Context) (t : Term) (i : ℕ) (u : Term) (path : List ℕ) → child_of (parts_of t) i ≡ Some u → context_at enter_facts c t (i ∷ path) ≡ context_at enter_facts (enter_facts c t i) u path
context-child c t i u path e = ap (λ o. context_below c o (λ u. context_at enter_facts (enter_facts c t i) u path)) e

-- N at the node and at each place of its first n parts, where it has no more, is N at all places
pub all-node : (N : Context → Term → Type 0) (c : Context) (t : Term) (n : ℕ) → N c t → FirstParts N c t n → ((i : ℕ) (u : Term) → child_of (parts_of t) i ≡ Some u → i < n) → AllPlaces N c t
all-node N c t n h k l [] s e = subst (N c) (same_Some t s e) h
all-node N c t n h k l (i ∷ path) s e =
    let r = through (parts_of t) i path s e in
    subst (λ x. N x s) (sym (context-child c t i r.0 path r.1)) (k i r.0 (l i r.0 r.1) r.1 path s r.2)

-- one more part
pub all-more : (N : Context → Term → Type 0) (c : Context) (t : Term) (n : ℕ) (u : Term) → FirstParts N c t n → child_of (parts_of t) n ≡ Some u → AllPlaces N (enter_facts c t n) u → FirstParts N c t (suc n)
all-more N c t n u h e k i v l f = at (order i n l)
  where
    order : (i n : ℕ) → i < suc n → (i < n) ⊎ (i ≡ n)
    order zero zero l = inr refl
    order zero (suc n) l = inl (omega arith)
    order (suc i) zero l = absurd (omega (arith, l))
    order (suc i) (suc n) l = elim (order i n (omega (arith, l))) [ inl x ↦ inl (omega (arith, x)) | inr x ↦ inr (ap suc x) ]

    at : (i < n) ⊎ (i ≡ n) → AllPlaces N (enter_facts c t i) v
    at (inl x) = h i v x f
    at (inr x) = let z : u ≡ v = same_Some u v (sym e ∙ ap (child_of (parts_of t)) (sym x) ∙ f) in subst (λ j. AllPlaces N (enter_facts c t j) v) (sym x) (subst (AllPlaces N (enter_facts c t n)) z k)

-- what holds before a place in part j holds in each part before j
pub before-parts : (N : Context → Term → Type 0) (c : Context) (t : Term) (j : ℕ) (p : List ℕ) → AllBefore N c t (j ∷ p) → FirstParts N c t j
before-parts N c t j p h i u l e path s f =
    subst (λ x. N x s) (context-child c t i u path e) (h (i ∷ path) s (inl l) (ap (λ o. o >>= λ r. place_of r path) e ∙ f))

-- and of the places of part j before it
pub before-child : (N : Context → Term → Type 0) (c : Context) (t : Term) (j : ℕ) (p : List ℕ) (u : Term) → child_of (parts_of t) j ≡ Some u → AllBefore N c t (j ∷ p) → AllBefore N (enter_facts c t j) u p
before-child N c t j p u e h q s b f =
    subst (λ x. N x s) (context-child c t j u q e) (h (j ∷ q) s (inr (refl, b)) (ap (λ o. o >>= λ r. place_of r q) e ∙ f))

-- both together are what holds before the place
pub before-node : (N : Context → Term → Type 0) (c : Context) (t : Term) (j : ℕ) (p : List ℕ) (u : Term) → child_of (parts_of t) j ≡ Some u → FirstParts N c t j → AllBefore N (enter_facts c t j) u p → AllBefore N c t (j ∷ p)
before-node N c t j p u e h k [] s b f = absurd b
before-node N c t j p u e h k (i ∷ q) s (inl l) f =
    let r = through (parts_of t) i q s f in subst (λ x. N x s) (sym (context-child c t i r.0 q r.1)) (h i r.0 l r.1 q s r.2)
before-node N c t j p u e h k (i ∷ q) s (inr b) f =
    let r = through (parts_of t) i q s f in
    let z : r.0 ≡ u = same_Some r.0 u (sym r.1 ∙ ap (child_of (parts_of t)) b.0 ∙ e) in
    subst (λ x. N x s) (sym (context-child c t i r.0 q r.1))
    (subst (λ n. N (context_at enter_facts (enter_facts c t n) r.0 q) s) (sym b.0) (subst (λ x. N (context_at enter_facts (enter_facts c t j) x q) s) (sym z) (k q s b.1 (ap (λ x. place_of x q) (sym z) ∙ r.2))))

-- nothing comes before the root
pub before-root : (N : Context → Term → Type 0) (c : Context) (t : Term) → AllBefore N c t []
before-root N c t [] s b f = absurd b
before-root N c t (i ∷ q) s b f = absurd b

-- the parts before the one that is replaced stay
child-before : (ps : Parts) (i j : ℕ) (g : Term → Term) → i < j → child_of (on_child ps j g) i ≡ child_of ps i
child-before none i j g l = refl
child-before (part k t ps) i zero g l = absurd (omega (arith, l))
child-before (part k t ps) zero (suc j) g l = refl
child-before (part k t ps) (suc i) (suc j) g l = child-before ps i j g (omega (arith, l))

-- the part that is replaced, and the variables of each part
child-at : (ps : Parts) (j : ℕ) (g : Term → Term) → child_of (on_child ps j g) j ≡ (child_of ps j >>= λ u. Some (g u))
child-at none j g = refl
child-at (part k t ps) zero g = refl
child-at (part k t ps) (suc j) g = child-at ps j g

binders-on : (ps : Parts) (i j : ℕ) (g : Term → Term) → binders_of (on_child ps j g) i ≡ binders_of ps i
binders-on none i j g = refl
binders-on (part k t ps) zero zero g = refl
binders-on (part k t ps) (suc i) zero g = refl
binders-on (part k t ps) zero (suc j) g = refl
binders-on (part k t ps) (suc i) (suc j) g = binders-on ps i j g

-- the facts that a node adds are of parts before the one that is replaced
test_fact-on : (ps : Parts) (j : ℕ) (g : Term → Term) (k : Known) (d : ℕ) → test_fact (on_child ps (suc j) g) k d ≡ test_fact ps k d
test_fact-on none j g k d = refl
test_fact-on (part n (node f qs) ps) j g k d = refl

loop_fact-on : (ps : Parts) (j : ℕ) (g : Term → Term) (d : ℕ) → loop_fact (on_child ps (suc j) g) d ≡ loop_fact ps d
loop_fact-on none j g d = refl
loop_fact-on (part n (node f qs) ps) j g d = refl

bound_facts-on : (left rank : ℕ) (ps : Parts) (j : ℕ) (g : Term → Term) (d : ℕ) → left ≤ j → bound_facts left rank (on_child ps j g) d ≡ bound_facts left rank ps d
bound_facts-on zero rank ps j g d l = refl
bound_facts-on (suc left) rank none j g d l = refl
bound_facts-on (suc left) rank (part k t ps) zero g d l = absurd (omega (arith, l))
bound_facts-on (suc left) rank (part k t ps) (suc j) g d l =
    ap (λ F. fact (less_term (variable left) (shift_term 0 rank t)) domain (d + rank) ∷ F) (bound_facts-on left rank ps j g d (omega (arith, l)))

tab_facts-on : (left rank : ℕ) (ps : Parts) (j : ℕ) (g : Term → Term) (d : ℕ) → (left ≡ 0 → rank ≤ j) → tab_facts left rank (on_child ps j g) d ≡ tab_facts left rank ps d
tab_facts-on zero rank ps j g d l = bound_facts-on rank rank ps j g d (l refl)
tab_facts-on (suc left) rank ps j g d l = refl

-- the facts that a node adds for part i are of parts before i
pub added-on : (d : ℕ) (f : Form) (ps : Parts) (i j : ℕ) (g : Term → Term) → i ≤ j → part_facts d f (on_child ps j g) i ≡ part_facts d f ps i
added-on d Form.choose ps zero j g l = refl
added-on d Form.choose ps (suc i) zero g l = absurd (omega (arith, l))
added-on d Form.choose ps (suc zero) (suc j) g l = test_fact-on ps j g test d
added-on d Form.choose ps (suc (suc zero)) (suc j) g l = test_fact-on ps j g denied d
added-on d Form.choose ps (suc (suc (suc i))) (suc j) g l = refl
added-on d Form.big_union ps zero j g l = refl
added-on d Form.big_union ps (suc i) zero g l = absurd (omega (arith, l))
added-on d Form.big_union ps (suc zero) (suc j) g l = loop_fact-on ps j g d
added-on d Form.big_union ps (suc (suc i)) (suc j) g l = refl
added-on d Form.sum ps zero j g l = refl
added-on d Form.sum ps (suc i) zero g l = absurd (omega (arith, l))
added-on d Form.sum ps (suc zero) (suc j) g l = loop_fact-on ps j g d
added-on d Form.sum ps (suc (suc i)) (suc j) g l = refl
added-on d (Form.tab rank) ps i j g l = tab_facts-on (rank - i) rank ps j g d (λ e. omega (arith, l, e))
added-on d (Form.var n) ps i j g l = refl
added-on d (Form.global n) ps i j g l = refl
added-on d Form.bind ps i j g l = refl
added-on d Form.default ps i j g l = refl
added-on d (Form.strict s) ps i j g l = refl

-- so does the context of part i
pub enter-on : (c : Context) (f : Form) (ps : Parts) (i j : ℕ) (g : Term → Term) → i ≤ j → enter_facts c (node f (on_child ps j g)) i ≡ enter_facts c (node f ps) i
enter-on c f ps i j g l =
    ap (λ F. record { facts = c.facts ++ F; depth = c.depth + binders_of (on_child ps j g) i }) (added-on c.depth f ps i j g l)
    ∙ ap (λ n. record { facts = c.facts ++ part_facts c.depth f ps i; depth = c.depth + n }) (binders-on ps i j g)

-- a place that comes before the one rewritten: the same part, in the same context
pub place-before : (q p : List ℕ) (t u : Term) → ComesBefore q p → place_of (put_at t p u) q ≡ place_of t q
place-before [] p t u b = absurd b
place-before (i ∷ q) [] t u b = absurd b
place-before (i ∷ q) (j ∷ p) (node f ps) u (inl l) = ap (λ o. o >>= λ r. place_of r q) (child-before ps i j (λ s. put_at s p u) l)
place-before (i ∷ q) (j ∷ p) (node f ps) u (inr b) =
    ap (λ n. child_of (on_child ps j (λ s. put_at s p u)) n >>= λ r. place_of r q) b.0
    ∙ ap (λ o. o >>= λ r. place_of r q) (child-at ps j (λ s. put_at s p u))
    ∙ below (λ r. place-before q p r u b.1) (child_of ps j)
    ∙ ap (λ n. child_of ps n >>= λ r. place_of r q) (sym b.0)
  where
    below : ((r : Term) → place_of (put_at r p u) q ≡ place_of r q) → (o : Option Term) → ((o >>= λ r. Some (put_at r p u)) >>= λ r. place_of r q) ≡ (o >>= λ r. place_of r q)
    below h None = refl
    below h (Some r) = h r

-- the same context there
pub context-before : (q p : List ℕ) (c : Context) (t u : Term) → ComesBefore q p → context_at enter_facts c (put_at t p u) q ≡ context_at enter_facts c t q
context-before [] p c t u b = absurd b
context-before (i ∷ q) [] c t u b = absurd b
context-before (i ∷ q) (j ∷ p) c (node f ps) u (inl l) =
    ap (λ o. context_below c o (λ r. context_at enter_facts (enter_facts c (node f (on_child ps j (λ s. put_at s p u))) i) r q)) (child-before ps i j (λ s. put_at s p u) l)
    ∙ ap (λ x. context_below c (child_of ps i) (λ r. context_at enter_facts x r q)) (enter-on c f ps i j (λ s. put_at s p u) (omega (arith, l)))
context-before (i ∷ q) (j ∷ p) c (node f ps) u (inr b) =
    ap (λ n. context_below c (child_of (on_child ps j (λ s. put_at s p u)) n) (λ r. context_at enter_facts (enter_facts c (node f (on_child ps j (λ s. put_at s p u))) n) r q)) b.0
    ∙ ap (λ o. context_below c o (λ r. context_at enter_facts (enter_facts c (node f (on_child ps j (λ s. put_at s p u))) j) r q)) (child-at ps j (λ s. put_at s p u))
    ∙ ap (λ x. context_below c (child_of ps j >>= λ r. Some (put_at r p u)) (λ r. context_at enter_facts x r q)) (enter-on c f ps j j (λ s. put_at s p u) (omega arith))
    ∙ below (λ x r. context-before q p x r u b.1) (child_of ps j)
    ∙ ap (λ n. context_below c (child_of ps n) (λ r. context_at enter_facts (enter_facts c (node f ps) n) r q)) (sym b.0)
  where
    below : ((x : Context) (r : Term) → context_at enter_facts x (put_at r p u) q ≡ context_at enter_facts x r q) → (o : Option Term) →
        context_below c (o >>= λ r. Some (put_at r p u)) (λ r. context_at enter_facts (enter_facts c (node f ps) j) r q) ≡ context_below c o (λ r. context_at enter_facts (enter_facts c (node f ps) j) r q)
    below h None = refl
    below h (Some r) = h (enter_facts c (node f ps) j) r

-- what the search has left behind stays so when the place is rewritten
pub before-kept : (N : Context → Term → Type 0) (c : Context) (t u : Term) (p : List ℕ) → AllBefore N c t p → AllBefore N c (put_at t p u) p
before-kept N c t u p h q s b e = subst (λ x. N x s) (sym (context-before q p c t u b)) (h q s b (sym (place-before q p t u b) ∙ e))
