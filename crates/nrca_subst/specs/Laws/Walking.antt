-- A walk over the parts of a node that replaces each by a function of its variables and itself.
use Rattle.std.proofs.Common.{◌≡◌, ℕ, zero, suc, ◌+◌, ◌≤◌, Some, None, refl, sym, ap, ◌∙◌, arith, add-one}
use Rattle.nrca_term.specs.Term.{Term, Parts, Form, node, none, part, form_of, parts_of, count, child_of, binders_of, set_child, with_part, variable_of}
use Rattle.nrca_term.specs.Subst.{shift_form, shift_term, shift_parts, top_var, parts_top}
use Rattle.nrca_term.specs.Laws.Exchange.{set_child-again}

-- the first n parts replaced
unfoldable pub first_parts : (ℕ → Term → Term) → ℕ → Parts → Parts
first_parts g zero ps = ps
first_parts g (suc n) none = none
first_parts g (suc n) (part k t ps) = part k (g k t) (first_parts g n ps)

pub child_of-first_parts : (g : ℕ → Term → Term) (n : ℕ) (ps : Parts) → child_of (first_parts g n ps) n ≡ child_of ps n
unfolding first_parts
child_of-first_parts g zero ps = refl
child_of-first_parts g (suc n) none = refl
child_of-first_parts g (suc n) (part k t ps) = child_of-first_parts g n ps

pub binders_of-first_parts : (g : ℕ → Term → Term) (n i : ℕ) (ps : Parts) → binders_of (first_parts g n ps) i ≡ binders_of ps i
unfolding first_parts
binders_of-first_parts g zero i ps = refl
binders_of-first_parts g (suc n) i none = refl
binders_of-first_parts g (suc n) zero (part k t ps) = refl
binders_of-first_parts g (suc n) (suc i) (part k t ps) = binders_of-first_parts g n i ps

pub count-first_parts : (g : ℕ → Term → Term) (n : ℕ) (ps : Parts) → count (first_parts g n ps) ≡ count ps
unfolding first_parts
count-first_parts g zero ps = refl
count-first_parts g (suc n) none = refl
count-first_parts g (suc n) (part k t ps) = ap suc (count-first_parts g n ps)

step_parts : (g : ℕ → Term → Term) (n : ℕ) (ps : Parts) (u : Term) → child_of ps n ≡ Some u → set_child (first_parts g n ps) n (g (binders_of ps n) u) ≡ first_parts g (suc n) ps
unfolding first_parts
step_parts g zero none u e = refl
step_parts g zero (part k t ps) u e = let same : u ≡ t = cc in ap (λ s. part k (g k s) ps) same
step_parts g (suc n) none u e = refl
step_parts g (suc n) (part k t ps) u e = ap (part k (g k t)) (step_parts g n ps u e)

-- the state of a walk: the first n parts are done
unfoldable pub with_first_parts : (ℕ → Term → Term) → ℕ → Term → Term
with_first_parts g n t = node (form_of t) (first_parts g n (parts_of t))

pub with_first_parts-start : (g : ℕ → Term → Term) (t : Term) → t ≡ with_first_parts g 0 t
unfolding with_first_parts first_parts
with_first_parts-start g (node f ps) = refl

pub child_of-with_first_parts : (g : ℕ → Term → Term) (n : ℕ) (t s : Term) → s ≡ with_first_parts g n t → child_of (parts_of s) n ≡ child_of (parts_of t) n
unfolding with_first_parts
child_of-with_first_parts g n t s e = ap (λ x. child_of (parts_of x) n) e ∙ child_of-first_parts g n (parts_of t)

pub binders_of-with_first_parts : (g : ℕ → Term → Term) (n i : ℕ) (t s : Term) → s ≡ with_first_parts g n t → binders_of (parts_of s) i ≡ binders_of (parts_of t) i
unfolding with_first_parts
binders_of-with_first_parts g n i t s e = ap (λ x. binders_of (parts_of x) i) e ∙ binders_of-first_parts g n i (parts_of t)

pub count-with_first_parts : (g : ℕ → Term → Term) (n : ℕ) (t s : Term) → s ≡ with_first_parts g n t → count (parts_of s) ≡ count (parts_of t)
unfolding with_first_parts
count-with_first_parts g n t s e = ap (λ x. count (parts_of x)) e ∙ count-first_parts g n (parts_of t)

-- one part more
pub with_first_parts-step : (g : ℕ → Term → Term) (n : ℕ) (t s u v : Term) → s ≡ with_first_parts g n t → child_of (parts_of t) n ≡ Some u → v ≡ g (binders_of (parts_of t) n) u → (b : Term) →
    with_part (with_part s n b) n v ≡ with_first_parts g (n + 1) t
unfolding with_first_parts
with_first_parts-step g n t s u v e c d b =
    ap (λ x. with_part (with_part x n b) n v) e
    ∙ ap (node (form_of t)) (set_child-again (first_parts g n (parts_of t)) n b v)
    ∙ ap (λ x. node (form_of t) (set_child (first_parts g n (parts_of t)) n x)) d
    ∙ ap (node (form_of t)) (step_parts g n (parts_of t) u c)
    ∙ ap (λ m. node (form_of t) (first_parts g m (parts_of t))) (sym (add-one n))

-- what the walk of a shift makes
abbrev pub shift_part : ℕ → ℕ → ℕ → Term → Term
shift_part from by k t = shift_term (from + k) by t

shift_parts-first : (from by : ℕ) (ps : Parts) → first_parts (shift_part from by) (count ps) ps ≡ shift_parts from by ps
unfolding first_parts
shift_parts-first from by none = refl
shift_parts-first from by (part k t ps) = ap (part k (shift_term (from + k) by t)) (shift_parts-first from by ps)

-- a form that is no variable stays under a shift
pub shift_form-other : (from by : ℕ) (f : Form) → variable_of f ≡ None → f ≡ shift_form from by f
shift_form-other from by (Form.var i) e = cc
shift_form-other from by (Form.global n) e = refl
shift_form-other from by Form.bind e = refl
shift_form-other from by Form.choose e = refl
shift_form-other from by Form.default e = refl
shift_form-other from by Form.big_union e = refl
shift_form-other from by Form.sum e = refl
shift_form-other from by (Form.tab rank) e = refl
shift_form-other from by (Form.strict s) e = refl

pub with_first_parts-shift : (from by n : ℕ) (t s : Term) → s ≡ with_first_parts (shift_part from by) n t → n ≡ count (parts_of t) → variable_of (form_of t) ≡ None → s ≡ shift_term from by t
unfolding with_first_parts
with_first_parts-shift from by n (node f ps) s e c o =
    e
    ∙ ap (λ m. node f (first_parts (shift_part from by) m ps)) c
    ∙ ap (node f) (shift_parts-first from by ps)
    ∙ ap (λ h. node h (shift_parts from by ps)) (shift_form-other from by f o)

parts_top-child : (from by : ℕ) (ps : Parts) (i : ℕ) (u : Term) → child_of ps i ≡ Some u → top_var (shift_term (from + binders_of ps i) by u) ≤ parts_top (shift_parts from by ps)
parts_top-child from by none i u e = cc
parts_top-child from by (part k t ps) zero u e = let same : u ≡ t = cc in omega (arith, ap (λ x. top_var (shift_term (from + k) by x)) same)
parts_top-child from by (part k t ps) (suc i) u e = omega (arith, parts_top-child from by ps i u e)

pub top_var-child : (from by : ℕ) (t : Term) (i : ℕ) (u : Term) → child_of (parts_of t) i ≡ Some u → top_var (shift_term (from + binders_of (parts_of t) i) by u) ≤ top_var (shift_term from by t)
top_var-child from by (node f ps) i u e = omega (arith, parts_top-child from by ps i u e)

-- the part that a walk takes out is the node's own
pub with_first_parts-part : (g : ℕ → Term → Term) (n : ℕ) (t s u : Term) → s ≡ with_first_parts g n t → Some u ≡ child_of (parts_of s) n → child_of (parts_of t) n ≡ Some u
with_first_parts-part g n t s u e c = sym (child_of-with_first_parts g n t s e) ∙ sym c
