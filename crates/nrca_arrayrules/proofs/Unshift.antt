-- Terms that are equal after a shift are equal.
use Rattle.std.proofs.Common.{◌≡◌, ℕ, ◌+◌, ◌-◌, ◌≤◌, nat_lt, if◌then◌else◌, inl, inr, refl, sym, ap, ◌∙◌, arith}
use Rattle.std.proofs.lemmas.Bool.{cases_lt, lt-ltb, le-ltb}
use Rattle.nrca_term.specs.Term.{Term, Parts, node, none, part, Form}
use Rattle.nrca_term.specs.Subst.{shift_form, shift_term, shift_parts}

-- a variable's number, lowered where it is past a number
abbrev lowered : ℕ → ℕ → ℕ → ℕ
lowered from by i = if nat_lt i from then i else i - by

-- a form whose own variable is lowered
abbrev unshift_form : ℕ → ℕ → Form → Form
unshift_form from by (Form.var i) = Form.var (lowered from by i)
unshift_form from by f = f

abbrev mutual
  -- a term whose variables are lowered
  unshift_term : ℕ → ℕ → Term → Term
  unshift_term from by (node f ps) = node (unshift_form from by f) (unshift_parts from by ps)

  -- the parts lowered, each under its own variables
  unshift_parts : ℕ → ℕ → Parts → Parts
  unshift_parts from by none = none
  unshift_parts from by (part k t ps) = part k (unshift_term (from + k) by t) (unshift_parts from by ps)

-- lowering takes a shift back
lowered-shifted : (from by i : ℕ) → lowered from by (if nat_lt i from then i else i + by) ≡ i
lowered-shifted from by i =
    elim (cases_lt i from) as (λ _. lowered from by (if nat_lt i from then i else i + by) ≡ i) [
      | inl h ↦ ap (λ b. lowered from by (if b then i else i + by)) (lt-ltb i from h) ∙ ap (λ b. if b then i else i - by) (lt-ltb i from h)
      | inr h ↦
          let l : from ≤ i + by = omega (arith, h) in
          ap (λ b. lowered from by (if b then i else i + by)) (le-ltb i from h) ∙ ap (λ b. if b then i + by else i + by - by) (le-ltb (i + by) from l) ∙ back i by
    ]
  where
    back : (i by : ℕ) → i + by - by ≡ i
    back i by = omega arith

-- the form that was shifted
unshift_form-shift : (from by : ℕ) (f : Form) → unshift_form from by (shift_form from by f) ≡ f
unshift_form-shift from by (Form.var i) = ap Form.var (lowered-shifted from by i)
unshift_form-shift from by (Form.global n) = refl
unshift_form-shift from by Form.bind = refl
unshift_form-shift from by Form.choose = refl
unshift_form-shift from by Form.default = refl
unshift_form-shift from by Form.big_union = refl
unshift_form-shift from by Form.sum = refl
unshift_form-shift from by (Form.tab rank) = refl
unshift_form-shift from by (Form.strict s) = refl

mutual
  -- the term that was shifted
  unshift-shift : (from by : ℕ) (t : Term) → unshift_term from by (shift_term from by t) ≡ t
  unshift-shift from by (node f ps) =
      ap (λ g. node g (unshift_parts from by (shift_parts from by ps))) (unshift_form-shift from by f) ∙ ap (node f) (unshift_parts-shift from by ps)

  -- the parts that were shifted
  unshift_parts-shift : (from by : ℕ) (ps : Parts) → unshift_parts from by (shift_parts from by ps) ≡ ps
  unshift_parts-shift from by none = refl
  unshift_parts-shift from by (part k t ps) =
      ap (λ u. part k u (unshift_parts from by (shift_parts from by ps))) (unshift-shift (from + k) by t) ∙ ap (part k t) (unshift_parts-shift from by ps)

-- terms that are equal after a shift are equal
pub shift-same : (from by : ℕ) (a b : Term) → shift_term from by a ≡ shift_term from by b → a ≡ b
shift-same from by a b e = sym (unshift-shift from by a) ∙ ap (unshift_term from by) e ∙ unshift-shift from by b
