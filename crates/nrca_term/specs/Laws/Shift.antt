-- Shifts of shifts, shifts by 0, shifts above all variables, and variable numbers under a shift.
use Rattle.std.proofs.Common.{◌≡◌, ℕ, ◌+◌, ◌<◌, ◌≤◌, ◌^◌, max, List, [], ◌∷◌, map, refl, sym, ap, ◌∙◌, arith, add-zero, inl, inr}
use Rattle.std.proofs.lemmas.Bool.{cases_lt, lt-ltb, le-ltb}
use Rattle.nrca_term.specs.Term.{Term, Parts, node, none, part, plain, Form}
use Rattle.nrca_term.specs.Subst.{shift_form, shift_term, shift_parts, form_top, top_var, parts_top, list_top}

form_top-shift_form : (from by : ℕ) (f : Form) → form_top f ≤ form_top (shift_form from by f)
form_top-shift_form from by (Form.var i) =
    elim (cases_lt i from) [ inl h ↦ rw (lt-ltb i from h) (omega arith) | inr h ↦ rw (le-ltb i from h) (omega arith) ]
form_top-shift_form from by (Form.global n) = omega arith
form_top-shift_form from by Form.bind = omega arith
form_top-shift_form from by Form.choose = omega arith
form_top-shift_form from by Form.default = omega arith
form_top-shift_form from by Form.big_union = omega arith
form_top-shift_form from by Form.sum = omega arith
form_top-shift_form from by (Form.tab rank) = omega arith
form_top-shift_form from by (Form.strict s) = omega arith

mutual
  pub top_var-shift_term : (from by : ℕ) (t : Term) → top_var t ≤ top_var (shift_term from by t)
  top_var-shift_term from by (node f ps) = omega (arith, form_top-shift_form from by f, parts_top-shift_parts from by ps)

  parts_top-shift_parts : (from by : ℕ) (ps : Parts) → parts_top ps ≤ parts_top (shift_parts from by ps)
  parts_top-shift_parts from by none = omega arith
  parts_top-shift_parts from by (part k t ps) = omega (arith, top_var-shift_term (from + k) by t, parts_top-shift_parts from by ps)

shift_form-above : (from by : ℕ) (f : Form) → form_top f < from → shift_form from by f ≡ f
shift_form-above from by (Form.var i) h = rw (lt-ltb i from h)
shift_form-above from by (Form.global n) h = refl
shift_form-above from by Form.bind h = refl
shift_form-above from by Form.choose h = refl
shift_form-above from by Form.default h = refl
shift_form-above from by Form.big_union h = refl
shift_form-above from by Form.sum h = refl
shift_form-above from by (Form.tab rank) h = refl
shift_form-above from by (Form.strict s) h = refl

mutual
  -- no variable is free at a number above each that stands in the term
  pub shift_term-above : (from by : ℕ) (t : Term) → top_var t < from → shift_term from by t ≡ t
  shift_term-above from by (node f ps) h =
      ap (λ g. node g (shift_parts from by ps)) (shift_form-above from by f (omega arith)) ∙ ap (node f) (shift_parts-above from by ps (omega arith))

  shift_parts-above : (from by : ℕ) (ps : Parts) → parts_top ps < from → shift_parts from by ps ≡ ps
  shift_parts-above from by none h = refl
  shift_parts-above from by (part k t ps) h =
      ap (λ u. part k u (shift_parts from by ps)) (shift_term-above (from + k) by t (omega arith)) ∙ ap (part k t) (shift_parts-above from by ps (omega arith))

pub shift_term-past : (from by : ℕ) (t : Term) → 2 ^ 64 ≤ from → top_var (shift_term from by t) < 2 ^ 64 → t ≡ shift_term from by t
shift_term-past from by t h k = sym (shift_term-above from by t (omega (arith, top_var-shift_term from by t)))

pub shift_parts-plain : (from by : ℕ) (ts : List Term) (ps : Parts) → shift_parts from by (plain ts ps) ≡ plain (map (shift_term from by) ts) (shift_parts from by ps)
shift_parts-plain from by [] ps = refl
shift_parts-plain from by (t ∷ ts) ps =
    ap (λ n. part 0 (shift_term n by t) (shift_parts from by (plain ts ps))) (add-zero from) ∙ ap (part 0 (shift_term from by t)) (shift_parts-plain from by ts ps)

pub parts_top-plain : (ts : List Term) (ps : Parts) → parts_top (plain ts ps) ≡ max (list_top ts) (parts_top ps)
parts_top-plain [] ps = omega arith
parts_top-plain (t ∷ ts) ps = omega (arith, parts_top-plain ts ps)

shift_form-twice : (from a b : ℕ) (f : Form) → shift_form from b (shift_form from a f) ≡ shift_form from (a + b) f
shift_form-twice from a b (Form.var i) =
    elim (cases_lt i from) [
      | inl h ↦ rw (lt-ltb i from h) (rw (lt-ltb i from h))
      | inr h ↦ rw (le-ltb i from h) (let k : from ≤ i + a = omega arith in rw (le-ltb (i + a) from k) (let e : (i + a) + b ≡ i + (a + b) = omega arith in ap Form.var e))
    ]
shift_form-twice from a b (Form.global n) = refl
shift_form-twice from a b Form.bind = refl
shift_form-twice from a b Form.choose = refl
shift_form-twice from a b Form.default = refl
shift_form-twice from a b Form.big_union = refl
shift_form-twice from a b Form.sum = refl
shift_form-twice from a b (Form.tab rank) = refl
shift_form-twice from a b (Form.strict s) = refl

mutual
  pub shift_term-twice : (from a b : ℕ) (t : Term) → shift_term from b (shift_term from a t) ≡ shift_term from (a + b) t
  shift_term-twice from a b (node f ps) =
      ap (λ g. node g (shift_parts from b (shift_parts from a ps))) (shift_form-twice from a b f) ∙ ap (node (shift_form from (a + b) f)) (shift_parts-twice from a b ps)

  shift_parts-twice : (from a b : ℕ) (ps : Parts) → shift_parts from b (shift_parts from a ps) ≡ shift_parts from (a + b) ps
  shift_parts-twice from a b none = refl
  shift_parts-twice from a b (part k t ps) =
      ap (λ u. part k u (shift_parts from b (shift_parts from a ps))) (shift_term-twice (from + k) a b t) ∙ ap (part k (shift_term (from + k) (a + b) t)) (shift_parts-twice from a b ps)

shift_form-none : (from : ℕ) (f : Form) → shift_form from 0 f ≡ f
shift_form-none from (Form.var i) =
    elim (cases_lt i from) [ inl h ↦ rw (lt-ltb i from h) | inr h ↦ rw (le-ltb i from h) (let e : i + 0 ≡ i = omega arith in ap Form.var e) ]
shift_form-none from (Form.global n) = refl
shift_form-none from Form.bind = refl
shift_form-none from Form.choose = refl
shift_form-none from Form.default = refl
shift_form-none from Form.big_union = refl
shift_form-none from Form.sum = refl
shift_form-none from (Form.tab rank) = refl
shift_form-none from (Form.strict s) = refl

mutual
  pub shift_term-none : (from : ℕ) (t : Term) → shift_term from 0 t ≡ t
  shift_term-none from (node f ps) = ap (λ g. node g (shift_parts from 0 ps)) (shift_form-none from f) ∙ ap (node f) (shift_parts-none from ps)

  shift_parts-none : (from : ℕ) (ps : Parts) → shift_parts from 0 ps ≡ ps
  shift_parts-none from none = refl
  shift_parts-none from (part k t ps) = ap (λ u. part k u (shift_parts from 0 ps)) (shift_term-none (from + k) t) ∙ ap (part k t) (shift_parts-none from ps)

pub ruleset shifting = (shift_term-past, shift_parts-plain, parts_top-plain)

form_top-shift_le : (from by : ℕ) (f : Form) → form_top (shift_form from by f) ≤ form_top f + by
form_top-shift_le from by (Form.var i) = elim (cases_lt i from) [ inl h ↦ rw (lt-ltb i from h) (omega arith) | inr h ↦ rw (le-ltb i from h) (omega arith) ]
form_top-shift_le from by (Form.global n) = omega arith
form_top-shift_le from by Form.bind = omega arith
form_top-shift_le from by Form.choose = omega arith
form_top-shift_le from by Form.default = omega arith
form_top-shift_le from by Form.big_union = omega arith
form_top-shift_le from by Form.sum = omega arith
form_top-shift_le from by (Form.tab rank) = omega arith
form_top-shift_le from by (Form.strict s) = omega arith

mutual
  -- a shift adds at most `by` to the greatest variable number
  pub top_var-shift_le : (from by : ℕ) (t : Term) → top_var (shift_term from by t) ≤ top_var t + by
  top_var-shift_le from by (node f ps) = omega (arith, form_top-shift_le from by f, parts_top-shift_le from by ps)

  parts_top-shift_le : (from by : ℕ) (ps : Parts) → parts_top (shift_parts from by ps) ≤ parts_top ps + by
  parts_top-shift_le from by none = omega arith
  parts_top-shift_le from by (part k t ps) = omega (arith, top_var-shift_le (from + k) by t, parts_top-shift_le from by ps)
