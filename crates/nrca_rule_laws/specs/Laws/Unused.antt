-- A variable without uses: substitution takes back a shift, and a shift takes back a substitution.
use Rattle.std.proofs.Common.{◌≡◌, ℕ, suc, ◌+◌, ◌-◌, ◌≤◌, Bool, true, false, nat_lt, nat_eq, if◌then◌else◌, refl, sym, ap, ◌∙◌, arith, inl, inr}
use Rattle.std.proofs.lemmas.Bool.{cases_lt, lt-ltb, le-ltb, eq-eqb, ne_eqb}
use Rattle.nrca_term.specs.Term.{Term, Parts, node, none, part, Form, WellFormed, PartsWellFormed}
use Rattle.nrca_term.specs.Subst.{shift_form, shift_term, shift_parts, subst_var, subst_term, subst_parts, form_uses, uses_of, parts_uses}

-- a variable with no use is another one
used-var : (at i : ℕ) → form_uses at (Form.var i) ≡ 0 → i ≡ at → ⊥
used-var at i e s = here (nat_eq i at) (ap (λ n. nat_eq i n) (sym s) ∙ eq-eqb i i refl) e
  where
    here : (b : Bool) → b ≡ true → ◌≡◌ {A = ℕ} (if b then 1 else 0) 0 → ⊥
    here true k z = absurd (omega (arith, z))
    here false k z = cc

-- a variable is the shift of what a substitution for another one makes of it
unused-var : (at : ℕ) (w : Term) (i : ℕ) → form_uses at (Form.var i) ≡ 0 → node (Form.var i) none ≡ shift_term at 1 (subst_var at w i)
unused-var at w i e =
    elim (cases_lt i at) [
      | inl l ↦ rw (lt-ltb i at l) (rw (lt-ltb i at l) refl)
      | inr l ↦ let n : i ≡ at → ⊥ = used-var at i e in
          rw (le-ltb i at l, ne_eqb i at n)
          (let k : at ≤ i - 1 = omega (arith, l, n) in rw (le-ltb (i - 1) at k) (let z : i ≡ i - 1 + 1 = omega (arith, l, n) in ap (λ j. node (Form.var j) none) z))
    ]

-- a substitution takes back the shift of a variable
put_in-var : (at : ℕ) (w : Term) (i : ℕ) → subst_var at w (if nat_lt i at then i else i + 1) ≡ node (Form.var i) none
put_in-var at w i =
    elim (cases_lt i at) [
      | inl l ↦ rw (lt-ltb i at l) (rw (lt-ltb i at l) refl)
      | inr l ↦ rw (le-ltb i at l)
          (let k : at ≤ i + 1 = omega (arith, l) in rw (le-ltb (i + 1) at k, ne_eqb (i + 1) at (λ e. omega (arith, e, l))) (let z : i + 1 - 1 ≡ i = omega arith in ap (λ j. node (Form.var j) none) z))
    ]

-- a shifted variable is another one
free-var : (at i : ℕ) → form_uses at (Form.var (if nat_lt i at then i else i + 1)) ≡ 0
free-var at i =
    elim (cases_lt i at) [
      | inl l ↦ rw (lt-ltb i at l) (rw (ne_eqb i at (λ e. omega (arith, l, e))) refl)
      | inr l ↦ rw (le-ltb i at l) (rw (ne_eqb (i + 1) at (λ e. omega (arith, l, e))) refl)
    ]

-- so a shifted form has no use
form_uses-shift : (at : ℕ) (f : Form) → form_uses at (shift_form at 1 f) ≡ 0
form_uses-shift at (Form.var i) = free-var at i
form_uses-shift at (Form.global n) = refl
form_uses-shift at Form.bind = refl
form_uses-shift at Form.choose = refl
form_uses-shift at Form.default = refl
form_uses-shift at Form.big_union = refl
form_uses-shift at Form.sum = refl
form_uses-shift at (Form.tab rank) = refl
form_uses-shift at (Form.strict s) = refl

mutual
  -- past a shift by one the variable is not used
  pub uses-shifted : (at : ℕ) (t : Term) → uses_of at (shift_term at 1 t) ≡ 0
  uses-shifted at (node f ps) = omega (arith, form_uses-shift at f, parts_uses-shifted at ps)

  parts_uses-shifted : (at : ℕ) (ps : Parts) → parts_uses at (shift_parts at 1 ps) ≡ 0
  parts_uses-shifted at none = refl
  parts_uses-shifted at (part k t ps) = omega (arith, uses-shifted (at + k) t, parts_uses-shifted at ps)

mutual
  -- a term in which the variable is not used is the shift of what a substitution makes of it
  pub shift-unused : (at : ℕ) (w t : Term) → WellFormed t → uses_of at t ≡ 0 → t ≡ shift_term at 1 (subst_term at w t)
  shift-unused at w (node (Form.var i) ps) h e = ap (node (Form.var i)) h.0 ∙ unused-var at w i (omega (arith, e))
  shift-unused at w (node (Form.global n) ps) h e = ap (node (Form.global n)) (shift_parts-unused at w (Form.global n) 0 ps h.1 (omega (arith, e)))
  shift-unused at w (node Form.bind ps) h e = ap (node Form.bind) (shift_parts-unused at w Form.bind 0 ps h.1 (omega (arith, e)))
  shift-unused at w (node Form.choose ps) h e = ap (node Form.choose) (shift_parts-unused at w Form.choose 0 ps h.1 (omega (arith, e)))
  shift-unused at w (node Form.default ps) h e = ap (node Form.default) (shift_parts-unused at w Form.default 0 ps h.1 (omega (arith, e)))
  shift-unused at w (node Form.big_union ps) h e = ap (node Form.big_union) (shift_parts-unused at w Form.big_union 0 ps h.1 (omega (arith, e)))
  shift-unused at w (node Form.sum ps) h e = ap (node Form.sum) (shift_parts-unused at w Form.sum 0 ps h.1 (omega (arith, e)))
  shift-unused at w (node (Form.tab rank) ps) h e = ap (node (Form.tab rank)) (shift_parts-unused at w (Form.tab rank) 0 ps h.1 (omega (arith, e)))
  shift-unused at w (node (Form.strict s) ps) h e = ap (node (Form.strict s)) (shift_parts-unused at w (Form.strict s) 0 ps h.1 (omega (arith, e)))

  shift_parts-unused : (at : ℕ) (w : Term) (f : Form) (i : ℕ) (ps : Parts) → PartsWellFormed f i ps → parts_uses at ps ≡ 0 → ps ≡ shift_parts at 1 (subst_parts at w ps)
  shift_parts-unused at w f i none h e = refl
  shift_parts-unused at w f i (part k t ps) h e =
      ap (λ u. part k u ps) (shift-unused (at + k) (shift_term 0 k w) t h.1 (omega (arith, e)))
      ∙ ap (part k (shift_term (at + k) 1 (subst_term (at + k) (shift_term 0 k w) t))) (shift_parts-unused at w f (suc i) ps h.2 (omega (arith, e)))

mutual
  -- a substitution for a variable that a shift has made room for
  pub subst-shifted : (at : ℕ) (w t : Term) → WellFormed t → subst_term at w (shift_term at 1 t) ≡ t
  subst-shifted at w (node (Form.var i) ps) h = put_in-var at w i ∙ ap (node (Form.var i)) (sym h.0)
  subst-shifted at w (node (Form.global n) ps) h = ap (node (Form.global n)) (subst_parts-shifted at w (Form.global n) 0 ps h.1)
  subst-shifted at w (node Form.bind ps) h = ap (node Form.bind) (subst_parts-shifted at w Form.bind 0 ps h.1)
  subst-shifted at w (node Form.choose ps) h = ap (node Form.choose) (subst_parts-shifted at w Form.choose 0 ps h.1)
  subst-shifted at w (node Form.default ps) h = ap (node Form.default) (subst_parts-shifted at w Form.default 0 ps h.1)
  subst-shifted at w (node Form.big_union ps) h = ap (node Form.big_union) (subst_parts-shifted at w Form.big_union 0 ps h.1)
  subst-shifted at w (node Form.sum ps) h = ap (node Form.sum) (subst_parts-shifted at w Form.sum 0 ps h.1)
  subst-shifted at w (node (Form.tab rank) ps) h = ap (node (Form.tab rank)) (subst_parts-shifted at w (Form.tab rank) 0 ps h.1)
  subst-shifted at w (node (Form.strict s) ps) h = ap (node (Form.strict s)) (subst_parts-shifted at w (Form.strict s) 0 ps h.1)

  subst_parts-shifted : (at : ℕ) (w : Term) (f : Form) (i : ℕ) (ps : Parts) → PartsWellFormed f i ps → subst_parts at w (shift_parts at 1 ps) ≡ ps
  subst_parts-shifted at w f i none h = refl
  subst_parts-shifted at w f i (part k t ps) h =
      ap (λ u. part k u (subst_parts at w (shift_parts at 1 ps))) (subst-shifted (at + k) (shift_term 0 k w) t h.1) ∙ ap (part k t) (subst_parts-shifted at w f (suc i) ps h.2)
