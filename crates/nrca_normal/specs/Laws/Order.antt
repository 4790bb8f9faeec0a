-- The order of the rules has each of them once.
use Rattle.std.proofs.Common.{◌≡◌, ℕ, zero, suc, ◌+◌, ◌<◌, ◌≤◌, ◌⊎◌, Bool, true, false, nat_eq, if◌then◌else◌, List, [], ◌∷◌, length, get_or, refl, sym, ap, subst, ◌∙◌, arith, inl, inr}
use Rattle.std.proofs.lemmas.Bool.{eqb-true, cases_Bool, cases_lt}
use Rattle.nrca_term.specs.declared.trace.Rule.{Rule}
use Rattle.nrca_term.specs.declared.trace.Rule.TheVariants.{B1, K1, I1, I2, L1, L2, L3, P1, P2, S1, S2, S3, S4, S5, S6, S7, S8, S9, A1, A2, A3, A4, A5, A6, A7, C1, C2, C3, C4, N1, N2}
use Rattle.aql_value.specs.Strict.{Strict}
use Rattle.nrca_term.specs.Term.{Term, Form, form_of}
use Rattle.nrca_term.specs.Normal.{is_check}
use Rattle.nrca_rule_laws.specs.Laws.Lefts.{left_form, redex-left}
use Rattle.nrca_ranges.specs.Bounds.{Ranges}
use Rattle.nrca_term.specs.Facts.{Context}
use Rattle.nrca_normal.specs.Conditions.{IsRefused}
use Rattle.nrca_normal.specs.Order.{number_of, rules_of, EachPlain, FirstRules}

-- the rules in the order of the table
abbrev table : List Rule
table = B1 ∷ K1 ∷ I1 ∷ I2 ∷ L1 ∷ L2 ∷ L3 ∷ P1 ∷ P2 ∷ S1 ∷ S2 ∷ S3 ∷ S4 ∷ S5 ∷ S6 ∷ S7 ∷ S8 ∷ S9 ∷ A1 ∷ A2 ∷ A3 ∷ A4 ∷ A5 ∷ A6 ∷ A7 ∷ N1 ∷ N2 ∷ []

-- the rule of a number
rule_with : ℕ → Rule
rule_with n = get_or table n B1

rule-at-number : (R : Rule) → is_check R ≡ false → rule_with (number_of R) ≡ R
unfolding rule_with
rule-at-number B1 e = refl
rule-at-number K1 e = refl
rule-at-number I1 e = refl
rule-at-number I2 e = refl
rule-at-number L1 e = refl
rule-at-number L2 e = refl
rule-at-number L3 e = refl
rule-at-number P1 e = refl
rule-at-number P2 e = refl
rule-at-number S1 e = refl
rule-at-number S2 e = refl
rule-at-number S3 e = refl
rule-at-number S4 e = refl
rule-at-number S5 e = refl
rule-at-number S6 e = refl
rule-at-number S7 e = refl
rule-at-number S8 e = refl
rule-at-number S9 e = refl
rule-at-number A1 e = refl
rule-at-number A2 e = refl
rule-at-number A3 e = refl
rule-at-number A4 e = refl
rule-at-number A5 e = refl
rule-at-number A6 e = refl
rule-at-number A7 e = refl
rule-at-number N1 e = refl
rule-at-number N2 e = refl
rule-at-number C1 e = cc
rule-at-number C2 e = cc
rule-at-number C3 e = cc
rule-at-number C4 e = cc

number-below : (R : Rule) → is_check R ≡ false → number_of R < 27
number-below B1 e = omega arith
number-below K1 e = omega arith
number-below I1 e = omega arith
number-below I2 e = omega arith
number-below L1 e = omega arith
number-below L2 e = omega arith
number-below L3 e = omega arith
number-below P1 e = omega arith
number-below P2 e = omega arith
number-below S1 e = omega arith
number-below S2 e = omega arith
number-below S3 e = omega arith
number-below S4 e = omega arith
number-below S5 e = omega arith
number-below S6 e = omega arith
number-below S7 e = omega arith
number-below S8 e = omega arith
number-below S9 e = omega arith
number-below A1 e = omega arith
number-below A2 e = omega arith
number-below A3 e = omega arith
number-below A4 e = omega arith
number-below A5 e = omega arith
number-below A6 e = omega arith
number-below A7 e = omega arith
number-below N1 e = omega arith
number-below N2 e = omega arith
number-below C1 e = cc
number-below C2 e = cc
number-below C3 e = cc
number-below C4 e = cc

-- rules of one number are one rule
same-rule : (R Q : Rule) → is_check R ≡ false → is_check Q ≡ false → number_of R ≡ number_of Q → R ≡ Q
same-rule R Q h k e = sym (rule-at-number R h) ∙ ap rule_with e ∙ rule-at-number Q k

-- whether a rule is in a list
abbrev is_listed : Rule → List Rule → Bool
is_listed R [] = false
is_listed R (Q ∷ l) = if nat_eq (number_of R) (number_of Q) then true else is_listed R l

-- whether a list has no check
abbrev are_plain : List Rule → Bool
are_plain [] = true
are_plain (Q ∷ l) = if is_check Q then false else are_plain l

-- whether each rule of a list whose left side may have the form is tried at it
abbrev are_covered : Form → List Rule → Bool
are_covered f [] = true
are_covered f (R ∷ l) = if left_form R f then (if is_listed R (rules_of f) then are_covered f l else false) else are_covered f l

plain-strict : (s : Strict) → are_plain (rules_of (Form.strict s)) ≡ true
plain-strict (Strict.nat n) = refl
plain-strict (Strict.bool b) = refl
plain-strict (Strict.text t) = refl
plain-strict Strict.bottom = refl
plain-strict Strict.tuple = refl
plain-strict (Strict.proj at of) = refl
plain-strict (Strict.arith op) = refl
plain-strict (Strict.compare op) = refl
plain-strict Strict.empty = refl
plain-strict Strict.single = refl
plain-strict Strict.union = refl
plain-strict Strict.gen = refl
plain-strict Strict.get = refl
plain-strict Strict.sub = refl
plain-strict (Strict.dim k) = refl
plain-strict (Strict.index k) = refl
plain-strict (Strict.literal k) = refl

plain-rules : (f : Form) → are_plain (rules_of f) ≡ true
plain-rules (Form.var i) = refl
plain-rules (Form.global n) = refl
plain-rules Form.bind = refl
plain-rules Form.choose = refl
plain-rules Form.default = refl
plain-rules Form.big_union = refl
plain-rules Form.sum = refl
plain-rules (Form.tab k) = refl
plain-rules (Form.strict s) = plain-strict s

covered-strict : (s : Strict) → are_covered (Form.strict s) table ≡ true
covered-strict (Strict.nat n) = refl
covered-strict (Strict.bool b) = refl
covered-strict (Strict.text t) = refl
covered-strict Strict.bottom = refl
covered-strict Strict.tuple = refl
covered-strict (Strict.proj at of) = refl
covered-strict (Strict.arith op) = refl
covered-strict (Strict.compare op) = refl
covered-strict Strict.empty = refl
covered-strict Strict.single = refl
covered-strict Strict.union = refl
covered-strict Strict.gen = refl
covered-strict Strict.get = refl
covered-strict Strict.sub = refl
covered-strict (Strict.dim k) = refl
covered-strict (Strict.index k) = refl
covered-strict (Strict.literal k) = refl

covered-form : (f : Form) → are_covered f table ≡ true
covered-form (Form.var i) = refl
covered-form (Form.global n) = refl
covered-form Form.bind = refl
covered-form Form.choose = refl
covered-form Form.default = refl
covered-form Form.big_union = refl
covered-form Form.sum = refl
covered-form (Form.tab k) = refl
covered-form (Form.strict s) = covered-strict s

-- no rule that is tried is a check
plain-at : (l : List Rule) (i : ℕ) → are_plain l ≡ true → i < length l → is_check (get_or l i B1) ≡ false
plain-at [] i e h = absurd (omega (arith, h))
plain-at (Q ∷ l) zero e h = first (is_check Q) refl e
  where
    first : (b : Bool) → is_check Q ≡ b → (if b then false else are_plain l) ≡ true → is_check Q ≡ false
    first true k q = cc
    first false k q = k
plain-at (Q ∷ l) (suc i) e h = plain-at l i (rest (is_check Q) e) (omega (arith, h))
  where
    rest : (b : Bool) → (if b then false else are_plain l) ≡ true → are_plain l ≡ true
    rest true q = cc
    rest false q = q

-- a rule whose left side may have the form is tried
covered-at : (f : Form) (l : List Rule) (i : ℕ) → are_covered f l ≡ true → i < length l → left_form (get_or l i B1) f ≡ true → is_listed (get_or l i B1) (rules_of f) ≡ true
covered-at f [] i e h k = absurd (omega (arith, h))
covered-at f (R ∷ l) zero e h k = first (left_form R f) (is_listed R (rules_of f)) refl k e
  where
    first : (a b : Bool) → is_listed R (rules_of f) ≡ b → a ≡ true → (if a then (if b then are_covered f l else false) else are_covered f l) ≡ true → is_listed R (rules_of f) ≡ true
    first true true p q r = p
    first true false p q r = cc
    first false b p q r = cc
covered-at f (R ∷ l) (suc i) e h k = covered-at f l i (rest (left_form R f) (is_listed R (rules_of f)) e) (omega (arith, h)) k
  where
    rest : (a b : Bool) → (if a then (if b then are_covered f l else false) else are_covered f l) ≡ true → are_covered f l ≡ true
    rest true true r = r
    rest true false r = cc
    rest false b r = r

listed : (R : Rule) (f : Form) → is_check R ≡ false → left_form R f ≡ true → is_listed R (rules_of f) ≡ true
unfolding rule_with
listed R f e h =
    let z : get_or table (number_of R) B1 ≡ R = rule-at-number R e in
    subst (λ Q. is_listed Q (rules_of f) ≡ true) z (covered-at f table (number_of R) (covered-form f) (number-below R e) (subst (λ Q. left_form Q f ≡ true) (sym z) h))

-- what holds of each rule of a list holds of a rule in it
in-list : (P : Rule → Type 0) (R : Rule) (l : List Rule) → is_check R ≡ false → are_plain l ≡ true → is_listed R l ≡ true → ((i : ℕ) → i < length l → P (get_or l i B1)) → P R
in-list P R [] e p h k = cc
in-list P R (Q ∷ l) e p h k =
    at (λ m. in-list P R l e (rest (is_check Q) p) (behind (nat_eq (number_of R) (number_of Q)) m h) (λ i n. k (suc i) (omega (arith, n)))) (cases_Bool (nat_eq (number_of R) (number_of Q)))
  where
    rest : (b : Bool) → (if b then false else are_plain l) ≡ true → are_plain l ≡ true
    rest true q = cc
    rest false q = q

    behind : (b : Bool) → b ≡ false → (if b then true else is_listed R l) ≡ true → is_listed R l ≡ true
    behind true a q = cc
    behind false a q = q

    at : (nat_eq (number_of R) (number_of Q) ≡ false → P R) → (nat_eq (number_of R) (number_of Q) ≡ true) ⊎ (nat_eq (number_of R) (number_of Q) ≡ false) → P R
    at g (inl m) = subst P (sym (same-rule R Q e (plain-at (Q ∷ l) 0 p (omega arith)) (eqb-true (number_of R) (number_of Q) m))) (k 0 (omega arith))
    at g (inr m) = g m

-- nothing is refused at the beginning, and one rule more after each
pub first-none : (P : Rule → Type 0) (l : List Rule) → FirstRules P l 0
unfolding FirstRules
first-none P l = λ i h. absurd (omega (arith, h))

pub first-more : (P : Rule → Type 0) (l : List Rule) (n : ℕ) (R : Rule) → R ≡ get_or l n B1 → P R → FirstRules P l n → FirstRules P l (n + 1)
unfolding FirstRules
first-more P l n R e p h = λ i k. at i (cases_lt i n) k
  where
    at : (i : ℕ) → (i < n) ⊎ (n ≤ i) → i < n + 1 → P (get_or l i B1)
    at i (inl m) k = h i m
    at i (inr m) k = let z : n ≡ i = omega (arith, m, k) in subst (λ j. P (get_or l j B1)) z (subst P e p)

-- P of every rule but the checks, where it holds of each that is tried and of each whose left side has another form
plain-each : (P : Rule → Type 0) (f : Form) (n : ℕ) → length (rules_of f) ≤ n → FirstRules P (rules_of f) n → ((R : Rule) → left_form R f ≡ false → P R) → EachPlain P
unfolding FirstRules EachPlain
plain-each P f n l h other = λ R e. at R e (cases_Bool (left_form R f))
  where
    at : (R : Rule) → is_check R ≡ false → (left_form R f ≡ true) ⊎ (left_form R f ≡ false) → P R
    at R e (inl k) = in-list P R (rules_of f) e (plain-rules f) (listed R f e k) (λ i m. h i (omega (arith, l, m)))
    at R e (inr k) = other R k

-- a rule whose left side has another form is refused
other-form : (gs : Ranges) (c : Context) (t : Term) (R : Rule) → left_form R (form_of t) ≡ false → IsRefused gs c R t
unfolding IsRefused
other-form gs c t R e = λ r ws x h. never (sym (redex-left R t r ws x) ∙ e)
  where
    never : true ≡ false → ⊥
    never q = cc

-- where each rule is refused that is tried, every one is
pub all-refused : (gs : Ranges) (c : Context) (t : Term) (n : ℕ) → length (rules_of (form_of t)) ≤ n → FirstRules (λ R. IsRefused gs c R t) (rules_of (form_of t)) n → EachPlain (λ R. IsRefused gs c R t)
all-refused gs c t n l h = plain-each (λ R. IsRefused gs c R t) (form_of t) n l h (other-form gs c t)
