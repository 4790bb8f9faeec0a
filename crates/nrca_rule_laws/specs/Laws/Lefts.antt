-- The form that a rule's left side has: a rule does not fit a node of another form (`redex-left`).
use Rattle.std.proofs.Common.{◌≡◌, Bool, true, false, List, refl, ap, ◌∙◌, inl, inr}
use Rattle.aql_value.specs.Strict.{Strict}
use Rattle.nrca_term.specs.declared.trace.Rule.{Rule}
use Rattle.nrca_term.specs.declared.trace.Rule.TheVariants.{B1, K1, I1, I2, L1, L2, L3, P1, P2, S1, S2, S3, S4, S5, S6, S7, S8, S9, A1, A2, A3, A4, A5, A6, A7, C1, C2, C3, C4, N1, N2}
use Rattle.nrca_term.specs.Term.{Term, Form, form_of}
use Rattle.nrca_term.specs.Rules.{Way, Redex, Folds, arithmetic, numbers, truths, texts, generated, member, misshapen, Subscript, inside, outside, LoopOf}
use Rattle.nrca_rule_laws.specs.Lets.{is_bind}

-- whether a form is an if, a default, a big union, a sum, a loop of either kind, a tabulation
abbrev pub is_choose : Form → Bool
is_choose Form.choose = true
is_choose _ = false

abbrev pub is_default : Form → Bool
is_default Form.default = true
is_default _ = false

abbrev pub is_big_union : Form → Bool
is_big_union Form.big_union = true
is_big_union _ = false

abbrev pub is_sum : Form → Bool
is_sum Form.sum = true
is_sum _ = false

abbrev pub is_loop : Form → Bool
is_loop Form.big_union = true
is_loop Form.sum = true
is_loop _ = false

abbrev pub is_tab : Form → Bool
is_tab (Form.tab rank) = true
is_tab _ = false

-- whether a form is an operation of this kind
abbrev pub is_strict_by : (Strict → Bool) → Form → Bool
is_strict_by p (Form.strict s) = p s
is_strict_by p _ = false

-- the operations that K1 computes
abbrev pub folds : Strict → Bool
folds (Strict.arith op) = true
folds (Strict.compare op) = true
folds Strict.gen = true
folds Strict.get = true
folds (Strict.literal rank) = true
folds _ = false

-- whether an operation is a component, a union, the member of a set, a subscript, a dimension
abbrev pub is_proj : Strict → Bool
is_proj (Strict.proj at of) = true
is_proj _ = false

abbrev pub is_union : Strict → Bool
is_union Strict.union = true
is_union _ = false

abbrev pub is_get : Strict → Bool
is_get Strict.get = true
is_get _ = false

abbrev pub is_sub : Strict → Bool
is_sub Strict.sub = true
is_sub _ = false

abbrev pub is_dim : Strict → Bool
is_dim (Strict.dim rank) = true
is_dim _ = false

-- whether it is a subscript or a dimension, or a comparison
abbrev pub reads_array : Strict → Bool
reads_array Strict.sub = true
reads_array (Strict.dim rank) = true
reads_array _ = false

abbrev pub is_compare : Strict → Bool
is_compare (Strict.compare op) = true
is_compare _ = false

-- whether the rule's left side may be a node of this form
abbrev pub left_form : Rule → Form → Bool
left_form B1 f = true
left_form K1 f = is_strict_by folds f
left_form I1 f = is_choose f
left_form I2 f = is_loop f
left_form L1 f = is_bind f
left_form L2 f = is_bind f
left_form L3 f = is_bind f
left_form P1 f = is_strict_by is_proj f
left_form P2 f = is_strict_by is_proj f
left_form S1 f = is_big_union f
left_form S2 f = is_big_union f
left_form S3 f = is_big_union f
left_form S4 f = is_sum f
left_form S5 f = is_sum f
left_form S6 f = is_big_union f
left_form S7 f = is_strict_by is_union f
left_form S8 f = is_strict_by is_get f
left_form S9 f = is_loop f
left_form A1 f = is_strict_by is_sub f
left_form A2 f = is_tab f
left_form A3 f = is_strict_by is_dim f
left_form A4 f = is_bind f
left_form A5 f = is_strict_by is_sub f
left_form A6 f = is_strict_by is_dim f
left_form A7 f = is_strict_by reads_array f
left_form C1 f = is_strict_by is_compare f
left_form C2 f = is_strict_by is_compare f
left_form C3 f = is_strict_by is_compare f
left_form C4 f = is_strict_by is_compare f
left_form N1 f = is_default f
left_form N2 f = is_default f

-- the form of a loop, of an operation on constants, of a constant subscript
loop-left : (f : Form) (z : Term) → LoopOf f z → is_loop f ≡ true
loop-left Form.big_union z h = refl
loop-left Form.sum z h = refl
loop-left _ z h = absurd h

folds-left : (l r : Term) → Folds l r → is_strict_by folds (form_of l) ≡ true
folds-left l r (arithmetic op m n e k) = ap (λ t. is_strict_by folds (form_of t)) e
folds-left l r (numbers op m n e k) = ap (λ t. is_strict_by folds (form_of t)) e
folds-left l r (truths op a b e k) = ap (λ t. is_strict_by folds (form_of t)) e
folds-left l r (texts op s t e k) = ap (λ t. is_strict_by folds (form_of t)) e
folds-left l r (generated e k) = ap (λ t. is_strict_by folds (form_of t)) e
folds-left l r (member e k) = ap (λ t. is_strict_by folds (form_of t)) e
folds-left l r (misshapen ns cs e h k) = ap (λ t. is_strict_by folds (form_of t)) e

subscript-left : (l r : Term) (ws : List Way) → Subscript l r ws → is_strict_by is_sub (form_of l) ≡ true
subscript-left l r ws (inside ns cs is p e a b c d) = ap (λ t. is_strict_by is_sub (form_of t)) e
subscript-left l r ws (outside ns cs is e a b c d f) = ap (λ t. is_strict_by is_sub (form_of t)) e

-- a left side is of its rule's form
pub redex-left : (R : Rule) (l r : Term) (ws : List Way) → Redex R l r ws → left_form R (form_of l) ≡ true
redex-left B1 l r ws h = refl
redex-left K1 l r ws h = folds-left l r h.0
redex-left I1 l r ws h = ap (λ t. is_choose (form_of t)) h.3
redex-left I2 l r ws h = ap (λ t. is_loop (form_of t)) h.6 ∙ loop-left h.0 h.1 h.5
redex-left L1 l r ws h = ap (λ t. is_bind (form_of t)) h.3
redex-left L2 l r ws h = ap (λ t. is_bind (form_of t)) h.4
redex-left L3 l r ws h = ap (λ t. is_bind (form_of t)) h.1
redex-left P1 l r ws h = ap (λ t. is_strict_by is_proj (form_of t)) h.2
redex-left P2 l r ws h = ap (λ t. is_strict_by is_proj (form_of t)) h.4
redex-left S1 l r ws h = ap (λ t. is_big_union (form_of t)) h.1
redex-left S2 l r ws h = ap (λ t. is_big_union (form_of t)) h.2
redex-left S3 l r ws h = ap (λ t. is_big_union (form_of t)) h.3
redex-left S4 l r ws h = ap (λ t. is_sum (form_of t)) h.1
redex-left S5 l r ws h = ap (λ t. is_sum (form_of t)) h.2
redex-left S6 l r ws h = ap (λ t. is_big_union (form_of t)) h.0
redex-left S7 l r ws h = elim h.0 [ inl e ↦ ap (λ t. is_strict_by is_union (form_of t)) e | inr e ↦ ap (λ t. is_strict_by is_union (form_of t)) e ]
redex-left S8 l r ws h = ap (λ t. is_strict_by is_get (form_of t)) h.0
redex-left S9 l r ws h = ap (λ t. is_loop (form_of t)) h.6 ∙ loop-left h.0 h.1 h.5
redex-left A1 l r ws h = ap (λ t. is_strict_by is_sub (form_of t)) h.4
redex-left A2 l r ws h = ap (λ t. is_tab (form_of t)) h.2
redex-left A3 l r ws h = ap (λ t. is_strict_by is_dim (form_of t)) h.2
redex-left A4 l r ws h = ap (λ t. is_bind (form_of t)) h.5
redex-left A5 l r ws h = subscript-left l r ws h
redex-left A6 l r ws h = ap (λ t. is_strict_by is_dim (form_of t)) h.2
redex-left A7 l r ws h = elim h.2 [ inl x ↦ ap (λ t. is_strict_by reads_array (form_of t)) x.1 | inr x ↦ ap (λ t. is_strict_by reads_array (form_of t)) x.1 ]
redex-left C1 l r ws h = ap (λ t. is_strict_by is_compare (form_of t)) h.0.3
redex-left C2 l r ws h = ap (λ t. is_strict_by is_compare (form_of t)) h.0.3
redex-left C3 l r ws h = ap (λ t. is_strict_by is_compare (form_of t)) h.0.3
redex-left C4 l r ws h = ap (λ t. is_strict_by is_compare (form_of t)) h.0.3
redex-left N1 l r ws h = ap (λ t. is_default (form_of t)) h.0
redex-left N2 l r ws h = ap (λ t. is_default (form_of t)) h.1
