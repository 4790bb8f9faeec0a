-- Terms that are normal, shown at each of their places.
use Rattle.std.specs.Prelude.{◌≡◌, ℕ, zero, suc, ◌<◌, Bool, true, false, [], ◌∷◌, List, Some, None}
use Rattle.std.proofs.Common.{inl, inr, refl, ap, subst, arith, ◌∙◌}
use Rattle.std.proofs.lemmas.Option.{same_Some}
use Rattle.aql_value.specs.declared.ops.ArithOp.{ArithOp}
use Rattle.aql_value.specs.declared.ops.ArithOp.TheVariants.{Add, Quotient}
use Rattle.aql_value.specs.declared.ops.CompareOp.{CompareOp}
use Rattle.aql_value.specs.Lists.{Every}
use Rattle.aql_value.specs.Strict.{Strict}
use Rattle.nrca_term.specs.declared.trace.Rule.{Rule}
use Rattle.nrca_term.specs.declared.trace.Rule.TheVariants.{B1, K1, L1, L2, L3, A2, A3, A4, A6, A7}
use Rattle.nrca_term.specs.Term.{Term, Parts, node, none, part, plain, Form, child_of, parts_of, form_of}
use Rattle.nrca_term.specs.Nodes.{variable, position, number, bottom_term, let_term, tuple_term, arith_term, compare_term, tab_term, sub_term, dim_term}
use Rattle.nrca_term.specs.Subst.{shift_term, subst_term, uses_of}
use Rattle.nrca_term.specs.Meaning.{Outcomes}
use Rattle.nrca_term.specs.Facts.{Context, no_facts, enter_facts}
use Rattle.nrca_term.specs.Firm.{is_defined}
use Rattle.nrca_term.specs.Rules.{Way, Redex, Folds, arithmetic, numbers, truths, texts, generated, member, misshapen, dimension_terms, index_variables}
use Rattle.nrca_term.specs.Normal.{is_check, FirmAt, IsNormalAt, IsNormal}
use Rattle.nrca_rule_laws.specs.Laws.Lefts.{left_form, redex-left}
use Rattle.nrca_rule_laws.specs.Laws.Unique.{ways-fixed}
use Rattle.nrca_rule_laws.specs.Laws.Unused.{uses-shifted}
use Rattle.nrca_rule_laws.specs.Search.{AllPlaces, FirstParts}
use Rattle.nrca_rule_laws.specs.Laws.Search.{all-node}

-- a leaf has no part
nothing : (i : ℕ) (u : Term) → child_of none i ≡ Some u → ⊥
nothing i u e = cc

-- a property of each place, from the node and its parts
no-part : (N : Context → Term → Type 0) (c : Context) (f : Form) → N c (node f none) → AllPlaces N c (node f none)
no-part N c f h = all-node N c (node f none) 0 h (λ i u l e. absurd (nothing i u e)) (λ i u e. absurd (nothing i u e))

one-part : (N : Context → Term → Type 0) (c : Context) (f : Form) (j : ℕ) (a : Term) → N c (node f (part j a none)) → AllPlaces N (enter_facts c (node f (part j a none)) 0) a → AllPlaces N c (node f (part j a none))
one-part N c f j a h x = all-node N c (node f (part j a none)) 1 h parts few
  where
    parts : FirstParts N c (node f (part j a none)) 1
    parts zero u l e = subst (AllPlaces N (enter_facts c (node f (part j a none)) 0)) (same_Some a u e) x
    parts (suc i) u l e = absurd (omega (arith, l))

    few : (i : ℕ) (u : Term) → child_of (part j a none) i ≡ Some u → i < 1
    few zero u e = omega arith
    few (suc i) u e = cc

two-parts : (N : Context → Term → Type 0) (c : Context) (f : Form) (j k : ℕ) (a b : Term) → N c (node f (part j a (part k b none))) →
    AllPlaces N (enter_facts c (node f (part j a (part k b none))) 0) a → AllPlaces N (enter_facts c (node f (part j a (part k b none))) 1) b → AllPlaces N c (node f (part j a (part k b none)))
two-parts N c f j k a b h x y = all-node N c (node f (part j a (part k b none))) 2 h parts few
  where
    parts : FirstParts N c (node f (part j a (part k b none))) 2
    parts zero u l e = subst (AllPlaces N (enter_facts c (node f (part j a (part k b none))) 0)) (same_Some a u e) x
    parts (suc zero) u l e = subst (AllPlaces N (enter_facts c (node f (part j a (part k b none))) 1)) (same_Some b u e) y
    parts (suc (suc i)) u l e = absurd (omega (arith, l))

    few : (i : ℕ) (u : Term) → child_of (part j a (part k b none)) i ≡ Some u → i < 2
    few zero u e = omega arith
    few (suc zero) u e = omega arith
    few (suc (suc i)) u e = cc

-- no rule but the checks that may have the node on its left fits it with firm conditions
abbrev Unfit : (ℕ → Bool) → Context → Term → Type 0
Unfit D c t = (R : Rule) (r : Term) (ws : List Way) → is_check R ≡ false → left_form R (form_of t) ≡ true → Redex R t r ws → Every (FirmAt D c t) ws → ⊥

-- such a node that is no comparison is normal
normal-node : (D : ℕ → Bool) (c : Context) (t : Term) → ((op : CompareOp) (a b : Term) → t ≡ compare_term op a b → ⊥) → Unfit D c t → IsNormalAt D c t
normal-node D c t not_compared h = record {
  unfit = λ R r ws k x f. h R r ws k (redex-left R t r ws x) x f;
  unknown = λ b i k. not_compared i.0 i.1 i.2 i.3;
  undecided = λ op a b x y e f p q o. not_compared op a b e;
}

-- numbers, variables and positions fit no rule
number-normal : (D : ℕ → Bool) (c : Context) (n : ℕ) → AllPlaces (IsNormalAt D) c (number n)
number-normal D c n = no-part (IsNormalAt D) c (Form.strict (Strict.nat n)) (normal-node D c (number n) (λ op a b e. cc) by)
  where
    by : Unfit D c (number n)
    by B1 r ws k l x f = nothing x.0 bottom_term x.2
    by _ r ws k l x f = cc

variable-normal : (D : ℕ → Bool) (c : Context) (i : ℕ) → AllPlaces (IsNormalAt D) c (variable i)
variable-normal D c i = no-part (IsNormalAt D) c (Form.var i) (normal-node D c (variable i) (λ op a b e. cc) by)
  where
    by : Unfit D c (variable i)
    by B1 r ws k l x f = nothing x.0 bottom_term x.2
    by _ r ws k l x f = cc

position-normal : (D : ℕ → Bool) (c : Context) (n : ℕ) → AllPlaces (IsNormalAt D) c (position n)
position-normal D c n = no-part (IsNormalAt D) c (Form.global n) (normal-node D c (position n) (λ op a b e. cc) by)
  where
    by : Unfit D c (position n)
    by B1 r ws k l x f = nothing x.0 bottom_term x.2
    by _ r ws k l x f = cc

-- the pair (3, 3)
abbrev pair : Term
pair = tuple_term (number 3 ∷ number 3 ∷ [])

pair-normal : (V : Outcomes) → IsNormal V pair
pair-normal V =
    two-parts (IsNormalAt (is_defined V)) no_facts (Form.strict Strict.tuple) 0 0 (number 3) (number 3)
    (normal-node (is_defined V) no_facts pair (λ op a b e. cc) by) (number-normal (is_defined V) _ 3) (number-normal (is_defined V) _ 3)
  where
    by : Unfit (is_defined V) no_facts pair
    by B1 r ws k l x f = nothing x.0 x.2
      where
        nothing : (i : ℕ) → child_of (part 0 (number 3) (part 0 (number 3) none)) i ≡ Some bottom_term → ⊥
        nothing zero e = cc
        nothing (suc zero) e = cc
        nothing (suc (suc i)) e = cc
    by _ r ws k l x f = cc

-- arithmetic on a variable is not computed
arith-normal : (D : ℕ → Bool) (c : Context) (op : ArithOp) (a : Term) (i : ℕ) → ((d : Context) → AllPlaces (IsNormalAt D) d a) → (a ≡ bottom_term → ⊥) → AllPlaces (IsNormalAt D) c (arith_term op a (variable i))
arith-normal D c op a i h apart =
    two-parts (IsNormalAt D) c (Form.strict (Strict.arith op)) 0 0 a (variable i) (normal-node D c (arith_term op a (variable i)) (λ op a b e. cc) by) (h _) (variable-normal D _ i)
  where
    by : Unfit D c (arith_term op a (variable i))
    by B1 r ws k l x f = nothing x.0 x.2
      where
        nothing : (j : ℕ) → child_of (part 0 a (part 0 (variable i) none)) j ≡ Some bottom_term → ⊥
        nothing zero e = apart (same_Some a bottom_term e)
        nothing (suc zero) e = cc
        nothing (suc (suc j)) e = cc
    by K1 r ws k l x f = fold x.0
      where
        fold : Folds (arith_term op a (variable i)) r → ⊥
        fold (arithmetic op m n e k) = cc
        fold (numbers op m n e k) = cc
        fold (truths op a b e k) = cc
        fold (texts op s t e k) = cc
        fold (generated e k) = cc
        fold (member e k) = cc
        fold (misshapen ns cs e h k) = cc
    by _ r ws k l x f = cc

-- `let x = @1 in (x + x)` where position 1 is undefined: nothing may be put in for x
abbrev twice : Term
twice = arith_term Add (variable 0) (variable 0)

abbrev used_twice : Term
used_twice = let_term (position 1) twice

undefined_let-normal : IsNormal (None ∷ []) used_twice
undefined_let-normal =
    two-parts (IsNormalAt D) no_facts Form.bind 0 1 (position 1) twice (normal-node D no_facts used_twice (λ op a b e. cc) by) (position-normal D _ 1)
    (arith-normal D _ Add (variable 0) 0 (λ d. variable-normal D d 0) (λ e. cc))
  where
    D : ℕ → Bool
    D = is_defined (None ∷ [])

    body_is : (e b : Term) → used_twice ≡ let_term e b → twice ≡ b
    body_is e b k = cc

    undefined : Every (FirmAt D no_facts used_twice) ((0 ∷ []) ∷ []) → ⊥
    undefined g = let e : false ≡ true = g.0 (position 1) refl in cc

    by : Unfit D no_facts used_twice
    by B1 r ws k l x f = nothing x.0 x.2
      where
        nothing : (j : ℕ) → child_of (part 0 (position 1) (part 1 twice none)) j ≡ Some bottom_term → ⊥
        nothing zero e = cc
        nothing (suc zero) e = cc
        nothing (suc (suc j)) e = cc
    by L1 r ws k l x f =
        undefined (subst (Every (FirmAt D no_facts used_twice)) (ways-fixed L1 used_twice r (subst_term 0 (position 1) twice) ws ((0 ∷ []) ∷ []) x (position 1, twice, (refl, refl), refl, refl)) f)
    by L2 r ws k l x f = absurd (omega (arith, ap (uses_of 0) (body_is x.0 x.1 x.4), x.2))
    by L3 r ws k l x f = absurd (omega (arith, ap (uses_of 0) (body_is x.0 (shift_term 0 1 r) x.1), uses-shifted 0 r))
    by A4 r ws k l x f = cc
    by _ r ws k l x f = cc

-- `dim_1([[10/i | \i<3]])`: a cell may be undefined, so the dimensions are not those of the bounds
abbrev quotient : Term
quotient = arith_term Quotient (number 10) (variable 0)

abbrev quotients : Term
quotients = tab_term (number 3 ∷ []) quotient

-- the last of some parts
last_of : Parts → Term
last_of none = bottom_term
last_of (part k t none) = t
last_of (part k t (part n u ps)) = last_of (part n u ps)

last-plain : (ds : List Term) (k : ℕ) (b : Term) → last_of (plain ds (part k b none)) ≡ b
unfolding last_of
last-plain [] k b = refl
last-plain (d ∷ []) k b = refl
last-plain (d ∷ e ∷ ds) k b = last-plain (e ∷ ds) k b

dimension-normal : (V : Outcomes) → IsNormal V (dim_term 1 quotients)
unfolding last_of
dimension-normal V =
    one-part (IsNormalAt D) no_facts (Form.strict (Strict.dim 1)) 0 quotients (normal-node D no_facts (dim_term 1 quotients) (λ op a b e. cc) by)
    (two-parts (IsNormalAt D) _ (Form.tab 1) 0 1 (number 3) quotient (normal-node D _ quotients (λ op a b e. cc) tab_by) (number-normal D _ 3)
    (arith-normal D _ Quotient (number 10) 0 (λ d. number-normal D d 10) (λ e. cc)))
  where
    D : ℕ → Bool
    D = is_defined V

    undefined : Every (FirmAt D no_facts (dim_term 1 quotients)) ((0 ∷ 1 ∷ []) ∷ []) → ⊥
    undefined g = let e : false ≡ true = g.0 quotient refl in cc

    by : Unfit D no_facts (dim_term 1 quotients)
    by B1 r ws k l x f = nothing x.0 x.2
      where
        nothing : (j : ℕ) → child_of (part 0 quotients none) j ≡ Some bottom_term → ⊥
        nothing zero e = cc
        nothing (suc j) e = cc
    by A3 r ws k l x f =
        undefined (subst (Every (FirmAt D no_facts (dim_term 1 quotients))) (ways-fixed A3 (dim_term 1 quotients) r (number 3) ws ((0 ∷ 1 ∷ []) ∷ []) x (number 3 ∷ [], quotient, refl, refl, refl)) f)
    by A6 r ws k l x f = cc
    by A7 r ws k l x f = elim x.2 [ inl y ↦ subscript y.0 y.1 | inr y ↦ dimension y.0 y.1 ]
      where
        subscript : (is : List Term) → dim_term 1 quotients ≡ sub_term (let_term x.0 x.1) is → ⊥
        subscript is e = cc

        dimension : (n : ℕ) → dim_term 1 quotients ≡ dim_term n (let_term x.0 x.1) → ⊥
        dimension n e = cc
    by _ r ws k l x f = cc

    tab_by : Unfit D (enter_facts no_facts (dim_term 1 quotients) 0) quotients
    tab_by B1 r ws k l x f = nothing x.0 x.2
      where
        nothing : (j : ℕ) → child_of (part 0 (number 3) (part 1 quotient none)) j ≡ Some bottom_term → ⊥
        nothing zero e = cc
        nothing (suc zero) e = cc
        nothing (suc (suc j)) e = cc
    tab_by A2 r ws k l x f = apart (ap (λ t. last_of (parts_of t)) x.2 ∙ last-plain (dimension_terms x.0 r) _ (sub_term (shift_term 0 x.0 r) (index_variables x.0)))
      where
        apart : quotient ≡ sub_term (shift_term 0 x.0 r) (index_variables x.0) → ⊥
        apart e = cc
    tab_by _ r ws k l x f = cc
