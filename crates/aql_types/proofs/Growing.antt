-- Graphs with nodes and parts behind theirs.
use Rattle.std.proofs.Common.{ℕ, zero, suc, ◌≡◌, ◌+◌, ◌-◌, ◌≤◌, List, [], ◌∷◌, ◌++◌, length, get_or, refl, sym, ap, ◌∙◌, subst, arith, inl, inr, length-append, append_assoc}
use Rattle.std.proofs.lemmas.Bool.{cases_lt}
use Rattle.std.proofs.lemmas.List.{get_or_append_left, get_or-append_right, take-append-le, append-nil}
use Rattle.std.specs.List.{range_with_len}
use Rattle.aql_value.specs.Lists.{below}
use Rattle.aql_types.specs.declared.node.Node.{Node}
use Rattle.aql_types.specs.declared.node.Node.TheVariants as node
use Rattle.aql_types.specs.Shapes as shape
use Rattle.aql_types.specs.Forms.{Form, form_of, forms, parts_from}
use Rattle.aql_types.specs.Forms as form
use Rattle.aql_types.specs.Trees.{IsBuilt, Grows}
use Rattle.aql_types.specs.Laws.Trees.{built_next}
use Rattle.aql_types.proofs.Bare.{forms_length}
use Rattle.aql_types.specs.Ranges.{range_end, AreInside, variable_in, variables_in}

pub forms_push : (ps : List ℕ) (ns : List Node) (n : Node) → forms ps (ns ++ n ∷ []) ≡ forms ps ns ++ form_of ps n ∷ []
forms_push ps [] n = refl
forms_push ps (x ∷ ns) n = ap (λ fs. form_of ps x ∷ fs) (forms_push ps ns n)

-- The parts of a tuple stay where more stand behind them.

from_more : (ps qs : List ℕ) (first count : ℕ) → first + count ≤ length ps → parts_from (ps ++ qs) first count ≡ parts_from ps first count
from_more ps qs zero count le = take-append-le count ps qs (omega arith)
from_more [] qs (suc first) count le = let bad : ⊥ = omega arith in absurd bad
from_more (p ∷ ps) qs (suc first) count le = from_more ps qs first count (omega arith)

form_more : (ps qs : List ℕ) (n : Node) → range_end n ≤ length ps → form_of (ps ++ qs) n ≡ form_of ps n
form_more ps qs (node.Var x) le = refl
form_more ps qs node.Nat le = refl
form_more ps qs node.Bool le = refl
form_more ps qs node.Text le = refl
form_more ps qs (node.Tuple first count) le = ap (λ is. form.made (shape.product is)) (from_more ps qs first count le)
form_more ps qs (node.Set p) le = refl
form_more ps qs (node.Array rank p) le = refl
form_more ps qs (node.Link j) le = refl

pub forms_more : (ps qs : List ℕ) (ns : List Node) → AreInside ps ns → forms (ps ++ qs) ns ≡ forms ps ns
forms_more ps qs [] h = refl
forms_more ps qs (n ∷ ns) h = fronts (form_more ps qs n (h 0)) (forms_more ps qs ns (λ i. h (suc i)))
  where
    fronts : {x y : Form} {xs ys : List Form} → x ≡ y → xs ≡ ys → x ∷ xs ≡ y ∷ ys
    fronts e f = cc

pub inside_more : (ps qs : List ℕ) (ns : List Node) → AreInside ps ns → AreInside (ps ++ qs) ns
inside_more ps qs ns h i = omega (arith, h i, length-append ps qs)

pub inside_push : (ps : List ℕ) (ns : List Node) (n : Node) → AreInside ps ns → range_end n ≤ length ps → AreInside ps (ns ++ n ∷ [])
inside_push ps ns n h le i = elim (cases_lt i (length ns)) [
  | inl lt ↦ subst (λ x. range_end x ≤ length ps) (sym (get_or_append_left ns (n ∷ []) (node.Var 0) i lt)) (h i)
  | inr ge ↦
      subst (λ x. range_end x ≤ length ps) (sym (get_or-append_right ns (n ∷ []) (length ns) i (node.Var 0) refl ge)) (last (i - length ns))
]
  where
    last : (k : ℕ) → range_end (get_or (n ∷ []) k (node.Var 0)) ≤ length ps
    last zero = le
    last (suc k) = omega arith

-- Variables by number.

pub variables_push : (fs : List Form) (f : Form) → variables_in (fs ++ f ∷ []) ≡ variables_in fs ++ variable_in f
variables_push [] f = append-nil (variable_in f)
variables_push (x ∷ fs) f = ap (λ xs. variable_in x ++ xs) (variables_push fs f) ∙ sym (append_assoc (variable_in x) (variables_in fs) (variable_in f))

range_next : (a n : ℕ) → range_with_len a (suc n) ≡ range_with_len a n ++ (a + n) ∷ []
range_next a zero = ap (λ x. x ∷ []) (let z : a ≡ a + 0 = omega arith in z)
range_next a (suc n) = ap (λ xs. a ∷ xs) (range_next (a + 1) n ∙ ap (λ x. range_with_len (a + 1) n ++ x ∷ []) (let z : a + 1 + n ≡ a + suc n = omega arith in z))

pub below_next : (n : ℕ) → below (n + 1) ≡ below n ++ n ∷ []
below_next n = ap below (let z : n + 1 ≡ suc n = omega arith in z) ∙ range_next 0 n ∙ ap (λ x. below n ++ x ∷ []) (let z : 0 + n ≡ n = omega arith in z)

pub same_variables : (fs : List Form) (f : Form) (n : ℕ) → variable_in f ≡ [] → variables_in fs ≡ below n → variables_in (fs ++ f ∷ []) ≡ below n
same_variables fs f n e h = variables_push fs f ∙ ap (λ xs. variables_in fs ++ xs) e ∙ append-nil (variables_in fs) ∙ h

pub next_variable : (fs : List Form) (n : ℕ) → variables_in fs ≡ below n → variables_in (fs ++ form.var n ∷ []) ≡ below (n + 1)
next_variable fs n h = variables_push fs (form.var n) ∙ ap (λ xs. xs ++ n ∷ []) h ∙ sym (below_next n)

-- What a graph keeps, with a node more.

pub more_built : (ps : List ℕ) (ns ms : List Node) (n : Node) → ms ≡ ns ++ n ∷ [] → IsBuilt (forms ps ns) → Grows (form_of ps n) (length ns) → IsBuilt (forms ps ms)
more_built ps ns ms n e b h =
    subst IsBuilt (sym (ap (forms ps) e ∙ forms_push ps ns n)) (built_next (forms ps ns) (form_of ps n) b (subst (Grows (form_of ps n)) (sym (forms_length ps ns)) h))

pub more_inside : (ps : List ℕ) (ns ms : List Node) (n : Node) → ms ≡ ns ++ n ∷ [] → AreInside ps ns → range_end n ≤ length ps → AreInside ps ms
more_inside ps ns ms n e h le = subst (AreInside ps) (sym e) (inside_push ps ns n h le)

pub more_same : (ps : List ℕ) (ns ms : List Node) (n : Node) (k : ℕ) → ms ≡ ns ++ n ∷ [] → variable_in (form_of ps n) ≡ [] → variables_in (forms ps ns) ≡ below k → variables_in (forms ps ms) ≡ below k
more_same ps ns ms n k e v h = ap variables_in (ap (forms ps) e ∙ forms_push ps ns n) ∙ same_variables (forms ps ns) (form_of ps n) k v h

pub more_next : (ps : List ℕ) (ns ms : List Node) (k l : ℕ) → ms ≡ ns ++ node.Var k ∷ [] → l ≡ k + 1 → variables_in (forms ps ns) ≡ below k → variables_in (forms ps ms) ≡ below l
more_next ps ns ms k l e q h = ap variables_in (ap (forms ps) e ∙ forms_push ps ns (node.Var k)) ∙ next_variable (forms ps ns) k h ∙ ap below (sym q)
