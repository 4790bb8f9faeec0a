-- Each move keeps the weight.
use Rattle.std.proofs.Common.{◌≡◌, ℕ, zero, suc, ◌+◌, Some, refl, sym, ap, ◌∙◌, arith}
use Rattle.std.proofs.Common.{List, [], ◌∷◌}
use Rattle.aql_ty.specs.Types.{Ty}
use Rattle.nrca_term.specs.Term.{Term, Parts, node, none, part, Form, parts_of, child_of, binders_of, set_child, weight_of, parts_weight, WellFormed}
use Rattle.nrca_term.specs.Nodes.{variable, let_term, if_term, loop_term}
use Rattle.nrca_term.specs.Meaning.{Outcomes}
use Rattle.nrca_term.specs.Laws.Measure.{weight-put_at}
use Rattle.nrca_term.specs.Subst.{shift_term, shift_parts}
use Rattle.nrca_term.specs.Laws.TypedForm.{well_formed-typed}
use Rattle.nrca_term.specs.Laws.TypedPlaces.{typed-place}
use Rattle.nrca_term.specs.Typing.{ctyped}
use Rattle.nrca_term.specs.Laws.WellFormed.{well_formed-shift, well_formed-child}
use Rattle.nrca_rule_laws.specs.Laws.Weights.{weight-shift, weight-subst, form_weight-shift, weights-shift}
use Rattle.nrca_motion.specs.declared.moves.MoveRule.{MoveRule}
use Rattle.nrca_motion.specs.declared.moves.MoveRule.TheVariants.{M1, M2, M3, M4}
use Rattle.nrca_motion.specs.declared.moves.Move as code
use Rattle.nrca_motion.specs.Moves.{rotate_term, let_out, MoveRedex, MoveStep, MoveChain}
use Rattle.nrca_motion.specs.Laws.Steps.{step-typed}

-- the parts under one more variable, one of them another term
parts_weight-set_child : (ps : Parts) (i : ℕ) (u w : Term) → child_of ps i ≡ Some u → parts_weight (set_child (shift_parts 0 1 ps) i w) + weight_of u ≡ parts_weight ps + weight_of w
parts_weight-set_child none i u w e = cc
parts_weight-set_child (part k t ps) zero u w e = let same : t ≡ u = cc in omega (arith, ap weight_of same, weights-shift 0 1 ps)
parts_weight-set_child (part k t ps) (suc i) u w e = omega (arith, weight-shift (0 + k) 1 t, parts_weight-set_child ps i u w e)

-- a let that goes out of a part of a node
let_out-weight : (l : Term) (i : ℕ) (a x b w : Term) → child_of (parts_of l) i ≡ Some (let_term x b) → weight_of x ≡ weight_of a → weight_of w ≡ weight_of b →
    weight_of (let_out a l i w) ≡ weight_of l
let_out-weight (node f ps) i a x b w e p q = omega (arith, parts_weight-set_child ps i (let_term x b) w e, form_weight-shift 0 1 f, p, q)

-- a variable put in for another
rotated-weight : (k : ℕ) (b : Term) → WellFormed b → weight_of (rotate_term k b) ≡ weight_of b
rotated-weight k b h =
    omega (arith, weight-subst 0 (variable k) (shift_term (suc k) 1 b) (well_formed-shift (suc k) 1 b h), weight-shift (suc k) 1 b)

-- the body of a let that is a part of a well-formed term
body-formed : (l : Term) (i : ℕ) (x b : Term) → WellFormed l → child_of (parts_of l) i ≡ Some (let_term x b) → WellFormed b
body-formed l i x b h e = (well_formed-child l i (let_term x b) h e).1.2.1

-- M2 and M3 keep it
let_below-weight : (l : Term) (i k : ℕ) (a b : Term) → WellFormed l → child_of (parts_of l) i ≡ Some (let_term (shift_term 0 k a) b) →
    weight_of (let_out a l i (rotate_term k b)) ≡ weight_of l
let_below-weight l i k a b h e =
    let_out-weight l i a (shift_term 0 k a) b (rotate_term k b) e (weight-shift 0 k a) (rotated-weight k b (body-formed l i (shift_term 0 k a) b h e))

-- M1 keeps it
test_out-weight : (f : Form) (e c b z : Term) → weight_of (if_term c (loop_term f e b) z) ≡ weight_of (loop_term f e (if_term (shift_term 0 1 c) b z))
test_out-weight f e c b z = omega (arith, weight-shift 0 1 c)

-- the right side of a move weighs what its left side weighs
pub redex-weight : (R : MoveRule) (l r : Term) (needs : List Term) → WellFormed l → MoveRedex R l r needs → weight_of r ≡ weight_of l
redex-weight M1 l r needs h m = ap weight_of m.7 ∙ test_out-weight m.0 m.2 m.3 m.4 m.1 ∙ sym (ap weight_of m.6)
redex-weight M2 l r needs h m = ap weight_of m.5 ∙ let_below-weight l m.0 (binders_of (parts_of l) m.0) m.1 m.2 h m.4
redex-weight M3 l r needs h m = ap weight_of m.5 ∙ let_below-weight l m.0 (binders_of (parts_of l) m.0) m.1 m.2 h m.4
redex-weight M4 l r needs h m = ap weight_of m.6 ∙ let_out-weight l m.0 m.1 m.1 m.2 m.2 m.5 refl refl

-- one move of a closed typed term keeps its weight
pub step-weight : (G : ℕ → Ty → Type 0) (V : Outcomes) (R : MoveRule) (path : List ℕ) (t u : Term) (T : Ty) → ctyped G [] t T → MoveStep V R path t u → weight_of u ≡ weight_of t
step-weight G V R path t u T c s =
    let p = typed-place G path [] t s.from T c s.found in
    let w = redex-weight R s.from s.to s.needs (well_formed-typed G p.around s.from p.type p.typed) s.moved in
    ap weight_of s.put ∙ (let a = weight-put_at path t s.from s.to s.found in omega (arith, a, w))

-- so does a chain of moves
pub chain-weight : (G : ℕ → Ty → Type 0) (V : Outcomes) (moves : List code.Move) (t u : Term) (T : Ty) → ctyped G [] t T → MoveChain V moves t u → weight_of u ≡ weight_of t
chain-weight G V [] t u T c h = sym (ap weight_of h)
chain-weight G V (s ∷ moves) t u T c h =
    chain-weight G V moves h.0 u T (step-typed G V s.rule s.path t h.0 h.1 T c) h.2 ∙ step-weight G V s.rule s.path t h.0 T c h.1
