-- What follows from the definitions of `Lowering`.
use Rattle.std.proofs.Common.{◌≡◌, ℕ, suc, ◌+◌, ◌*◌, ◌≤◌, ◌<◌, Bool, true, false, Some, refl, ap, ◌∙◌, arith}
use Rattle.std.proofs.Math.Nat.{mul-add}
use Rattle.std.proofs.lemmas.Nat.{mul-le}
use Rattle.nrca_term.specs.Term.{Term, Parts, node, none, part, Form, child_of, parts_of, form_of, with_part, WellFormed}
use Rattle.nrca_term.specs.Nodes.{let_term, if_term, loop_term}
use Rattle.nrca_term.specs.Subst.{shift_form, shift_term}
use Rattle.nrca_term.specs.Rules.{LoopOf}
use Rattle.nrca_motion.specs.Moves.{let_out, rotate_term}
use Rattle.nrca_term.specs.Laws.WellFormed.{well_formed-shift}
use Rattle.nrca_rule_laws.specs.Lets.{is_bind}
use Rattle.nrca_motion.specs.Counting.{Count, one, where_above, number_of, pairs_of, parts_number, IsNameless}
use Rattle.nrca_motion.specs.Laws.Counting.{number-shift, pairs-shift, number-put, pairs-put, numbers-set_child, pairs-set_child}
use Rattle.nrca_motion.specs.Lowering.{is_other, is_body, in_loops, lets_below, measure_of}

-- what counts in a let
pub bind-number : (c : Count) (a b : Term) → number_of c (let_term a b) ≡ one (c.counted Form.bind) + (number_of c a + number_of c b)
bind-number c a b = omega arith

-- a let that goes out of part i of a node keeps the nodes that count
pub let_out-number : (c : Count) → IsNameless c → (l : Term) (i : ℕ) (a x b w : Term) → child_of (parts_of l) i ≡ Some (let_term x b) → number_of c x ≡ number_of c a → number_of c w ≡ number_of c b →
    number_of c (let_out a l i w) ≡ number_of c l
let_out-number c h (node f ps) i a x b w e p q =
    let k = ap one (h.counted 0 1 f) in
    omega (arith, numbers-set_child c h ps i (let_term x b) w e, k, p, q)

-- the pairs fall by the let and the nodes of its term where the node is above that part, and stay otherwise; a let is above no part
pub let_out-pairs : (c : Count) → IsNameless c → ((i : ℕ) → c.above Form.bind i ≡ false) → (l : Term) (i : ℕ) (a x b w : Term) → child_of (parts_of l) i ≡ Some (let_term x b) →
    number_of c x ≡ number_of c a → number_of c w ≡ number_of c b → pairs_of c x ≡ pairs_of c a → pairs_of c w ≡ pairs_of c b →
    pairs_of c (let_out a l i w) + where_above (c.above (form_of l) i) (one (c.counted Form.bind) + number_of c a) ≡ pairs_of c l
let_out-pairs c h n (node f ps) i a x b w e p q r s =
    let t = pairs-set_child c h f 0 i ps i (let_term x b) w (omega arith) e in
    let u = ap (λ y. where_above y (number_of c a)) (n 0) in
    let v = ap (λ y. where_above y (number_of c (with_part (shift_term 0 1 (node f ps)) i w))) (n 1) in
    let y = ap (λ z. where_above z (number_of c x)) (n 0) in
    let z = ap (λ k. where_above k (number_of c b)) (n 1) in
    by (c.above f i) (omega (arith, t, y, z, r, s, p, q)) u v
  where
    by : (k : Bool) →
        pairs_of c (with_part (shift_term 0 1 (node f ps)) i w) + (where_above k (number_of c (let_term x b)) + (pairs_of c a + pairs_of c b)) ≡ pairs_of c (node f ps) + (where_above k (number_of c w) + pairs_of c b) →
        where_above (c.above Form.bind 0) (number_of c a) ≡ 0 → where_above (c.above Form.bind 1) (number_of c (with_part (shift_term 0 1 (node f ps)) i w)) ≡ 0 →
        pairs_of c (let_out a (node f ps) i w) + where_above k (one (c.counted Form.bind) + number_of c a) ≡ pairs_of c (node f ps)
    by true t u v = omega (arith, t, u, v, bind-number c x b, p, q)
    by false t u v = omega (arith, t, u, v)

-- the first count does not look at variables
pub nameless_loops : IsNameless in_loops
nameless_loops = record { counted = λ from by f. refl; above = λ from by f i. body-shift from by f i; variables = λ i j. refl }
  where
    body-shift : (from by : ℕ) (f : Form) (i : ℕ) → is_body (shift_form from by f) i ≡ is_body f i
    body-shift from by (Form.var n) i = refl
    body-shift from by (Form.global n) i = refl
    body-shift from by Form.bind i = refl
    body-shift from by Form.choose i = refl
    body-shift from by Form.default i = refl
    body-shift from by Form.big_union i = refl
    body-shift from by Form.sum i = refl
    body-shift from by (Form.tab rank) i = refl
    body-shift from by (Form.strict s) i = refl

-- neither does the second
pub nameless_lets : IsNameless lets_below
nameless_lets = record { counted = bind-shift; above = other-shift; variables = λ i j. refl }
  where
    bind-shift : (from by : ℕ) (f : Form) → is_bind (shift_form from by f) ≡ is_bind f
    bind-shift from by (Form.var n) = refl
    bind-shift from by (Form.global n) = refl
    bind-shift from by Form.bind = refl
    bind-shift from by Form.choose = refl
    bind-shift from by Form.default = refl
    bind-shift from by Form.big_union = refl
    bind-shift from by Form.sum = refl
    bind-shift from by (Form.tab rank) = refl
    bind-shift from by (Form.strict s) = refl

    other-shift : (from by : ℕ) (f : Form) (i : ℕ) → is_other (shift_form from by f) i ≡ is_other f i
    other-shift from by (Form.var n) i = refl
    other-shift from by (Form.global n) i = refl
    other-shift from by Form.bind i = refl
    other-shift from by Form.choose i = refl
    other-shift from by Form.default i = refl
    other-shift from by Form.big_union i = refl
    other-shift from by Form.sum i = refl
    other-shift from by (Form.tab rank) i = refl
    other-shift from by (Form.strict s) i = refl

mutual
  -- the lets are among the nodes
  pub lets-few : (t : Term) → number_of lets_below t ≤ number_of in_loops t
  lets-few (node f ps) = let a = few (is_bind f) in omega (arith, a, all-few ps)
    where
      few : (b : Bool) → one b ≤ 1
      few true = omega arith
      few false = omega arith

  all-few : (ps : Parts) → parts_number lets_below ps ≤ parts_number in_loops ps
  all-few none = omega arith
  all-few (part k t ps) = omega (arith, lets-few t, all-few ps)

-- the measure falls where the second number falls
fewer-lets : (N q p r s : ℕ) → q ≤ r → p < s → (N + 1) * q + p < (N + 1) * r + s
fewer-lets N q p r s h k = omega (arith, k, mul-le (N + 1) q (N + 1) r (omega arith) h)

-- the measure falls where the first number falls and the second grows by at most N
fewer-pairs : (N q p r s : ℕ) → q < r → p ≤ s + N → (N + 1) * q + p < (N + 1) * r + s
fewer-pairs N q p r s h k = omega (arith, k, mul-add (N + 1) q 1, mul-le (N + 1) (q + 1) (N + 1) r (omega arith) (omega (arith, h)))

-- M2, M3 and M4 lower the measure: a let that goes out of a part of a node other than a let
pub let_out-falls : (N : ℕ) (l : Term) (i : ℕ) (a x b w : Term) → ((j : ℕ) → is_other (form_of l) j ≡ true) → child_of (parts_of l) i ≡ Some (let_term x b) →
    ((c : Count) → IsNameless c → (number_of c x ≡ number_of c a) × (number_of c w ≡ number_of c b) × (pairs_of c x ≡ pairs_of c a) × (pairs_of c w ≡ pairs_of c b)) →
    measure_of N (let_out a l i w) < measure_of N l
let_out-falls N l i a x b w o e same =
    let g = same in_loops nameless_loops in
    let h = same lets_below nameless_lets in
    let q = let_out-pairs in_loops nameless_loops (λ j. refl) l i a x b w e g.0 g.1 g.2 g.3 in
    let p = let_out-pairs lets_below nameless_lets (λ j. refl) l i a x b w e h.0 h.1 h.2 h.3 in
    let k = ap (λ y. where_above y (1 + number_of lets_below a)) (o i) in
    fewer-lets N (pairs_of in_loops (let_out a l i w)) (pairs_of lets_below (let_out a l i w)) (pairs_of in_loops l) (pairs_of lets_below l) (omega (arith, q)) (omega (arith, p, k))

-- M1 lowers the measure: a test that goes out of a loop
pub test_out-falls : (N : ℕ) (f : Form) (e c b z : Term) → LoopOf f z → number_of in_loops e ≤ N →
    measure_of N (if_term c (loop_term f e b) z) < measure_of N (loop_term f e (if_term (shift_term 0 1 c) b z))
test_out-falls N Form.big_union e c b z l h =
    let n = number-shift in_loops nameless_loops 0 1 c in
    let m = number-shift lets_below nameless_lets 0 1 c in
    let q = pairs-shift in_loops nameless_loops 0 1 c in
    let p = pairs-shift lets_below nameless_lets 0 1 c in
    fewer-pairs N (pairs_of in_loops (if_term c (loop_term Form.big_union e b) z)) (pairs_of lets_below (if_term c (loop_term Form.big_union e b) z))
    (pairs_of in_loops (loop_term Form.big_union e (if_term (shift_term 0 1 c) b z))) (pairs_of lets_below (loop_term Form.big_union e (if_term (shift_term 0 1 c) b z)))
    (omega (arith, n, q)) (omega (arith, m, p, h, lets-few e))
test_out-falls N Form.sum e c b z l h =
    let n = number-shift in_loops nameless_loops 0 1 c in
    let m = number-shift lets_below nameless_lets 0 1 c in
    let q = pairs-shift in_loops nameless_loops 0 1 c in
    let p = pairs-shift lets_below nameless_lets 0 1 c in
    fewer-pairs N (pairs_of in_loops (if_term c (loop_term Form.sum e b) z)) (pairs_of lets_below (if_term c (loop_term Form.sum e b) z))
    (pairs_of in_loops (loop_term Form.sum e (if_term (shift_term 0 1 c) b z))) (pairs_of lets_below (loop_term Form.sum e (if_term (shift_term 0 1 c) b z)))
    (omega (arith, n, q)) (omega (arith, m, p, h, lets-few e))
test_out-falls N (Form.var i) e c b z l h = absurd l
test_out-falls N (Form.global n) e c b z l h = absurd l
test_out-falls N Form.bind e c b z l h = absurd l
test_out-falls N Form.choose e c b z l h = absurd l
test_out-falls N Form.default e c b z l h = absurd l
test_out-falls N (Form.tab rank) e c b z l h = absurd l
test_out-falls N (Form.strict s) e c b z l h = absurd l

-- what a let's body that goes out past variables keeps
pub rotated-counts : (c : Count) → IsNameless c → (k : ℕ) (b : Term) → WellFormed b → (number_of c (rotate_term k b) ≡ number_of c b) × (pairs_of c (rotate_term k b) ≡ pairs_of c b)
rotated-counts c h k b w = (
  number-put c h 0 k (shift_term (suc k) 1 b) (well_formed-shift (suc k) 1 b w) ∙ number-shift c h (suc k) 1 b,
  pairs-put c h 0 k (shift_term (suc k) 1 b) (well_formed-shift (suc k) 1 b w) ∙ pairs-shift c h (suc k) 1 b,
)
