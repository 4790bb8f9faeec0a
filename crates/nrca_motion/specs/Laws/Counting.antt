-- What follows from the definitions of `Counting`.
use Rattle.std.proofs.Common.{◌≡◌, ℕ, zero, suc, ◌+◌, ◌-◌, nat_lt, nat_eq, List, [], ◌∷◌, Some, refl, sym, ap, ◌∙◌, arith, if◌then◌else◌, inl, inr}
use Rattle.std.proofs.lemmas.Bool.{cases_lt, cases_Bool, lt-ltb, le-ltb}
use Rattle.nrca_term.specs.Term.{Term, Parts, node, none, part, Form, child_of, set_child, WellFormed, PartsWellFormed, LeafIsBare}
use Rattle.nrca_term.specs.Nodes.{variable}
use Rattle.nrca_term.specs.Places.{place_of, on_child, put_at}
use Rattle.nrca_term.specs.Laws.Measure.{through}
use Rattle.nrca_term.specs.Subst.{shift_form, shift_term, shift_parts, subst_var, subst_node, subst_term, subst_parts}
use Rattle.nrca_motion.specs.Counting.{Count, one, where_above, number_of, parts_number, pairs_of, parts_pairs, IsNameless}

mutual
  -- a shift keeps the nodes that count
  pub number-shift : (c : Count) → IsNameless c → (from by : ℕ) (t : Term) → number_of c (shift_term from by t) ≡ number_of c t
  number-shift c h from by (node f ps) = ap (λ b. one b + parts_number c (shift_parts from by ps)) (h.counted from by f) ∙ ap (λ n. one (c.counted f) + n) (numbers-shift c h from by ps)

  numbers-shift : (c : Count) → IsNameless c → (from by : ℕ) (ps : Parts) → parts_number c (shift_parts from by ps) ≡ parts_number c ps
  numbers-shift c h from by none = refl
  numbers-shift c h from by (part k t ps) = ap (λ n. n + parts_number c (shift_parts from by ps)) (number-shift c h (from + k) by t) ∙ ap (λ n. number_of c t + n) (numbers-shift c h from by ps)

mutual
  -- a shift keeps the pairs
  pub pairs-shift : (c : Count) → IsNameless c → (from by : ℕ) (t : Term) → pairs_of c (shift_term from by t) ≡ pairs_of c t
  pairs-shift c h from by (node f ps) = all-pairs-shift c h from by f 0 ps

  all-pairs-shift : (c : Count) → IsNameless c → (from by : ℕ) (f : Form) (i : ℕ) (ps : Parts) → parts_pairs c (shift_form from by f) i (shift_parts from by ps) ≡ parts_pairs c f i ps
  all-pairs-shift c h from by f i none = refl
  all-pairs-shift c h from by f i (part k t ps) =
      let a = ap (λ b. where_above b (number_of c (shift_term (from + k) by t))) (h.above from by f i) ∙ ap (where_above (c.above f i)) (number-shift c h (from + k) by t) in
      omega (arith, a, pairs-shift c h (from + k) by t, all-pairs-shift c h from by f (suc i) ps)

-- a variable counts as the one that is put in
number-var : (c : Count) → IsNameless c → (at j i : ℕ) → number_of c (subst_var at (variable j) i) ≡ number_of c (variable i)
number-var c h at j i =
    elim (cases_lt i at) [
      | inl l ↦ rw (lt-ltb i at l) refl
      | inr l ↦ rw (le-ltb i at l) (elim (cases_Bool (nat_eq i at)) [
        | inl e ↦ rw e (ap (λ b. one b + 0) (h.variables j i))
        | inr e ↦ rw e (ap (λ b. one b + 0) (h.variables (i - 1) i))
      ])
    ]

-- a variable has no pairs
pairs-var : (c : Count) (at j i : ℕ) → pairs_of c (subst_var at (variable j) i) ≡ 0
pairs-var c at j i =
    elim (cases_lt i at) [
      | inl l ↦ rw (lt-ltb i at l) refl
      | inr l ↦ rw (le-ltb i at l) (elim (cases_Bool (nat_eq i at)) [
        | inl e ↦ rw e refl
        | inr e ↦ rw e refl
      ])
    ]

-- a node with parts that count as many
number-node : (c : Count) → IsNameless c → (at j : ℕ) (f : Form) (qs ps : Parts) → LeafIsBare f ps → parts_number c qs ≡ parts_number c ps → number_of c (subst_node at (variable j) f qs) ≡ number_of c (node f ps)
number-node c h at j (Form.var i) qs ps b e = number-var c h at j i ∙ ap (λ q. number_of c (node (Form.var i) q)) (sym b)
number-node c h at j (Form.global n) qs ps b e = ap (λ m. one (c.counted (Form.global n)) + m) e
number-node c h at j Form.bind qs ps b e = ap (λ m. one (c.counted Form.bind) + m) e
number-node c h at j Form.choose qs ps b e = ap (λ m. one (c.counted Form.choose) + m) e
number-node c h at j Form.default qs ps b e = ap (λ m. one (c.counted Form.default) + m) e
number-node c h at j Form.big_union qs ps b e = ap (λ m. one (c.counted Form.big_union) + m) e
number-node c h at j Form.sum qs ps b e = ap (λ m. one (c.counted Form.sum) + m) e
number-node c h at j (Form.tab rank) qs ps b e = ap (λ m. one (c.counted (Form.tab rank)) + m) e
number-node c h at j (Form.strict s) qs ps b e = ap (λ m. one (c.counted (Form.strict s)) + m) e

mutual
  -- a variable put in keeps the nodes that count
  pub number-put : (c : Count) → IsNameless c → (at j : ℕ) (t : Term) → WellFormed t → number_of c (subst_term at (variable j) t) ≡ number_of c t
  number-put c h at j (node f ps) w = number-node c h at j f (subst_parts at (variable j) ps) ps w.0 (numbers-put c h at j f 0 ps w.1)

  numbers-put : (c : Count) → IsNameless c → (at j : ℕ) (f : Form) (i : ℕ) (ps : Parts) → PartsWellFormed f i ps → parts_number c (subst_parts at (variable j) ps) ≡ parts_number c ps
  numbers-put c h at j f i none w = refl
  numbers-put c h at j f i (part k t ps) w = let a = number-put c h (at + k) (if nat_lt j 0 then j else j + k) t w.1 in omega (arith, a, numbers-put c h at j f (suc i) ps w.2)

-- a node with parts that have as many pairs
pairs-node : (c : Count) (at j : ℕ) (f : Form) (qs ps : Parts) → LeafIsBare f ps → parts_pairs c f 0 qs ≡ parts_pairs c f 0 ps → pairs_of c (subst_node at (variable j) f qs) ≡ pairs_of c (node f ps)
pairs-node c at j (Form.var i) qs ps b e = pairs-var c at j i ∙ ap (λ q. pairs_of c (node (Form.var i) q)) (sym b)
pairs-node c at j (Form.global n) qs ps b e = e
pairs-node c at j Form.bind qs ps b e = e
pairs-node c at j Form.choose qs ps b e = e
pairs-node c at j Form.default qs ps b e = e
pairs-node c at j Form.big_union qs ps b e = e
pairs-node c at j Form.sum qs ps b e = e
pairs-node c at j (Form.tab rank) qs ps b e = e
pairs-node c at j (Form.strict s) qs ps b e = e

mutual
  -- a variable put in keeps the pairs
  pub pairs-put : (c : Count) → IsNameless c → (at j : ℕ) (t : Term) → WellFormed t → pairs_of c (subst_term at (variable j) t) ≡ pairs_of c t
  pairs-put c h at j (node f ps) w = pairs-node c at j f (subst_parts at (variable j) ps) ps w.0 (all-pairs-put c h at j f 0 ps w.1)

  all-pairs-put : (c : Count) → IsNameless c → (at j : ℕ) (f : Form) (i : ℕ) (ps : Parts) → PartsWellFormed f i ps → parts_pairs c f i (subst_parts at (variable j) ps) ≡ parts_pairs c f i ps
  all-pairs-put c h at j f i none w = refl
  all-pairs-put c h at j f i (part k t ps) w =
      let a = ap (where_above (c.above f i)) (number-put c h (at + k) (if nat_lt j 0 then j else j + k) t w.1) in
      let b = pairs-put c h (at + k) (if nat_lt j 0 then j else j + k) t w.1 in
      omega (arith, a, b, all-pairs-put c h at j f (suc i) ps w.2)

-- what another part i does to a node that is put under one more variable
pub numbers-set_child : (c : Count) → IsNameless c → (ps : Parts) (i : ℕ) (u w : Term) → child_of ps i ≡ Some u →
    parts_number c (set_child (shift_parts 0 1 ps) i w) + number_of c u ≡ parts_number c ps + number_of c w
numbers-set_child c h none i u w e = cc
numbers-set_child c h (part k t ps) zero u w e = let same : t ≡ u = cc in omega (arith, ap (number_of c) same, numbers-shift c h 0 1 ps)
numbers-set_child c h (part k t ps) (suc i) u w e = omega (arith, number-shift c h (0 + k) 1 t, numbers-set_child c h ps i u w e)

-- the pairs of the node likewise
pub pairs-set_child : (c : Count) → IsNameless c → (f : Form) (j m : ℕ) (ps : Parts) (i : ℕ) (u w : Term) → m ≡ j + i → child_of ps i ≡ Some u →
    parts_pairs c (shift_form 0 1 f) j (set_child (shift_parts 0 1 ps) i w) + (where_above (c.above f m) (number_of c u) + pairs_of c u)
    ≡ parts_pairs c f j ps + (where_above (c.above f m) (number_of c w) + pairs_of c w)
pairs-set_child c h f j m none i u w z e = cc
pairs-set_child c h f j m (part k t ps) zero u w z e =
    let same : t ≡ u = cc in
    let here : j ≡ m = omega (arith, z) in
    let a = ap (λ b. where_above b (number_of c w)) (h.above 0 1 f j) ∙ ap (λ n. where_above (c.above f n) (number_of c w)) here in
    let b = ap (λ n. where_above (c.above f n) (number_of c t)) here ∙ ap (λ x. where_above (c.above f m) (number_of c x)) same in
    omega (arith, a, b, ap (pairs_of c) same, all-pairs-shift c h 0 1 f (suc j) ps)
pairs-set_child c h f j m (part k t ps) (suc i) u w z e =
    let a = ap (λ b. where_above b (number_of c (shift_term (0 + k) 1 t))) (h.above 0 1 f j) ∙ ap (where_above (c.above f j)) (number-shift c h (0 + k) 1 t) in
    omega (arith, a, pairs-shift c h (0 + k) 1 t, pairs-set_child c h f (suc j) m ps i u w (omega (arith, z)) e)

-- another part changes the nodes by its own
numbers-on_child : (c : Count) (ps : Parts) (i : ℕ) (r : Term) (g : Term → Term) → child_of ps i ≡ Some r → parts_number c (on_child ps i g) + number_of c r ≡ parts_number c ps + number_of c (g r)
numbers-on_child c none i r g e = cc
numbers-on_child c (part k t ps) zero r g e = let same : t ≡ r = cc in omega (arith, ap (number_of c) same, ap (λ x. number_of c (g x)) same)
numbers-on_child c (part k t ps) (suc i) r g e = omega (arith, numbers-on_child c ps i r g e)

-- another term at a place changes the nodes by its own
pub number-put_at : (c : Count) (path : List ℕ) (t s u : Term) → place_of t path ≡ Some s → number_of c (put_at t path u) + number_of c s ≡ number_of c t + number_of c u
number-put_at c [] t s u e = let same : t ≡ s = cc in omega (arith, ap (number_of c) same)
number-put_at c (i ∷ path) (node f ps) s u e =
    let r = through ps i path s e in
    omega (arith, numbers-on_child c ps i r.0 (λ x. put_at x path u) r.1, number-put_at c path r.0 s u r.2)

-- another part with as many nodes changes the pairs by its own
pairs-on_child : (c : Count) (f : Form) (j : ℕ) (ps : Parts) (i : ℕ) (r : Term) (g : Term → Term) → child_of ps i ≡ Some r → number_of c (g r) ≡ number_of c r →
    parts_pairs c f j (on_child ps i g) + pairs_of c r ≡ parts_pairs c f j ps + pairs_of c (g r)
pairs-on_child c f j none i r g e n = cc
pairs-on_child c f j (part k t ps) zero r g e n =
    let same : t ≡ r = cc in
    let a = ap (λ x. where_above (c.above f j) (number_of c (g x))) same ∙ ap (where_above (c.above f j)) n ∙ ap (λ x. where_above (c.above f j) (number_of c x)) (sym same) in
    omega (arith, a, ap (pairs_of c) same, ap (λ x. pairs_of c (g x)) same)
pairs-on_child c f j (part k t ps) (suc i) r g e n = omega (arith, pairs-on_child c f (suc j) ps i r g e n)

-- where the nodes that count stay as many, the pairs change as those of the part do
pub pairs-put_at : (c : Count) (path : List ℕ) (t s u : Term) → place_of t path ≡ Some s → number_of c u ≡ number_of c s → pairs_of c (put_at t path u) + pairs_of c s ≡ pairs_of c t + pairs_of c u
pairs-put_at c [] t s u e n = let same : t ≡ s = cc in omega (arith, ap (pairs_of c) same)
pairs-put_at c (i ∷ path) (node f ps) s u e n =
    let r = through ps i path s e in
    let k : number_of c (put_at r.0 path u) ≡ number_of c r.0 = omega (arith, number-put_at c path r.0 s u r.2, n) in
    omega (arith, pairs-on_child c f 0 ps i r.0 (λ x. put_at x path u) r.1 k, pairs-put_at c path r.0 s u r.2 n)
