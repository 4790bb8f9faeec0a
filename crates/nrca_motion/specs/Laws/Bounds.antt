-- Each move keeps the number of nodes and lowers the measure; so chains are short.
use Rattle.std.proofs.Common.{◌≡◌, ℕ, zero, suc, ◌+◌, ◌*◌, ◌^◌, ◌<◌, ◌≤◌, Bool, true, false, List, [], ◌∷◌, length, Some, refl, sym, ap, subst, ◌∙◌, arith}
use Rattle.std.proofs.Math.Nat.{mul-add, mul_comm}
use Rattle.std.proofs.lemmas.Nat.{mul-le}
use Rattle.nrca_term.specs.Term.{weight_of}
use Rattle.nrca_term.specs.Measure.{nodes_of, parts_nodes}
use Rattle.aql_ty.specs.Types.{Ty}
use Rattle.nrca_term.specs.Term.{Term, Parts, Form, node, none, part, form_of, parts_of, child_of, binders_of, WellFormed}
use Rattle.nrca_term.specs.Nodes.{let_term, if_term, loop_term}
use Rattle.nrca_term.specs.Meaning.{Outcomes}
use Rattle.nrca_term.specs.Laws.Measure.{through, nodes-weight, square_sum}
use Rattle.nrca_term.specs.Places.{place_of, put_at}
use Rattle.nrca_term.specs.Subst.{shift_term}
use Rattle.nrca_term.specs.Laws.TypedForm.{well_formed-typed}
use Rattle.nrca_term.specs.Laws.TypedPlaces.{typed-place}
use Rattle.nrca_term.specs.Typing.{ctyped}
use Rattle.nrca_term.specs.Laws.WellFormed.{well_formed-child}
use Rattle.nrca_rule_laws.specs.Laws.Steps.{cube}
use Rattle.nrca_motion.specs.declared.moves.MoveRule.{MoveRule}
use Rattle.nrca_motion.specs.declared.moves.MoveRule.TheVariants.{M1, M2, M3, M4}
use Rattle.nrca_motion.specs.declared.moves.Move as code
use Rattle.nrca_motion.specs.Moves.{MoveRedex, MoveStep, MoveChain, rotate_term, LoopBody, TabBody}
use Rattle.nrca_motion.specs.Counting.{Count, one, where_above, number_of, pairs_of, parts_pairs, parts_number, IsNameless}
use Rattle.nrca_motion.specs.Laws.Counting.{number-shift, pairs-shift, number-put_at, pairs-put_at}
use Rattle.nrca_motion.specs.Lowering.{in_loops, lets_below, is_other, measure_of}
use Rattle.nrca_motion.specs.Laws.Lowering.{nameless_loops, nameless_lets, let_out-number, let_out-falls, test_out-falls, rotated-counts}
use Rattle.nrca_motion.specs.Laws.Steps.{step-typed}

-- the body of a let that is a part of a well-formed term
let-formed : (l : Term) (i : ℕ) (x b : Term) → WellFormed l → child_of (parts_of l) i ≡ Some (let_term x b) → WellFormed b
let-formed l i x b w e = (well_formed-child l i (let_term x b) w e).1.2.1

-- M1 keeps the nodes that count
test-number : (c : Count) → IsNameless c → (f : Form) (e t b z : Term) → number_of c (if_term t (loop_term f e b) z) ≡ number_of c (loop_term f e (if_term (shift_term 0 1 t) b z))
test-number c h f e t b z = omega (arith, number-shift c h 0 1 t)

-- so does every move of a well-formed term
pub moved-number : (c : Count) → IsNameless c → (R : MoveRule) (l r : Term) (needs : List Term) → WellFormed l → MoveRedex R l r needs → number_of c r ≡ number_of c l
moved-number c h M1 l r needs w m = ap (number_of c) m.7 ∙ test-number c h m.0 m.2 m.3 m.4 m.1 ∙ sym (ap (number_of c) m.6)
moved-number c h M2 l r needs w m =
    ap (number_of c) m.5 ∙ let_out-number c h l m.0 m.1 (shift_term 0 (binders_of (parts_of l) m.0) m.1) m.2 (rotate_term (binders_of (parts_of l) m.0) m.2) m.4
    (number-shift c h 0 (binders_of (parts_of l) m.0) m.1) (rotated-counts c h (binders_of (parts_of l) m.0) m.2 (let-formed l m.0 (shift_term 0 (binders_of (parts_of l) m.0) m.1) m.2 w m.4)).0
moved-number c h M3 l r needs w m =
    ap (number_of c) m.5 ∙ let_out-number c h l m.0 m.1 (shift_term 0 (binders_of (parts_of l) m.0) m.1) m.2 (rotate_term (binders_of (parts_of l) m.0) m.2) m.4
    (number-shift c h 0 (binders_of (parts_of l) m.0) m.1) (rotated-counts c h (binders_of (parts_of l) m.0) m.2 (let-formed l m.0 (shift_term 0 (binders_of (parts_of l) m.0) m.1) m.2 w m.4)).0
moved-number c h M4 l r needs w m = ap (number_of c) m.6 ∙ let_out-number c h l m.0 m.1 m.1 m.2 m.2 m.5 refl refl

-- a loop is a node other than a let
other-loop : (f : Form) (i : ℕ) → LoopBody f i → (j : ℕ) → is_other f j ≡ true
other-loop Form.big_union i h j = refl
other-loop Form.sum i h j = refl
other-loop (Form.var n) i h j = absurd h
other-loop (Form.global n) i h j = absurd h
other-loop Form.bind i h j = absurd h
other-loop Form.choose i h j = absurd h
other-loop Form.default i h j = absurd h
other-loop (Form.tab rank) i h j = absurd h
other-loop (Form.strict s) i h j = absurd h

-- so is a tabulation
other-tab : (f : Form) (i : ℕ) → TabBody f i → (j : ℕ) → is_other f j ≡ true
other-tab (Form.tab rank) i h j = refl
other-tab Form.big_union i h j = absurd h
other-tab Form.sum i h j = absurd h
other-tab (Form.var n) i h j = absurd h
other-tab (Form.global n) i h j = absurd h
other-tab Form.bind i h j = absurd h
other-tab Form.choose i h j = absurd h
other-tab Form.default i h j = absurd h
other-tab (Form.strict s) i h j = absurd h

-- so is every form but the let itself
other-form : (f : Form) → (f ≡ Form.bind → ⊥) → (j : ℕ) → is_other f j ≡ true
other-form (Form.var n) h j = refl
other-form (Form.global n) h j = refl
other-form Form.bind h j = absurd (h refl)
other-form Form.choose h j = refl
other-form Form.default h j = refl
other-form Form.big_union h j = refl
other-form Form.sum h j = refl
other-form (Form.tab rank) h j = refl
other-form (Form.strict s) h j = refl

-- the operand of a loop has fewer nodes
operand-few : (f : Form) (e b : Term) → number_of in_loops e ≤ number_of in_loops (loop_term f e b)
operand-few f e b = omega arith

-- every move lowers the measure, N being at least the nodes of the left side
pub moved-lowers : (N : ℕ) (R : MoveRule) (l r : Term) (needs : List Term) → WellFormed l → MoveRedex R l r needs → number_of in_loops l ≤ N → measure_of N r < measure_of N l
moved-lowers N M1 l r needs w m n =
    let a = test_out-falls N m.0 m.2 m.3 m.4 m.1 m.5 (omega (arith, n, ap (number_of in_loops) m.6, operand-few m.0 m.2 (if_term (shift_term 0 1 m.3) m.4 m.1))) in
    omega (arith, a, ap (measure_of N) m.6, ap (measure_of N) m.7)
moved-lowers N M2 l r needs w m n =
    let k = binders_of (parts_of l) m.0 in
    let b = let-formed l m.0 (shift_term 0 (binders_of (parts_of l) m.0) m.1) m.2 w m.4 in
    let a = let_out-falls N l m.0 m.1 (shift_term 0 (binders_of (parts_of l) m.0) m.1) m.2 (rotate_term (binders_of (parts_of l) m.0) m.2) (other-loop (form_of l) m.0 m.3) m.4
    (λ c h. (number-shift c h 0 (binders_of (parts_of l) m.0) m.1, (rotated-counts c h (binders_of (parts_of l) m.0) m.2 b).0, pairs-shift c h 0 (binders_of (parts_of l) m.0) m.1, (rotated-counts c h (binders_of (parts_of l) m.0) m.2 b).1)) in
    omega (arith, a, ap (measure_of N) m.5)
moved-lowers N M3 l r needs w m n =
    let b = let-formed l m.0 (shift_term 0 (binders_of (parts_of l) m.0) m.1) m.2 w m.4 in
    let a = let_out-falls N l m.0 m.1 (shift_term 0 (binders_of (parts_of l) m.0) m.1) m.2 (rotate_term (binders_of (parts_of l) m.0) m.2) (other-tab (form_of l) m.0 m.3) m.4
    (λ c h. (number-shift c h 0 (binders_of (parts_of l) m.0) m.1, (rotated-counts c h (binders_of (parts_of l) m.0) m.2 b).0, pairs-shift c h 0 (binders_of (parts_of l) m.0) m.1, (rotated-counts c h (binders_of (parts_of l) m.0) m.2 b).1)) in
    omega (arith, a, ap (measure_of N) m.5)
moved-lowers N M4 l r needs w m n =
    let a = let_out-falls N l m.0 m.1 m.1 m.2 m.2 (other-form (form_of l) m.3) m.5 (λ c h. (refl, refl, refl, refl)) in
    omega (arith, a, ap (measure_of N) m.6)

-- a part has at most the nodes of all parts
child-few : (ps : Parts) (i : ℕ) (u : Term) → child_of ps i ≡ Some u → number_of in_loops u ≤ parts_number in_loops ps
child-few none i u e = cc
child-few (part k t ps) zero u e = let same : t ≡ u = cc in omega (arith, ap (number_of in_loops) same)
child-few (part k t ps) (suc i) u e = omega (arith, child-few ps i u e)

-- a place has at most the nodes of the term
pub place-few : (path : List ℕ) (t s : Term) → place_of t path ≡ Some s → number_of in_loops s ≤ number_of in_loops t
place-few [] t s e = let same : t ≡ s = cc in omega (arith, ap (number_of in_loops) same)
place-few (i ∷ path) (node f ps) s e = let r = through ps i path s e in omega (arith, child-few ps i r.0 r.1, place-few path r.0 s r.2)

-- where a place is replaced that keeps its nodes and lowers its measure, the whole term lowers its measure
pub falls-put_at : (N : ℕ) (path : List ℕ) (t s r : Term) → place_of t path ≡ Some s → number_of in_loops r ≡ number_of in_loops s → number_of lets_below r ≡ number_of lets_below s → measure_of N r < measure_of N s → measure_of N (put_at t path r) < measure_of N t
falls-put_at N path t s r e n m l =
    let q = pairs-put_at in_loops path t s r e n in
    let p = pairs-put_at lets_below path t s r e m in
    let a = ap (λ x. (N + 1) * x) q in
    omega (arith, l, p, a, mul-add (N + 1) (pairs_of in_loops (put_at t path r)) (pairs_of in_loops s), mul-add (N + 1) (pairs_of in_loops t) (pairs_of in_loops r))

-- one move of a closed typed term keeps its nodes and lowers its measure
pub step-lowers : (G : ℕ → Ty → Type 0) (V : Outcomes) (R : MoveRule) (path : List ℕ) (t u : Term) (T : Ty) → ctyped G [] t T → MoveStep V R path t u →
    (number_of in_loops u ≡ number_of in_loops t) × (measure_of (number_of in_loops t) u < measure_of (number_of in_loops t) t)
step-lowers G V R path t u T c s =
    let p = typed-place G path [] t s.from T c s.found in
    let w = well_formed-typed G p.around s.from p.type p.typed in
    let n = moved-number in_loops nameless_loops R s.from s.to s.needs w s.moved in
    let m = moved-number lets_below nameless_lets R s.from s.to s.needs w s.moved in
    let l = moved-lowers (number_of in_loops t) R s.from s.to s.needs w s.moved (place-few path t s.from s.found) in (
      ap (number_of in_loops) s.put ∙ (let a = number-put_at in_loops path t s.from s.to s.found in omega (arith, a, n)),
      subst (λ x. measure_of (number_of in_loops t) x < measure_of (number_of in_loops t) t) (sym s.put) (falls-put_at (number_of in_loops t) path t s.from s.to s.found n m l),
    )

-- a chain has at most as many moves as its measure falls by
pub chain-short : (G : ℕ → Ty → Type 0) (V : Outcomes) (moves : List code.Move) (t u : Term) (T : Ty) → ctyped G [] t T → MoveChain V moves t u → length moves + measure_of (number_of in_loops t) u ≤ measure_of (number_of in_loops t) t
chain-short G V [] t u T c h = omega (arith, ap (measure_of (number_of in_loops t)) h)
chain-short G V (s ∷ moves) t u T c h =
    let k = step-lowers G V s.rule s.path t h.0 T c h.1 in
    let a = chain-short G V moves h.0 u T (step-typed G V s.rule s.path t h.0 h.1 T c) h.2 in
    let b = ap (λ n. measure_of n u) k.0 in
    let d = ap (λ n. measure_of n h.0) k.0 in
    omega (arith, k.1, a, b, d)

-- a node counts at most once
one-few : (b : Bool) → one b ≤ 1
one-few true = omega arith
one-few false = omega arith

mutual
  -- the nodes that count are among all nodes
  number-few : (c : Count) (t : Term) → number_of c t ≤ number_of in_loops t
  number-few c (node f ps) = omega (arith, one-few (c.counted f), numbers-few c ps)

  numbers-few : (c : Count) (ps : Parts) → parts_number c ps ≤ parts_number in_loops ps
  numbers-few c none = omega arith
  numbers-few c (part k t ps) = omega (arith, number-few c t, numbers-few c ps)

-- the square of the next number
square_next : (n x y : ℕ) → x ≤ n → y ≤ n * n → x + y ≤ (1 + n) * (1 + n)
square_next n x y h k = omega (arith, h, k, mul-add n n 1, mul-le n (n + 1) (1 + n) (1 + n) (omega arith) (omega arith))

-- the pairs that a node opens with a part are at most the nodes of the part
above-few : (b : Bool) (n : ℕ) → where_above b n ≤ n
above-few true n = omega arith
above-few false n = omega arith

-- of the parts: the nodes once, and their square
mutual
  -- the pairs are at most the square of the nodes
  pairs-few : (c : Count) (t : Term) → pairs_of c t ≤ number_of in_loops t * number_of in_loops t
  pairs-few c (node f ps) =
      let r = all-pairs-few c f 0 ps in
      omega (arith, r.3, square_next (parts_number in_loops ps) r.0 r.1 r.2.0 r.2.1)

  all-pairs-few : (c : Count) (f : Form) (i : ℕ) (ps : Parts) →
      (x : ℕ) × (y : ℕ) × ((x ≤ parts_number in_loops ps) × (y ≤ parts_number in_loops ps * parts_number in_loops ps)) × (parts_pairs c f i ps ≤ x + y)
  all-pairs-few c f i none = (0, 0, (omega arith, omega arith), omega arith)
  all-pairs-few c f i (part k t ps) =
      let r = all-pairs-few c f (suc i) ps in (
        number_of in_loops t + r.0,
        pairs_of c t + r.1,
        (omega (arith, r.2.0), square_sum (number_of in_loops t) (parts_number in_loops ps) (pairs_of c t) r.1 (pairs-few c t) r.2.1),
        omega (arith, r.3, above-few (c.above f i) (number_of c t), number-few c t),
      )

mutual
  -- the nodes in this count are the nodes of a term
  nodes-are : (t : Term) → number_of in_loops t ≡ nodes_of t
  nodes-are (node f ps) = omega (arith, all-nodes-are ps)

  all-nodes-are : (ps : Parts) → parts_number in_loops ps ≡ parts_nodes ps
  all-nodes-are none = refl
  all-nodes-are (part k t ps) = omega (arith, nodes-are t, all-nodes-are ps)

-- the measure below a third power
below-cube : (n w q p : ℕ) → n ≤ w → q ≤ n * n → p ≤ n * n → (n + 1) * q + p ≤ (w + 1) * ((w + 1) * (w + 1))
below-cube n w q p l h k =
    let s : (w + 1) * (w + 1) ≡ w * w + (w + (w + 1)) = omega (arith, mul-add (w + 1) w 1, mul_comm (w + 1) w, mul-add w w 1) in
    let c : (w + 1) * ((w + 1) * (w + 1)) ≡ (w + 1) * (w * w) + (w + 1) * (w + (w + 1)) = ap (λ x. (w + 1) * x) s ∙ mul-add (w + 1) (w * w) (w + (w + 1)) in
    let d = mul-le n n w w l l in
    let a = mul-le (n + 1) q (w + 1) (w * w) (omega (arith, l)) (omega (arith, h, d)) in
    let b = mul-le w w (w + 1) (w + (w + 1)) (omega arith) (omega arith) in
    omega (arith, k, a, b, c, d)

-- the measure is at most (W + 1)^3
pub measure-bound : (t : Term) → measure_of (number_of in_loops t) t ≤ (weight_of t + 1) * ((weight_of t + 1) * (weight_of t + 1))
measure-bound t = below-cube (number_of in_loops t) (weight_of t) (pairs_of in_loops t) (pairs_of lets_below t) (omega (arith, nodes-are t, nodes-weight t)) (pairs-few in_loops t) (pairs-few lets_below t)

-- one move of a closed typed term keeps its number of nodes and lowers its measure
pub step-nodes : (G : ℕ → Ty → Type 0) (V : Outcomes) (R : MoveRule) (path : List ℕ) (t u : Term) (T : Ty) → ctyped G [] t T → MoveStep V R path t u →
    (nodes_of u ≡ nodes_of t) × (measure_of (nodes_of t) u < measure_of (nodes_of t) t)
step-nodes G V R path t u T c s =
    let a = step-lowers G V R path t u T c s in (
      sym (nodes-are u) ∙ a.0 ∙ nodes-are t,
      subst (λ n. measure_of n u < measure_of n t) (nodes-are t) a.1,
    )

-- a chain of moves of a closed typed term has at most (W + 1)^3 moves, W being its weight
pub chain-bound : (G : ℕ → Ty → Type 0) (V : Outcomes) (moves : List code.Move) (t u : Term) (T : Ty) → ctyped G [] t T → MoveChain V moves t u → length moves ≤ (weight_of t + 1) ^ 3
chain-bound G V moves t u T c h = omega (arith, chain-short G V moves t u T c h, measure-bound t, cube (weight_of t + 1))
