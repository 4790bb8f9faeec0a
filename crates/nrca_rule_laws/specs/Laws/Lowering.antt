-- Each rule lowers the measure (`lowers`).
use Rattle.std.proofs.Common.{◌≡◌, ℕ, ◌+◌, ◌*◌, ◌<◌, ◌≤◌, Bool, true, false, ◌⊎◌, List, [], ◌∷◌, length, map, Option, Some, None, refl, sym, ap, subst, arith, if◌then◌else◌, inl, inr}
use Rattle.aql_value.specs.Lists.{Every}
use Rattle.aql_value.specs.Ops.{arith_by}
use Rattle.aql_value.specs.Strict.{Strict}
use Rattle.nrca_term.specs.declared.trace.Rule.{Rule}
use Rattle.nrca_term.specs.declared.trace.Rule.TheVariants.{B1, K1, I1, I2, L1, L2, L3, P1, P2, S1, S2, S3, S4, S5, S6, S7, S8, S9, A1, A2, A3, A4, A5, A6, A7, C1, C2, C3, C4, N1, N2}
use Rattle.aql_ty.specs.Types as types
use Rattle.aql_ty.specs.Types.{Ty}
use Rattle.nrca_term.specs.Typing.{ctyped}
use Rattle.nrca_term.specs.Laws.TypedForm.{well_formed-typed}
use Rattle.nrca_term.specs.Term.{Term, Parts, node, none, part, plain, Form, weight_of, parts_weight, form_weight, list_weight, WellFormed}
use Rattle.nrca_term.specs.Nodes.{number, truth_term, bottom_term, let_term, if_term, proj_term, loop_term, big_union_term, tab_term, sub_term, dim_term, empty_term}
use Rattle.nrca_term.specs.Subst.{shift_form, shift_term, shift_parts, subst_term, uses_of}
use Rattle.nrca_term.specs.Laws.Variants.{parts_weight-plain}
use Rattle.nrca_term.specs.Measure.{nodes_of, parts_nodes, pairs_of, parts_pairs, has_operand, own_pairs, first_nodes, Lowers}
use Rattle.nrca_term.specs.Laws.Measure.{weight_of-child, weight_of-positive, list_weight-get}
use Rattle.nrca_term.specs.Rules.{Way, Redex, Folds, arithmetic, numbers, truths, texts, generated, member, misshapen, Subscript, inside, outside, LoopOf, Atom, sizes_term, replace_dims, dims_of_var, number_or_bottom, constant_literal, IsComparison, IsVariableOrNumber, dimension_terms, index_variables}
use Rattle.nrca_rule_laws.specs.Laws.Typed.{let-typed, literal-rank}
use Rattle.nrca_rule_laws.specs.Laws.Weights.{weight-shift, weight-subst, weight-tab, weight-sub, weight-beta, weight-sizes, weight-literal, weight-replaced, weights-shifted, numbers-weight}

-- a shift changes neither nodes nor pairs
has_operand-shift : (from by : ℕ) (f : Form) → has_operand (shift_form from by f) ≡ has_operand f
has_operand-shift from by (Form.var i) = refl
has_operand-shift from by (Form.global n) = refl
has_operand-shift from by Form.bind = refl
has_operand-shift from by Form.choose = refl
has_operand-shift from by Form.default = refl
has_operand-shift from by Form.big_union = refl
has_operand-shift from by Form.sum = refl
has_operand-shift from by (Form.tab rank) = refl
has_operand-shift from by (Form.strict s) = refl

mutual
  -- a shift keeps the number of nodes
  pub nodes-shift : (from by : ℕ) (t : Term) → nodes_of (shift_term from by t) ≡ nodes_of t
  nodes-shift from by (node f ps) = omega (arith, all_nodes-shift from by ps)

  all_nodes-shift : (from by : ℕ) (ps : Parts) → parts_nodes (shift_parts from by ps) ≡ parts_nodes ps
  all_nodes-shift from by none = refl
  all_nodes-shift from by (part k t ps) = omega (arith, nodes-shift (from + k) by t, all_nodes-shift from by ps)

first_nodes-shift : (from by : ℕ) (ps : Parts) → first_nodes (shift_parts from by ps) ≡ first_nodes ps
first_nodes-shift from by none = refl
first_nodes-shift from by (part k t ps) = nodes-shift (from + k) by t

own_pairs-shift : (from by : ℕ) (b : Bool) (ps : Parts) → own_pairs b (shift_parts from by ps) ≡ own_pairs b ps
own_pairs-shift from by true ps = first_nodes-shift from by ps
own_pairs-shift from by false ps = refl

mutual
  -- a shift keeps the number of pairs
  pub pairs-shift : (from by : ℕ) (t : Term) → pairs_of (shift_term from by t) ≡ pairs_of t
  pairs-shift from by (node f ps) =
      omega (arith, ap (λ b. own_pairs b (shift_parts from by ps)) (has_operand-shift from by f), own_pairs-shift from by (has_operand f) ps, all_pairs-shift from by ps)

  all_pairs-shift : (from by : ℕ) (ps : Parts) → parts_pairs (shift_parts from by ps) ≡ parts_pairs ps
  all_pairs-shift from by none = refl
  all_pairs-shift from by (part k t ps) = omega (arith, pairs-shift (from + k) by t, all_pairs-shift from by ps)

-- nodes and pairs of a list of terms
list_nodes : List Term → ℕ
list_nodes [] = 0
list_nodes (t ∷ ts) = nodes_of t + list_nodes ts

list_pairs : List Term → ℕ
list_pairs [] = 0
list_pairs (t ∷ ts) = pairs_of t + list_pairs ts

-- nodes and pairs of a list of parts
nodes-plain : (ts : List Term) (ps : Parts) → parts_nodes (plain ts ps) ≡ list_nodes ts + parts_nodes ps
unfolding list_nodes
nodes-plain [] ps = omega arith
nodes-plain (t ∷ ts) ps = omega (arith, nodes-plain ts ps)

pairs-plain : (ts : List Term) (ps : Parts) → parts_pairs (plain ts ps) ≡ list_pairs ts + parts_pairs ps
unfolding list_pairs
pairs-plain [] ps = omega arith
pairs-plain (t ∷ ts) ps = omega (arith, pairs-plain ts ps)

-- those of shifted terms
nodes-shifted : (ts : List Term) → list_nodes (map (shift_term 0 1) ts) ≡ list_nodes ts
unfolding list_nodes
nodes-shifted [] = refl
nodes-shifted (t ∷ ts) = omega (arith, nodes-shift 0 1 t, nodes-shifted ts)

pairs-shifted : (ts : List Term) → list_pairs (map (shift_term 0 1) ts) ≡ list_pairs ts
unfolding list_pairs
pairs-shifted [] = refl
pairs-shifted (t ∷ ts) = omega (arith, pairs-shift 0 1 t, pairs-shifted ts)

-- an atom weighs 1
atom-weight : (a : Term) (ws : List Way) → Atom a ws → weight_of a ≡ 1
atom-weight (node (Form.var i) ps) ws h = omega (arith, ap parts_weight h.0)
atom-weight (node (Form.global n) ps) ws h = omega (arith, ap parts_weight h.0)
atom-weight (node (Form.strict (Strict.nat n)) ps) ws h = omega (arith, ap parts_weight h.0)
atom-weight (node (Form.strict (Strict.bool b)) ps) ws h = omega (arith, ap parts_weight h.0)
atom-weight (node (Form.strict (Strict.text s)) ps) ws h = omega (arith, ap parts_weight h.0)
atom-weight (node (Form.strict Strict.empty) ps) ws h = omega (arith, ap parts_weight h.0)
atom-weight _ ws h = absurd h

-- a number or bottom weighs 1
number-weight : (o : Option ℕ) → weight_of (number_or_bottom o) ≡ 1
number-weight None = refl
number-weight (Some n) = refl

-- a loop's value over the empty set weighs 1
loop-answer : (f : Form) (z : Term) → LoopOf f z → (weight_of z ≡ 1) × (nodes_of z ≡ 1) × (pairs_of z ≡ 0) × (form_weight f ≡ 1) × (has_operand f ≡ true)
loop-answer Form.big_union z h = (ap weight_of h, ap nodes_of h, ap pairs_of h, refl, refl)
loop-answer Form.sum z h = (ap weight_of h, ap nodes_of h, ap pairs_of h, refl, refl)
loop-answer _ z h = absurd h

-- the same of equal terms
pub lowers-as : (l l' r r' : Term) → l ≡ l' → r ≡ r' → Lowers l' r' → Lowers l r
lowers-as l l' r r' e k h = subst (λ x. Lowers x r) (sym e) (subst (Lowers l') (sym k) h)

-- the pairs of a loop
loop-pairs : (f : Form) → has_operand f ≡ true → (a b : Term) → pairs_of (loop_term f a b) ≡ nodes_of a + pairs_of a + pairs_of b
loop-pairs f h a b = omega (arith, ap (λ o. own_pairs o (part 0 a (part 1 b none))) h)

-- a loop over an if, a loop over a let, a subscript of a let
lowers-i2 : (f : Form) (z c e b : Term) → LoopOf f z → Lowers (loop_term f (if_term c e empty_term) b) (if_term c (loop_term f e b) z)
lowers-i2 f z c e b h =
    let q = loop-answer f z h in
    inr (omega (arith, q.0, q.3), omega (arith, q.1), omega (arith, q.2, loop-pairs f q.4 (if_term c e empty_term) b, loop-pairs f q.4 e b))

lowers-s9 : (f : Form) (z e m b : Term) → LoopOf f z → Lowers (loop_term f (let_term e m) b) (let_term e (loop_term f m (shift_term 1 1 b)))
lowers-s9 f z e m b h =
    let q = loop-answer f z h in
    inr (omega (arith, q.3, weight-shift 1 1 b), omega (arith, nodes-shift 1 1 b), omega (arith, loop-pairs f q.4 (let_term e m) b, loop-pairs f q.4 m (shift_term 1 1 b), pairs-shift 1 1 b))

lowers-a7_sub : (e b : Term) (is : List Term) → Lowers (sub_term (let_term e b) is) (let_term e (sub_term b (map (shift_term 0 1) is)))
lowers-a7_sub e b is =
    let js = map (shift_term 0 1) is in
    inr (
      omega (arith, weight-sub (let_term e b) is, weight-sub b (map (shift_term 0 1) is), weights-shifted is),
      omega (arith, nodes-plain is none, nodes-plain (map (shift_term 0 1) is) none, nodes-shifted is),
      omega (arith, pairs-plain is none, pairs-plain (map (shift_term 0 1) is) none, pairs-shifted is),
    )

-- an operation on constants
folds-lower : (l r : Term) → ((ns : List ℕ) (cs : List Term) → l ≡ constant_literal ns cs → 1 ≤ length ns) → Folds l r → Lowers l r
folds-lower l r k (arithmetic op m n e q) = inl (omega (arith, ap weight_of e, ap weight_of q, number-weight (arith_by op m n)))
folds-lower l r k (numbers op m n e q) = inl (omega (arith, ap weight_of e, ap weight_of q))
folds-lower l r k (truths op a b e q) = inl (omega (arith, ap weight_of e, ap weight_of q))
folds-lower l r k (texts op s t e q) = inl (omega (arith, ap weight_of e, ap weight_of q))
folds-lower l r k (generated e q) = inl (omega (arith, ap weight_of e, ap weight_of q))
folds-lower l r k (member e q) = inl (omega (arith, ap weight_of e, ap weight_of q))
folds-lower l r k (misshapen ns cs e h q) = inl (omega (arith, ap weight_of e, ap weight_of q, weight-literal (map number ns) cs, numbers-weight ns, k ns cs e))

-- a constant subscript of a literal
subscript-lowers : (l r : Term) (ws : List Way) → Subscript l r ws → Lowers l r
subscript-lowers l r ws (inside ns cs is p e a b c d) = inl (omega (arith, ap weight_of e, weight-sub (constant_literal ns cs) (map number is), weight-literal (map number ns) cs, list_weight-get cs p r c))
subscript-lowers l r ws (outside ns cs is e a b c d f) = inl (omega (arith, ap weight_of e, ap weight_of d, weight-sub (constant_literal ns cs) (map number is), weight-literal (map number ns) cs))

-- a let whose bound term weighs 1 or is used once
lowers-let : (e b : Term) → WellFormed b → (weight_of e ≡ 1) ⊎ (uses_of 0 b ≡ 1) → weight_of (subst_term 0 e b) < weight_of (let_term e b)
lowers-let e b h (inl w) = let g = weight-subst 0 e b h in omega (arith, g, w, ap (λ x. uses_of 0 b * x) w)
lowers-let e b h (inr u) = let g = weight-subst 0 e b h in omega (arith, g, u, ap (λ x. x * weight_of e) u)

-- a branch weighs no more than both
cases-weight : (c : Bool) (a b : Term) → weight_of (if c then a else b) ≤ weight_of a + weight_of b
cases-weight true a b = omega arith
cases-weight false a b = omega arith

-- a comparison becomes a truth value
compared-weight : (l r : Term) (c : Bool) → IsComparison l → r ≡ truth_term c → Lowers l r
compared-weight l r c h e = inl (omega (arith, ap weight_of h.3, ap weight_of e, weight_of-positive h.1, weight_of-positive h.2))

-- the dimensions of a bound tabulation
lowers-a4 : (G : ℕ → Ty → Type 0) (env : List Ty) (ds : List Term) (c b : Term) (T : Ty) → ctyped G env (let_term (tab_term ds c) b) T → Every IsVariableOrNumber ds → 1 ≤ dims_of_var 0 b →
    Lowers (let_term (tab_term ds c) b) (let_term (tab_term ds c) (replace_dims 0 (shift_term 0 1 (sizes_term ds)) b))
lowers-a4 G env ds c b T ty h d =
    let t = let-typed G env (tab_term ds c) b T ty in
    let A : t.0 ≡ types.array_of (length ds) t.1.2.0 = t.1.2.3 in
    let w = weight-replaced G (length ds) t.1.2.0 b (t.0 ∷ env) 0 (shift_term 0 1 (sizes_term ds)) T (ap Some A) (omega (arith, weight-shift 0 1 (sizes_term ds), weight-sizes ds, bounds-weight ds h)) t.2 in
    inl (omega (arith, w, d))
  where
    bounds-weight : (ds : List Term) → Every IsVariableOrNumber ds → list_weight ds ≡ length ds
    bounds-weight [] h = refl
    bounds-weight (d ∷ ds) (inl x, h) = omega (arith, ap weight_of x.1, bounds-weight ds h)
    bounds-weight (d ∷ ds) (inr x, h) = omega (arith, ap weight_of x.1, bounds-weight ds h)

-- each rule lowers the weight, or keeps it and the nodes and lowers the pairs
pub lowers : (G : ℕ → Ty → Type 0) (env : List Ty) (T : Ty) (R : Rule) (l r : Term) (ws : List Way) → ctyped G env l T → Redex R l r ws → Lowers l r
lowers G env T B1 l r ws ty h = inl (omega (arith, ap weight_of h.3, weight_of-child l h.0 bottom_term h.2))
lowers G env T K1 l r ws ty h = folds-lower l r (λ ns cs e. (literal-rank G env ns cs T (subst (λ x. ctyped G env x T) e ty)).0) h.0
lowers G env T I1 l r ws ty h = inl (omega (arith, ap weight_of h.3, ap weight_of h.4, cases-weight h.0 h.1 h.2))
lowers G env T I2 l r ws ty h = lowers-as l _ r _ h.6 h.7 (lowers-i2 h.0 h.1 h.2 h.3 h.4 h.5)
lowers G env T L1 l r ws ty h =
    let t = let-typed G env h.0 h.1 T (subst (λ x. ctyped G env x T) h.3 ty) in
    inl (omega (arith, ap weight_of h.3, ap weight_of h.4, lowers-let h.0 h.1 (well_formed-typed G (t.0 ∷ env) h.1 T t.2) (inl (atom-weight h.0 ws h.2))))
lowers G env T L2 l r ws ty h =
    let t = let-typed G env h.0 h.1 T (subst (λ x. ctyped G env x T) h.4 ty) in
    inl (omega (arith, ap weight_of h.4, ap weight_of h.5, lowers-let h.0 h.1 (well_formed-typed G (t.0 ∷ env) h.1 T t.2) (inr h.2)))
lowers G env T L3 l r ws ty h = inl (omega (arith, ap weight_of h.1, weight-shift 0 1 r))
lowers G env T P1 l r ws ty h = inl (omega (arith, ap weight_of h.2, parts_weight-plain h.1 none, list_weight-get h.1 h.0 r h.3))
lowers G env T P2 l r ws ty h = lowers-as l (proj_term h.0 h.1 (let_term h.2 h.3)) r (let_term h.2 (proj_term h.0 h.1 h.3)) h.4 h.5 (inr (omega arith, omega arith, omega arith))
lowers G env T S1 l r ws ty h = inl (omega (arith, ap weight_of h.1, ap weight_of h.2))
lowers G env T S2 l r ws ty h = inl (omega (arith, ap weight_of h.2, ap weight_of h.3))
lowers G env T S3 l r ws ty h =
    lowers-as l (big_union_term (big_union_term h.0 h.1) h.2) r (big_union_term h.0 (big_union_term h.1 (shift_term 1 1 h.2))) h.3 h.4
    (inr (omega (arith, weight-shift 1 1 h.2), omega (arith, nodes-shift 1 1 h.2), omega (arith, pairs-shift 1 1 h.2)))
lowers G env T S4 l r ws ty h = inl (omega (arith, ap weight_of h.1, ap weight_of h.2))
lowers G env T S5 l r ws ty h = inl (omega (arith, ap weight_of h.2, ap weight_of h.3))
lowers G env T S6 l r ws ty h = inl (omega (arith, ap weight_of h.0))
lowers G env T S7 l r ws ty h = elim h.0 [ inl e ↦ inl (omega (arith, ap weight_of e)) | inr e ↦ inl (omega (arith, ap weight_of e)) ]
lowers G env T S8 l r ws ty h = inl (omega (arith, ap weight_of h.0))
lowers G env T S9 l r ws ty h = lowers-as l _ r _ h.6 h.7 (lowers-s9 h.0 h.1 h.2 h.3 h.4 h.5)
lowers G env T A1 l r ws ty h = inl (omega (arith, ap weight_of h.4, ap weight_of h.5, weight-beta h.0 h.1 h.2 h.3))
lowers G env T A2 l r ws ty h =
    inl (omega (arith, ap weight_of h.2, weight-tab (dimension_terms h.0 r) (sub_term (shift_term 0 h.0 r) (index_variables h.0)), weight-sub (shift_term 0 h.0 r) (index_variables h.0), weight-shift 0 h.0 r))
lowers G env T A3 l r ws ty h = inl (omega (arith, ap weight_of h.2, ap weight_of h.3, weight-tab h.0 h.1, weight-sizes h.0))
lowers G env T A4 l r ws ty h = lowers-as l _ r _ h.5 h.6 (lowers-a4 G env h.0 h.1 h.2 T (subst (λ x. ctyped G env x T) h.5 ty) h.3 h.4)
lowers G env T A5 l r ws ty h = subscript-lowers l r ws h
lowers G env T A6 l r ws ty h = inl (omega (arith, ap weight_of h.2, ap weight_of h.4, weight-literal (map number h.0) h.1, weight-sizes (map number h.0)))
lowers G env T A7 l r ws ty h =
    elim h.2 [
      | inl x ↦ lowers-as l _ r _ x.1 x.2 (lowers-a7_sub h.0 h.1 x.0)
      | inr x ↦ lowers-as l (dim_term x.0 (let_term h.0 h.1)) r (let_term h.0 (dim_term x.0 h.1)) x.1 x.2 (inr (omega arith, omega arith, omega arith))
    ]
lowers G env T C1 l r ws ty h = compared-weight l r true h.0 h.1
lowers G env T C2 l r ws ty h = compared-weight l r true h.0 h.1
lowers G env T C3 l r ws ty h = compared-weight l r false h.0 h.1
lowers G env T C4 l r ws ty h = compared-weight l r h.1.0 h.0 h.1.1
lowers G env T N1 l r ws ty h = inl (omega (arith, ap weight_of h.0))
lowers G env T N2 l r ws ty h = inl (omega (arith, ap weight_of h.1))
