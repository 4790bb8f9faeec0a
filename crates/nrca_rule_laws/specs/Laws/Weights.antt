-- The weight of a term after a shift, a substitution, a subscript put into a tabulation, and the replacement of dimensions.
use Rattle.std.proofs.Common.{◌≡◌, ℕ, suc, ◌+◌, ◌*◌, ◌-◌, ◌≤◌, Bool, true, false, nat_eq, List, [], ◌∷◌, ◌++◌, length, map, Some, refl, ap, subst, ◌∙◌, arith, if◌then◌else◌, inl, inr}
use Rattle.std.specs.List.{slice_get}
use Rattle.std.proofs.lemmas.Bool.{cases_lt, lt-ltb, le-ltb, eqb-true}
use Rattle.std.proofs.Math.Nat.{mul-add, mul_comm}
use Rattle.aql_value.specs.Strict.{Strict}
use Rattle.aql_ty.specs.Types as types
use Rattle.aql_ty.specs.Types.{Ty}
use Rattle.nrca_term.specs.Typing.{Arg, ctyped, parts_typed}
use Rattle.nrca_term.specs.Term.{Term, Parts, node, none, part, plain, Form, weight_of, parts_weight, form_weight, list_weight, WellFormed, PartsWellFormed}
use Rattle.nrca_term.specs.Nodes.{number, tab_term, sub_term, literal_term}
use Rattle.nrca_term.specs.Subst.{shift_form, shift_term, shift_parts, subst_var, subst_term, subst_parts, form_uses, uses_of, parts_uses}
use Rattle.nrca_term.specs.Laws.Variants.{parts_weight-plain}
use Rattle.nrca_term.specs.Rules.{lets, guard, beta, sizes_term, replace_dims, replace_dims_parts, dims_of_var, parts_dims_of_var, is_dim_of}
use Rattle.nrca_rule_laws.specs.Laws.Typed.{dim-is, dim-rank, get-past}

-- a shift changes no weight
pub form_weight-shift : (from by : ℕ) (f : Form) → form_weight (shift_form from by f) ≡ form_weight f
form_weight-shift from by (Form.var i) = refl
form_weight-shift from by (Form.global n) = refl
form_weight-shift from by Form.bind = refl
form_weight-shift from by Form.choose = refl
form_weight-shift from by Form.default = refl
form_weight-shift from by Form.big_union = refl
form_weight-shift from by Form.sum = refl
form_weight-shift from by (Form.tab rank) = refl
form_weight-shift from by (Form.strict s) = refl

mutual
  -- a shift keeps the weight
  pub weight-shift : (from by : ℕ) (t : Term) → weight_of (shift_term from by t) ≡ weight_of t
  weight-shift from by (node f ps) = omega (arith, form_weight-shift from by f, weights-shift from by ps)

  pub weights-shift : (from by : ℕ) (ps : Parts) → parts_weight (shift_parts from by ps) ≡ parts_weight ps
  weights-shift from by none = refl
  weights-shift from by (part k t ps) = omega (arith, weight-shift (from + k) by t, weights-shift from by ps)

-- the weight after a substitution, where the variable has u uses and the term put in weighs w
abbrev pub Grown : ℕ → ℕ → ℕ → ℕ → Type 0
Grown after before u w = after + u ≡ before + u * w

-- a variable, and a node without uses of its own
var-grown : (at i : ℕ) (s : Term) → Grown (weight_of (subst_var at s i)) 1 (form_uses at (Form.var i)) (weight_of s)
var-grown at i s =
    elim (cases_lt i at) [
      | inl l ↦ rw (lt-ltb i at l) (apart (nat_eq i at) refl (λ e. omega (arith, l, eqb-true i at e)))
      | inr l ↦ rw (le-ltb i at l) (here (nat_eq i at))
    ]
  where
    apart : (b : Bool) → nat_eq i at ≡ b → (nat_eq i at ≡ true → ⊥) → 1 + (if b then 1 else 0) ≡ 1 + (if b then 1 else 0) * weight_of s
    apart true e h = absurd (h e)
    apart false e h = omega arith

    here : (b : Bool) → weight_of (if b then s else node (Form.var (i - 1)) none) + (if b then 1 else 0) ≡ 1 + (if b then 1 else 0) * weight_of s
    here true = omega arith
    here false = omega arith

node-grown : (at : ℕ) (s : Term) (f : Form) (ps qs : Parts) → Grown (parts_weight qs) (parts_weight ps) (parts_uses at ps) (weight_of s) → (form_uses at f ≡ 0) →
    Grown (form_weight f + parts_weight qs) (form_weight f + parts_weight ps) (form_uses at f + parts_uses at ps) (weight_of s)
node-grown at s f ps qs g z = let e : form_uses at f + parts_uses at ps ≡ parts_uses at ps = omega (arith, z) in omega (arith, g, e, ap (λ u. u * weight_of s) e)

-- growth of two terms together
sum-grown : (a b c d u v w : ℕ) → Grown a b u w → Grown c d v w → Grown (a + c) (b + d) (u + v) w
sum-grown a b c d u v w g h = omega (arith, g, h, mul_comm (u + v) w, mul-add w u v, mul_comm w u, mul_comm w v)

mutual
  -- after and the uses are before and the uses times the weight put in
  pub weight-subst : (at : ℕ) (s t : Term) → WellFormed t → Grown (weight_of (subst_term at s t)) (weight_of t) (uses_of at t) (weight_of s)
  weight-subst at s (node (Form.var i) ps) h =
      let a : parts_weight ps ≡ 0 = ap parts_weight h.0 in
      let b : parts_uses at ps ≡ 0 = ap (parts_uses at) h.0 in
      let e : form_uses at (Form.var i) + parts_uses at ps ≡ form_uses at (Form.var i) = omega (arith, b) in
      omega (arith, var-grown at i s, a, e, ap (λ u. u * weight_of s) e)
  weight-subst at s (node (Form.global n) ps) h = node-grown at s (Form.global n) ps (subst_parts at s ps) (weights-subst at s (Form.global n) 0 ps h.1) refl
  weight-subst at s (node Form.bind ps) h = node-grown at s Form.bind ps (subst_parts at s ps) (weights-subst at s Form.bind 0 ps h.1) refl
  weight-subst at s (node Form.choose ps) h = node-grown at s Form.choose ps (subst_parts at s ps) (weights-subst at s Form.choose 0 ps h.1) refl
  weight-subst at s (node Form.default ps) h = node-grown at s Form.default ps (subst_parts at s ps) (weights-subst at s Form.default 0 ps h.1) refl
  weight-subst at s (node Form.big_union ps) h = node-grown at s Form.big_union ps (subst_parts at s ps) (weights-subst at s Form.big_union 0 ps h.1) refl
  weight-subst at s (node Form.sum ps) h = node-grown at s Form.sum ps (subst_parts at s ps) (weights-subst at s Form.sum 0 ps h.1) refl
  weight-subst at s (node (Form.tab rank) ps) h = node-grown at s (Form.tab rank) ps (subst_parts at s ps) (weights-subst at s (Form.tab rank) 0 ps h.1) refl
  weight-subst at s (node (Form.strict c) ps) h = node-grown at s (Form.strict c) ps (subst_parts at s ps) (weights-subst at s (Form.strict c) 0 ps h.1) refl

  weights-subst : (at : ℕ) (s : Term) (f : Form) (i : ℕ) (ps : Parts) → PartsWellFormed f i ps → Grown (parts_weight (subst_parts at s ps)) (parts_weight ps) (parts_uses at ps) (weight_of s)
  weights-subst at s f i none h = omega arith
  weights-subst at s f i (part k t ps) h =
      sum-grown (weight_of (subst_term (at + k) (shift_term 0 k s) t)) (weight_of t) (parts_weight (subst_parts at s ps)) (parts_weight ps) (uses_of (at + k) t) (parts_uses at ps) (weight_of s)
      (subst (λ w. Grown (weight_of (subst_term (at + k) (shift_term 0 k s) t)) (weight_of t) (uses_of (at + k) t) w) (weight-shift 0 k s) (weight-subst (at + k) (shift_term 0 k s) t h.1))
      (weights-subst at s f (suc i) ps h.2)

-- each number weighs 1
pub numbers-weight : (ns : List ℕ) → list_weight (map number ns) ≡ length ns
numbers-weight [] = refl
numbers-weight (n ∷ ns) = omega (arith, numbers-weight ns)

-- a list of shifted terms
pub weights-shifted : (ts : List Term) → list_weight (map (shift_term 0 1) ts) ≡ list_weight ts
weights-shifted [] = refl
weights-shifted (t ∷ ts) = omega (arith, weight-shift 0 1 t, weights-shifted ts)

-- the weight of lets and of tests around a body
weight-lets : (n : ℕ) (is : List Term) (body : Term) → weight_of (lets n is body) ≡ length is + list_weight is + weight_of body
weight-lets n [] body = omega arith
weight-lets n (i ∷ is) body = omega (arith, weight-lets (suc n) is body, weight-shift 0 n i)

weight-guarded : (k : ℕ) (ds : List Term) (b : Term) → weight_of (guard k ds b) ≡ 4 * length ds + list_weight ds + weight_of b
weight-guarded k [] b = omega arith
weight-guarded k (d ∷ ds) b = omega (arith, weight-guarded k ds b, weight-shift 0 k d)

-- the weight of a tabulation
pub weight-tab : (ds : List Term) (b : Term) → weight_of (tab_term ds b) ≡ 6 * length ds + 6 + list_weight ds + weight_of b
weight-tab ds b = omega (arith, parts_weight-plain ds (part (length ds) b none))

-- the weight of a subscript
pub weight-sub : (a : Term) (is : List Term) → weight_of (sub_term a is) ≡ 1 + weight_of a + list_weight is
weight-sub a is = omega (arith, parts_weight-plain is none)

-- a subscript put into a tabulation weighs less by the rank and 7
pub weight-beta : (ds : List Term) (b : Term) (is : List Term) → length ds ≡ length is → weight_of (beta ds b is) + length ds + 7 ≡ weight_of (sub_term (tab_term ds b) is)
weight-beta ds b is e = omega (arith, e, weight-lets 0 is (guard (length ds) ds b), weight-guarded (length ds) ds b, weight-tab ds b, weight-sub (tab_term ds b) is)

-- the sizes of a tabulation weigh at most the bounds and 1
pub weight-sizes : (ds : List Term) → weight_of (sizes_term ds) ≤ list_weight ds + 1
weight-sizes [] = omega arith
weight-sizes (d ∷ []) = omega arith
weight-sizes (d ∷ e ∷ ds) = omega (arith, parts_weight-plain (d ∷ e ∷ ds) none)

-- the weight of a literal array
pub weight-literal : (ds cs : List Term) → weight_of (literal_term ds cs) ≡ 1 + list_weight ds + list_weight cs
weight-literal ds cs = omega (arith, parts_weight-plain ds (plain cs none), parts_weight-plain cs none)

-- one node, where the weight of its parts is known
one-replaced : (G : ℕ → Ty → Type 0) (n : ℕ) (A : Ty) (f : Form) (ps : Parts) (env : List Ty) (at : ℕ) (size : Term) (T : Ty) → slice_get env at ≡ Some (types.array_of n A) → weight_of size ≤ n + 1 → ctyped G env (node f ps) T →
    (b : Bool) → is_dim_of at f ps ≡ b → parts_weight (replace_dims_parts at size ps) + parts_dims_of_var at ps ≤ parts_weight ps →
    weight_of (if b then size else node f (replace_dims_parts at size ps)) + ((if b then 1 else 0) + parts_dims_of_var at ps) ≤ form_weight f + parts_weight ps
one-replaced G n A f ps env at size T g w ty true e h =
    let d = dim-is at f ps e in
    let r = dim-rank G env at n d.0 A T g (subst (λ x. ctyped G env x T) (ap (λ x. node x ps) d.1 ∙ ap (node (Form.strict (Strict.dim d.0))) d.2) ty) in
    omega (arith, w, ap form_weight d.1, ap parts_weight d.2, ap (parts_dims_of_var at) d.2, r)
one-replaced G n A f ps env at size T g w ty false e h = omega (arith, h)

mutual
  -- each `Dim` that is replaced by sizes lowers the weight by at least 1
  pub weight-replaced : (G : ℕ → Ty → Type 0) (n : ℕ) (A : Ty) (t : Term) (env : List Ty) (at : ℕ) (size : Term) (T : Ty) → slice_get env at ≡ Some (types.array_of n A) → weight_of size ≤ n + 1 → ctyped G env t T →
      weight_of (replace_dims at size t) + dims_of_var at t ≤ weight_of t
  weight-replaced G n A (node f ps) env at size T g w ty =
      one-replaced G n A f ps env at size T g w ty (is_dim_of at f ps) refl (weights-replaced G n A ps env at size ty.1 g w ty.3)

  weights-replaced : (G : ℕ → Ty → Type 0) (n : ℕ) (A : Ty) (ps : Parts) (env : List Ty) (at : ℕ) (size : Term) (args : List Arg) → slice_get env at ≡ Some (types.array_of n A) → weight_of size ≤ n + 1 → parts_typed G env ps args →
      parts_weight (replace_dims_parts at size ps) + parts_dims_of_var at ps ≤ parts_weight ps
  weights-replaced G n A none env at size args g w ty = omega arith
  weights-replaced G n A (part k t ps) env at size args g w ty =
      omega (
        arith,
        weight-replaced G n A t (ty.0.own ++ env) (at + k) (shift_term 0 k size) ty.0.has (get-past ty.0.own env at k ty.3 ∙ g) (omega (arith, w, weight-shift 0 k size)) ty.4,
        weights-replaced G n A ps env at size ty.1 g w ty.5,
      )
