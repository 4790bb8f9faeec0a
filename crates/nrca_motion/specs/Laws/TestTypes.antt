-- A test that goes out of a loop keeps every type.
use Rattle.std.proofs.Common.{◌≡◌, ℕ, List, [], ◌∷◌, ◌++◌, refl, sym, subst}
use Rattle.aql_ty.specs.Types as types
use Rattle.aql_ty.specs.Types.{Ty, IsType}
use Rattle.nrca_term.specs.Term.{Term, none, part, Form}
use Rattle.nrca_term.specs.Nodes.{if_term, loop_term, empty_term, number}
use Rattle.nrca_term.specs.Typing.{arg, ctyped, parts_typed}
use Rattle.nrca_term.specs.Subst.{shift_term}
use Rattle.nrca_term.specs.Rules.{LoopOf}
use Rattle.nrca_rule_laws.specs.Laws.Types.{ctyped-unshift}

-- the parts of an if
abbrev pub IfTyped : (ℕ → Ty → Type 0) → List Ty → Term → Term → Term → Ty → Type 0
IfTyped G env c a b T = IsType T × ctyped G env c types.truth × ctyped G env a T × ctyped G env b T

-- the types of its parts, from its own
pub if-parts : (G : ℕ → Ty → Type 0) (env : List Ty) (c a b : Term) (T : Ty) → ctyped G env (if_term c a b) T → IfTyped G env c a b T
if-parts G env c a b T d =
    let p = subst (parts_typed G env (part 0 c (part 0 a (part 0 b none)))) d.2 d.3 in
    let e0 : p.0 ≡ arg [] types.truth = cc in
    let r0 : p.1 ≡ arg [] T ∷ arg [] T ∷ [] = cc in
    let q = subst (parts_typed G env (part 0 a (part 0 b none))) r0 p.5 in
    let e1 : q.0 ≡ arg [] T = cc in
    let r1 : q.1 ≡ arg [] T ∷ [] = cc in
    let s = subst (parts_typed G env (part 0 b none)) r1 q.5 in
    let e2 : s.0 ≡ arg [] T = cc in (
      d.0,
      subst (λ x. ctyped G (x.own ++ env) c x.has) e0 p.4,
      subst (λ x. ctyped G (x.own ++ env) a x.has) e1 q.4,
      subst (λ x. ctyped G (x.own ++ env) b x.has) e2 s.4,
    )

-- its type, from those of its parts
if-made : (G : ℕ → Ty → Type 0) (env : List Ty) (c a b : Term) (T : Ty) → IfTyped G env c a b T → ctyped G env (if_term c a b) T
if-made G env c a b T h = (
  h.0,
  arg [] types.truth ∷ arg [] T ∷ arg [] T ∷ [],
  refl,
  (arg [] types.truth, arg [] T ∷ arg [] T ∷ [], refl, refl, h.1, (arg [] T, arg [] T ∷ [], refl, refl, h.2, (arg [] T, [], refl, refl, h.3, refl))),
)

-- the parts of a node of an operand and a body with one variable
pub two-parts : (G : ℕ → Ty → Type 0) (env : List Ty) (e b : Term) (A B C : Ty) → parts_typed G env (part 0 e (part 1 b none)) (arg [] A ∷ arg (B ∷ []) C ∷ []) → ctyped G env e A × ctyped G (B ∷ env) b C
two-parts G env e b A B C p =
    let e0 : p.0 ≡ arg [] A = cc in
    let r0 : p.1 ≡ arg (B ∷ []) C ∷ [] = cc in
    let q = subst (parts_typed G env (part 1 b none)) r0 p.5 in
    let e1 : q.0 ≡ arg (B ∷ []) C = cc in
    (subst (λ x. ctyped G (x.own ++ env) e x.has) e0 p.4, subst (λ x. ctyped G (x.own ++ env) b x.has) e1 q.4)

-- the same from the types of the parts
two-made : (G : ℕ → Ty → Type 0) (env : List Ty) (e b : Term) (A B C : Ty) → ctyped G env e A → ctyped G (B ∷ env) b C → parts_typed G env (part 0 e (part 1 b none)) (arg [] A ∷ arg (B ∷ []) C ∷ [])
two-made G env e b A B C x y = (arg [] A, arg (B ∷ []) C ∷ [], refl, refl, x, (arg (B ∷ []) C, [], refl, refl, y, refl))

-- an empty set has its types among whatever variables
empty-anywhere : (G : ℕ → Ty → Type 0) (env around : List Ty) (T : Ty) → ctyped G env empty_term T → ctyped G around empty_term T
empty-anywhere G env around T c = c

-- so has a number
number-anywhere : (G : ℕ → Ty → Type 0) (env around : List Ty) (n : ℕ) (T : Ty) → ctyped G env (number n) T → ctyped G around (number n) T
number-anywhere G env around n T c = c

-- M1 keeps every type
pub test_out-typed : (G : ℕ → Ty → Type 0) (env : List Ty) (f : Form) (e c b z : Term) (T : Ty) → LoopOf f z → ctyped G env (loop_term f e (if_term (shift_term 0 1 c) b z)) T → ctyped G env (if_term c (loop_term f e b) z) T
test_out-typed G env Form.big_union e c b z T l d =
    let r = d.2 in
    let p = two-parts G env e (if_term (shift_term 0 1 c) b z) (types.set_of r.0) r.0 (types.set_of r.1) (subst (parts_typed G env (part 0 e (part 1 (if_term (shift_term 0 1 c) b z) none))) r.2 d.3) in
    let i = if-parts G (r.0 ∷ env) (shift_term 0 1 c) b z (types.set_of r.1) p.1 in
    let empty = subst (λ x. ctyped G env x T) (sym l) (empty-anywhere G (r.0 ∷ env) env T (subst (ctyped G (r.0 ∷ env) empty_term) (sym r.3) (subst (λ x. ctyped G (r.0 ∷ env) x (types.set_of r.1)) l i.3))) in
    if-made G env c (loop_term Form.big_union e b) z T (
      d.0,
      ctyped-unshift G [] (r.0 ∷ []) env c types.truth i.1,
      (d.0, arg [] (types.set_of r.0) ∷ arg (r.0 ∷ []) (types.set_of r.1) ∷ [], (r.0, r.1, refl, r.3), two-made G env e b (types.set_of r.0) r.0 (types.set_of r.1) p.0 i.2),
      empty,
    )
test_out-typed G env Form.sum e c b z T l d =
    let r = d.2 in
    let p = two-parts G env e (if_term (shift_term 0 1 c) b z) (types.set_of r.0) r.0 types.natural (subst (parts_typed G env (part 0 e (part 1 (if_term (shift_term 0 1 c) b z) none))) r.1 d.3) in
    let i = if-parts G (r.0 ∷ env) (shift_term 0 1 c) b z types.natural p.1 in
    let zero = subst (λ x. ctyped G env x T) (sym l) (number-anywhere G (r.0 ∷ env) env 0 T (subst (ctyped G (r.0 ∷ env) (number 0)) (sym r.2) (subst (λ x. ctyped G (r.0 ∷ env) x types.natural) l i.3))) in
    if-made G env c (loop_term Form.sum e b) z T (
      d.0,
      ctyped-unshift G [] (r.0 ∷ []) env c types.truth i.1,
      (d.0, arg [] (types.set_of r.0) ∷ arg (r.0 ∷ []) types.natural ∷ [], (r.0, refl, r.2), two-made G env e b (types.set_of r.0) r.0 types.natural p.0 i.2),
      zero,
    )
test_out-typed G env (Form.var i) e c b z T l d = absurd l
test_out-typed G env (Form.global n) e c b z T l d = absurd l
test_out-typed G env Form.bind e c b z T l d = absurd l
test_out-typed G env Form.choose e c b z T l d = absurd l
test_out-typed G env Form.default e c b z T l d = absurd l
test_out-typed G env (Form.tab rank) e c b z T l d = absurd l
test_out-typed G env (Form.strict s) e c b z T l d = absurd l
