-- The types of the parts of a typed node, and the type of a node from those of its parts.
use Rattle.std.proofs.Common.{◌≡◌, ℕ, zero, suc, List, [], ◌∷◌, ◌++◌, length, map, replicate, refl, sym, ap, subst, ◌∙◌, arith, ◌+◌, ◌-◌, true, Some}
use Rattle.aql_value.specs.Strict.{Strict}
use Rattle.aql_ty.specs.Types as types
use Rattle.aql_ty.specs.Types.{Ty, natural, truth, IsRank, IsType}
use Rattle.aql_ty.specs.OperationTypes.{strict_rule}
use Rattle.nrca_term.specs.Term.{Term, Parts, node, none, part, plain, Form}
use Rattle.nrca_term.specs.Nodes.{let_term, if_term, default_term, big_union_term, sum_term, tab_term, variable, number, sub_term, dim_term, single_term}
use Rattle.nrca_term.specs.Typing.{Arg, arg, ctyped, parts_typed}
use Rattle.std.specs.List.{slice_get}
use Rattle.std.proofs.lemmas.Bool.{eqb-true}
use Rattle.std.proofs.lemmas.List.{length-map, append-nil, length-replicate}
use Rattle.nrca_term.specs.Rules.{is_dim_of, constant_literal}
use Rattle.aql_value.specs.Laws.Lists.{slice_get-append_right}
use Rattle.nrca_term.specs.Laws.TypedLists.{TermsTyped}
use Rattle.nrca_term.specs.Laws.TypingSubst.{ctyped-type}

-- equal lists of arguments begin and go on alike
pub args-first : (a b : Arg) (as' bs : List Arg) → a ∷ as' ≡ b ∷ bs → (a ≡ b) × (as' ≡ bs)
args-first a b as' bs e = let x : a ≡ b = cc in let y : as' ≡ bs = cc in (x, y)

-- the first part of typed parts, and the others
pub head-typed : (G : ℕ → Ty → Type 0) (env : List Ty) (k : ℕ) (t : Term) (ps : Parts) (a : Arg) (rest : List Arg) → parts_typed G env (part k t ps) (a ∷ rest) → (length a.own ≡ k) × ctyped G (a.own ++ env) t a.has × parts_typed G env ps rest
head-typed G env k t ps a rest h =
    let e = args-first a h.0 rest h.1 h.2 in
    (ap (λ x. length x.own) e.0 ∙ h.3, subst (λ x. ctyped G (x.own ++ env) t x.has) (sym e.0) h.4, subst (parts_typed G env ps) (sym e.1) h.5)

-- a typed part before typed parts
pub typed-head : (G : ℕ → Ty → Type 0) (env : List Ty) (t : Term) (ps : Parts) (a : Arg) (rest : List Arg) → ctyped G (a.own ++ env) t a.has → parts_typed G env ps rest → parts_typed G env (part (length a.own) t ps) (a ∷ rest)
typed-head G env t ps a rest c p = (a, rest, refl, refl, c, p)

-- parts that bind nothing, before others
pub plain-typed : (G : ℕ → Ty → Type 0) (env : List Ty) (ts : List Term) (As : List Ty) (ps : Parts) (more : List Arg) → length ts ≡ length As → parts_typed G env (plain ts ps) (map (arg []) As ++ more) → TermsTyped G env ts As × parts_typed G env ps more
plain-typed G env [] [] ps more l h = (tt, h)
plain-typed G env [] (A ∷ As) ps more l h = absurd (omega (arith, l))
plain-typed G env (t ∷ ts) [] ps more l h = absurd (omega (arith, l))
plain-typed G env (t ∷ ts) (A ∷ As) ps more l h =
    let r = head-typed G env 0 t (plain ts ps) (arg [] A) (map (arg []) As ++ more) h in
    let q = plain-typed G env ts As ps more (omega (arith, l)) r.2 in
    ((r.1, q.0), q.1)

-- and the other way
pub typed-plain : (G : ℕ → Ty → Type 0) (env : List Ty) (ts : List Term) (As : List Ty) (ps : Parts) (more : List Arg) → TermsTyped G env ts As → parts_typed G env ps more → parts_typed G env (plain ts ps) (map (arg []) As ++ more)
typed-plain G env [] [] ps more h k = k
typed-plain G env [] (A ∷ As) ps more h k = absurd h
typed-plain G env (t ∷ ts) [] ps more h k = absurd h
typed-plain G env (t ∷ ts) (A ∷ As) ps more h k = typed-head G env t (plain ts ps) (arg [] A) (map (arg []) As ++ more) h.0 (typed-plain G env ts As ps more h.1 k)

-- parts that bind nothing are as many as their types
exact-length : (G : ℕ → Ty → Type 0) (env : List Ty) (ts : List Term) (As : List Ty) → parts_typed G env (plain ts none) (map (arg []) As) → length ts ≡ length As
exact-length G env [] [] h = refl
exact-length G env [] (A ∷ As) h = cc
exact-length G env (t ∷ ts) [] h = let e : [] ≡ h.0 ∷ h.1 = h.2 in cc
exact-length G env (t ∷ ts) (A ∷ As) h = ap suc (exact-length G env ts As (head-typed G env 0 t (plain ts none) (arg [] A) (map (arg []) As) h).2)

-- the parts of an operation
pub strict-typed : (G : ℕ → Ty → Type 0) (env : List Ty) (s : Strict) (ts : List Term) (T : Ty) → ctyped G env (node (Form.strict s) (plain ts none)) T → (As : List Ty) × strict_rule s As T × TermsTyped G env ts As
strict-typed G env s ts T h =
    let p = subst (parts_typed G env (plain ts none)) h.2.1 h.3 in
    (h.2.0, h.2.2, (plain-typed G env ts h.2.0 none [] (exact-length G env ts h.2.0 p) (subst (parts_typed G env (plain ts none)) (sym (append-nil (map (arg []) h.2.0))) p)).0)

-- and the other way
pub typed-strict : (G : ℕ → Ty → Type 0) (env : List Ty) (s : Strict) (ts : List Term) (As : List Ty) (T : Ty) → IsType T → strict_rule s As T → TermsTyped G env ts As → ctyped G env (node (Form.strict s) (plain ts none)) T
typed-strict G env s ts As T t r h = (t, map (arg []) As, (As, refl, r), subst (parts_typed G env (plain ts none)) (append-nil (map (arg []) As)) (typed-plain G env ts As none [] h refl))

-- a let from its parts
pub typed-let : (G : ℕ → Ty → Type 0) (env : List Ty) (e b : Term) (A T : Ty) → ctyped G env e A → ctyped G (A ∷ env) b T → ctyped G env (let_term e b) T
typed-let G env e b A T h k =
    (ctyped-type G (A ∷ env) b T k, arg [] A ∷ arg (A ∷ []) T ∷ [], (A, refl), typed-head G env e (part 1 b none) (arg [] A) (arg (A ∷ []) T ∷ []) h (typed-head G env b none (arg (A ∷ []) T) [] k refl))

-- the parts of an if
pub if-typed : (G : ℕ → Ty → Type 0) (env : List Ty) (c a b : Term) (T : Ty) → ctyped G env (if_term c a b) T → ctyped G env c truth × ctyped G env a T × ctyped G env b T
if-typed G env c a b T h =
    let r = (plain-typed G env (c ∷ a ∷ b ∷ []) (truth ∷ T ∷ T ∷ []) none [] refl (subst (parts_typed G env (plain (c ∷ a ∷ b ∷ []) none)) h.2 h.3)).0 in
    (r.0, r.1.0, r.1.1.0)

-- and the other way
pub typed-if : (G : ℕ → Ty → Type 0) (env : List Ty) (c a b : Term) (T : Ty) → ctyped G env c truth → ctyped G env a T → ctyped G env b T → ctyped G env (if_term c a b) T
typed-if G env c a b T x y z = (ctyped-type G env a T y, arg [] truth ∷ arg [] T ∷ arg [] T ∷ [], refl, typed-plain G env (c ∷ a ∷ b ∷ []) (truth ∷ T ∷ T ∷ []) none [] (x, (y, (z, tt))) refl)

-- the parts of a default
pub default-typed : (G : ℕ → Ty → Type 0) (env : List Ty) (a b : Term) (T : Ty) → ctyped G env (default_term a b) T → ctyped G env a T × ctyped G env b T
default-typed G env a b T h =
    let r = (plain-typed G env (a ∷ b ∷ []) (T ∷ T ∷ []) none [] refl (subst (parts_typed G env (plain (a ∷ b ∷ []) none)) h.2 h.3)).0 in (r.0, r.1.0)

-- the parts of a big union
pub union-typed : (G : ℕ → Ty → Type 0) (env : List Ty) (e b : Term) (T : Ty) → ctyped G env (big_union_term e b) T → (A : Ty) × (B : Ty) × (T ≡ types.set_of B) × ctyped G env e (types.set_of A) × ctyped G (A ∷ env) b (types.set_of B)
union-typed G env e b T h =
    let A = h.2.0 in
    let p = subst (parts_typed G env (part 0 e (part 1 b none))) h.2.2 h.3 in
    let r = head-typed G env 0 e (part 1 b none) (arg [] (types.set_of h.2.0)) (arg (h.2.0 ∷ []) (types.set_of h.2.1) ∷ []) p in
    let q = head-typed G env 1 b none (arg (h.2.0 ∷ []) (types.set_of h.2.1)) [] r.2 in
    (h.2.0, h.2.1, h.2.3, r.1, q.1)

-- and the other way
pub typed-union : (G : ℕ → Ty → Type 0) (env : List Ty) (e b : Term) (A B : Ty) → ctyped G env e (types.set_of A) → ctyped G (A ∷ env) b (types.set_of B) → ctyped G env (big_union_term e b) (types.set_of B)
typed-union G env e b A B h k = (
  ctyped-type G (A ∷ env) b (types.set_of B) k,
  arg [] (types.set_of A) ∷ arg (A ∷ []) (types.set_of B) ∷ [],
  (A, B, refl, refl),
  typed-head G env e (part 1 b none) (arg [] (types.set_of A)) (arg (A ∷ []) (types.set_of B) ∷ []) h (typed-head G env b none (arg (A ∷ []) (types.set_of B)) [] k refl),
)

-- a sum over a set
pub sum-typed : (G : ℕ → Ty → Type 0) (env : List Ty) (e b : Term) (T : Ty) → ctyped G env (sum_term e b) T → (A : Ty) × (T ≡ natural) × ctyped G env e (types.set_of A) × ctyped G (A ∷ env) b natural
sum-typed G env e b T h =
    let p = subst (parts_typed G env (part 0 e (part 1 b none))) h.2.1 h.3 in
    let r = head-typed G env 0 e (part 1 b none) (arg [] (types.set_of h.2.0)) (arg (h.2.0 ∷ []) natural ∷ []) p in
    let q = head-typed G env 1 b none (arg (h.2.0 ∷ []) natural) [] r.2 in
    (h.2.0, h.2.2, r.1, q.1)

-- and the other way
pub typed-sum : (G : ℕ → Ty → Type 0) (env : List Ty) (e b : Term) (A : Ty) → ctyped G env e (types.set_of A) → ctyped G (A ∷ env) b natural → ctyped G env (sum_term e b) natural
typed-sum G env e b A h k = (
  tt,
  arg [] (types.set_of A) ∷ arg (A ∷ []) natural ∷ [],
  (A, refl, refl),
  typed-head G env e (part 1 b none) (arg [] (types.set_of A)) (arg (A ∷ []) natural ∷ []) h (typed-head G env b none (arg (A ∷ []) natural) [] k refl),
)

-- as many numbers, as arguments
naturals-arg : (n : ℕ) → replicate n (arg [] natural) ≡ map (arg []) (replicate n natural)
naturals-arg zero = refl
naturals-arg (suc n) = ap (λ l. arg [] natural ∷ l) (naturals-arg n)

-- the bounds and the body of a tabulation
pub tab-typed : (G : ℕ → Ty → Type 0) (env : List Ty) (ds : List Term) (b : Term) (T : Ty) → ctyped G env (tab_term ds b) T →
    (A : Ty) × IsRank (length ds) × (T ≡ types.array_of (length ds) A) × TermsTyped G env ds (replicate (length ds) natural) × ctyped G (replicate (length ds) natural ++ env) b A
tab-typed G env ds b T h =
    let p = subst (parts_typed G env (plain ds (part (length ds) b none))) (h.2.2 ∙ ap (λ l. l ++ arg (replicate (length ds) natural) h.2.0 ∷ []) (naturals-arg (length ds))) h.3 in
    let r = plain-typed G env ds (replicate (length ds) natural) (part (length ds) b none) (arg (replicate (length ds) natural) h.2.0 ∷ []) (sym (length-replicate (length ds) natural)) p in
    let q = head-typed G env (length ds) b none (arg (replicate (length ds) natural) h.2.0) [] r.1 in
    (h.2.0, h.2.1, h.2.3, r.0, q.1)

-- the types of a let's parts
pub let-typed : (G : ℕ → Ty → Type 0) (env : List Ty) (e b : Term) (T : Ty) → ctyped G env (let_term e b) T → (A : Ty) × ctyped G env e A × ctyped G (A ∷ env) b T
let-typed G env e b T ty =
    let A = ty.2.0 in
    let p = ty.3 in
    let q = p.5 in
    let x = args-first p.0 (arg [] ty.2.0) p.1 (arg (ty.2.0 ∷ []) T ∷ []) (sym p.2 ∙ ty.2.1) in
    let y = args-first q.0 (arg (ty.2.0 ∷ []) T) q.1 [] (sym q.2 ∙ x.1) in
    (ty.2.0, subst (λ a. ctyped G (a.own ++ env) e a.has) x.0 p.4, subst (λ a. ctyped G (a.own ++ env) b a.has) y.0 q.4)

-- `Dim` of the variable, read back
pub dim-is : (at : ℕ) (f : Form) (ps : Parts) → is_dim_of at f ps ≡ true → (k : ℕ) × (f ≡ Form.strict (Strict.dim k)) × (ps ≡ part 0 (variable at) none)
dim-is at (Form.strict (Strict.dim k)) (part zero (node (Form.var i) none) none) e = (k, refl, ap (λ j. part 0 (variable j) none) (eqb-true i at e))
dim-is at _ _ e = cc

-- a typed `Dim` of a variable has the rank of the variable's type
pub dim-rank : (G : ℕ → Ty → Type 0) (env : List Ty) (at n k : ℕ) (A T : Ty) → slice_get env at ≡ Some (types.array_of n A) → ctyped G env (dim_term k (variable at)) T → k ≡ n
dim-rank G env at n k A T g ty = one ty.1 ty.3 (ty.2.1 ∙ ap (map (arg [])) ty.2.2.2)
  where
    rank_of : Ty → ℕ
    rank_of (types.array_of m B) = m
    rank_of _ = 0

    one : (args : List Arg) → parts_typed G env (part 0 (variable at) none) args → args ≡ arg [] (types.array_of k ty.2.2.0) ∷ [] → k ≡ n
    one args t e =
        let y : t.0 ≡ arg [] (types.array_of k ty.2.2.0) = first t.0 (arg [] (types.array_of k ty.2.2.0)) t.1 [] (sym t.2 ∙ e) in
        let v : slice_get (t.0.own ++ env) at ≡ Some t.0.has = t.4.2.1 in
        let w : slice_get env at ≡ Some (types.array_of k ty.2.2.0) = subst (λ a. slice_get (a.own ++ env) at ≡ Some a.has) y v in
        rank-same (types.array_of k ty.2.2.0) (types.array_of n A) (sym w ∙ g)
      where
        first : (a b : Arg) (as' bs : List Arg) → a ∷ as' ≡ b ∷ bs → a ≡ b
        first a b as' bs q = cc

        rank-same : (X Y : Ty) → Some X ≡ Some Y → rank_of X ≡ rank_of Y
        rank-same X Y q = let z : X ≡ Y = cc in ap rank_of z

-- equal set types have equal member types
pub set_inj : (A B : Ty) → types.set_of A ≡ types.set_of B → A ≡ B
set_inj A B e = cc

-- the parts of the types of an operation
pub one-typed : (G : ℕ → Ty → Type 0) (env : List Ty) (a : Term) (As : List Ty) (A : Ty) → As ≡ A ∷ [] → TermsTyped G env (a ∷ []) As → ctyped G env a A
one-typed G env a As A e h = (subst (TermsTyped G env (a ∷ [])) e h).0

-- the member of a set of one member
pub single-typed : (G : ℕ → Ty → Type 0) (env : List Ty) (a : Term) (A : Ty) → ctyped G env (single_term a) (types.set_of A) → ctyped G env a A
single-typed G env a A ty =
    let s = strict-typed G env Strict.single (a ∷ []) (types.set_of A) ty in
    let z : s.1.0 ≡ A = set_inj s.1.0 A (sym s.1.2) in
    subst (ctyped G env a) z (one-typed G env a s.0 s.1.0 s.1.1 s.2)

-- the array and the indices of a subscript
pub sub-typed : (G : ℕ → Ty → Type 0) (env : List Ty) (a : Term) (is : List Term) (T : Ty) → ctyped G env (sub_term a is) T → (k : ℕ) × IsRank k × ctyped G env a (types.array_of k T) × TermsTyped G env is (replicate k types.natural)
sub-typed G env a is T ty =
    let s = strict-typed G env Strict.sub (a ∷ is) T ty in
    let p = subst (TermsTyped G env (a ∷ is)) s.1.2 s.2 in
    (s.1.0, s.1.1, p.0, p.1)

-- the array of a dimension
pub dim-typed : (G : ℕ → Ty → Type 0) (env : List Ty) (k : ℕ) (a : Term) (T : Ty) → ctyped G env (dim_term k a) T → (A : Ty) × IsRank k × ctyped G env a (types.array_of k A)
dim-typed G env k a T ty = let s = strict-typed G env (Strict.dim k) (a ∷ []) T ty in (s.1.0, s.1.1, one-typed G env a s.0 (types.array_of k s.1.0) s.1.2 s.2)

-- a literal with constant dimensions has a rank
pub literal-rank : (G : ℕ → Ty → Type 0) (env : List Ty) (ns : List ℕ) (cs : List Term) (T : Ty) → ctyped G env (constant_literal ns cs) T → IsRank (length ns)
literal-rank G env ns cs T ty = subst IsRank (length-map ns number) ty.2.2.2

-- what stands in a list is found past the elements put before it
pub get-past : {A : Type 0} (new vals : List A) (at k : ℕ) → length new ≡ k → slice_get (new ++ vals) (at + k) ≡ slice_get vals at
get-past new vals at k l = slice_get-append_right new vals (at + k) (omega (arith, l)) ∙ (let z : at + k - length new ≡ at = omega (arith, l) in ap (slice_get vals) z)
