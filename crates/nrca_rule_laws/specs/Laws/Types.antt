-- The right side of each rule has every type of its left side (`rule-types`).
use Rattle.std.proofs.Common.{◌≡◌, ℕ, zero, suc, ◌+◌, ◌<◌, ◌≤◌, Bool, true, false, List, [], ◌∷◌, ◌++◌, length, map, replicate, Option, Some, None, refl, sym, ap, subst, ◌∙◌, arith, if◌then◌else◌, inl, inr, append_assoc}
use Rattle.std.specs.List.{slice_get}
use Rattle.std.proofs.lemmas.List.{length-map, length-replicate}
use Rattle.aql_value.specs.Strict.{Strict}
use Rattle.aql_value.specs.Datum as datum
use Rattle.aql_value.specs.Order.{datum_cmp}
use Rattle.aql_value.specs.Ops.{arith_by, compare_by}
use Rattle.aql_value.specs.declared.ops.CompareOp.TheVariants.{Less}
use Rattle.aql_ty.specs.Types as types
use Rattle.aql_ty.specs.Types.{Ty, Tys, no_type, type, natural, truth, IsType, tys_of, index_type}
use Rattle.aql_ty.specs.OperationTypes.{strict_rule}
use Rattle.nrca_term.specs.declared.trace.Rule.{Rule}
use Rattle.nrca_term.specs.declared.trace.Rule.TheVariants.{B1, K1, I1, I2, L1, L2, L3, P1, P2, S1, S2, S3, S4, S5, S6, S7, S8, S9, A1, A2, A3, A4, A5, A6, A7, C1, C2, C3, C4, N1, N2}
use Rattle.nrca_term.specs.Term.{Term, Parts, node, none, part, plain, Form}
use Rattle.nrca_term.specs.Nodes.{variable, number, truth_term, bottom_term, let_term, if_term, less_term, tuple_term, proj_term, big_union_term, sum_term, single_term, empty_term, get_term, loop_term, compare_term, arith_term, gen_term, tab_term, sub_term, dim_term}
use Rattle.nrca_term.specs.Subst.{shift_form, shift_term, shift_parts, subst_term}
use Rattle.nrca_term.specs.Laws.Shifting.{under, slice_get-shift}
use Rattle.nrca_term.specs.Typing.{Arg, form_rule, ctyped, parts_typed}
use Rattle.nrca_term.specs.Laws.TypingShift.{ctyped-shift_term}
use Rattle.nrca_term.specs.Laws.TypingSubst.{ctyped-subst_term, ctyped-type}
use Rattle.nrca_term.specs.Laws.Variants.{literal-parts}
use Rattle.nrca_term.specs.Rules.{Way, Redex, IsComparison, Folds, arithmetic, numbers, truths, texts, generated, member, misshapen, Subscript, inside, outside, LoopOf, lets, guard, beta, sizes_term, is_dim_of, replace_dims, replace_dims_parts, number_or_bottom, constant_literal, dimension_terms, index_variables}
use Rattle.nrca_rule_laws.specs.Laws.Keeping.{dimension_terms-length, index_variables-length}
use Rattle.nrca_term.specs.Laws.TypedLists.{TermsTyped, terms-length}
use Rattle.nrca_rule_laws.specs.Laws.Typed.{set_inj, strict-typed, typed-strict, let-typed, typed-let, if-typed, typed-if, default-typed, union-typed, typed-union, sum-typed, typed-sum, tab-typed, one-typed, single-typed, sub-typed, dim-typed, dim-is, dim-rank, get-past}

-- bottom, numbers, truth values and the empty set
bottom-typed : (G : ℕ → Ty → Type 0) (env : List Ty) (T : Ty) → IsType T → ctyped G env bottom_term T
bottom-typed G env T t = typed-strict G env Strict.bottom [] [] T t refl tt

number-typed : (G : ℕ → Ty → Type 0) (env : List Ty) (n : ℕ) → ctyped G env (number n) natural
number-typed G env n = typed-strict G env (Strict.nat n) [] [] natural tt (refl, refl) tt

truth-typed : (G : ℕ → Ty → Type 0) (env : List Ty) (b : Bool) → ctyped G env (truth_term b) truth
truth-typed G env b = typed-strict G env (Strict.bool b) [] [] truth tt (refl, refl) tt

empty-typed : (G : ℕ → Ty → Type 0) (env : List Ty) (A : Ty) → IsType (types.set_of A) → ctyped G env empty_term (types.set_of A)
empty-typed G env A t = typed-strict G env Strict.empty [] [] (types.set_of A) t (A, refl, refl) tt

-- an equal type, and equal terms on both sides
as-typed : (G : ℕ → Ty → Type 0) (env : List Ty) (t : Term) (A T : Ty) → T ≡ A → ctyped G env t A → ctyped G env t T
as-typed G env t A T e h = subst (ctyped G env t) (sym e) h

at-left : (G : ℕ → Ty → Type 0) (env : List Ty) (T : Ty) (l m r s : Term) → l ≡ m → r ≡ s → (ctyped G env m T → ctyped G env s T) → ctyped G env l T → ctyped G env r T
at-left G env T l m r s e f k h = subst (λ x. ctyped G env x T) (sym f) (k (subst (λ x. ctyped G env x T) e h))

-- the types of variables that a shift made room for can be left out
form_rule-unshift : (G : ℕ → Ty → Type 0) (pre new post : List Ty) (f : Form) (args : List Arg) (T : Ty) → form_rule G (pre ++ (new ++ post)) (shift_form (length pre) (length new) f) args T → form_rule G (pre ++ post) f args T
form_rule-unshift G pre new post (Form.var i) args T h = (h.0, sym (slice_get-shift pre new post i) ∙ h.1)
form_rule-unshift G pre new post (Form.global n) args T h = h
form_rule-unshift G pre new post Form.bind args T h = h
form_rule-unshift G pre new post Form.choose args T h = h
form_rule-unshift G pre new post Form.default args T h = h
form_rule-unshift G pre new post Form.big_union args T h = h
form_rule-unshift G pre new post Form.sum args T h = h
form_rule-unshift G pre new post (Form.tab rank) args T h = h
form_rule-unshift G pre new post (Form.strict s) args T h = h

mutual
  -- a term has the types of its shift, without the variables that the shift made room for
  pub ctyped-unshift : (G : ℕ → Ty → Type 0) (pre new post : List Ty) (t : Term) (T : Ty) → ctyped G (pre ++ (new ++ post)) (shift_term (length pre) (length new) t) T → ctyped G (pre ++ post) t T
  ctyped-unshift G pre new post (node f ps) T h = (h.0, h.1, form_rule-unshift G pre new post f h.1 T h.2, parts-unshift G pre new post ps h.1 h.3)

  parts-unshift : (G : ℕ → Ty → Type 0) (pre new post : List Ty) (ps : Parts) (args : List Arg) → parts_typed G (pre ++ (new ++ post)) (shift_parts (length pre) (length new) ps) args → parts_typed G (pre ++ post) ps args
  parts-unshift G pre new post none args h = h
  parts-unshift G pre new post (part k t ps) args h = (
    h.0,
    h.1,
    h.2,
    h.3,
    subst (λ env. ctyped G env t h.0.has) (append_assoc h.0.own pre post)
        (ctyped-unshift G (h.0.own ++ pre) new post t h.0.has
        (subst (λ n. ctyped G ((h.0.own ++ pre) ++ (new ++ post)) (shift_term n (length new) t) h.0.has) (under h.0.own pre k h.3)
        (subst (λ env. ctyped G env (shift_term (length pre + k) (length new) t) h.0.has) (sym (append_assoc h.0.own pre (new ++ post))) h.4))),
    parts-unshift G pre new post ps h.1 h.5,
  )

-- shifted terms below one more variable
terms-shifted : (G : ℕ → Ty → Type 0) (env : List Ty) (X : Ty) (ts : List Term) (As : List Ty) → TermsTyped G env ts As → TermsTyped G (X ∷ env) (map (shift_term 0 1) ts) As
terms-shifted G env X [] [] h = tt
terms-shifted G env X [] (A ∷ As) h = absurd h
terms-shifted G env X (t ∷ ts) [] h = absurd h
terms-shifted G env X (t ∷ ts) (A ∷ As) h = (ctyped-shift_term G [] (X ∷ []) env t A h.0, terms-shifted G env X ts As h.1)

-- an operation on a let has its type as a let of the operation
pub out_of_let-typed : (G : ℕ → Ty → Type 0) (env : List Ty) (s : Strict) (e b : Term) (ts : List Term) (T : Ty) → ctyped G env (node (Form.strict s) (plain (let_term e b ∷ ts) none)) T → ctyped G env (let_term e (node (Form.strict s) (plain (b ∷ map (shift_term 0 1) ts) none))) T
out_of_let-typed G env s e b ts T h = let q = strict-typed G env s (let_term e b ∷ ts) T h in at q.0 q.1 q.2
  where
    at : (As : List Ty) → strict_rule s As T → TermsTyped G env (let_term e b ∷ ts) As → ctyped G env (let_term e (node (Form.strict s) (plain (b ∷ map (shift_term 0 1) ts) none))) T
    at [] r k = absurd k
    at (A ∷ As) r k = let l = let-typed G env e b A k.0 in typed-let G env e (node (Form.strict s) (plain (b ∷ map (shift_term 0 1) ts) none)) l.0 T l.1 (typed-strict G (l.0 ∷ env) s (b ∷ map (shift_term 0 1) ts) (A ∷ As) T (ctyped-type G env (node (Form.strict s) (plain (let_term e b ∷ ts) none)) T h) r (l.2, terms-shifted G env l.0 ts As k.1))

-- types of a tuple, read back
tys_list : Tys → List Ty
tys_list no_type = []
tys_list (type t ts) = t ∷ tys_list ts

list-tys : (As : List Ty) → tys_list (tys_of As) ≡ As
unfolding tys_list
list-tys [] = refl
list-tys (A ∷ As) = ap (λ l. A ∷ l) (list-tys As)

product-same : (As Bs : List Ty) → types.product (tys_of As) ≡ types.product (tys_of Bs) → As ≡ Bs
product-same As Bs e = sym (list-tys As) ∙ ap parts e ∙ list-tys Bs
  where
    parts : Ty → List Ty
    parts (types.product Ts) = tys_list Ts
    parts _ = []

-- a component of a typed tuple
term-typed : (G : ℕ → Ty → Type 0) (env : List Ty) (ts : List Term) (As : List Ty) (i : ℕ) (t : Term) (A : Ty) → TermsTyped G env ts As → slice_get ts i ≡ Some t → slice_get As i ≡ Some A → ctyped G env t A
term-typed G env [] As i t A h e k = cc
term-typed G env (u ∷ ts) [] i t A h e k = absurd h
term-typed G env (u ∷ ts) (B ∷ As) zero t A h e k = let x : u ≡ t = cc in let y : B ≡ A = cc in subst (λ z. ctyped G env z A) x (subst (ctyped G env u) y h.0)
term-typed G env (u ∷ ts) (B ∷ As) (suc i) t A h e k = term-typed G env ts As i t A h.1 e k

-- a variable of an index
replicate-get : (k i : ℕ) (env : List Ty) → i < k → slice_get (replicate k natural ++ env) i ≡ Some natural
replicate-get zero i env l = absurd (omega (arith, l))
replicate-get (suc k) zero env l = refl
replicate-get (suc k) (suc i) env l = replicate-get k i env (omega (arith, l))

-- a term below variables of numbers
shifted-naturals : (G : ℕ → Ty → Type 0) (env : List Ty) (k : ℕ) (t : Term) (A : Ty) → ctyped G env t A → ctyped G (replicate k natural ++ env) (shift_term 0 k t) A
shifted-naturals G env k t A h = subst (λ n. ctyped G (replicate k natural ++ env) (shift_term 0 n t) A) (length-replicate k natural) (ctyped-shift_term G [] (replicate k natural) env t A h)

-- tests before a body, and lets around it
typed-guarded : (G : ℕ → Ty → Type 0) (env : List Ty) (k : ℕ) (ds : List Term) (b : Term) (n : ℕ) (T : Ty) → TermsTyped G env ds (replicate n natural) → length ds ≤ k → ctyped G (replicate k natural ++ env) b T → ctyped G (replicate k natural ++ env) (guard k ds b) T
typed-guarded G env k [] b n T h l c = c
typed-guarded G env k (d ∷ ds) b zero T h l c = absurd h
typed-guarded G env k (d ∷ ds) b (suc n) T h l c =
    let v : ctyped G (replicate k natural ++ env) (variable (length ds)) natural = (tt, [], (refl, replicate-get k (length ds) env (omega (arith, l))), refl) in
    let test = typed-strict G (replicate k natural ++ env) (Strict.compare Less) (variable (length ds) ∷ shift_term 0 k d ∷ []) (natural ∷ natural ∷ []) truth tt (natural, refl, refl) (v, (shifted-naturals G env k d natural h.0, tt)) in
    typed-if G (replicate k natural ++ env) (less_term (variable (length ds)) (shift_term 0 k d)) (guard k ds b) bottom_term T test (typed-guarded G env k ds b n T h.1 (omega (arith, l)) c)
    (bottom-typed G (replicate k natural ++ env) T (ctyped-type G (replicate k natural ++ env) b T c))

typed-lets : (G : ℕ → Ty → Type 0) (env : List Ty) (is : List Term) (m n : ℕ) (body : Term) (T : Ty) → TermsTyped G env is (replicate m natural) → ctyped G (replicate (length is + n) natural ++ env) body T → ctyped G (replicate n natural ++ env) (lets n is body) T
typed-lets G env [] m n body T h c = let z : 0 + n ≡ n = omega arith in subst (λ j. ctyped G (replicate j natural ++ env) body T) z c
typed-lets G env (i ∷ is) zero n body T h c = absurd h
typed-lets G env (i ∷ is) (suc m) n body T h c =
    let z : suc (length is) + n ≡ length is + suc n = omega arith in
    typed-let G (replicate n natural ++ env) (shift_term 0 n i) (lets (suc n) is body) natural T (shifted-naturals G env n i natural h.0) (typed-lets G env is m (suc n) body T h.1 (subst (λ j. ctyped G (replicate j natural ++ env) body T) z c))

-- the sizes of a tabulation
typed-sizes : (G : ℕ → Ty → Type 0) (env : List Ty) (ds : List Term) → 1 ≤ length ds → TermsTyped G env ds (replicate (length ds) natural) → IsType (index_type (length ds)) → ctyped G env (sizes_term ds) (index_type (length ds))
typed-sizes G env [] l h t = absurd (omega (arith, l))
typed-sizes G env (d ∷ []) l h t = h.0
typed-sizes G env (d ∷ e ∷ ds) l h t = typed-strict G env Strict.tuple (d ∷ e ∷ ds) (replicate (length (d ∷ e ∷ ds)) natural) (index_type (length (d ∷ e ∷ ds))) t (omega (arith, length-replicate (length ds) natural), refl) h

-- numbers are typed
numbers-typed : (G : ℕ → Ty → Type 0) (env : List Ty) (ns : List ℕ) → TermsTyped G env (map number ns) (replicate (length ns) natural)
numbers-typed G env [] = tt
numbers-typed G env (n ∷ ns) = (number-typed G env n, numbers-typed G env ns)

-- the type of an index is a type
index-is-type : (k : ℕ) → 1 ≤ k → IsType (index_type k)
index-is-type zero l = absurd (omega (arith, l))
index-is-type (suc zero) l = tt
index-is-type (suc (suc k)) l = (omega arith, (tt, (tt, all k)))
  where
    all : (k : ℕ) → types.AreTypes (tys_of (replicate k natural))
    all zero = tt
    all (suc k) = (tt, all k)

-- one node, where its parts are known
one-typed-replaced : (G : ℕ → Ty → Type 0) (n : ℕ) (A : Ty) (f : Form) (ps : Parts) (env : List Ty) (at : ℕ) (size : Term) (T : Ty) → slice_get env at ≡ Some (types.array_of n A) → ctyped G env size (index_type n) → ctyped G env (node f ps) T →
    (b : Bool) → is_dim_of at f ps ≡ b → ctyped G env (node f (replace_dims_parts at size ps)) T → ctyped G env (if b then size else node f (replace_dims_parts at size ps)) T
one-typed-replaced G n A f ps env at size T g w ty true e h =
    let d = dim-is at f ps e in
    let q : ctyped G env (dim_term d.0 (variable at)) T = subst (λ x. ctyped G env x T) (ap (λ x. node x ps) d.1 ∙ ap (node (Form.strict (Strict.dim d.0))) d.2) ty in
    let r = dim-rank G env at n d.0 A T g q in
    let s = strict-typed G env (Strict.dim d.0) (variable at ∷ []) T q in
    as-typed G env size (index_type n) T (s.1.3 ∙ ap index_type r) w
one-typed-replaced G n A f ps env at size T g w ty false e h = h

mutual
  -- the replacement of dimensions keeps the type
  typed-replaced : (G : ℕ → Ty → Type 0) (n : ℕ) (A : Ty) (t : Term) (env : List Ty) (at : ℕ) (size : Term) (T : Ty) → slice_get env at ≡ Some (types.array_of n A) → ctyped G env size (index_type n) → ctyped G env t T → ctyped G env (replace_dims at size t) T
  typed-replaced G n A (node f ps) env at size T g w ty = one-typed-replaced G n A f ps env at size T g w ty (is_dim_of at f ps) refl (ty.0, ty.1, ty.2, parts-typed-replaced G n A ps env at size ty.1 g w ty.3)

  parts-typed-replaced : (G : ℕ → Ty → Type 0) (n : ℕ) (A : Ty) (ps : Parts) (env : List Ty) (at : ℕ) (size : Term) (args : List Arg) → slice_get env at ≡ Some (types.array_of n A) → ctyped G env size (index_type n) → parts_typed G env ps args → parts_typed G env (replace_dims_parts at size ps) args
  parts-typed-replaced G n A none env at size args g w ty = ty
  parts-typed-replaced G n A (part k t ps) env at size args g w ty = (
    ty.0,
    ty.1,
    ty.2,
    ty.3,
    typed-replaced G n A t (ty.0.own ++ env) (at + k) (shift_term 0 k size) ty.0.has (get-past ty.0.own env at k ty.3 ∙ g)
        (subst (λ m. ctyped G (ty.0.own ++ env) (shift_term 0 m size) (index_type n)) ty.3 (ctyped-shift_term G [] ty.0.own env size (index_type n) w)) ty.4,
    parts-typed-replaced G n A ps env at size ty.1 g w ty.5,
  )

-- loops over an if, a let, a big union, and of single members
typed-i2 : (G : ℕ → Ty → Type 0) (env : List Ty) (f : Form) (z c e b : Term) (T : Ty) → LoopOf f z → ctyped G env (loop_term f (if_term c e empty_term) b) T → ctyped G env (if_term c (loop_term f e b) z) T
typed-i2 G env Form.big_union z c e b T h ty =
    let u = union-typed G env (if_term c e empty_term) b T ty in
    let i = if-typed G env c e empty_term (types.set_of u.0) u.3 in
    as-typed G env (if_term c (big_union_term e b) z) (types.set_of u.1) T u.2
    (typed-if G env c (big_union_term e b) z (types.set_of u.1) i.0 (typed-union G env e b u.0 u.1 i.1 u.4) (subst (λ y. ctyped G env y (types.set_of u.1)) (sym h) (empty-typed G env u.1 (ctyped-type G (u.0 ∷ env) b (types.set_of u.1) u.4))))
typed-i2 G env Form.sum z c e b T h ty =
    let u = sum-typed G env (if_term c e empty_term) b T ty in
    let i = if-typed G env c e empty_term (types.set_of u.0) u.2 in
    as-typed G env (if_term c (sum_term e b) z) natural T u.1 (typed-if G env c (sum_term e b) z natural i.0 (typed-sum G env e b u.0 i.1 u.3) (subst (λ y. ctyped G env y natural) (sym h) (number-typed G env 0)))
typed-i2 G env _ z c e b T h ty = absurd h

typed-s9 : (G : ℕ → Ty → Type 0) (env : List Ty) (f : Form) (z e m b : Term) (T : Ty) → LoopOf f z → ctyped G env (loop_term f (let_term e m) b) T → ctyped G env (let_term e (loop_term f m (shift_term 1 1 b))) T
typed-s9 G env Form.big_union z e m b T h ty =
    let u = union-typed G env (let_term e m) b T ty in
    let l = let-typed G env e m (types.set_of u.0) u.3 in
    as-typed G env (let_term e (big_union_term m (shift_term 1 1 b))) (types.set_of u.1) T u.2 (typed-let G env e (big_union_term m (shift_term 1 1 b)) l.0 (types.set_of u.1) l.1 (typed-union G (l.0 ∷ env) m (shift_term 1 1 b) u.0 u.1 l.2 (ctyped-shift_term G (u.0 ∷ []) (l.0 ∷ []) env b (types.set_of u.1) u.4)))
typed-s9 G env Form.sum z e m b T h ty =
    let u = sum-typed G env (let_term e m) b T ty in
    let l = let-typed G env e m (types.set_of u.0) u.2 in
    as-typed G env (let_term e (sum_term m (shift_term 1 1 b))) natural T u.1 (typed-let G env e (sum_term m (shift_term 1 1 b)) l.0 natural l.1 (typed-sum G (l.0 ∷ env) m (shift_term 1 1 b) u.0 l.2 (ctyped-shift_term G (u.0 ∷ []) (l.0 ∷ []) env b natural u.3)))
typed-s9 G env _ z e m b T h ty = absurd h

typed-s3 : (G : ℕ → Ty → Type 0) (env : List Ty) (e m b : Term) (T : Ty) → ctyped G env (big_union_term (big_union_term e m) b) T → ctyped G env (big_union_term e (big_union_term m (shift_term 1 1 b))) T
typed-s3 G env e m b T ty =
    let u = union-typed G env (big_union_term e m) b T ty in
    let w = union-typed G env e m (types.set_of u.0) u.3 in
    let z : w.1 ≡ u.0 = set_inj w.1 u.0 (sym w.2) in
    let m' : ctyped G (w.0 ∷ env) m (types.set_of u.0) = subst (λ X. ctyped G (w.0 ∷ env) m (types.set_of X)) z w.4 in
    as-typed G env (big_union_term e (big_union_term m (shift_term 1 1 b))) (types.set_of u.1) T u.2 (typed-union G env e (big_union_term m (shift_term 1 1 b)) w.0 u.1 w.3 (typed-union G (w.0 ∷ env) m (shift_term 1 1 b) u.0 u.1 m' (ctyped-shift_term G (u.0 ∷ []) (w.0 ∷ []) env b (types.set_of u.1) u.4)))

typed-s6 : (G : ℕ → Ty → Type 0) (env : List Ty) (r : Term) (T : Ty) → ctyped G env (big_union_term r (single_term (variable 0))) T → ctyped G env r T
typed-s6 G env r T ty =
    let u = union-typed G env r (single_term (variable 0)) T ty in
    let v = single-typed G (u.0 ∷ env) (variable 0) u.1 u.4 in
    let z : u.0 ≡ u.1 = same u.0 u.1 v.2.1 in
    as-typed G env r (types.set_of u.1) T u.2 (subst (λ X. ctyped G env r (types.set_of X)) z u.3)
  where
    same : (A B : Ty) → Some A ≡ Some B → A ≡ B
    same A B e = cc

-- operations on constants
typed-folds : (G : ℕ → Ty → Type 0) (env : List Ty) (T : Ty) (l r : Term) → Folds l r → ctyped G env l T → ctyped G env r T
typed-folds G env T l r (arithmetic op m n e k) ty = at-left G env T l (arith_term op (number m) (number n)) r _ e k (λ h. let s = strict-typed G env (Strict.arith op) (number m ∷ number n ∷ []) T h in as-typed G env (number_or_bottom (arith_by op m n)) natural T s.1.1 (some_number (arith_by op m n))) ty
  where
    some_number : (o : Option ℕ) → ctyped G env (number_or_bottom o) natural
    some_number None = bottom-typed G env natural tt
    some_number (Some j) = number-typed G env j
typed-folds G env T l r (numbers op m n e k) ty = at-left G env T l (compare_term op (number m) (number n)) r _ e k (λ h. let s = strict-typed G env (Strict.compare op) (number m ∷ number n ∷ []) T h in as-typed G env (truth_term (compare_by op (datum_cmp (datum.natural m) (datum.natural n)))) truth T s.1.2 (truth-typed G env (compare_by op (datum_cmp (datum.natural m) (datum.natural n))))) ty
typed-folds G env T l r (truths op a b e k) ty = at-left G env T l (compare_term op (truth_term a) (truth_term b)) r _ e k (λ h. let s = strict-typed G env (Strict.compare op) (truth_term a ∷ truth_term b ∷ []) T h in as-typed G env (truth_term (compare_by op (datum_cmp (datum.truth a) (datum.truth b)))) truth T s.1.2 (truth-typed G env (compare_by op (datum_cmp (datum.truth a) (datum.truth b))))) ty
typed-folds G env T l r (texts op s t e k) ty = at-left G env T l _ r _ e k (λ h. let q = strict-typed G env (Strict.compare op) (node (Form.strict (Strict.text s)) none ∷ node (Form.strict (Strict.text t)) none ∷ []) T h in as-typed G env (truth_term (compare_by op (datum_cmp (datum.text s) (datum.text t)))) truth T q.1.2 (truth-typed G env (compare_by op (datum_cmp (datum.text s) (datum.text t))))) ty
typed-folds G env T l r (generated e k) ty = at-left G env T l (gen_term (number 0)) r empty_term e k (λ h. let s = strict-typed G env Strict.gen (number 0 ∷ []) T h in as-typed G env empty_term (types.set_of natural) T s.1.1 (empty-typed G env natural tt)) ty
typed-folds G env T l r (member e k) ty = at-left G env T l (get_term empty_term) r bottom_term e k (λ h. bottom-typed G env T (ctyped-type G env (get_term empty_term) T h)) ty
typed-folds G env T l r (misshapen ns cs e h k) ty = at-left G env T l (constant_literal ns cs) r bottom_term e k (λ h. bottom-typed G env T (ctyped-type G env (constant_literal ns cs) T h)) ty

-- the cells of a literal
rest-typed : (G : ℕ → Ty → Type 0) (env : List Ty) (ds cs : List Term) (As Bs : List Ty) → length ds ≡ length As → TermsTyped G env (ds ++ cs) (As ++ Bs) → TermsTyped G env cs Bs
rest-typed G env [] cs [] Bs l h = h
rest-typed G env [] cs (A ∷ As) Bs l h = absurd (omega (arith, l))
rest-typed G env (d ∷ ds) cs [] Bs l h = absurd (omega (arith, l))
rest-typed G env (d ∷ ds) cs (A ∷ As) Bs l h = rest-typed G env ds cs As Bs (omega (arith, l)) h.1

cells-typed : (G : ℕ → Ty → Type 0) (env : List Ty) (n : ℕ) (cs : List Term) (A : Ty) (i : ℕ) (t : Term) → TermsTyped G env cs (replicate n A) → slice_get cs i ≡ Some t → ctyped G env t A
cells-typed G env n [] A i t h e = cc
cells-typed G env zero (c ∷ cs) A i t h e = absurd h
cells-typed G env (suc n) (c ∷ cs) A zero t h e = let x : c ≡ t = cc in subst (λ z. ctyped G env z A) x h.0
cells-typed G env (suc n) (c ∷ cs) A (suc i) t h e = cells-typed G env n cs A i t h.1 e

literal-cells : (G : ℕ → Ty → Type 0) (env : List Ty) (ns : List ℕ) (cs : List Term) (T : Ty) → ctyped G env (constant_literal ns cs) T → (A : Ty) × (k : ℕ) × (T ≡ types.array_of k A) × ((i : ℕ) (t : Term) → slice_get cs i ≡ Some t → ctyped G env t A)
literal-cells G env ns cs T ty =
    let s = strict-typed G env (Strict.literal (length (map number ns))) (map number ns ++ cs) T (subst (λ x. ctyped G env x T) (literal-parts (map number ns) cs) ty) in
    let q = rest-typed G env (map number ns) cs (replicate (length (map number ns)) natural) (replicate s.1.1 s.1.0) (sym (length-replicate (length (map number ns)) natural)) (subst (TermsTyped G env (map number ns ++ cs)) s.1.3 s.2) in
    (s.1.0, length (map number ns), s.1.4, (λ i t e. cells-typed G env s.1.1 cs s.1.0 i t q e))

-- equal array types have equal cell types
array_cell : (k n : ℕ) (A B : Ty) → types.array_of k A ≡ types.array_of n B → A ≡ B
array_cell k n A B e = ap cell e
  where
    cell : Ty → Ty
    cell (types.array_of m C) = C
    cell _ = A

-- a constant subscript of a literal
typed-subscript : (G : ℕ → Ty → Type 0) (env : List Ty) (T : Ty) (l r : Term) (ws : List Way) → Subscript l r ws → ctyped G env l T → ctyped G env r T
typed-subscript G env T l r ws (inside ns cs is p e a b d f) ty =
    let u = sub-typed G env (constant_literal ns cs) (map number is) T (subst (λ y. ctyped G env y T) e ty) in
    let c = literal-cells G env ns cs (types.array_of u.0 T) u.2 in
    as-typed G env r c.0 T (array_cell u.0 c.1 T c.0 c.2) (c.3 p r d)
typed-subscript G env T l r ws (outside ns cs is e a b d f h) ty = subst (λ y. ctyped G env y T) (sym f) (bottom-typed G env T (ctyped-type G env l T ty))

-- a comparison becomes a truth value
compared-typed : (G : ℕ → Ty → Type 0) (env : List Ty) (T : Ty) (l r : Term) (c : Bool) → IsComparison l → r ≡ truth_term c → ctyped G env l T → ctyped G env r T
compared-typed G env T l r c x e ty =
    let s = strict-typed G env (Strict.compare x.0) (x.1 ∷ x.2 ∷ []) T (subst (λ y. ctyped G env y T) x.3 ty) in
    subst (λ y. ctyped G env y T) (sym e) (as-typed G env (truth_term c) truth T s.1.2 (truth-typed G env c))

-- a subscript of a tabulation, a copied array, dimensions of a bound tabulation
typed-a1 : (G : ℕ → Ty → Type 0) (env : List Ty) (ds : List Term) (b : Term) (is : List Term) (T : Ty) → length ds ≡ length is → ctyped G env (sub_term (tab_term ds b) is) T → ctyped G env (beta ds b is) T
typed-a1 G env ds b is T e ty =
    let u = sub-typed G env (tab_term ds b) is T ty in
    let t = tab-typed G env ds b (types.array_of u.0 T) u.2 in
    let z : T ≡ t.0 = array_cell u.0 (length ds) T t.0 t.2 in
    let n : length ds ≡ length is + 0 = omega (arith, e) in
    as-typed G env (beta ds b is) t.0 T z
    (typed-lets G env is u.0 0 (guard (length ds) ds b) t.0 u.3 (subst (λ j. ctyped G (replicate j natural ++ env) (guard (length ds) ds b) t.0) n (typed-guarded G env (length ds) ds b (length ds) t.0 t.3 (omega arith) t.4)))

typed-a2 : (G : ℕ → Ty → Type 0) (env : List Ty) (k : ℕ) (r : Term) (T : Ty) → ctyped G env (tab_term (dimension_terms k r) (sub_term (shift_term 0 k r) (index_variables k))) T → ctyped G env r T
typed-a2 G env k r T ty =
    let t = tab-typed G env (dimension_terms k r) (sub_term (shift_term 0 k r) (index_variables k)) T ty in
    let m : length (dimension_terms k r) ≡ k = dimension_terms-length k r in
    let around : List Ty = replicate (length (dimension_terms k r)) natural ++ env in
    let u = sub-typed G (replicate (length (dimension_terms k r)) natural ++ env) (shift_term 0 k r) (index_variables k) t.0 t.4 in
    let z : u.0 ≡ k = sym (sym (index_variables-length k) ∙ terms-length G (replicate (length (dimension_terms k r)) natural ++ env) (index_variables k) (replicate u.0 natural) u.3 ∙ length-replicate u.0 natural) in
    let w : ctyped G (replicate k natural ++ env) (shift_term 0 k r) (types.array_of k t.0) =
    subst (λ q. ctyped G (replicate q natural ++ env) (shift_term 0 k r) (types.array_of k t.0)) m (subst (λ q. ctyped G (replicate (length (dimension_terms k r)) natural ++ env) (shift_term 0 k r) (types.array_of q t.0)) z u.2) in
    as-typed G env r (types.array_of k t.0) T (t.2 ∙ ap (λ q. types.array_of q t.0) m)
    (ctyped-unshift G [] (replicate k natural) env r (types.array_of k t.0) (subst (λ j. ctyped G (replicate k natural ++ env) (shift_term 0 j r) (types.array_of k t.0)) (sym (length-replicate k natural)) w))

typed-a4 : (G : ℕ → Ty → Type 0) (env : List Ty) (ds : List Term) (c b : Term) (T : Ty) → ctyped G env (let_term (tab_term ds c) b) T → ctyped G env (let_term (tab_term ds c) (replace_dims 0 (shift_term 0 1 (sizes_term ds)) b)) T
typed-a4 G env ds c b T ty =
    let q = let-typed G env (tab_term ds c) b T ty in
    let t = tab-typed G env ds c q.0 q.1 in
    let s = typed-sizes G env ds t.1.0 t.3 (index-is-type (length ds) t.1.0) in
    typed-let G env (tab_term ds c) (replace_dims 0 (shift_term 0 1 (sizes_term ds)) b) q.0 T q.1
    (typed-replaced G (length ds) t.0 b (q.0 ∷ env) 0 (shift_term 0 1 (sizes_term ds)) T (ap Some t.2) (ctyped-shift_term G [] (q.0 ∷ []) env (sizes_term ds) (index_type (length ds)) s) q.2)

-- each rule
pub rule-types : (G : ℕ → Ty → Type 0) (env : List Ty) (T : Ty) (R : Rule) (l r : Term) (ws : List Way) → Redex R l r ws → ctyped G env l T → ctyped G env r T
rule-types G env T B1 l r ws x ty = subst (λ y. ctyped G env y T) (sym x.3) (bottom-typed G env T (ctyped-type G env l T ty))
rule-types G env T K1 l r ws x ty = typed-folds G env T l r x.0 ty
rule-types G env T I1 l r ws x ty = at-left G env T l (if_term (truth_term x.0) x.1 x.2) r (if x.0 then x.1 else x.2) x.3 x.4 (λ h. taken x.0 (if-typed G env (truth_term x.0) x.1 x.2 T h)) ty
  where
    taken : (c : Bool) → ctyped G env (truth_term x.0) truth × ctyped G env x.1 T × ctyped G env x.2 T → ctyped G env (if c then x.1 else x.2) T
    taken true h = h.1
    taken false h = h.2
rule-types G env T I2 l r ws x ty = at-left G env T l (loop_term x.0 (if_term x.2 x.3 empty_term) x.4) r (if_term x.2 (loop_term x.0 x.3 x.4) x.1) x.6 x.7 (typed-i2 G env x.0 x.1 x.2 x.3 x.4 T x.5) ty
rule-types G env T L1 l r ws x ty = at-left G env T l (let_term x.0 x.1) r (subst_term 0 x.0 x.1) x.3 x.4 (λ h. let t = let-typed G env x.0 x.1 T h in ctyped-subst_term G [] env x.0 t.0 t.1 x.1 T t.2) ty
rule-types G env T L2 l r ws x ty = at-left G env T l (let_term x.0 x.1) r (subst_term 0 x.0 x.1) x.4 x.5 (λ h. let t = let-typed G env x.0 x.1 T h in ctyped-subst_term G [] env x.0 t.0 t.1 x.1 T t.2) ty
rule-types G env T L3 l r ws x ty = let t = let-typed G env x.0 (shift_term 0 1 r) T (subst (λ y. ctyped G env y T) x.1 ty) in ctyped-unshift G [] (t.0 ∷ []) env r T t.2
rule-types G env T P1 l r ws x ty =
    let s = strict-typed G env (Strict.proj (suc x.0) (length x.1)) (tuple_term x.1 ∷ []) T (subst (λ y. ctyped G env y T) x.2 ty) in
    let h = one-typed G env (tuple_term x.1) s.0 (types.product (tys_of s.1.0)) s.1.2 s.2 in
    let q = strict-typed G env Strict.tuple x.1 (types.product (tys_of s.1.0)) h in
    let z : q.0 ≡ s.1.0 = product-same q.0 s.1.0 (sym q.1.1) in
    let j : s.1.1 ≡ x.0 = omega (arith, s.1.4) in
    term-typed G env x.1 s.1.0 x.0 r T (subst (TermsTyped G env x.1) z q.2) x.3 (ap (slice_get s.1.0) (sym j) ∙ s.1.5)
rule-types G env T P2 l r ws x ty = at-left G env T l (proj_term x.0 x.1 (let_term x.2 x.3)) r (let_term x.2 (proj_term x.0 x.1 x.3)) x.4 x.5 (out_of_let-typed G env (Strict.proj x.0 x.1) x.2 x.3 [] T) ty
rule-types G env T S1 l r ws x ty =
    let u = union-typed G env empty_term x.0 T (subst (λ y. ctyped G env y T) x.1 ty) in
    subst (λ y. ctyped G env y T) (sym x.2) (as-typed G env empty_term (types.set_of u.1) T u.2 (empty-typed G env u.1 (ctyped-type G (u.0 ∷ env) x.0 (types.set_of u.1) u.4)))
rule-types G env T S2 l r ws x ty =
    let u = union-typed G env (single_term x.0) x.1 T (subst (λ y. ctyped G env y T) x.2 ty) in
    subst (λ y. ctyped G env y T) (sym x.3) (as-typed G env (let_term x.0 x.1) (types.set_of u.1) T u.2 (typed-let G env x.0 x.1 u.0 (types.set_of u.1) (single-typed G env x.0 u.0 u.3) u.4))
rule-types G env T S3 l r ws x ty = at-left G env T l (big_union_term (big_union_term x.0 x.1) x.2) r (big_union_term x.0 (big_union_term x.1 (shift_term 1 1 x.2))) x.3 x.4 (typed-s3 G env x.0 x.1 x.2 T) ty
rule-types G env T S4 l r ws x ty =
    let u = sum-typed G env empty_term x.0 T (subst (λ y. ctyped G env y T) x.1 ty) in subst (λ y. ctyped G env y T) (sym x.2) (as-typed G env (number 0) natural T u.1 (number-typed G env 0))
rule-types G env T S5 l r ws x ty =
    let u = sum-typed G env (single_term x.0) x.1 T (subst (λ y. ctyped G env y T) x.2 ty) in
    subst (λ y. ctyped G env y T) (sym x.3) (as-typed G env (let_term x.0 x.1) natural T u.1 (typed-let G env x.0 x.1 u.0 natural (single-typed G env x.0 u.0 u.2) u.3))
rule-types G env T S6 l r ws x ty = typed-s6 G env r T (subst (λ y. ctyped G env y T) x.0 ty)
rule-types G env T S7 l r ws x ty =
    elim x.0 [
      | inl e ↦
          let t = strict-typed G env Strict.union (r ∷ empty_term ∷ []) T (subst (λ y. ctyped G env y T) e ty) in
          let q = subst (TermsTyped G env (r ∷ empty_term ∷ [])) t.1.1 t.2 in as-typed G env r (types.set_of t.1.0) T t.1.2 q.0
      | inr e ↦
          let t = strict-typed G env Strict.union (empty_term ∷ r ∷ []) T (subst (λ y. ctyped G env y T) e ty) in
          let q = subst (TermsTyped G env (empty_term ∷ r ∷ [])) t.1.1 t.2 in as-typed G env r (types.set_of t.1.0) T t.1.2 q.1.0
    ]
rule-types G env T S8 l r ws x ty = let s = strict-typed G env Strict.get (single_term r ∷ []) T (subst (λ y. ctyped G env y T) x.0 ty) in single-typed G env r T (one-typed G env (single_term r) s.0 (types.set_of T) s.1 s.2)
rule-types G env T S9 l r ws x ty = at-left G env T l (loop_term x.0 (let_term x.2 x.3) x.4) r (let_term x.2 (loop_term x.0 x.3 (shift_term 1 1 x.4))) x.6 x.7 (typed-s9 G env x.0 x.1 x.2 x.3 x.4 T x.5) ty
rule-types G env T A1 l r ws x ty = at-left G env T l (sub_term (tab_term x.0 x.1) x.2) r (beta x.0 x.1 x.2) x.4 x.5 (typed-a1 G env x.0 x.1 x.2 T x.3) ty
rule-types G env T A2 l r ws x ty = typed-a2 G env x.0 r T (subst (λ y. ctyped G env y T) x.2 ty)
rule-types G env T A3 l r ws x ty =
    let h = subst (λ y. ctyped G env y T) x.2 ty in
    let u = dim-typed G env (length x.0) (tab_term x.0 x.1) T h in
    let s = strict-typed G env (Strict.dim (length x.0)) (tab_term x.0 x.1 ∷ []) T h in
    let t = tab-typed G env x.0 x.1 (types.array_of (length x.0) u.0) u.2 in
    subst (λ y. ctyped G env y T) (sym x.3) (as-typed G env (sizes_term x.0) (index_type (length x.0)) T s.1.3 (typed-sizes G env x.0 t.1.0 t.3 (index-is-type (length x.0) t.1.0)))
rule-types G env T A4 l r ws x ty = at-left G env T l (let_term (tab_term x.0 x.1) x.2) r (let_term (tab_term x.0 x.1) (replace_dims 0 (shift_term 0 1 (sizes_term x.0)) x.2)) x.5 x.6 (typed-a4 G env x.0 x.1 x.2 T) ty
rule-types G env T A5 l r ws x ty = typed-subscript G env T l r ws x ty
rule-types G env T A6 l r ws x ty =
    let h = subst (λ y. ctyped G env y T) x.2 ty in
    let u = dim-typed G env (length x.0) (constant_literal x.0 x.1) T h in
    let s = strict-typed G env (Strict.dim (length x.0)) (constant_literal x.0 x.1 ∷ []) T h in
    let n : length (map number x.0) ≡ length x.0 = length-map x.0 number in
    let z = typed-sizes G env (map number x.0) (omega (arith, n, u.1.0)) (subst (λ j. TermsTyped G env (map number x.0) (replicate j natural)) (sym n) (numbers-typed G env x.0)) (index-is-type (length (map number x.0)) (omega (arith, n, u.1.0))) in
    subst (λ y. ctyped G env y T) (sym x.4) (as-typed G env (sizes_term (map number x.0)) (index_type (length (map number x.0))) T (s.1.3 ∙ ap index_type (sym n)) z)
rule-types G env T A7 l r ws x ty =
    elim x.2 [
      | inl y ↦ at-left G env T l (sub_term (let_term x.0 x.1) y.0) r (let_term x.0 (sub_term x.1 (map (shift_term 0 1) y.0))) y.1 y.2 (out_of_let-typed G env Strict.sub x.0 x.1 y.0 T) ty
      | inr y ↦ at-left G env T l (dim_term y.0 (let_term x.0 x.1)) r (let_term x.0 (dim_term y.0 x.1)) y.1 y.2 (out_of_let-typed G env (Strict.dim y.0) x.0 x.1 [] T) ty
    ]
rule-types G env T C1 l r ws x ty = compared-typed G env T l r true x.0 x.1 ty
rule-types G env T C2 l r ws x ty = compared-typed G env T l r true x.0 x.1 ty
rule-types G env T C3 l r ws x ty = compared-typed G env T l r false x.0 x.1 ty
rule-types G env T C4 l r ws x ty = compared-typed G env T l r x.1.0 x.0 x.1.1 ty
rule-types G env T N1 l r ws x ty = (default-typed G env bottom_term r T (subst (λ y. ctyped G env y T) x.0 ty)).1
rule-types G env T N2 l r ws x ty = (default-typed G env r x.0 T (subst (λ y. ctyped G env y T) x.1 ty)).0
