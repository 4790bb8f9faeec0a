-- Moves of lets keep every type.
use Rattle.std.proofs.Common.{◌≡◌, ℕ, zero, suc, ◌+◌, ◌-◌, List, [], ◌∷◌, ◌++◌, length, Some, refl, sym, ap, subst, ◌∙◌, arith}
use Rattle.std.specs.List.{slice_get}
use Rattle.aql_value.specs.Laws.Lists.{slice_get-append_right}
use Rattle.aql_ty.specs.Types.{Ty}
use Rattle.nrca_term.specs.Term.{Term, Parts, node, none, part, Form, parts_of, child_of, binders_of, set_child}
use Rattle.nrca_term.specs.Nodes.{variable, let_term}
use Rattle.nrca_term.specs.Typing.{Arg, arg, form_rule, ctyped, parts_typed}
use Rattle.nrca_term.specs.Subst.{shift_form, shift_term, shift_parts}
use Rattle.nrca_term.specs.Laws.Shifting.{slice_get-shift}
use Rattle.nrca_term.specs.Laws.TypingShift.{ctyped-shift_term}
use Rattle.nrca_term.specs.Laws.TypingSubst.{ctyped-subst_term, ctyped-type}
use Rattle.nrca_rule_laws.specs.Laws.Types.{ctyped-unshift}
use Rattle.nrca_motion.specs.Moves.{rotate_term, let_out, LetBelow}

-- the typing of a form under one more variable
under-rule : (G : ℕ → Ty → Type 0) (env : List Ty) (A : Ty) (f : Form) (args : List Arg) (T : Ty) → form_rule G env f args T → form_rule G (A ∷ env) (shift_form 0 1 f) args T
under-rule G env A (Form.var i) args T r = (r.0, slice_get-shift [] (A ∷ []) env i ∙ r.1)
under-rule G env A (Form.global n) args T r = r
under-rule G env A Form.bind args T r = r
under-rule G env A Form.choose args T r = r
under-rule G env A Form.default args T r = r
under-rule G env A Form.big_union args T r = r
under-rule G env A Form.sum args T r = r
under-rule G env A (Form.tab rank) args T r = r
under-rule G env A (Form.strict s) args T r = r

-- the parts under one more variable, one of them a let whose term goes out: what it says of the let, and the parts with its body
pub record IsOut (G : ℕ → Ty → Type 0) (env : List Ty) (ps : Parts) (args : List Arg) (i : ℕ) (x b : Term) : Type 0 where
  pub own : List Ty
  pub bound : Ty
  pub has : Ty
  pub long : length own ≡ binders_of ps i
  pub term : ctyped G (own ++ env) x bound
  pub body : ctyped G (bound ∷ (own ++ env)) b has
  pub rest : (w : Term) → ctyped G (own ++ (bound ∷ env)) w has → parts_typed G (bound ∷ env) (set_child (shift_parts 0 1 ps) i w) args

-- a part under one more variable keeps its type
others : (G : ℕ → Ty → Type 0) (env : List Ty) (A : Ty) (k : ℕ) (t : Term) (a : Arg) → length a.own ≡ k → ctyped G (a.own ++ env) t a.has → ctyped G (a.own ++ (A ∷ env)) (shift_term (0 + k) 1 t) a.has
others G env A k t a e c = let z : length a.own ≡ 0 + k = omega (arith, e) in subst (λ n. ctyped G (a.own ++ (A ∷ env)) (shift_term n 1 t) a.has) z (ctyped-shift_term G a.own (A ∷ []) env t a.has c)

-- all parts
all-others : (G : ℕ → Ty → Type 0) (env : List Ty) (A : Ty) (ps : Parts) (args : List Arg) → parts_typed G env ps args → parts_typed G (A ∷ env) (shift_parts 0 1 ps) args
all-others G env A none args c = c
all-others G env A (part k t ps) args c = (c.0, c.1, c.2, c.3, others G env A k t c.0 c.3 c.4, all-others G env A ps c.1 c.5)

-- a part that is a let goes out of typed parts
pub out : (G : ℕ → Ty → Type 0) (env : List Ty) (ps : Parts) (args : List Arg) (i : ℕ) (x b : Term) → parts_typed G env ps args → child_of ps i ≡ Some (let_term x b) → IsOut G env ps args i x b
out G env none args i x b c e = cc
out G env (part k t ps) args zero x b c e =
    let same : t ≡ let_term x b = cc in
    let d = subst (λ u. ctyped G (c.0.own ++ env) u c.0.has) same c.4 in
    of d.1 d.2 d.3
  where
    of : (bs : List Arg) → form_rule G (c.0.own ++ env) Form.bind bs c.0.has → parts_typed G (c.0.own ++ env) (part 0 x (part 1 b none)) bs → IsOut G env (part k t ps) args zero x b
    of bs r p =
        let q = subst (parts_typed G (c.0.own ++ env) (part 0 x (part 1 b none))) r.1 p in
        let first : q.0 ≡ arg [] r.0 = cc in
        let more : q.1 ≡ arg (r.0 ∷ []) c.0.has ∷ [] = cc in
        let s = subst (parts_typed G (c.0.own ++ env) (part 1 b none)) more q.5 in
        let second : s.0 ≡ arg (r.0 ∷ []) c.0.has = cc in
        record {
          own = c.0.own;
          bound = r.0;
          has = c.0.has;
          long = c.3;
          term = subst (λ a. ctyped G (a.own ++ (c.0.own ++ env)) x a.has) first q.4;
          body = subst (λ a. ctyped G (a.own ++ (c.0.own ++ env)) b a.has) second s.4;
          rest = λ w h. (c.0, c.1, c.2, c.3, h, all-others G env r.0 ps c.1 c.5);
        }
out G env (part k t ps) args (suc i) x b c e =
    let o = out G env ps c.1 i x b c.5 e in
    record {
      own = o.own;
      bound = o.bound;
      has = o.has;
      long = o.long;
      term = o.term;
      body = o.body;
      rest = λ w h. (c.0, c.1, c.2, c.3, others G env o.bound k t c.0 c.3 c.4, o.rest w h);
    }

-- a let that goes out of part i, whatever its body becomes
let_out-typed : (G : ℕ → Ty → Type 0) (env : List Ty) (l : Term) (i : ℕ) (a x b w : Term) (T : Ty) → ctyped G env l T → child_of (parts_of l) i ≡ Some (let_term x b) →
    ((own : List Ty) (A S : Ty) → length own ≡ binders_of (parts_of l) i → ctyped G (own ++ env) x A → ctyped G (A ∷ (own ++ env)) b S → ctyped G env a A × ctyped G (own ++ (A ∷ env)) w S) →
    ctyped G env (let_out a l i w) T
let_out-typed G env (node f ps) i a x b w T c e h =
    let o = out G env ps c.1 i x b c.3 e in
    let k = h o.own o.bound o.has o.long o.term o.body in (
      c.0,
      arg [] o.bound ∷ arg (o.bound ∷ []) T ∷ [],
      (o.bound, refl),
      (arg [] o.bound, arg (o.bound ∷ []) T ∷ [], refl, refl, k.0, (arg (o.bound ∷ []) T, [], refl, refl, (c.0, c.1, under-rule G env o.bound f c.1 T c.2, o.rest w k.1), refl)),
    )

-- M4 keeps every type
pub strict_let-typed : (G : ℕ → Ty → Type 0) (env : List Ty) (l : Term) (i : ℕ) (a b : Term) (T : Ty) → ctyped G env l T → child_of (parts_of l) i ≡ Some (let_term a b) → binders_of (parts_of l) i ≡ 0 → ctyped G env (let_out a l i b) T
strict_let-typed G env l i a b T c e z = let_out-typed G env l i a a b b T c e (λ own A S n x y. bare own A S (n ∙ z) x y)
  where
    bare : (own : List Ty) (A S : Ty) → length own ≡ 0 → ctyped G (own ++ env) a A → ctyped G (A ∷ (own ++ env)) b S → ctyped G env a A × ctyped G (own ++ (A ∷ env)) b S
    bare [] A S n x y = (x, y)
    bare (B ∷ own) A S n x y = absurd (omega (arith, n))

-- M2 and M3 keep every type
pub let_below-typed : (G : ℕ → Ty → Type 0) (env : List Ty) (l : Term) (i : ℕ) (a b : Term) (T : Ty) → ctyped G env l T → LetBelow l i a b → ctyped G env (let_out a l i (rotate_term (binders_of (parts_of l) i) b)) T
let_below-typed G env l i a b T c e =
    let_out-typed G env l i a (shift_term 0 (binders_of (parts_of l) i) a) b (rotate_term (binders_of (parts_of l) i) b) T c e (λ own A S n x y. turn own A S (binders_of (parts_of l) i) n x y)
  where
    turn : (own : List Ty) (A S : Ty) (k : ℕ) → length own ≡ k → ctyped G (own ++ env) (shift_term 0 k a) A → ctyped G (A ∷ (own ++ env)) b S → ctyped G env a A × ctyped G (own ++ (A ∷ env)) (rotate_term k b) S
    turn own A S k n x y =
        let outside = ctyped-unshift G [] own env a A (subst (λ m. ctyped G (own ++ env) (shift_term 0 m a) A) (sym n) x) in
        let place : slice_get (own ++ (A ∷ env)) k ≡ Some A = slice_get-append_right own (A ∷ env) k (omega (arith, n)) ∙ (let z : k - length own ≡ 0 = omega (arith, n) in ap (slice_get (A ∷ env)) z) in
        let var : ctyped G (own ++ (A ∷ env)) (variable k) A = (ctyped-type G env a A outside, [], (refl, place), refl) in
        let wide = ctyped-shift_term G (A ∷ own) (A ∷ []) env b S y in (
          outside,
          ctyped-subst_term G [] (own ++ (A ∷ env)) (variable k) A var (shift_term (suc k) 1 b) S (subst (λ m. ctyped G (A ∷ (own ++ (A ∷ env))) (shift_term (suc m) 1 b) S) n wide),
        )
