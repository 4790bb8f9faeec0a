-- What a type says of the form of a term: it is well formed, and its free variables are those that are typed.
use Rattle.std.proofs.Common.{◌≡◌, ℕ, zero, suc, ◌+◌, ◌*◌, ◌<◌, ◌≤◌, Bool, true, false, nat_lt, List, [], ◌∷◌, ◌++◌, length, map, replicate, Some, refl, sym, ap, subst, ◌∙◌, arith, if◌then◌else◌, inl, inr}
use Rattle.std.specs.List.{slice_get}
use Rattle.std.proofs.lemmas.List.{length-append}
use Rattle.std.proofs.lemmas.Option.{slice_get_within}
use Rattle.std.proofs.lemmas.Bool.{cases_Bool, ltb-true, ltb-false, lt-ltb, le-ltb}
use Rattle.aql_ty.specs.Types as types
use Rattle.aql_ty.specs.Types.{Ty, natural, truth}
use Rattle.nrca_term.specs.Term.{Term, Parts, node, none, part, Form, weight_of, parts_weight, form_weight, form_binders, LeafIsBare, WellFormed, PartsWellFormed, FormClosed, Closed, PartsClosed}
use Rattle.nrca_term.specs.Typing.{Arg, arg, form_rule, ctyped, parts_typed}
use Rattle.nrca_term.specs.Subst.{top_var, parts_top, form_top}
use Rattle.nrca_term.specs.Laws.Measure.{form-positive}

-- the argument at a place has as many variables of its own as its form binds there
abbrev pub OwnBinders : Form → List Arg → Type 0
OwnBinders f args = (i : ℕ) (a : Arg) → slice_get args i ≡ Some a → length a.own ≡ form_binders f i

own-length : (a b : Arg) → Some a ≡ Some b → length b.own ≡ length a.own
own-length a b e = let z : a ≡ b = cc in ap (λ x. length x.own) (sym z)

no_arg : (i : ℕ) (a : Arg) → slice_get {X = Arg} [] i ≡ Some a → ⊥
no_arg i a e = cc

strict-binders : (Ts : List Ty) (i : ℕ) (a : Arg) → slice_get (map (arg []) Ts) i ≡ Some a → length a.own ≡ 0
strict-binders [] i a e = absurd (no_arg i a e)
strict-binders (T ∷ Ts) zero a e = own-length (arg [] T) a e
strict-binders (T ∷ Ts) (suc i) a e = strict-binders Ts i a e

length-repeated : {A : Type 0} (n : ℕ) (x : A) → length (replicate n x) ≡ n
length-repeated zero x = refl
length-repeated (suc n) x = ap suc (length-repeated n x)

tab-binders : (rank i : ℕ) (x y a : Arg) → slice_get (replicate rank x ++ y ∷ []) i ≡ Some a → length a.own ≡ (if nat_lt i rank then length x.own else length y.own)
tab-binders zero zero x y a e = own-length y a e
tab-binders zero (suc i) x y a e = absurd (no_arg i a e)
tab-binders (suc rank) zero x y a e = rw (lt-ltb 0 (suc rank) (omega arith)) (own-length x a e)
tab-binders (suc rank) (suc i) x y a e = tab-binders rank i x y a e ∙ (elim (cases_Bool (nat_lt i rank)) [
  | inl h ↦ rw (h, lt-ltb (suc i) (suc rank) (omega (arith, ltb-true i rank h))) refl
  | inr h ↦ rw (h, le-ltb (suc i) (suc rank) (omega (arith, ltb-false i rank h))) refl
])

two-binders : (f : Form) (x y : Arg) (i : ℕ) (a : Arg) → length x.own ≡ form_binders f 0 → length y.own ≡ form_binders f 1 → slice_get (x ∷ y ∷ []) i ≡ Some a → length a.own ≡ form_binders f i
two-binders f x y zero a h k e = own-length x a e ∙ h
two-binders f x y (suc zero) a h k e = own-length y a e ∙ k
two-binders f x y (suc (suc i)) a h k e = absurd (no_arg i a e)

own-binders : (G : ℕ → Ty → Type 0) (env : List Ty) (f : Form) (args : List Arg) (T : Ty) → form_rule G env f args T → OwnBinders f args
own-binders G env (Form.var n) args T r i a e = absurd (no_arg i a (ap (λ l. slice_get l i) (sym r.0) ∙ e))
own-binders G env (Form.global n) args T r i a e = absurd (no_arg i a (ap (λ l. slice_get l i) (sym r.0) ∙ e))
own-binders G env Form.bind args T r i a e = two-binders Form.bind (arg [] r.0) (arg (r.0 ∷ []) T) i a refl refl (ap (λ l. slice_get l i) (sym r.1) ∙ e)
own-binders G env Form.choose args T r i a e = strict-binders (truth ∷ T ∷ T ∷ []) i a (ap (λ l. slice_get l i) (sym r) ∙ e)
own-binders G env Form.default args T r i a e = strict-binders (T ∷ T ∷ []) i a (ap (λ l. slice_get l i) (sym r) ∙ e)
own-binders G env Form.big_union args T r i a e = two-binders Form.big_union (arg [] (types.set_of r.0)) (arg (r.0 ∷ []) (types.set_of r.1)) i a refl refl (ap (λ l. slice_get l i) (sym r.2) ∙ e)
own-binders G env Form.sum args T r i a e = two-binders Form.sum (arg [] (types.set_of r.0)) (arg (r.0 ∷ []) natural) i a refl refl (ap (λ l. slice_get l i) (sym r.1) ∙ e)
own-binders G env (Form.tab rank) args T r i a e =
    tab-binders rank i (arg [] natural) (arg (replicate rank natural) r.0) a (ap (λ l. slice_get l i) (sym r.2) ∙ e)
    ∙ ap (λ n. if nat_lt i rank then 0 else n) (length-repeated rank natural)
own-binders G env (Form.strict s) args T r i a e = strict-binders r.0 i a (ap (λ l. slice_get l i) (sym r.1) ∙ e)

no_parts : (G : ℕ → Ty → Type 0) (env : List Ty) (ps : Parts) (args : List Arg) → args ≡ [] → parts_typed G env ps args → ps ≡ none
no_parts G env none args e t = refl
no_parts G env (part k u ps) args e t = let z : t.0 ∷ t.1 ≡ [] = sym t.2 ∙ e in absurd (nothing t.0 t.1 z)
  where
    nothing : (a : Arg) (l : List Arg) → a ∷ l ≡ [] → ⊥
    nothing a l z = cc

typed-leaf : (G : ℕ → Ty → Type 0) (env : List Ty) (f : Form) (args : List Arg) (T : Ty) (ps : Parts) → form_rule G env f args T → parts_typed G env ps args → LeafIsBare f ps
typed-leaf G env (Form.var n) args T ps r t = no_parts G env ps args r.0 t
typed-leaf G env (Form.global n) args T ps r t = no_parts G env ps args r.0 t
typed-leaf G env Form.bind args T ps r t = tt
typed-leaf G env Form.choose args T ps r t = tt
typed-leaf G env Form.default args T ps r t = tt
typed-leaf G env Form.big_union args T ps r t = tt
typed-leaf G env Form.sum args T ps r t = tt
typed-leaf G env (Form.tab rank) args T ps r t = tt
typed-leaf G env (Form.strict s) args T ps r t = tt

mutual
  -- each typed term is well formed
  pub well_formed-typed : (G : ℕ → Ty → Type 0) (env : List Ty) (t : Term) (T : Ty) → ctyped G env t T → WellFormed t
  well_formed-typed G env (node f ps) T c =
      (typed-leaf G env f c.1 T ps c.2 c.3, parts_well_formed-typed G env f 0 ps c.1 (λ i a e. own-binders G env f c.1 T c.2 i a e ∙ (let z : i ≡ 0 + i = omega arith in ap (form_binders f) z)) c.3)

  parts_well_formed-typed : (G : ℕ → Ty → Type 0) (env : List Ty) (f : Form) (i : ℕ) (ps : Parts) (args : List Arg) →
      ((j : ℕ) (a : Arg) → slice_get args j ≡ Some a → length a.own ≡ form_binders f (i + j)) → parts_typed G env ps args → PartsWellFormed f i ps
  parts_well_formed-typed G env f i none args h t = tt
  parts_well_formed-typed G env f i (part k u ps) args h t = (
    sym t.3 ∙ h 0 t.0 (ap (λ l. slice_get l 0) t.2) ∙ (let z : i + 0 ≡ i = omega arith in ap (form_binders f) z),
    well_formed-typed G (t.0.own ++ env) u t.0.has t.4,
    parts_well_formed-typed G env f (suc i) ps t.1 (λ j a e. h (suc j) a (ap (λ l. slice_get l (suc j)) t.2 ∙ e) ∙ (let z : i + suc j ≡ suc i + j = omega arith in ap (form_binders f) z)) t.5,
  )

form-closed : (G : ℕ → Ty → Type 0) (env : List Ty) (f : Form) (args : List Arg) (T : Ty) → form_rule G env f args T → FormClosed (length env) f
form-closed G env (Form.var n) args T r = slice_get_within env n T r.1
form-closed G env (Form.global n) args T r = tt
form-closed G env Form.bind args T r = tt
form-closed G env Form.choose args T r = tt
form-closed G env Form.default args T r = tt
form-closed G env Form.big_union args T r = tt
form-closed G env Form.sum args T r = tt
form-closed G env (Form.tab rank) args T r = tt
form-closed G env (Form.strict s) args T r = tt

mutual
  -- the free variables of a typed term are among those that are typed
  pub closed-typed : (G : ℕ → Ty → Type 0) (env : List Ty) (t : Term) (T : Ty) → ctyped G env t T → Closed (length env) t
  closed-typed G env (node f ps) T c = (form-closed G env f c.1 T c.2, parts_closed-typed G env ps c.1 c.3)

  parts_closed-typed : (G : ℕ → Ty → Type 0) (env : List Ty) (ps : Parts) (args : List Arg) → parts_typed G env ps args → PartsClosed (length env) ps
  parts_closed-typed G env none args t = tt
  parts_closed-typed G env (part k u ps) args t = (
    (let z : length (t.0.own ++ env) ≡ length env + k = omega (arith, length-append t.0.own env, t.3) in subst (λ n. Closed n u) z (closed-typed G (t.0.own ++ env) u t.0.has t.4)),
    parts_closed-typed G env ps t.1 t.5,
  )

-- a form binds at most as many variables as it weighs
pub binders-light : (f : Form) (i : ℕ) → form_binders f i ≤ form_weight f
binders-light (Form.var n) i = omega arith
binders-light (Form.global n) i = omega arith
binders-light Form.bind zero = omega arith
binders-light Form.bind (suc i) = omega arith
binders-light Form.choose i = omega arith
binders-light Form.default i = omega arith
binders-light Form.big_union zero = omega arith
binders-light Form.big_union (suc i) = omega arith
binders-light Form.sum zero = omega arith
binders-light Form.sum (suc i) = omega arith
binders-light (Form.tab rank) i = at (nat_lt i rank)
  where
    at : (b : Bool) → (if b then 0 else rank) ≤ 6 * rank + 6
    at true = omega arith
    at false = omega arith
binders-light (Form.strict s) i = omega (arith, form-positive (Form.strict s))

form-top : (n : ℕ) (f : Form) → FormClosed n f → form_top f < n + form_weight f
form-top n (Form.var i) h = omega (arith, h)
form-top n (Form.global m) h = omega arith
form-top n Form.bind h = omega arith
form-top n Form.choose h = omega arith
form-top n Form.default h = omega arith
form-top n Form.big_union h = omega arith
form-top n Form.sum h = omega arith
form-top n (Form.tab rank) h = omega arith
form-top n (Form.strict s) h = omega (arith, form-positive (Form.strict s))

mutual
  -- no variable number of a well-formed term passes its free variables and its weight
  pub top_var-closed : (n : ℕ) (t : Term) → WellFormed t → Closed n t → top_var t < n + weight_of t
  top_var-closed n (node f ps) w c = omega (arith, form-top n f c.0, parts_top-closed n f 0 ps w.1 c.1, form-positive f)

  parts_top-closed : (n : ℕ) (f : Form) (i : ℕ) (ps : Parts) → PartsWellFormed f i ps → PartsClosed n ps → parts_top ps < n + form_weight f + parts_weight ps
  parts_top-closed n f i none w c = omega (arith, form-positive f)
  parts_top-closed n f i (part k t ps) w c =
      omega (arith, w.0, binders-light f i, top_var-closed (n + k) t w.1 c.0, parts_top-closed n f (suc i) ps w.2 c.1)
