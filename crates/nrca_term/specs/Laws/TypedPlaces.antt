-- What follows from the definitions of `TypedPlaces`.
use Rattle.std.proofs.Common.{◌≡◌, ℕ, zero, suc, ◌<◌, ◌≤◌, Bool, true, false, nat_lt, List, [], ◌∷◌, ◌++◌, length, map, replicate, Option, Some, None, option_to_list, unwrap_or, refl, sym, ap, subst, ◌∙◌, arith, inl, inr}
use Rattle.std.specs.List.{slice_get}
use Rattle.std.proofs.lemmas.Bool.{cases_Bool, ltb-true, ltb-false}
use Rattle.aql_value.specs.Datum.{Datum}
use Rattle.aql_value.specs.Indices.{indices}
use Rattle.aql_value.specs.Laws.RowMajor.{indices_lengths}
use Rattle.aql_value.specs.Lists.{Every}
use Rattle.aql_value.specs.Laws.Lists.{Every-impl, Every-onto, Every-nested}
use Rattle.aql_value.specs.Operations.{as_set, push_index}
use Rattle.aql_value.specs.Partial.{◌>>=◌, concat}
use Rattle.aql_value.specs.Laws.Partial.{then-is}
use Rattle.aql_ty.specs.Types as types
use Rattle.aql_ty.specs.Types.{Ty, natural, truth}
use Rattle.nrca_term.specs.Term.{Term, Parts, node, none, part, Form, child_of}
use Rattle.aql_ty.specs.ValueTypes.{HasType, HaveTypes}
use Rattle.nrca_term.specs.Typing.{Arg, arg, form_rule, ctyped, parts_typed}
use Rattle.nrca_term.specs.Meaning.{Part, worth, test_value, members_value, bounds_value, part_values}
use Rattle.nrca_term.specs.Places.{branch, otherwise, indices_of, entry_values, entered_in, place_of, put_at, on_child, reach, reach_each}
use Rattle.nrca_term.specs.Laws.Entering.{bounds-length}
use Rattle.nrca_term.specs.Laws.Measure.{through}
use Rattle.aql_ty.specs.Laws.Operation.{set-members, has-append}
use Rattle.nrca_term.specs.Laws.Sound.{AllSound, sound-get, sounds, sound-length, length-tab, index-have, parts-sound}
use Rattle.nrca_term.specs.TypedPlaces.{TypedPlace, Keeps}

-- the type of a part
abbrev TypedChild : (ℕ → Ty → Type 0) → List Ty → List Arg → ℕ → Term → Type 0
TypedChild G env args i u = (a : Arg) × (slice_get args i ≡ Some a) × ctyped G (a.own ++ env) u a.has

-- a child of typed parts has a type under its own variables
typed-child : (G : ℕ → Ty → Type 0) (env : List Ty) (ps : Parts) (args : List Arg) (i : ℕ) (u : Term) → parts_typed G env ps args → child_of ps i ≡ Some u → TypedChild G env args i u
typed-child G env none args i u t e = cc
typed-child G env (part k s ps) args zero u t e = let z : s ≡ u = cc in (t.0, ap (λ x. slice_get x 0) t.2, subst (λ x. ctyped G (t.0.own ++ env) x t.0.has) z t.4)
typed-child G env (part k s ps) args (suc i) u t e = let r = typed-child G env ps t.1 i u t.5 e in (r.0, ap (λ x. slice_get x (suc i)) t.2 ∙ r.1, r.2)

-- the values with which a part is entered have its types
own-none : (A : Type 0) (a b : Arg) → Some a ≡ Some b → a.own ≡ b.own
own-none A a b e = let z : a ≡ b = cc in ap (λ x. x.own) z

nothing-own : (own : List Ty) → [] ≡ own → Every (HaveTypes own) ([] ∷ [])
nothing-own own e = (subst (λ x. HaveTypes x []) e tt, tt)

branch-own : (own : List Ty) (b : Bool) (o : Option Bool) → [] ≡ own → Every (HaveTypes own) (branch b o)
branch-own own b None e = tt
branch-own own true (Some true) e = nothing-own own e
branch-own own true (Some false) e = tt
branch-own own false (Some true) e = tt
branch-own own false (Some false) e = nothing-own own e

ones-own : (A : Ty) (own : List Ty) (ms : List Datum) → A ∷ [] ≡ own → Every (HasType A) ms → Every (HaveTypes own) (map (λ m. m ∷ []) ms)
ones-own A own [] e h = tt
ones-own A own (m ∷ ms) e h = (subst (λ x. HaveTypes x (m ∷ [])) e (h.0, tt), ones-own A own ms e h.1)

members-own : (A B : Ty) (own : List Ty) (ps : List Part) → A ∷ [] ≡ own → AllSound (arg [] (types.set_of A) ∷ arg (A ∷ []) B ∷ []) ps → Every (HaveTypes own) (map (λ m. m ∷ []) (unwrap_or (members_value ps) []))
members-own A B own ps e s = at (members_value ps) refl
  where
    at : (o : Option (List Datum)) → members_value ps ≡ o → Every (HaveTypes own) (map (λ m. m ∷ []) (unwrap_or o []))
    at None k = tt
    at (Some ms) k =
        let v = then-is (worth ps 0 []) as_set ms k in
        ones-own A own ms e (set-members A v.0 ms (sound-get (arg [] (types.set_of A) ∷ arg (A ∷ []) B ∷ []) ps 0 (arg [] (types.set_of A)) s refl [] v.0 tt v.1) v.2).1

strict-own : (Ts : List Ty) (i : ℕ) (a : Arg) → slice_get (map (arg []) Ts) i ≡ Some a → [] ≡ a.own
strict-own [] i a e = cc
strict-own (T ∷ Ts) zero a e = own-none ℕ (arg [] T) a e
strict-own (T ∷ Ts) (suc i) a e = strict-own Ts i a e

bound-own : (rank i : ℕ) (x y a : Arg) → i < rank → slice_get (replicate rank x ++ y ∷ []) i ≡ Some a → x.own ≡ a.own
bound-own zero i x y a l e = absurd (omega (arith, l))
bound-own (suc rank) zero x y a l e = own-none ℕ x a e
bound-own (suc rank) (suc i) x y a l e = bound-own rank i x y a (omega (arith, l)) e

body-own : (rank i : ℕ) (x y a : Arg) → rank ≤ i → slice_get (replicate rank x ++ y ∷ []) i ≡ Some a → y.own ≡ a.own
body-own zero zero x y a l e = own-none ℕ y a e
body-own zero (suc i) x y a l e = cc
body-own (suc rank) zero x y a l e = absurd (omega (arith, l))
body-own (suc rank) (suc i) x y a l e = body-own rank i x y a (omega (arith, l)) e

indices-own : (rank : ℕ) (own : List Ty) (ps : List Part) → rank ≤ length ps → (o : Option (List ℕ)) → replicate rank natural ≡ own → bounds_value rank ps ≡ o → Every (HaveTypes own) (map (λ at. push_index at []) (indices_of o))
indices-own rank own ps l None e k = tt
indices-own rank own ps l (Some ds) e k =
    let n = bounds-length rank ps ds l k in
    Every-onto (HaveTypes own) (λ at. push_index at []) (indices ds) (Every-impl (λ at. length at ≡ length ds) (λ at. HaveTypes own (push_index at [])) (λ at m. subst (λ x. HaveTypes x (push_index at [])) e (index-have at rank (m ∙ n))) (indices ds) (indices_lengths ds))

pub entered-own : (G : ℕ → Ty → Type 0) (env : List Ty) (f : Form) (args : List Arg) (T : Ty) (ps : List Part) (i : ℕ) (a : Arg) → form_rule G env f args T → AllSound args ps → slice_get args i ≡ Some a → Every (HaveTypes a.own) (entry_values f ps i)
entered-own G env (Form.var n) args T ps i a r s e = let z : slice_get {X = Arg} [] i ≡ Some a = ap (λ x. slice_get x i) (sym r.0) ∙ e in absurd (never i z)
  where
    never : (i : ℕ) → slice_get {X = Arg} [] i ≡ Some a → ⊥
    never i h = cc
entered-own G env (Form.global n) args T ps i a r s e = let z : slice_get {X = Arg} [] i ≡ Some a = ap (λ x. slice_get x i) (sym r.0) ∙ e in absurd (never i z)
  where
    never : (i : ℕ) → slice_get {X = Arg} [] i ≡ Some a → ⊥
    never i h = cc
entered-own G env Form.bind args T ps zero a r s e = nothing-own a.own (own-none ℕ (arg [] r.0) a (ap (λ x. slice_get x 0) (sym r.1) ∙ e))
entered-own G env Form.bind args T ps (suc zero) a r s e =
    bound_value (worth ps 0 []) (λ v k. sound-get (arg [] r.0 ∷ arg (r.0 ∷ []) T ∷ []) ps 0 (arg [] r.0) (sounds args _ ps r.1 s) refl [] v tt k)
  where
    bound_value : (o : Option Datum) → ((v : Datum) → o ≡ Some v → HasType r.0 v) → Every (HaveTypes a.own) (map (λ v. v ∷ []) (option_to_list o))
    bound_value None h = tt
    bound_value (Some v) h = (subst (λ x. HaveTypes x (v ∷ [])) (own-none ℕ (arg (r.0 ∷ []) T) a (ap (λ x. slice_get x 1) (sym r.1) ∙ e)) (h v refl, tt), tt)
entered-own G env Form.bind args T ps (suc (suc i)) a r s e = absurd (never (ap (λ x. slice_get x (suc (suc i))) (sym r.1) ∙ e))
  where
    never : slice_get (arg [] r.0 ∷ arg (r.0 ∷ []) T ∷ []) (suc (suc i)) ≡ Some a → ⊥
    never h = cc
entered-own G env Form.choose args T ps zero a r s e = nothing-own a.own (own-none ℕ (arg [] truth) a (ap (λ x. slice_get x 0) (sym r) ∙ e))
entered-own G env Form.choose args T ps (suc zero) a r s e = branch-own a.own true (test_value ps) (own-none ℕ (arg [] T) a (ap (λ x. slice_get x 1) (sym r) ∙ e))
entered-own G env Form.choose args T ps (suc (suc i)) a r s e = branch-own a.own false (test_value ps) (strict-own (truth ∷ T ∷ T ∷ []) (suc (suc i)) a (ap (λ x. slice_get x (suc (suc i))) (sym r) ∙ e))
entered-own G env Form.default args T ps zero a r s e = nothing-own a.own (own-none ℕ (arg [] T) a (ap (λ x. slice_get x 0) (sym r) ∙ e))
entered-own G env Form.default args T ps (suc i) a r s e = otherwise-own (worth ps 0 []) (strict-own (T ∷ T ∷ []) (suc i) a (ap (λ x. slice_get x (suc i)) (sym r) ∙ e))
  where
    otherwise-own : (o : Option Datum) → [] ≡ a.own → Every (HaveTypes a.own) (otherwise o)
    otherwise-own None z = nothing-own a.own z
    otherwise-own (Some v) z = tt
entered-own G env Form.big_union args T ps zero a r s e = nothing-own a.own (own-none ℕ (arg [] (types.set_of r.0)) a (ap (λ x. slice_get x 0) (sym r.2) ∙ e))
entered-own G env Form.big_union args T ps (suc zero) a r s e =
    members-own r.0 (types.set_of r.1) a.own ps (own-none ℕ (arg (r.0 ∷ []) (types.set_of r.1)) a (ap (λ x. slice_get x 1) (sym r.2) ∙ e)) (sounds args _ ps r.2 s)
entered-own G env Form.big_union args T ps (suc (suc i)) a r s e = absurd (never (ap (λ x. slice_get x (suc (suc i))) (sym r.2) ∙ e))
  where
    never : slice_get (arg [] (types.set_of r.0) ∷ arg (r.0 ∷ []) (types.set_of r.1) ∷ []) (suc (suc i)) ≡ Some a → ⊥
    never h = cc
entered-own G env Form.sum args T ps zero a r s e = nothing-own a.own (own-none ℕ (arg [] (types.set_of r.0)) a (ap (λ x. slice_get x 0) (sym r.1) ∙ e))
entered-own G env Form.sum args T ps (suc zero) a r s e =
    members-own r.0 natural a.own ps (own-none ℕ (arg (r.0 ∷ []) natural) a (ap (λ x. slice_get x 1) (sym r.1) ∙ e)) (sounds args _ ps r.1 s)
entered-own G env Form.sum args T ps (suc (suc i)) a r s e = absurd (never (ap (λ x. slice_get x (suc (suc i))) (sym r.1) ∙ e))
  where
    never : slice_get (arg [] (types.set_of r.0) ∷ arg (r.0 ∷ []) natural ∷ []) (suc (suc i)) ≡ Some a → ⊥
    never h = cc
entered-own G env (Form.tab rank) args T ps i a r s e =
    let z : slice_get (replicate rank (arg [] natural) ++ arg (replicate rank natural) r.0 ∷ []) i ≡ Some a = ap (λ x. slice_get x i) (sym r.2) ∙ e in
    let many : rank ≤ length ps = omega (arith, sound-length _ ps (sounds args _ ps r.2 s), length-tab rank (arg [] natural) (arg (replicate rank natural) r.0)) in
    elim (cases_Bool (nat_lt i rank)) [
      | inl k ↦ rw k (nothing-own a.own (bound-own rank i (arg [] natural) (arg (replicate rank natural) r.0) a (ltb-true i rank k) z))
      | inr k ↦ rw k (indices-own rank a.own ps many (bounds_value rank ps) (body-own rank i (arg [] natural) (arg (replicate rank natural) r.0) a (ltb-false i rank k) z) refl)
    ]
entered-own G env (Form.strict c) args T ps i a r s e = nothing-own a.own (strict-own r.0 i a (ap (λ x. slice_get x i) (sym r.1) ∙ e))

pub typed-place : (G : ℕ → Ty → Type 0) (path : List ℕ) (env : List Ty) (t s : Term) (T : Ty) → ctyped G env t T → place_of t path ≡ Some s → TypedPlace G env t path s
typed-place G [] env t s T c e = let z : t ≡ s = cc in record { around = env; type = T; typed = subst (λ x. ctyped G env x T) z c; values = λ V vals g h. (h, tt) }
typed-place G (i ∷ path) env (node f ps) s T c e = entering (child_of ps i) refl (λ u k l. typed-place G path _ u s _ (typed-child G env ps c.1 i u c.3 k).2 l) e
  where
    entering : (o : Option Term) → child_of ps i ≡ o →
        ((u : Term) (k : child_of ps i ≡ Some u) → place_of u path ≡ Some s → TypedPlace G ((typed-child G env ps c.1 i u c.3 k).0.own ++ env) u path s) →
        (o >>= λ u. place_of u path) ≡ Some s → TypedPlace G env (node f ps) (i ∷ path) s
    entering None k ih l = cc
    entering (Some u) k ih l =
        let p = ih u k l in
        let a = typed-child G env ps c.1 i u c.3 k in
        record {
          around = p.around;
          type = p.type;
          typed = p.typed;
          values = λ V vals g h.
              subst (λ o. Every (HaveTypes p.around) (reach_each o (λ u. concat (map (λ new. reach V (new ++ vals) u path) (entered_in V vals (node f ps) i))))) (sym k)
              (Every-nested (HaveTypes p.around) (λ new. reach V (new ++ vals) u path) (entered_in V vals (node f ps) i)
              (Every-impl (HaveTypes a.0.own) _ (λ new n. p.values V (new ++ vals) g (has-append a.0.own env new vals n h)) (entered_in V vals (node f ps) i)
              (entered-own G env f c.1 T (part_values V vals ps) i a.0 c.2 (parts-sound G V g ps env vals c.1 h c.3) a.1)));
        }

parts-kept : (G : ℕ → Ty → Type 0) (env : List Ty) (ps : Parts) (args : List Arg) (i : ℕ) (r : Term) (g : Term → Term) → child_of ps i ≡ Some r → Keeps G r (g r) → parts_typed G env ps args → parts_typed G env (on_child ps i g) args
parts-kept G env none args i r g e k t = cc
parts-kept G env (part n s ps) args zero r g e k t = let z : r ≡ s = cc in (t.0, t.1, t.2, t.3, subst (λ x. Keeps G x (g x)) z k (t.0.own ++ env) t.0.has t.4, t.5)
parts-kept G env (part n s ps) args (suc i) r g e k t = (t.0, t.1, t.2, t.3, t.4, parts-kept G env ps t.1 i r g e k t.5)

pub keeps-put_at : (G : ℕ → Ty → Type 0) (path : List ℕ) (t s u : Term) → place_of t path ≡ Some s → Keeps G s u → Keeps G t (put_at t path u)
keeps-put_at G [] t s u e k env T c = let z : t ≡ s = cc in k env T (subst (λ x. ctyped G env x T) z c)
keeps-put_at G (i ∷ path) (node f ps) s u e k env T c =
    let r = through ps i path s e in
    (c.0, c.1, c.2, parts-kept G env ps c.1 i r.0 (λ q. put_at q path u) r.1 (keeps-put_at G path r.0 s u r.2 k) c.3)
