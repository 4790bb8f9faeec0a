-- What follows from the definitions of `Numbering`.
use Rattle.std.proofs.Common.{ℕ, suc, ◌≡◌, ◌<◌, ◌==◌, ◌||◌, ◌++◌, Bool, true, false, List, [], ◌∷◌, refl, sym, ap, ◌∙◌, arith, if◌then◌else◌, length}
use Rattle.std.proofs.lemmas.Bool.{eqb-true, eq-eqb}
use Rattle.aql_ty.specs.Types as types
use Rattle.aql_ty.specs.Types.{Ty, natural, truth, var, product, set_of, array_of, Tys, no_type, type, Subst, apply, apply_all, nodes, nodes_all, levels, levels_all, IsType, AreTypes, IsWithin, Sort, value, macro, apply_sort}
use Rattle.aql_ty.specs.Laws.Types.{row_is, apply-apply, apply_var, count_apply}
use Rattle.aql_ty.specs.Variables.{is_one_of, variable_index, variables, variables_all, sort_variables}
use Rattle.aql_infer_steps.specs.Numbering.{at_index, renumbering, number, undo_numbering, names_back, IsNumbered}

at_index-index : (x : ℕ) (ys : List ℕ) → is_one_of x ys ≡ true → at_index (variable_index x ys) ys ≡ x
unfolding at_index
at_index-index x [] e = cc
at_index-index x (y ∷ ys) e = go (y == x) refl e (at_index-index x ys)
  where
    go : (b : Bool) → (y == x) ≡ b → (b || is_one_of x ys) ≡ true → (is_one_of x ys ≡ true → at_index (variable_index x ys) ys ≡ x) →
        at_index (if b then 0 else suc (variable_index x ys)) (y ∷ ys) ≡ x
    go true h e r = eqb-true y x h
    go false h e r = r e

variable_index_below : (x : ℕ) (ys : List ℕ) → is_one_of x ys ≡ true → variable_index x ys < length ys
variable_index_below x [] e = cc
variable_index_below x (y ∷ ys) e = go (y == x) e (variable_index_below x ys)
  where
    go : (b : Bool) → (b || is_one_of x ys) ≡ true → (is_one_of x ys ≡ true → variable_index x ys < length ys) →
        (if b then 0 else suc (variable_index x ys)) < length (y ∷ ys)
    go true e r = omega arith
    go false e r = omega (arith, r e)

mutual
  -- all variables of a type are among some
  pub Among : List ℕ → Ty → Type 0
  Among vs natural = Unit {0}
  Among vs truth = Unit {0}
  Among vs types.text = Unit {0}
  Among vs (var x) = is_one_of x vs ≡ true
  Among vs (product ts) = AllAmong vs ts
  Among vs (set_of t) = Among vs t
  Among vs (array_of k t) = Among vs t

  pub AllAmong : List ℕ → Tys → Type 0
  AllAmong vs no_type = Unit {0}
  AllAmong vs (type t ts) = Among vs t × AllAmong vs ts

mutual
  unfolding Among AllAmong

  agree_on : (vs : List ℕ) (u v : Subst) → ((x : ℕ) → is_one_of x vs ≡ true → u x ≡ v x) → (t : Ty) → Among vs t → apply u t ≡ apply v t
  agree_on vs u v h natural k = refl
  agree_on vs u v h truth k = refl
  agree_on vs u v h types.text k = refl
  agree_on vs u v h (var x) k = h x k
  agree_on vs u v h (product ts) k = ap product (all_agree_on vs u v h ts k)
  agree_on vs u v h (set_of t) k = ap set_of (agree_on vs u v h t k)
  agree_on vs u v h (array_of r t) k = ap (array_of r) (agree_on vs u v h t k)

  all_agree_on : (vs : List ℕ) (u v : Subst) → ((x : ℕ) → is_one_of x vs ≡ true → u x ≡ v x) → (ts : Tys) → AllAmong vs ts → apply_all u ts ≡ apply_all v ts
  all_agree_on vs u v h no_type k = refl
  all_agree_on vs u v h (type t ts) k = row_is (agree_on vs u v h t k.0) (all_agree_on vs u v h ts k.1)

-- the names come back
named_numbered : (vs : List ℕ) (t : Ty) → Among vs t → apply (undo_numbering vs) (apply (renumbering vs) t) ≡ t
named_numbered vs t k =
    apply-apply (undo_numbering vs) (renumbering vs) t
    ∙ agree_on vs (λ x. var (at_index (variable_index x vs) vs)) var (λ x h. ap var (at_index-index x vs h)) t k
    ∙ apply_var t

-- only numbers below the list's length occur
numbered_closed : (vs : List ℕ) (u v : Subst) → ((i : ℕ) → i < length vs → u i ≡ v i) → (t : Ty) → Among vs t →
    apply u (apply (renumbering vs) t) ≡ apply v (apply (renumbering vs) t)
numbered_closed vs u v h t k =
    apply-apply u (renumbering vs) t
    ∙ agree_on vs (λ x. u (variable_index x vs)) (λ x. v (variable_index x vs)) (λ x m. h (variable_index x vs) (variable_index_below x vs m)) t k
    ∙ sym (apply-apply v (renumbering vs) t)

-- The list of a type's variables has them all.
one_of_append : (x : ℕ) (a b : List ℕ) → is_one_of x a ≡ true → is_one_of x (a ++ b) ≡ true
one_of_append x [] b e = cc
one_of_append x (y ∷ a) b e = go (y == x) e (one_of_append x a b)
  where
    go : (c : Bool) → (c || is_one_of x a) ≡ true → (is_one_of x a ≡ true → is_one_of x (a ++ b) ≡ true) → (c || is_one_of x (a ++ b)) ≡ true
    go true e r = refl
    go false e r = r e

one_of_last : (x : ℕ) (a : List ℕ) → is_one_of x (a ++ (x ∷ [])) ≡ true
one_of_last x [] = let e : (x == x) ≡ true = eq-eqb x x refl in rw e refl
one_of_last x (y ∷ a) = go (y == x) (one_of_last x a)
  where
    go : (c : Bool) → is_one_of x (a ++ (x ∷ [])) ≡ true → (c || is_one_of x (a ++ (x ∷ []))) ≡ true
    go true e = refl
    go false e = e

mutual
  still_one_of : (x : ℕ) (t : Ty) (seen : List ℕ) → is_one_of x seen ≡ true → is_one_of x (variables t seen) ≡ true
  still_one_of x natural seen e = e
  still_one_of x truth seen e = e
  still_one_of x types.text seen e = e
  still_one_of x (var y) seen e = go (is_one_of y seen)
    where
      go : (b : Bool) → is_one_of x (if b then seen else seen ++ (y ∷ [])) ≡ true
      go true = e
      go false = one_of_append x seen (y ∷ []) e
  still_one_of x (product ts) seen e = still_one_of_all x ts seen e
  still_one_of x (set_of t) seen e = still_one_of x t seen e
  still_one_of x (array_of k t) seen e = still_one_of x t seen e

  still_one_of_all : (x : ℕ) (ts : Tys) (seen : List ℕ) → is_one_of x seen ≡ true → is_one_of x (variables_all ts seen) ≡ true
  still_one_of_all x no_type seen e = e
  still_one_of_all x (type t ts) seen e = still_one_of_all x ts (variables t seen) (still_one_of x t seen e)

mutual
  unfolding Among AllAmong

  more_among : (vs ws : List ℕ) → ((x : ℕ) → is_one_of x vs ≡ true → is_one_of x ws ≡ true) → (t : Ty) → Among vs t → Among ws t
  more_among vs ws h natural k = tt
  more_among vs ws h truth k = tt
  more_among vs ws h types.text k = tt
  more_among vs ws h (var x) k = h x k
  more_among vs ws h (product ts) k = all_more_among vs ws h ts k
  more_among vs ws h (set_of t) k = more_among vs ws h t k
  more_among vs ws h (array_of r t) k = more_among vs ws h t k

  all_more_among : (vs ws : List ℕ) → ((x : ℕ) → is_one_of x vs ≡ true → is_one_of x ws ≡ true) → (ts : Tys) → AllAmong vs ts → AllAmong ws ts
  all_more_among vs ws h no_type k = tt
  all_more_among vs ws h (type t ts) k = (more_among vs ws h t k.0, all_more_among vs ws h ts k.1)

mutual
  unfolding Among AllAmong

  variables_among : (t : Ty) (seen : List ℕ) → Among (variables t seen) t
  variables_among natural seen = tt
  variables_among truth seen = tt
  variables_among types.text seen = tt
  variables_among (var x) seen = go (is_one_of x seen) refl
    where
      go : (b : Bool) → is_one_of x seen ≡ b → is_one_of x (if b then seen else seen ++ (x ∷ [])) ≡ true
      go true e = e
      go false e = one_of_last x seen
  variables_among (product ts) seen = all_variables_among ts seen
  variables_among (set_of t) seen = variables_among t seen
  variables_among (array_of k t) seen = variables_among t seen

  all_variables_among : (ts : Tys) (seen : List ℕ) → AllAmong (variables_all ts seen) ts
  all_variables_among no_type seen = tt
  all_variables_among (type t ts) seen = (
    more_among (variables t seen) (variables_all ts (variables t seen)) (λ x e. still_one_of_all x ts (variables t seen) e) t (variables_among t seen),
    all_variables_among ts (variables t seen),
  )

macros : {a b c d : Ty} → a ≡ b → c ≡ d → macro a c ≡ macro b d
macros e f = cc

argument_among : (a b : Ty) → Among (sort_variables (macro a b)) a
argument_among a b = more_among (variables a []) (variables b (variables a [])) (λ x e. still_one_of x b (variables a []) e) a (variables_among a [])

pub number_undone : (s : Sort) → apply_sort (names_back s) (number s) ≡ s
unfolding names_back
number_undone (value t) = ap value (named_numbered (variables t []) t (variables_among t []))
number_undone (macro a b) =
    macros (named_numbered (sort_variables (macro a b)) a (argument_among a b))
    (named_numbered (sort_variables (macro a b)) b (variables_among b (variables a [])))

pub number_closed : (s : Sort) (u v : Subst) → ((x : ℕ) → x < length (sort_variables s) → u x ≡ v x) → apply_sort u (number s) ≡ apply_sort v (number s)
number_closed (value t) u v h = ap value (numbered_closed (variables t []) u v h t (variables_among t []))
number_closed (macro a b) u v h =
    macros (numbered_closed (sort_variables (macro a b)) u v h a (argument_among a b))
    (numbered_closed (sort_variables (macro a b)) u v h b (variables_among b (variables a [])))

-- A renaming keeps the counts and the ranks.
mutual
  named_nodes : (f : ℕ → ℕ) (t : Ty) → nodes (apply (λ x. var (f x)) t) ≡ nodes t
  named_nodes f natural = refl
  named_nodes f truth = refl
  named_nodes f types.text = refl
  named_nodes f (var x) = refl
  named_nodes f (product ts) = omega (arith, named_nodes_all f ts)
  named_nodes f (set_of t) = omega (arith, named_nodes f t)
  named_nodes f (array_of k t) = omega (arith, named_nodes f t)

  named_nodes_all : (f : ℕ → ℕ) (ts : Tys) → nodes_all (apply_all (λ x. var (f x)) ts) ≡ nodes_all ts
  named_nodes_all f no_type = refl
  named_nodes_all f (type t ts) = omega (arith, named_nodes f t, named_nodes_all f ts)

mutual
  named_levels : (f : ℕ → ℕ) (t : Ty) → levels (apply (λ x. var (f x)) t) ≡ levels t
  named_levels f natural = refl
  named_levels f truth = refl
  named_levels f types.text = refl
  named_levels f (var x) = refl
  named_levels f (product ts) = omega (arith, named_levels_all f ts)
  named_levels f (set_of t) = omega (arith, named_levels f t)
  named_levels f (array_of k t) = omega (arith, named_levels f t)

  named_levels_all : (f : ℕ → ℕ) (ts : Tys) → levels_all (apply_all (λ x. var (f x)) ts) ≡ levels_all ts
  named_levels_all f no_type = refl
  named_levels_all f (type t ts) = rw (named_levels f t, named_levels_all f ts) refl

mutual
  named_type : (f : ℕ → ℕ) (t : Ty) → IsType t → IsType (apply (λ x. var (f x)) t)
  named_type f natural h = tt
  named_type f truth h = tt
  named_type f types.text h = tt
  named_type f (var x) h = tt
  named_type f (product ts) h = (omega (arith, h.0, count_apply (λ x. var (f x)) ts), named_types f ts h.1)
  named_type f (set_of t) h = named_type f t h
  named_type f (array_of k t) h = (h.0, named_type f t h.1)

  named_types : (f : ℕ → ℕ) (ts : Tys) → AreTypes ts → AreTypes (apply_all (λ x. var (f x)) ts)
  named_types f no_type h = tt
  named_types f (type t ts) h = (named_type f t h.0, named_types f ts h.1)

pub named_within : (f : ℕ → ℕ) (t : Ty) → IsWithin t → IsWithin (apply (λ x. var (f x)) t)
named_within f t h =
    (omega (arith, h.0, named_nodes f t), omega (arith, h.1, named_levels f t), named_type f t h.2)

-- the indices of some variables
variable_indices : List ℕ → List ℕ → List ℕ
variable_indices vs [] = []
variable_indices vs (y ∷ ys) = variable_index y vs ∷ variable_indices vs ys

-- each of some is among others
EachOf : List ℕ → List ℕ → Type 0
EachOf vs [] = Unit {0}
EachOf vs (y ∷ ys) = (is_one_of y vs ≡ true) × EachOf vs ys

indices_equal : (vs : List ℕ) (x y : ℕ) → is_one_of x vs ≡ true → is_one_of y vs ≡ true → (variable_index y vs == variable_index x vs) ≡ (y == x)
indices_equal vs x y hx hy = go (variable_index y vs == variable_index x vs) refl (y == x) refl
  where
    go : (a : Bool) → (variable_index y vs == variable_index x vs) ≡ a → (b : Bool) → (y == x) ≡ b → a ≡ b
    go true e true f = refl
    go false e false f = refl
    go true e false f =
        let p : variable_index y vs ≡ variable_index x vs = eqb-true (variable_index y vs) (variable_index x vs) e in
        let q : y ≡ x = sym (at_index-index y vs hy) ∙ ap (λ i. at_index i vs) p ∙ at_index-index x vs hx in
        sym (eq-eqb y x q) ∙ f
    go false e true f =
        let q : y ≡ x = eqb-true y x f in sym e ∙ eq-eqb (variable_index y vs) (variable_index x vs) (ap (λ z. variable_index z vs) q)

one_of_indices : (vs ys : List ℕ) (x : ℕ) → is_one_of x vs ≡ true → EachOf vs ys → is_one_of (variable_index x vs) (variable_indices vs ys) ≡ is_one_of x ys
unfolding variable_indices EachOf
one_of_indices vs [] x h k = refl
one_of_indices vs (y ∷ ys) x h k = rw (indices_equal vs x y h k.0, one_of_indices vs ys x h k.1) refl

index_indices : (vs ys : List ℕ) (x : ℕ) → is_one_of x vs ≡ true → EachOf vs ys → variable_index (variable_index x vs) (variable_indices vs ys) ≡ variable_index x ys
unfolding variable_indices EachOf
index_indices vs [] x h k = refl
index_indices vs (y ∷ ys) x h k = rw (indices_equal vs x y h k.0, index_indices vs ys x h k.1) refl

indices_last : (vs ys : List ℕ) (x : ℕ) → variable_indices vs (ys ++ (x ∷ [])) ≡ variable_indices vs ys ++ (variable_index x vs ∷ [])
unfolding variable_indices
indices_last vs [] x = refl
indices_last vs (y ∷ ys) x = ap (λ l. variable_index y vs ∷ l) (indices_last vs ys x)

each_last : (vs ys : List ℕ) (x : ℕ) → EachOf vs ys → is_one_of x vs ≡ true → EachOf vs (ys ++ (x ∷ []))
unfolding EachOf
each_last vs [] x k h = (h, tt)
each_last vs (y ∷ ys) x k h = (k.0, each_last vs ys x k.1 h)

mutual
  unfolding Among AllAmong

  each_variables : (vs : List ℕ) (t : Ty) (seen : List ℕ) → Among vs t → EachOf vs seen → EachOf vs (variables t seen)
  each_variables vs natural seen h k = k
  each_variables vs truth seen h k = k
  each_variables vs types.text seen h k = k
  each_variables vs (var x) seen h k = go (is_one_of x seen)
    where
      go : (b : Bool) → EachOf vs (if b then seen else seen ++ (x ∷ []))
      go true = k
      go false = each_last vs seen x k h
  each_variables vs (product ts) seen h k = all_each_variables vs ts seen h k
  each_variables vs (set_of t) seen h k = each_variables vs t seen h k
  each_variables vs (array_of r t) seen h k = each_variables vs t seen h k

  all_each_variables : (vs : List ℕ) (ts : Tys) (seen : List ℕ) → AllAmong vs ts → EachOf vs seen → EachOf vs (variables_all ts seen)
  all_each_variables vs no_type seen h k = k
  all_each_variables vs (type t ts) seen h k = all_each_variables vs ts (variables t seen) h.1 (each_variables vs t seen h.0 k)

mutual
  unfolding Among AllAmong

  variables_indices : (vs : List ℕ) (t : Ty) (seen : List ℕ) → Among vs t → EachOf vs seen →
      variables (apply (renumbering vs) t) (variable_indices vs seen) ≡ variable_indices vs (variables t seen)
  variables_indices vs natural seen h k = refl
  variables_indices vs truth seen h k = refl
  variables_indices vs types.text seen h k = refl
  variables_indices vs (var x) seen h k = rw (one_of_indices vs seen x h k) (go (is_one_of x seen))
    where
      go : (b : Bool) → (if b then variable_indices vs seen else variable_indices vs seen ++ (variable_index x vs ∷ [])) ≡ variable_indices vs (if b then seen else seen ++ (x ∷ []))
      go true = refl
      go false = sym (indices_last vs seen x)
  variables_indices vs (product ts) seen h k = all_variables_indices vs ts seen h k
  variables_indices vs (set_of t) seen h k = variables_indices vs t seen h k
  variables_indices vs (array_of r t) seen h k = variables_indices vs t seen h k

  all_variables_indices : (vs : List ℕ) (ts : Tys) (seen : List ℕ) → AllAmong vs ts → EachOf vs seen →
      variables_all (apply_all (renumbering vs) ts) (variable_indices vs seen) ≡ variable_indices vs (variables_all ts seen)
  all_variables_indices vs no_type seen h k = refl
  all_variables_indices vs (type t ts) seen h k =
      ap (variables_all (apply_all (renumbering vs) ts)) (variables_indices vs t seen h.0 k)
      ∙ all_variables_indices vs ts (variables t seen) h.1 (each_variables vs t seen h.0 k)

none_each : (vs : List ℕ) → EachOf vs []
unfolding EachOf
none_each vs = tt

number_variables : (s : Sort) → sort_variables (number s) ≡ variable_indices (sort_variables s) (sort_variables s)
unfolding variable_indices
number_variables (value t) = variables_indices (variables t []) t [] (variables_among t []) (none_each (variables t []))
number_variables (macro a b) =
    let vs = variables b (variables a []) in
    ap (variables (apply (renumbering vs) b)) (variables_indices vs a [] (argument_among a b) (none_each vs))
    ∙ variables_indices vs b (variables a []) (variables_among b (variables a [])) (each_variables vs a [] (argument_among a b) (none_each vs))

each_within : (vs ys : List ℕ) → ((x : ℕ) → is_one_of x ys ≡ true → is_one_of x vs ≡ true) → EachOf vs ys
unfolding EachOf
each_within vs [] h = tt
each_within vs (y ∷ ys) h = (h y (here y), each_within vs ys (λ x e. h x (there x e)))
  where
    here : (y' : ℕ) → is_one_of y' (y' ∷ ys) ≡ true
    here y' = let e : (y' == y') ≡ true = eq-eqb y' y' refl in rw e refl

    there : (x : ℕ) → is_one_of x ys ≡ true → is_one_of x (y ∷ ys) ≡ true
    there x e = go (y == x)
      where
        go : (b : Bool) → (b || is_one_of x ys) ≡ true
        go true = refl
        go false = e

-- an index that is listed is that of a variable
of_indices : (vs ys : List ℕ) (x : ℕ) → EachOf vs ys → is_one_of x (variable_indices vs ys) ≡ true → (y : ℕ) × (is_one_of y vs ≡ true) × (x ≡ variable_index y vs)
unfolding variable_indices EachOf
of_indices vs [] x k e = cc
of_indices vs (y ∷ ys) x k e = go (variable_index y vs == x) refl e (of_indices vs ys x k.1)
  where
    go : (b : Bool) → (variable_index y vs == x) ≡ b → (b || is_one_of x (variable_indices vs ys)) ≡ true →
        (is_one_of x (variable_indices vs ys) ≡ true → (y : ℕ) × (is_one_of y vs ≡ true) × (x ≡ variable_index y vs)) → (y : ℕ) × (is_one_of y vs ≡ true) × (x ≡ variable_index y vs)
    go true f e r = (y, k.0, sym (eqb-true (variable_index y vs) x f))
    go false f e r = r e

pub number_numbered : (s : Sort) → IsNumbered (number s)
number_numbered s x h =
    let vs = sort_variables s in
    let all = each_within vs vs (λ x e. e) in
    let e = number_variables s in
    let y = of_indices vs vs x all (sym (ap (is_one_of x) e) ∙ h) in
    ap (variable_index x) e ∙ ap (λ z. variable_index z (variable_indices vs vs)) y.2 ∙ index_indices vs vs y.0 y.1 all ∙ sym y.2
