-- Where A3 and A7 fit, and their right sides, from one equation a node.
use Rattle.std.proofs.Common.{nat_eq, ◌≡◌, ℕ, ◌<◌, ◌^◌, inl, inr, Bool, true, false, List, [], ◌∷◌, length, map, refl, sym, ap, subst, ◌∙◌, arith}
use Rattle.std.proofs.lemmas.Bool.{eqb-true, eqb-false}
use Rattle.nrca_term.specs.declared.trace.Rule.TheVariants.{A3, A7}
use Rattle.nrca_term.specs.Term.{Term, none, plain, WellFormed, Closed, weight_of, parts_of}
use Rattle.nrca_term.specs.Nodes.{let_term, tuple_term, dim_term, tab_term, sub_term}
use Rattle.nrca_term.specs.Subst.{shift_term, shift_parts, top_var}
use Rattle.nrca_term.specs.Laws.Shift.{top_var-shift_le, shift_parts-plain}
use Rattle.nrca_term.specs.Laws.TypedForm.{top_var-closed}
use Rattle.nrca_term.specs.Rules.{in_first, sizes_term}
use Rattle.nrca_rule_laws.specs.Fitting.{RuleFits, IsSmallPart, IsRight}
use Rattle.nrca_rule_laws.specs.Laws.Fitting.{right-side}
use Rattle.nrca_term.specs.Laws.Lists.{plain-same}

-- a truth value is not its negation
pub false-true : false ≡ true → ⊥
false-true e = cc

-- the terms of a shifted tuple are the shifted terms
pub tuple-shifted : (t : Term) (ts us : List Term) → t ≡ tuple_term us → t ≡ shift_term 0 1 (tuple_term ts) → us ≡ map (shift_term 0 1) ts
tuple-shifted t ts us h k =
    let e : plain us none ≡ shift_parts 0 1 (plain ts none) = ap parts_of (sym h ∙ k) in
    plain-same us (map (shift_term 0 1) ts) (e ∙ shift_parts-plain 0 1 ts none)

-- a rank that is the number of bounds of one reading is that of the other
ranks : (k : ℕ) (ds es : List Term) (x y : Term) → dim_term k (tab_term ds x) ≡ dim_term (length es) (tab_term es y) → k ≡ length ds
ranks k ds es x y e = let a : k ≡ length es = cc in let b : length ds ≡ length es = cc in a ∙ sym b

-- A3 fits the dimensions of a tabulation exactly where the rank is the number of bounds
pub a3_tells : (k n : ℕ) (t o x : Term) (ds : List Term) → t ≡ dim_term k o → o ≡ tab_term ds x → length ds ≡ n → RuleFits A3 (nat_eq k n) t
a3_tells k n t o x ds h e l = at (nat_eq k n) refl
  where
    at : (b : Bool) → nat_eq k n ≡ b → RuleFits A3 b t
    at true q = (sizes_term ds, in_first (length ds ∷ []), (ds, x, h ∙ ap (dim_term k) e ∙ ap (λ n. dim_term n (tab_term ds x)) (eqb-true k n q ∙ sym l), refl, refl))
    at false q = λ r ws y. eqb-false k n q (ranks k ds y.0 x y.1 (ap (dim_term k) (sym e) ∙ sym h ∙ y.2) ∙ l)

-- the sizes are the right side of A3
pub a3_right : (k : ℕ) (t o x r : Term) (ds : List Term) → t ≡ dim_term k o → o ≡ tab_term ds x → RuleFits A3 true t → r ≡ sizes_term ds → IsRight A3 t r
a3_right k t o x r ds h e f p =
    let n : k ≡ length ds = ranks k ds f.2.0 x f.2.1 (ap (dim_term k) (sym e) ∙ sym h ∙ f.2.2) in
    right-side A3 t r (in_first (length ds ∷ [])) (ds, x, h ∙ ap (dim_term k) e ∙ ap (λ n. dim_term n (tab_term ds x)) n, p, refl)

-- A7 fits a subscript of a let
pub a7_fits_sub : (t o e b : Term) (is : List Term) → t ≡ sub_term o is → o ≡ let_term e b → RuleFits A7 true t
a7_fits_sub t o e b is h k = (let_term e (sub_term b (map (shift_term 0 1) is)), [], (e, b, inl (is, h ∙ ap (λ x. sub_term x is) k, refl), refl))

-- A7 fits the dimensions of a let
pub a7_fits_dim : (k : ℕ) (t o e b : Term) → t ≡ dim_term k o → o ≡ let_term e b → RuleFits A7 true t
a7_fits_dim k t o e b h l = (let_term e (dim_term k b), [], (e, b, inr (k, h ∙ ap (dim_term k) l, refl), refl))

-- the let of the subscript, its indices shifted, is the right side of A7
pub a7_sub : (t o e b r y : Term) (is js : List Term) → t ≡ sub_term o is → o ≡ let_term e b → r ≡ let_term e y → y ≡ sub_term b js → js ≡ map (shift_term 0 1) is → IsRight A7 t r
a7_sub t o e b r y is js h k p q s = right-side A7 t r [] (e, b, inl (is, h ∙ ap (λ x. sub_term x is) k, p ∙ ap (let_term e) (q ∙ ap (sub_term b) s)), refl)

-- the let of the dimensions is the right side of A7
pub a7_dim : (k : ℕ) (t o e b r y : Term) → t ≡ dim_term k o → o ≡ let_term e b → r ≡ let_term e y → y ≡ dim_term k b → IsRight A7 t r
a7_dim k t o e b r y h l p q = right-side A7 t r [] (e, b, inr (k, h ∙ ap (dim_term k) l, p ∙ ap (let_term e) q), refl)

-- there is room for one more variable around the indices of a subscript
pub indices_room : (t o : Term) (is : List Term) → t ≡ sub_term o is → WellFormed (tuple_term is) → IsSmallPart t → top_var (shift_term 0 1 (tuple_term is)) < 2 ^ 64
indices_room t o is s h i =
    let c : Closed i.0 (tuple_term is) = (tt, (subst (Closed i.0) s i.1).1.1) in
    let w : weight_of t ≡ weight_of (sub_term o is) = ap weight_of s in
    omega (arith, top_var-shift_le 0 1 (tuple_term is), top_var-closed i.0 (tuple_term is) h c, i.2, w)
