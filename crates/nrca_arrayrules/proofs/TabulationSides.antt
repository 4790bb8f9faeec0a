-- Where A2 fits, and its right side.
use Rattle.std.proofs.Common.{◌≡◌, ℕ, zero, suc, ◌+◌, ◌-◌, ◌<◌, ◌≤◌, inl, inr, Bool, true, false, List, [], ◌∷◌, ◌++◌, length, take, get_or, Some, option_map, refl, sym, ap, subst, ◌∙◌, arith, ext_get_or}
use Rattle.std.specs.List.{slice_get}
use Rattle.std.proofs.lemmas.Bool.{cases_lt}
use Rattle.std.proofs.lemmas.List.{take_more}
use Rattle.std.proofs.lemmas.Option.{slice_get-map}
use Rattle.aql_value.specs.Lists.{below}
use Rattle.aql_value.specs.Laws.Lists.{slice_get-below}
use Rattle.nrca_term.specs.declared.trace.Rule.TheVariants.{A2}
use Rattle.nrca_term.specs.Term.{Term, none, part, plain}
use Rattle.nrca_term.specs.Nodes.{variable, bottom_term, dim_term, proj_term, tab_term, sub_term}
use Rattle.nrca_term.specs.Subst.{shift_term}
use Rattle.nrca_term.specs.Rules.{dimension_term, dimension_terms, index_variables}
use Rattle.nrca_rule_laws.specs.Fitting.{RuleFits, IsRight}
use Rattle.nrca_rule_laws.specs.Laws.Fitting.{right-side}
use Rattle.nrca_rule_laws.specs.Laws.Keeping.{index_variables-length, dimension_terms-length}
use Rattle.nrca_term.specs.Laws.Lists.{plain-same, plain-split, whole-list}
use Rattle.nrca_arrayrules.proofs.Sides.{false-true}
use Rattle.nrca_arrayrules.proofs.SubscriptSides.{any-item}
use Rattle.nrca_arrayrules.proofs.Unshift.{shift-same}
use Rattle.nrca_arrayrules.specs.Whole.{IsWhole, IsSame, IsDimOf, IsComponentOf, IsDimension, AreDimensions, IsDimensionOf}

-- equal tabulations have equal bounds and bodies
pub tab-same : (ds es : List Term) (x y : Term) → tab_term ds x ≡ tab_term es y → (ds ≡ es) × (x ≡ y)
tab-same ds es x y e =
    let l : length ds ≡ length es = cc in
    let p : plain ds (part (length ds) x none) ≡ plain es (part (length es) y none) = cc in
    let r = plain-split ds es (part (length ds) x none) (part (length es) y none) l p in
    let z : x ≡ y = last (length ds) (length es) r.1 in
    (r.0, z)
  where
    last : (k n : ℕ) → part k x none ≡ part n y none → x ≡ y
    last k n q = cc

-- equal subscripts have equal arrays and indices
pub sub-same : (o p : Term) (is js : List Term) → sub_term o is ≡ sub_term p js → (o ≡ p) × (is ≡ js)
sub-same o p is js e =
    let q : plain is none ≡ plain js none = cc in
    (cc, plain-same is js q)

-- A2 fits exactly the tabulations of a whole array
pub a2_tells : (b : Bool) (t x : Term) (ds : List Term) → t ≡ tab_term ds x → (b ≡ true → IsWhole ds x) → (IsWhole ds x → b ≡ true) → RuleFits A2 b t
a2_tells true t x ds h f g =
    let w = f refl in
    (w.1, [], (w.0, w.2, h ∙ ap (λ es. tab_term es x) w.3 ∙ ap (tab_term (dimension_terms w.0 w.1)) w.4, refl))
a2_tells false t x ds h f g = λ r ws y.
    let z = tab-same ds (dimension_terms y.0 r) x (sub_term (shift_term 0 y.0 r) (index_variables y.0)) (sym h ∙ y.2) in
    false-true (g (y.0, r, y.1, z.0, z.1))

-- a body that is a subscript
pub same-whole : (ds is : List Term) (x o : Term) → x ≡ sub_term o is → IsSame ds o is → IsWhole ds x
same-whole ds is x o h w = (w.0, w.1, w.2, w.3, h ∙ ap (λ p. sub_term p is) w.4 ∙ ap (sub_term (shift_term 0 w.0 w.1)) w.5)

pub whole-same : (ds is : List Term) (x o : Term) → x ≡ sub_term o is → IsWhole ds x → IsSame ds o is
whole-same ds is x o h w =
    let u = sub-same o (shift_term 0 w.0 w.1) is (index_variables w.0) (sym h ∙ w.4) in
    (w.0, w.1, w.2, w.3, u.0, u.1)

-- the item at a place
got : (ts : List Term) (j : ℕ) (u x : Term) → slice_get ts j ≡ Some x → get_or ts j u ≡ x
got [] j u x e = cc
got (t ∷ ts) zero u x e = cc
got (t ∷ ts) (suc j) u x e = got ts j u x e

-- the dimension at a place
dimension-at : (k : ℕ) (a : Term) (j : ℕ) (u : Term) → j < k → get_or (dimension_terms k a) j u ≡ dimension_term k a (suc j)
dimension-at k a j u l = got (dimension_terms k a) j u (dimension_term k a (suc j)) (slice_get-map (λ i. dimension_term k a (suc i)) (below k) j ∙ ap (option_map (λ i. dimension_term k a (suc i))) (slice_get-below k j l))

-- the variable at a place of an index
index-at : (k j : ℕ) (u : Term) → j < k → get_or (index_variables k) j u ≡ variable (k - 1 - j)
index-at zero j u l = absurd (omega (arith, l))
index-at (suc k) zero u l = let z : k ≡ suc k - 1 - 0 = omega arith in ap variable z
index-at (suc k) (suc j) u l = index-at k j u (omega (arith, l)) ∙ (let z : k - 1 - j ≡ suc k - 1 - suc j = omega arith in ap variable z)

-- the indices with one variable more
pub indices-more : (k j : ℕ) (ts : List Term) (u : Term) → j < length ts → length ts ≡ k → u ≡ get_or ts j u → u ≡ variable (k - 1 - j) → take j ts ≡ take j (index_variables k) → take (j + 1) ts ≡ take (j + 1) (index_variables k)
indices-more k j ts u l n e h t =
    let x : j < k = omega (arith, l, n) in
    let y : j < length (index_variables k) = omega (arith, x, index_variables-length k) in
    take_more ts j u l ∙ ap (λ z. take j ts ++ z ∷ []) (sym e ∙ h ∙ sym (index-at k j u x)) ∙ ap (λ zs. zs ++ get_or (index_variables k) j u ∷ []) t ∙ sym (take_more (index_variables k) j u y)

-- a list with another term at a place is not that of the variables
pub indices-out : (k j : ℕ) (ts : List Term) (u : Term) → j < length ts → length ts ≡ k → u ≡ get_or ts j u → (u ≡ variable (k - 1 - j) → ⊥) → ts ≡ index_variables k → ⊥
indices-out k j ts u l n e h t = h (e ∙ ap (λ xs. get_or xs j u) t ∙ index-at k j u (omega (arith, l, n)))

-- a component of the dimensions, by its parts
pub component-yes : (at of j k : ℕ) (t o d : Term) → t ≡ proj_term at of d → at ≡ j → of ≡ k → IsDimOf k o d → IsComponentOf k j o t
component-yes at of j k t o d h a b x = (d, h ∙ ap (λ n. proj_term n of d) a ∙ ap (λ n. proj_term j n d) b, x)

pub component-back : (at of j k : ℕ) (t o d : Term) → t ≡ proj_term at of d → IsComponentOf k j o t → IsDimOf k o d
component-back at of j k t o d h y =
    let z : proj_term at of d ≡ proj_term j k y.0 = sym h ∙ y.1 in
    let e : y.0 ≡ d = cc in
    subst (IsDimOf k o) e y.2

-- the next bound is a dimension
pub dimensions-next : (ds : List Term) (o u : Term) (k j : ℕ) → j < length ds → k ≡ length ds → u ≡ get_or ds j u → IsDimension k (j + 1) o u →
    ((i : ℕ) → i < j → IsDimension (length ds) (suc i) o (get_or ds i bottom_term)) → (i : ℕ) → i < j + 1 → IsDimension (length ds) (suc i) o (get_or ds i bottom_term)
dimensions-next ds o u k j l n e h old i m = elim (cases_lt i j) as (λ _. IsDimension (length ds) (suc i) o (get_or ds i bottom_term)) [
  | inl x ↦ old i x
  | inr x ↦
      let z : i ≡ j = omega (arith, x, m) in
      let p : j + 1 ≡ suc j = omega arith in
      let y : IsDimension (length ds) (suc j) o u = subst (λ a. IsDimension a (suc j) o u) n (subst (λ a. IsDimension k a o u) p h) in
      let g : u ≡ get_or ds j bottom_term = e ∙ any-item ds j u l in
      subst (λ a. IsDimension (length ds) (suc a) o (get_or ds a bottom_term)) (sym z) (subst (IsDimension (length ds) (suc j) o) g y)
]

-- a bound that is a dimension
pub dimension-here : (ds : List Term) (o u : Term) (k j : ℕ) → j < length ds → k ≡ length ds → u ≡ get_or ds j u → AreDimensions ds o → IsDimension k (j + 1) o u
dimension-here ds o u k j l n e d =
    let p : suc j ≡ j + 1 = omega arith in
    let g : get_or ds j bottom_term ≡ u = sym (e ∙ any-item ds j u l) in
    subst (λ a. IsDimension k a o u) p (subst (λ a. IsDimension a (suc j) o u) (sym n) (subst (IsDimension (length ds) (suc j) o) g (d j l)))

-- as many first items as there are
pub indices-whole : (k j : ℕ) (ts : List Term) → length ts ≤ j → length ts ≡ k → take j ts ≡ take j (index_variables k) → ts ≡ index_variables k
indices-whole k j ts l n t = sym (whole-list ts j l) ∙ t ∙ whole-list (index_variables k) j (omega (arith, l, n, index_variables-length k))

-- the indices are as many as the rank
pub indices-long : (k : ℕ) (ts : List Term) → ts ≡ index_variables k → length ts ≡ k
indices-long k ts e = ap length e ∙ index_variables-length k

-- a dimension is one of its array
dimension-of : (k j : ℕ) (a t : Term) → t ≡ dimension_term k a j → IsDimensionOf a t
dimension-of zero j a t e = inr (j, 0, 0, e)
dimension-of (suc zero) j a t e = inl (1, e)
dimension-of (suc (suc k)) j a t e = inr (j, suc (suc k), suc (suc k), e)

-- a term is the dimension of one array
measured-same : (a b t : Term) → IsDimensionOf a t → IsDimensionOf b t → a ≡ b
measured-same a b t (inl x) (inl y) = let z : dim_term x.0 a ≡ dim_term y.0 b = sym x.1 ∙ y.1 in cc
measured-same a b t (inl x) (inr y) = let z : dim_term x.0 a ≡ proj_term y.0 y.1 (dim_term y.2 b) = sym x.1 ∙ y.3 in cc
measured-same a b t (inr x) (inl y) = let z : proj_term x.0 x.1 (dim_term x.2 a) ≡ dim_term y.0 b = sym x.3 ∙ y.1 in cc
measured-same a b t (inr x) (inr y) = let z : proj_term x.0 x.1 (dim_term x.2 a) ≡ proj_term y.0 y.1 (dim_term y.2 b) = sym x.3 ∙ y.3 in cc

-- the bounds of a whole array are dimensions of what is subscripted
whole-dimensions : (ds : List Term) (o : Term) (k : ℕ) (a : Term) → ds ≡ dimension_terms k a → o ≡ shift_term 0 k a → AreDimensions ds o
whole-dimensions ds o k a e h j l =
    let n : length ds ≡ k = ap length e ∙ dimension_terms-length k a in
    subst (λ m. IsDimension m (suc j) o (get_or ds j bottom_term)) (sym n) (a, ap (λ xs. get_or xs j bottom_term) e ∙ dimension-at k a j bottom_term (omega (arith, l, n)), h)

-- bounds that are dimensions of what is subscripted are those of one array
dimensions-whole : (ds : List Term) (o : Term) → 1 ≤ length ds → AreDimensions ds o → (a : Term) × (ds ≡ dimension_terms (length ds) a) × (o ≡ shift_term 0 (length ds) a)
dimensions-whole ds o l d =
    let w = d 0 (omega (arith, l)) in
    let m = dimension_terms-length (length ds) w.0 in (
      w.0,
      ext_get_or bottom_term ds (dimension_terms (length ds) w.0) (sym m) (λ j h.
          let x = d j h in
          x.1 ∙ ap (λ a. dimension_term (length ds) a (suc j)) (shift-same 0 (length ds) x.0 w.0 (sym x.2 ∙ w.2)) ∙ sym (dimension-at (length ds) w.0 j bottom_term h)),
      w.2,
    )

-- the tests say that the array is whole
pub whole-yes : (ds is : List Term) (o : Term) (k : ℕ) → k ≡ length ds → 1 ≤ k → is ≡ index_variables k → AreDimensions ds o → IsSame ds o is
whole-yes ds is o k e l x d =
    let w = dimensions-whole ds o (omega (arith, e, l)) d in
    (length ds, w.0, omega (arith, e, l), w.1, w.2, x ∙ ap index_variables e)

-- a whole array passes the tests
pub whole-back : (ds is : List Term) (o : Term) (k : ℕ) → k ≡ length ds → IsSame ds o is → (1 ≤ k) × (is ≡ index_variables k) × AreDimensions ds o
whole-back ds is o k e w =
    let n : k ≡ w.0 = e ∙ ap length w.3 ∙ dimension_terms-length w.0 w.1 in
    (omega (arith, n, w.2), w.5 ∙ ap index_variables (sym n), whole-dimensions ds o w.0 w.1 w.3 w.4)

-- there is a first bound where A2 fits, and it is a dimension of the right side
pub a2_first : (t x : Term) (ds : List Term) → t ≡ tab_term ds x → (f : RuleFits A2 true t) → (0 < length ds) × ((u : Term) → IsDimensionOf f.0 (get_or ds 0 u))
a2_first t x ds h f =
    let z = tab-same ds (dimension_terms f.2.0 f.0) x (sub_term (shift_term 0 f.2.0 f.0) (index_variables f.2.0)) (sym h ∙ f.2.2) in
    let n : length ds ≡ f.2.0 = ap length z.0 ∙ dimension_terms-length f.2.0 f.0 in
    (omega (arith, n, f.2.1), λ u. dimension-of f.2.0 1 f.0 (get_or ds 0 u) (ap (λ xs. get_or xs 0 u) z.0 ∙ dimension-at f.2.0 f.0 0 u (omega (arith, f.2.1))))

-- what the first bound measures is the right side of A2
pub a2_right : (t x r u : Term) (ds : List Term) → t ≡ tab_term ds x → RuleFits A2 true t → u ≡ get_or ds 0 u → IsDimensionOf r u → IsRight A2 t r
a2_right t x r u ds h f e m =
    subst (IsRight A2 t) (measured-same f.0 r u (subst (IsDimensionOf f.0) (sym e) ((a2_first t x ds h f).1 u)) m) (right-side A2 t f.0 f.1 f.2)
