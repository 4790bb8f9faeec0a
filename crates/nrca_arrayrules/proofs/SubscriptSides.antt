-- Where A5 fits, its right side, and the offset of an index in row-major order.
use Rattle.std.proofs.Common.{◌≡◌, ℕ, zero, suc, ◌+◌, ◌-◌, ◌*◌, ◌<◌, ◌≤◌, ◌^◌, min, Bool, true, false, List, [], ◌∷◌, ◌++◌, length, map, take, get_or, Option, Some, None, cond, nat_lt, refl, sym, ap, subst, ◌∙◌, arith}
use Rattle.std.specs.List.{slice_get}
use Rattle.std.specs.Option.{option_map}
use Rattle.std.proofs.lemmas.Bool.{lt-ltb, le-ltb}
use Rattle.std.proofs.lemmas.List.{length-map}
use Rattle.aql_value.specs.Indices.{product, offset_of}
use Rattle.aql_value.specs.Laws.RowMajor.{row_major, place_of_index, offset_of_within}
use Rattle.aql_value.specs.Laws.Saturation.{saturating_step}
use Rattle.nrca_term.specs.declared.trace.Rule.TheVariants.{A5}
use Rattle.nrca_term.specs.Term.{Term, none, plain}
use Rattle.nrca_term.specs.Nodes.{number, bottom_term, sub_term, literal_term}
use Rattle.nrca_term.specs.Rules.{Way, Subscript, inside, outside, in_first, others, constant_literal}
use Rattle.nrca_rule_laws.specs.Fitting.{RuleFits, IsRight}
use Rattle.nrca_rule_laws.specs.Laws.Fitting.{right-side}
use Rattle.nrca_term.specs.Cells.{CountsCells}
use Rattle.nrca_term.specs.Laws.Lists.{plain-same, literal-parts, numbers-same, product-more, numbers-more, number-at, whole-list}
use Rattle.nrca_arrayrules.proofs.Sides.{false-true}
use Rattle.nrca_arrayrules.specs.Constants.{IsConstantArray, IsConstantSubscript, IsOffset, IsCell, AreBelow, cell_or_bottom}

-- equal subscripts of literals have equal dimensions, cells and indices
pub subscript-same : (ds es cs xs at ys : List Term) → sub_term (literal_term ds cs) at ≡ sub_term (literal_term es xs) ys → (ds ≡ es) × (cs ≡ xs) × (at ≡ ys)
subscript-same ds es cs xs at ys e =
    let h : literal_term ds cs ≡ literal_term es xs = cc in
    let p : plain at none ≡ plain ys none = cc in
    let r = literal-parts ds es cs xs h in
    (r.0, r.1, plain-same at ys p)

-- the offset of an index has as many numbers as there are dimensions
offset_of-length : (ns is : List ℕ) (q : ℕ) → offset_of ns is ≡ Some q → length ns ≡ length is
offset_of-length [] [] q e = refl
offset_of-length [] (i ∷ is) q e = cc
offset_of-length (n ∷ ns) [] q e = cc
offset_of-length (n ∷ ns) (i ∷ is) q e = at (offset_of-length ns is) (nat_lt i n) (offset_of ns is) refl e
  where
    at : ((p : ℕ) → offset_of ns is ≡ Some p → length ns ≡ length is) → (b : Bool) (o : Option ℕ) → offset_of ns is ≡ o → cond b (option_map (λ p. i * product ns + p) o) None ≡ Some q → length (n ∷ ns) ≡ length (i ∷ is)
    at ih false o h k = cc
    at ih true None h k = cc
    at ih true (Some p) h k = ap suc (ih p h)

-- what a reading of A5 says of the parts of the term
a5_reading : (t r : Term) (ws : List Way) (ds cs at : List Term) → t ≡ sub_term (literal_term ds cs) at → Subscript t r ws → IsConstantSubscript ds cs at
a5_reading t r ws ds cs at h (inside ns xs is p e f g k w) =
    let z = subscript-same ds (map number ns) cs xs at (map number is) (sym h ∙ e) in
    (ns, is, z.0, z.2, offset_of-length ns is p (place_of_index ns is p g), f ∙ ap length (sym z.1))
a5_reading t r ws ds cs at h (outside ns xs is e f l g k w) =
    let z = subscript-same ds (map number ns) cs xs at (map number is) (sym h ∙ e) in
    (ns, is, z.0, z.2, l, f ∙ ap length (sym z.1))

-- a number within a list has an item
pub item_at : (ts : List Term) (j : ℕ) → j < length ts → slice_get ts j ≡ Some (get_or ts j bottom_term)
item_at [] j h = absurd (omega (arith, h))
item_at (t ∷ ts) zero h = refl
item_at (t ∷ ts) (suc j) h = item_at ts j (omega (arith, h))

-- the cell, or Bottom, is a right side of A5
pub a5_redex : (t o r : Term) (ds cs at : List Term) → t ≡ sub_term o at → o ≡ literal_term ds cs → (w : IsConstantSubscript ds cs at) → r ≡ cell_or_bottom cs (offset_of w.0 w.1) → (ws : List Way) × Subscript t r ws
a5_redex t o r ds cs at h k w e = by (offset_of w.0 w.1) refl
  where
    left : t ≡ sub_term (constant_literal w.0 cs) (map number w.1)
    left = h ∙ ap (λ x. sub_term x at) (k ∙ ap (λ xs. literal_term xs cs) w.2) ∙ ap (sub_term (constant_literal w.0 cs)) w.3

    by : (q : Option ℕ) → offset_of w.0 w.1 ≡ q → (ws : List Way) × Subscript t r ws
    by None f = ([], outside w.0 cs w.1 left w.5 w.4 (λ p g. let z : Some p ≡ None = sym (place_of_index w.0 w.1 p g) ∙ f in cc) (e ∙ ap (cell_or_bottom cs) f) refl)
    by (Some p) f =
        let l : p < length cs = omega (arith, offset_of_within w.0 w.1 p f, w.5) in
        (in_first (map (λ i. length w.0 + i) (others p (length cs))), inside w.0 cs w.1 p left w.5 (row_major w.0 w.1 p f) (item_at cs p l ∙ ap Some (sym (e ∙ ap (cell_or_bottom cs) f))) refl)

-- A5 fits exactly the constant subscripts of constant literals
pub a5_tells : (b : Bool) (t o : Term) (ds cs at : List Term) → t ≡ sub_term o at → o ≡ literal_term ds cs → (b ≡ true → IsConstantSubscript ds cs at) → (IsConstantSubscript ds cs at → b ≡ true) → RuleFits A5 b t
a5_tells true t o ds cs at h k f g =
    let w = f refl in
    let x = a5_redex t o (cell_or_bottom cs (offset_of w.0 w.1)) ds cs at h k w refl in
    (cell_or_bottom cs (offset_of w.0 w.1), x.0, x.1)
a5_tells false t o ds cs at h k f g = λ r ws x. false-true (g (a5_reading t r ws ds cs at (h ∙ ap (λ z. sub_term z at) k) x))

-- the parts of a term that A5 fits
pub a5_parts : (t o : Term) (ds cs at : List Term) → t ≡ sub_term o at → o ≡ literal_term ds cs → RuleFits A5 true t → IsConstantSubscript ds cs at
a5_parts t o ds cs at h k f = a5_reading t f.0 f.1 ds cs at (h ∙ ap (λ z. sub_term z at) k) f.2

-- the cell is the right side of A5
pub a5_right : (t o r : Term) (ds cs at : List Term) → t ≡ sub_term o at → o ≡ literal_term ds cs → RuleFits A5 true t → IsCell ds cs at r → IsRight A5 t r
a5_right t o r ds cs at h k f e =
    let w = a5_parts t o ds cs at h k f in
    let x = a5_redex t o r ds cs at h k w (e w.0 w.1 w.2 w.3) in
    right-side A5 t r x.0 x.1

-- a constant array subscripted by as many numbers as its rank
pub subscript-yes : (k : ℕ) (o : ℕ) (ds cs at : List Term) → k ≡ length at → CountsCells at (Some o) → IsConstantArray k ds cs → IsConstantSubscript ds cs at
subscript-yes k o ds cs at e t h = (h.0, t.0, h.1, t.1, sym h.2 ∙ e ∙ ap length t.1 ∙ length-map t.0 number, h.3)

-- a constant subscript has a constant array
pub subscript-back : (k : ℕ) (ds cs at : List Term) → k ≡ length at → IsConstantSubscript ds cs at → IsConstantArray k ds cs
subscript-back k ds cs at e h = (h.0, h.2, e ∙ ap length h.3 ∙ length-map h.1 number ∙ sym h.4, h.5)

-- the offset of an index with one number more
offset_of-more : (ns is : List ℕ) (q d i : ℕ) → offset_of ns is ≡ Some q → i < d → offset_of (ns ++ d ∷ []) (is ++ i ∷ []) ≡ Some (q * d + i)
offset_of-more [] [] q d i e l =
    let z : 0 ≡ q = cc in
    let y : i * 1 + 0 ≡ q * d + i = omega (arith, ap (λ x. x * d) z) in
    ap (λ b. cond b (Some (i * 1 + 0)) None) (lt-ltb i d l) ∙ ap Some y
offset_of-more [] (k ∷ is) q d i e l = cc
offset_of-more (n ∷ ns) [] q d i e l = cc
offset_of-more (n ∷ ns) (k ∷ is) q d i e l = at (λ p h. offset_of-more ns is p d i h l) (nat_lt k n) (offset_of ns is) refl e
  where
    at : ((p : ℕ) → offset_of ns is ≡ Some p → offset_of (ns ++ d ∷ []) (is ++ i ∷ []) ≡ Some (p * d + i)) → (b : Bool) (o : Option ℕ) → offset_of ns is ≡ o → cond b (option_map (λ p. k * product ns + p) o) None ≡ Some q → cond b (option_map (λ p. k * product (ns ++ d ∷ []) + p) (offset_of (ns ++ d ∷ []) (is ++ i ∷ []))) None ≡ Some (q * d + i)
    at ih false o h j = cc
    at ih true None h j = cc
    at ih true (Some p) h j =
        let z : k * product ns + p ≡ q = cc in
        ap (option_map (λ p. k * product (ns ++ d ∷ []) + p)) (ih p h) ∙ ap Some (ap (λ x. k * x + (p * d + i)) (product-more ns d) ∙ spread k (product ns) p d i ∙ ap (λ x. x * d + i) z)
      where
        spread : (a b c e f : ℕ) → a * (b * e) + (c * e + f) ≡ (a * b + c) * e + f
        spread a b c e f = omega arith

-- an index that is not below a dimension has no offset
offset_of-out : (ns is : List ℕ) (j : ℕ) → j < length ns → j < length is → get_or ns j 0 ≤ get_or is j 0 → offset_of ns is ≡ None
offset_of-out [] is j l m h = absurd (omega (arith, l))
offset_of-out (n ∷ ns) [] j l m h = absurd (omega (arith, m))
offset_of-out (n ∷ ns) (i ∷ is) zero l m h = ap (λ b. cond b (option_map (λ p. i * product ns + p) (offset_of ns is)) None) (le-ltb i n h)
offset_of-out (n ∷ ns) (i ∷ is) (suc j) l m h = ap (λ o. cond (nat_lt i n) (option_map (λ p. i * product ns + p) o) None) (offset_of-out ns is j (omega (arith, l)) (omega (arith, m)) h) ∙ none (nat_lt i n)
  where
    none : (b : Bool) → cond {A = Option ℕ} b None None ≡ None
    none true = refl
    none false = refl

-- the offset with one dimension and one number of the index more
pub offset-step : (ds at : List Term) (j p d i : ℕ) (u v : Term) → j < length ds → j < length at → u ≡ get_or ds j u → v ≡ get_or at j v → AreBelow u v (Some (d, i)) → IsOffset (take j ds) (take j at) (Some p) →
    IsOffset (take (j + 1) ds) (take (j + 1) at) (Some (min (min (p * d) (2 ^ 128 - 1) + i) (2 ^ 128 - 1)))
offset-step ds at j p d i u v l m e f b t = (
  t.0 ++ d ∷ [],
  t.1 ++ i ∷ [],
  t.2 * d + i,
  numbers-more ds j d t.0 u l e b.0 t.3,
  numbers-more at j i t.1 v m f b.1 t.4,
  offset_of-more t.0 t.1 t.2 d i t.5 b.2,
  both (p * d) i (2 ^ 128 - 1) ∙ ap (λ a. min (a * d + i) (2 ^ 128 - 1)) t.6 ∙ saturating_step t.2 d i (2 ^ 128 - 1),
)
  where
    both : (a b m : ℕ) → min (min a m + b) m ≡ min (a + b) m
    both a b m = omega arith

-- no offset where one number is not below its dimension
pub offset-out : (ds at : List Term) (j : ℕ) (u v : Term) → j < length ds → j < length at → u ≡ get_or ds j u → v ≡ get_or at j v → AreBelow u v None → IsOffset ds at None
offset-out ds at j u v l m e f b = λ ns is g k.
    let x : j < length ns = omega (arith, l, ap length g, length-map ns number) in
    let y : j < length is = omega (arith, m, ap length k, length-map is number) in
    offset_of-out ns is j x y (b (get_or ns j 0) (get_or is j 0) (e ∙ ap (λ xs. get_or xs j u) g ∙ number-at ns j u x) (f ∙ ap (λ xs. get_or xs j v) k ∙ number-at is j v y))

-- the offset after all dimensions
pub offset-whole : (ds at : List Term) (j p : ℕ) → length ds ≤ j → length ds ≡ length at → IsOffset (take j ds) (take j at) (Some p) → IsOffset ds at (Some p)
offset-whole ds at j p l e t = subst (λ xs. IsOffset xs at (Some p)) (whole-list ds j l) (subst (λ xs. IsOffset (take j ds) xs (Some p)) (whole-list at j (omega (arith, l, e))) t)

-- the offset of a constant subscript is its number in row-major order, and within the cells
pub offset-is : (ds cs at : List Term) (p : ℕ) → IsConstantSubscript ds cs at → length cs < 2 ^ 64 → (t : IsOffset ds at (Some p)) → (p ≡ t.2) × (p < length cs)
offset-is ds cs at p w l t =
    let z = numbers-same w.0 t.0 (sym w.2 ∙ t.3) in
    let q = offset_of_within t.0 t.1 t.2 t.5 in
    let y = ap product z in
    (omega (arith, q, y, w.5, l, t.6), omega (arith, q, y, w.5, l, t.6))

-- the offset of a constant subscript is within the cells
pub offset-within : (ds cs at : List Term) (p : ℕ) → IsConstantSubscript ds cs at → length cs < 2 ^ 64 → IsOffset ds at (Some p) → p < length cs
offset-within ds cs at p w l t = (offset-is ds cs at p w l t).1

-- the item at the offset is the cell
pub cell-here : (ds cs at : List Term) (p : ℕ) (r : Term) → IsConstantSubscript ds cs at → length cs < 2 ^ 64 → IsOffset ds at (Some p) → r ≡ get_or cs p bottom_term → IsCell ds cs at r
cell-here ds cs at p r w l t e = λ ns is g k.
    let x = numbers-same t.0 ns (sym t.3 ∙ g) in
    let y = numbers-same t.1 is (sym t.4 ∙ k) in
    let o : offset_of ns is ≡ Some p = ap (λ a. offset_of a is) (sym x) ∙ ap (offset_of t.0) (sym y) ∙ t.5 ∙ ap Some (sym (offset-is ds cs at p w l t).0) in
    e ∙ sym (ap (cell_or_bottom cs) o)

-- an item within a list is the same whatever stands for one past its end
pub any-item : (ts : List Term) (j : ℕ) (u : Term) → j < length ts → get_or ts j u ≡ get_or ts j bottom_term
any-item [] j u l = absurd (omega (arith, l))
any-item (t ∷ ts) zero u l = refl
any-item (t ∷ ts) (suc j) u l = any-item ts j u (omega (arith, l))
