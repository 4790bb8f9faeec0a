-- Array generators by indices: each index below the dimensions in row-major order, and twice the sum of the prefix products in turns.
use Rattle.std.proofs.Common.{◌≡◌, ℕ, zero, suc, ◌+◌, ◌*◌, List, [], ◌∷◌, ◌++◌, length, map, Option, Some, None, refl, sym, ap, ◌∙◌, arith}
use Rattle.std.proofs.Math.Path.{fun_ext}
use Rattle.std.specs.List.{slice_get}
use Rattle.std.proofs.lemmas.List.{length-map}
use Rattle.aql_value.specs.Datum as datum
use Rattle.aql_value.specs.Datum.{natural, data_of}
use Rattle.aql_value.specs.Indices.{indices, prefix_products}
use Rattle.aql_value.specs.Laws.RowMajor.{indices-cons}
use Rattle.aql_value.specs.Lists.{below}
use Rattle.aql_value.specs.Laws.Lists.{length-below, concat-append}
use Rattle.aql_value.specs.Partial.{◌>>=◌, each, concat, total}
use Rattle.aql_value.specs.Laws.Partial.{each-then, each-append, each-map, total-concat, total-map}
use Rattle.aql_value.specs.Operations.{part_of}
use Rattle.aql_value.specs.Laws.Operations.{part_of-tuple}
use Rattle.aql_syntax.specs.Denotation.{over_indices}
use Rattle.aql_syntax.specs.Work.{turns_over}

concat-concat : {A : Type 0} (xsss : List (List (List A))) → concat (map concat xsss) ≡ concat (concat xsss)
concat-concat [] = refl
concat-concat (xss ∷ xsss) = ap (λ l. concat xss ++ l) (concat-concat xsss) ∙ sym (concat-append xss (concat xsss))

each-lists : {A B : Type 0} (f : A → Option B) (xss : List (List A)) → each f (concat xss) ≡ (each (each f) xss >>= λ found. Some (concat found))
each-lists f [] = refl
each-lists {A} {B} f (xs ∷ xss) = each-append f xs (concat xss) ∙ rw (each-lists f xss) (go (each f xs) (each (each f) xss))
  where
    go : (o : Option (List B)) (q : Option (List (List B))) →
        (o >>= λ as'. (q >>= λ found. Some (concat found)) >>= λ bs. Some (as' ++ bs)) ≡ ((o >>= λ y. q >>= λ ys. Some (y ∷ ys)) >>= λ found. Some (concat found))
    go None q = refl
    go (Some y) None = refl
    go (Some y) (Some ys) = refl

-- the loops over an array go over its indices in row-major order
pub over_indices-is : {A : Type 0} (ds : List ℕ) (f : List ℕ → Option (List A)) →
    over_indices ds f ≡ (each f (indices ds) >>= λ found. Some (concat found))
unfolding indices
over_indices-is {A} [] f = go (f [])
  where
    nil : (xs : List A) → xs ≡ xs ++ []
    nil [] = refl
    nil (x ∷ xs) = ap (λ l. x ∷ l) (nil xs)

    go : (o : Option (List A)) → o ≡ ((o >>= λ y. Some (y ∷ [])) >>= λ found. Some (concat found))
    go None = refl
    go (Some xs) = ap (λ l. Some l) (nil xs)
over_indices-is {A} (d ∷ ds) f =
    ap (λ (F : ℕ → Option (List A)). each F (below d) >>= λ found. Some (concat found)) (fun_ext (λ i. over_indices-is ds (λ at. f (i ∷ at))))
    ∙ rw (each-then (λ i. each (λ at. f (i ∷ at)) (indices ds)) concat (below d)) refl
    ∙ go (each (λ i. each (λ at. f (i ∷ at)) (indices ds)) (below d))
    ∙ ap (λ (q : Option (List (List (List A)))). (q >>= λ found. Some (concat found)) >>= λ found. Some (concat found))
    (ap (λ (F : ℕ → Option (List (List A))). each F (below d)) (fun_ext (λ i. sym (each-map f (λ at. i ∷ at) (indices ds))))
    ∙ sym (each-map (each f) (λ i. map (λ at. i ∷ at) (indices ds)) (below d)))
    ∙ ap (λ (q : Option (List (List A))). q >>= λ found. Some (concat found)) (sym (each-lists f (map (λ i. map (λ at. i ∷ at) (indices ds)) (below d))))
    ∙ ap (λ l. each f l >>= λ found. Some (concat found)) (sym (indices-cons d ds))
  where
    go : (q : Option (List (List (List A)))) →
        ((q >>= λ ys. Some (map concat ys)) >>= λ found. Some (concat found)) ≡ ((q >>= λ found. Some (concat found)) >>= λ found. Some (concat found))
    go None = refl
    go (Some xsss) = ap (λ l. Some l) (concat-concat xsss)

total-constant : {A : Type 0} (c : ℕ) (f : A → ℕ) (xs : List A) → total (λ x. c + f x) xs ≡ length xs * c + total f xs
total-constant c f [] = omega arith
total-constant c f (x ∷ xs) = let e = total-constant c f xs in grind (arith, e)

swapped : (d p : ℕ) → d * (2 * p) ≡ 2 * (d * p)
swapped d p = grind arith

joined : (d p s m t : ℕ) → s ≡ d * (2 * p) + m → t ≡ m → 2 * d + s ≡ 2 * (d + d * p) + t
joined d p s m t e g = let h : d * (2 * p) ≡ 2 * (d * p) = swapped d p in omega (arith, e, g, h)

-- the turns of the loops are twice the sum of the prefix products, and those at each index
pub turns_over-is : (ds : List ℕ) (f : List ℕ → ℕ) → turns_over ds f ≡ 2 * prefix_products ds + total f (indices ds)
unfolding indices
turns_over-is [] f = omega arith
turns_over-is (d ∷ ds) f =
    let a = ap (λ (F : ℕ → ℕ). 2 * d + total F (below d)) (fun_ext (λ i. turns_over-is ds (λ at. f (i ∷ at)))) in
    let b = total-constant (2 * prefix_products ds) (λ i. total (λ at. f (i ∷ at)) (indices ds)) (below d) in
    let c = ap (total f) (indices-cons d ds)
    ∙ total-concat f (map (λ i. map (λ at. i ∷ at) (indices ds)) (below d))
    ∙ total-map (total f) (λ i. map (λ at. i ∷ at) (indices ds)) (below d)
    ∙ ap (λ (F : ℕ → ℕ). total F (below d)) (fun_ext (λ i. total-map f (λ at. i ∷ at) (indices ds))) in
    a ∙ joined d (prefix_products ds) (total (λ i. 2 * prefix_products ds + total (λ at. f (i ∷ at)) (indices ds)) (below d))
    (total (λ i. total (λ at. f (i ∷ at)) (indices ds)) (below d)) (total f (indices (d ∷ ds))) (rw (length-below d) at b) c

mapped : (l : List ℕ) (k m : ℕ) → slice_get l k ≡ Some m → slice_get (map natural l) k ≡ Some (natural m)
mapped [] k m g = cc
mapped (x ∷ l) zero m g = let y : x ≡ m = cc in ap (λ o. Some (natural o)) y
mapped (x ∷ l) (suc k) m g = mapped l k m g

-- part j of the tuple of an index's numbers
pub part_natural : (full : List ℕ) (n j i : ℕ) → length full ≡ n → slice_get full j ≡ Some i →
    part_of (suc j) n (datum.tuple (data_of (map natural full))) ≡ Some (natural i)
part_natural full n j i e g = part_of-tuple j n (map natural full) (length-map full natural ∙ e) ∙ mapped full j i g
