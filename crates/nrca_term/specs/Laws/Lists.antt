-- Lists of terms as parts of a node, and lists of numbers.
use Rattle.std.proofs.Common.{◌≡◌, ℕ, zero, suc, ◌+◌, ◌*◌, ◌<◌, ◌≤◌, List, [], ◌∷◌, ◌++◌, length, map, take, get_or, Some, None, refl, sym, ap, ◌∙◌, arith}
use Rattle.std.proofs.lemmas.List.{take_more, map-append}
use Rattle.aql_value.specs.Indices.{product}
use Rattle.nrca_term.specs.declared.term.Core.{Core}
use Rattle.nrca_term.specs.View.{term_of}
use Rattle.nrca_term.specs.Firm.{number_of}
use Rattle.nrca_term.specs.Term.{Term, Parts, none, plain}
use Rattle.nrca_term.specs.Nodes.{number, literal_term}

-- equal lists of parts have equal terms
pub plain-same : (ts us : List Term) → plain ts none ≡ plain us none → ts ≡ us
plain-same [] [] e = refl
plain-same [] (u ∷ us) e = cc
plain-same (t ∷ ts) [] e = cc
plain-same (t ∷ ts) (u ∷ us) e = let x : t ≡ u = cc in let y : ts ≡ us = plain-same ts us cc in ap (λ z. z ∷ ts) x ∙ ap (λ zs. u ∷ zs) y

-- parts that begin with equally long lists are equal list by list
pub plain-split : (ds es : List Term) (ps qs : Parts) → length ds ≡ length es → plain ds ps ≡ plain es qs → (ds ≡ es) × (ps ≡ qs)
plain-split [] [] ps qs l e = (refl, e)
plain-split [] (u ∷ es) ps qs l e = absurd (omega (arith, l))
plain-split (t ∷ ds) [] ps qs l e = absurd (omega (arith, l))
plain-split (t ∷ ds) (u ∷ es) ps qs l e =
    let x : t ≡ u = cc in
    let r = plain-split ds es ps qs (omega (arith, l)) cc in
    (ap (λ z. z ∷ ds) x ∙ ap (λ zs. u ∷ zs) r.0, r.1)

-- equal literals have equal dimensions and cells
pub literal-parts : (ds es cs xs : List Term) → literal_term ds cs ≡ literal_term es xs → (ds ≡ es) × (cs ≡ xs)
literal-parts ds es cs xs e =
    let l : length ds ≡ length es = cc in
    let p : plain ds (plain cs none) ≡ plain es (plain xs none) = cc in
    let r = plain-split ds es (plain cs none) (plain xs none) l p in
    (r.0, plain-same cs xs r.1)

-- lists of equal number terms are equal
pub numbers-same : (ns ms : List ℕ) → map number ns ≡ map number ms → ns ≡ ms
numbers-same [] [] e = refl
numbers-same [] (m ∷ ms) e = cc
numbers-same (n ∷ ns) [] e = cc
numbers-same (n ∷ ns) (m ∷ ms) e = let x : n ≡ m = cc in let y : ns ≡ ms = numbers-same ns ms cc in ap (λ z. z ∷ ns) x ∙ ap (λ zs. m ∷ zs) y

-- the term of an item is the item of the terms
pub item-is : (xs : List Core) (i : ℕ) (x : Core) → x ≡ get_or xs i x → term_of x ≡ get_or (map term_of xs) i (term_of x)
item-is xs i x e = ap term_of e ∙ mapped xs i
  where
    mapped : (xs : List Core) (i : ℕ) → term_of (get_or xs i x) ≡ get_or (map term_of xs) i (term_of x)
    mapped [] i = refl
    mapped (y ∷ xs) zero = refl
    mapped (y ∷ xs) (suc i) = mapped xs i

-- the product of a list with one number more
pub product-more : (ns : List ℕ) (n : ℕ) → product (ns ++ n ∷ []) ≡ product ns * n
product-more [] n = omega arith
product-more (m ∷ ns) n = ap (λ x. m * x) (product-more ns n) ∙ assoc m (product ns) n
  where
    assoc : (a b c : ℕ) → a * (b * c) ≡ a * b * c
    assoc a b c = omega arith

-- a term that is not written as a number is none
pub no-number : (t : Term) → number_of t ≡ None → (n : ℕ) → t ≡ number n → ⊥
no-number t e n h = let z : Some n ≡ None = ap number_of (sym h) ∙ e in cc

-- enough first items are the whole list
pub whole-list : (ts : List Term) (i : ℕ) → length ts ≤ i → take i ts ≡ ts
whole-list [] zero h = refl
whole-list [] (suc i) h = refl
whole-list (t ∷ ts) zero h = absurd (omega (arith, h))
whole-list (t ∷ ts) (suc i) h = ap (λ xs. t ∷ xs) (whole-list ts i (omega (arith, h)))

-- the first terms with one more are numbers where these are
pub numbers-more : (ts : List Term) (j n : ℕ) (ns : List ℕ) (u : Term) → j < length ts → u ≡ get_or ts j u → u ≡ number n → take j ts ≡ map number ns → take (j + 1) ts ≡ map number (ns ++ n ∷ [])
numbers-more ts j n ns u l e h t = take_more ts j u l ∙ ap (λ x. take j ts ++ x ∷ []) (sym e ∙ h) ∙ ap (λ xs. xs ++ number n ∷ []) t ∙ sym (map-append number ns (n ∷ []))

-- a number of a list of numbers
pub number-at : (ns : List ℕ) (j : ℕ) (u : Term) → j < length ns → get_or (map number ns) j u ≡ number (get_or ns j 0)
number-at [] j u l = absurd (omega (arith, l))
number-at (n ∷ ns) zero u l = refl
number-at (n ∷ ns) (suc j) u l = number-at ns j u (omega (arith, l))
