-- The greatest of numbers, as the numbers that none exceeds.
use Rattle.std.proofs.Common.{◌≡◌, ◌⊎◌, ℕ, zero, suc, ◌<◌, ◌≤◌, Bool, true, false, nat_lt, nat_le, max, ◌&&◌, List, [], ◌∷◌, ◌++◌, length, map, Some, None, get_or, refl, sym, ap, ◌∙◌, if◌then◌else◌, arith, inl, inr, ◌^◌}
use Rattle.std.specs.declared.cmp.Ordering.{Ordering}
use Rattle.std.specs.declared.cmp.Ordering.TheVariants.{Less, Equal, Greater}
use Rattle.std.specs.Ordering.{nat_cmp, match_ordering, is_eq}
use Rattle.aql_value.specs.Canon.{canon, put}
use Rattle.aql_value.specs.Datum.{Datum, natural, set, nil, data_of}
use Rattle.aql_value.specs.Order.{datum_cmp}
use Rattle.aql_value.specs.Lists.{Every, below}
use Rattle.aql_value.specs.Laws.Lists.{below-suc}
use Rattle.aql_value.specs.Operations.{set_of, greater_each, dims_above, all_in_range, in_range}
use Rattle.aql_value.specs.Partial.{◌>>=◌, each, concat}

-- the number behind all of them: 1 more than the greatest, and 0 where there is none
abbrev pub above : List ℕ → ℕ
above [] = 0
above (n ∷ ns) = max (suc n) (above ns)

-- whether there is nothing
abbrev pub is_nil : List Datum → Bool
is_nil [] = true
is_nil (v ∷ vs) = false

-- the numbers that exceed n
abbrev pub larger : ℕ → List ℕ → List Datum
larger n ns = concat (map (λ m. if nat_lt n m then natural m ∷ [] else []) ns)

-- those numbers that no number of the first list exceeds
abbrev pub greatest_of : List ℕ → List ℕ → List Datum
greatest_of all ns = concat (map (λ n. if is_nil (larger n all) then natural n ∷ [] else []) ns)

-- a number is exceeded by none where the number behind all is at most the next
larger-nil : (n : ℕ) (ns : List ℕ) → is_nil (larger n ns) ≡ nat_le (above ns) (suc n)
larger-nil n [] = sym (let z : nat_le 0 (suc n) ≡ true = grind (arith) in z)
larger-nil n (m ∷ ns) = of (nat_lt n m) refl (larger-nil n ns)
  where
    of : (b : Bool) → nat_lt n m ≡ b → is_nil (larger n ns) ≡ nat_le (above ns) (suc n) → is_nil ((if nat_lt n m then natural m ∷ [] else []) ++ larger n ns) ≡ nat_le (max (suc m) (above ns)) (suc n)
    of true e ih = ap (λ b. is_nil ((if b then natural m ∷ [] else []) ++ larger n ns)) e ∙ sym (exceeded e)
      where
        exceeded : nat_lt n m ≡ true → nat_le (max (suc m) (above ns)) (suc n) ≡ false
        exceeded h = grind (arith, h)
    of false e ih = ap (λ b. is_nil ((if b then natural m ∷ [] else []) ++ larger n ns)) e ∙ ih ∙ within e
      where
        within : nat_lt n m ≡ false → nat_le (above ns) (suc n) ≡ nat_le (max (suc m) (above ns)) (suc n)
        within h = grind (arith, h)

-- a number before the set of itself
put-itself : (g : ℕ) → put (natural g) (natural g ∷ []) ≡ natural g ∷ []
put-itself g = ap (λ o. match_ordering o (natural g ∷ natural g ∷ []) (natural g ∷ []) (natural g ∷ put (natural g) [])) (same g)
  where
    same : (n : ℕ) → nat_cmp n n ≡ Equal
    same n = grind (arith)

-- Of numbers below suc g, those that reach g: none, or g alone.
reaching : (g : ℕ) (ns : List ℕ) → above ns ≤ suc g →
    ((above ns < suc g) × (concat (map (λ n. if nat_le (suc g) (suc n) then natural n ∷ [] else []) ns) ≡ []))
    ⊎ ((above ns ≡ suc g) × (canon (concat (map (λ n. if nat_le (suc g) (suc n) then natural n ∷ [] else []) ns)) ≡ natural g ∷ []))
reaching g [] h = inl (omega arith, refl)
reaching g (n ∷ ns) h = of (nat_le (suc g) (suc n)) refl (reaching g ns (omega (arith, h)))
  where
    P : ℕ → List Datum
    P n = if nat_le (suc g) (suc n) then natural n ∷ [] else []

    of : (b : Bool) → nat_le (suc g) (suc n) ≡ b → ((above ns < suc g) × (concat (map P ns) ≡ [])) ⊎ ((above ns ≡ suc g) × (canon (concat (map P ns)) ≡ natural g ∷ [])) →
        ((max (suc n) (above ns) < suc g) × (P n ++ concat (map P ns) ≡ [])) ⊎ ((max (suc n) (above ns) ≡ suc g) × (canon (P n ++ concat (map P ns)) ≡ natural g ∷ []))
    of true e r =
        let z : n ≡ g = grind (arith, e, h) in
        inr (omega (arith, h, z), ap (λ b. canon ((if b then natural n ∷ [] else []) ++ concat (map P ns))) e ∙ ap (λ m. put (natural m) (canon (concat (map P ns)))) z ∙ rest r)
      where
        rest : ((above ns < suc g) × (concat (map P ns) ≡ [])) ⊎ ((above ns ≡ suc g) × (canon (concat (map P ns)) ≡ natural g ∷ [])) → put (natural g) (canon (concat (map P ns))) ≡ natural g ∷ []
        rest (inl k) = ap (λ l. put (natural g) (canon l)) k.1
        rest (inr k) = ap (put (natural g)) k.1 ∙ put-itself g
    of false e (inl k) =
        let z : n < g = grind (arith, e) in
        inl (omega (arith, z, k.0), ap (λ b. (if b then natural n ∷ [] else []) ++ concat (map P ns)) e ∙ k.1)
    of false e (inr k) =
        let z : n < g = grind (arith, e) in
        inr (omega (arith, z, k.0), ap (λ b. canon ((if b then natural n ∷ [] else []) ++ concat (map P ns))) e ∙ k.1)

-- exactly one number is exceeded by none where there is one
pub greatest-is : (n : ℕ) (ns : List ℕ) → (g : ℕ) × (above (n ∷ ns) ≡ suc g) × (canon (greatest_of (n ∷ ns) (n ∷ ns)) ≡ natural g ∷ [])
greatest-is n ns = of (above (n ∷ ns)) refl
  where
    all : List ℕ
    all = n ∷ ns

    same : (t : ℕ) → above all ≡ t → (ms : List ℕ) → greatest_of all ms ≡ concat (map (λ m. if nat_le t (suc m) then natural m ∷ [] else []) ms)
    same t e [] = refl
    same t e (m ∷ ms) =
        ap (λ b. (if b then natural m ∷ [] else []) ++ greatest_of all ms) (larger-nil m all ∙ ap (λ a. nat_le a (suc m)) e)
        ∙ ap (λ l. (if nat_le t (suc m) then natural m ∷ [] else []) ++ l) (same t e ms)

    of : (t : ℕ) → above all ≡ t → (g : ℕ) × (above all ≡ suc g) × (canon (greatest_of all all) ≡ natural g ∷ [])
    of zero e = absurd (omega (arith, e))
    of (suc g) e = (g, e, ap canon (same (suc g) e all) ∙ reached (reaching g all (omega (arith, e))))
      where
        reached : ((above all < suc g) × (concat (map (λ m. if nat_le (suc g) (suc m) then natural m ∷ [] else []) all) ≡ []))
            ⊎ ((above all ≡ suc g) × (canon (concat (map (λ m. if nat_le (suc g) (suc m) then natural m ∷ [] else []) all)) ≡ natural g ∷ [])) →
            canon (concat (map (λ m. if nat_le (suc g) (suc m) then natural m ∷ [] else []) all)) ≡ natural g ∷ []
        reached (inl k) = absurd (omega (arith, k.0, e))
        reached (inr k) = k.1

-- a set is equal to the empty set where there is nothing in it
pub empty-test : (l : List Datum) → is_eq (datum_cmp (set_of l) (set nil)) ≡ is_nil l
empty-test [] = refl
empty-test (x ∷ xs) = of (canon xs)
  where
    of : (ys : List Datum) → is_eq (datum_cmp (set (data_of (put x ys))) (set nil)) ≡ false
    of [] = refl
    of (y ∷ ys) = by (datum_cmp x y)
      where
        by : (o : Ordering) → is_eq (datum_cmp (set (data_of (match_ordering o (x ∷ y ∷ ys) (y ∷ ys) (y ∷ put x ys)))) (set nil)) ≡ false
        by Less = refl
        by Equal = refl
        by Greater = refl

-- the j-th numbers of indices
abbrev pub column : ℕ → List (List ℕ) → List ℕ
column j ats = map (λ at. get_or at j 0) ats

-- an index is its numbers
numbers-each : (at : List ℕ) → map suc at ≡ map (λ j. suc (get_or at j 0)) (below (length at))
numbers-each [] = refl
numbers-each (n ∷ at) = ap (λ l. suc n ∷ l) (numbers-each at ∙ sym (shifted (below (length at)))) ∙ ap (map (λ j. suc (get_or (n ∷ at) j 0))) (sym (below-suc (length at)))
  where
    shifted : (js : List ℕ) → map (λ j. suc (get_or (n ∷ at) j 0)) (map suc js) ≡ map (λ j. suc (get_or at j 0)) js
    shifted [] = refl
    shifted (j ∷ js) = ap (λ l. suc (get_or at j 0) ∷ l) (shifted js)

-- the greater at each place, place by place
greater-each : (f g : ℕ → ℕ) (js : List ℕ) → greater_each (map f js) (map g js) ≡ map (λ j. max (f j) (g j)) js
greater-each f g [] = refl
greater-each f g (j ∷ js) = ap (λ l. max (f j) (g j) ∷ l) (greater-each f g js)

-- each of the least dimensions is the number behind its column
pub dims-columns : (rank : ℕ) (ats : List (List ℕ)) → Every (λ at. length at ≡ rank) ats → dims_above rank ats ≡ map (λ j. above (column j ats)) (below rank)
dims-columns rank [] h = refl
dims-columns rank (at ∷ ats) h =
    ap (λ l. greater_each l (dims_above rank ats)) (numbers-each at ∙ ap (λ n. map (λ j. suc (get_or at j 0)) (below n)) h.0)
    ∙ ap (greater_each (map (λ j. suc (get_or at j 0)) (below rank))) (dims-columns rank ats h.1)
    ∙ greater-each (λ j. suc (get_or at j 0)) (λ j. above (column j ats)) (below rank)

-- numbers each of which is in range
pub each-in_range : (f : ℕ → ℕ) (js : List ℕ) → each (λ j. in_range (f j)) js ≡ (if all_in_range (map f js) then Some (map natural (map f js)) else None)
each-in_range f [] = refl
each-in_range f (j ∷ js) = of (nat_lt (f j) (2 ^ 128)) (all_in_range (map f js)) (each-in_range f js)
  where
    of : (b c : Bool) → each (λ i. in_range (f i)) js ≡ (if c then Some (map natural (map f js)) else None) →
        ((if b then Some (natural (f j)) else None) >>= λ y. each (λ i. in_range (f i)) js >>= λ ys. Some (y ∷ ys)) ≡ (if b && c then Some (natural (f j) ∷ map natural (map f js)) else None)
    of true true e = ap (λ o. o >>= λ ys. Some (natural (f j) ∷ ys)) e
    of true false e = ap (λ o. o >>= λ ys. Some (natural (f j) ∷ ys)) e
    of false c e = refl
