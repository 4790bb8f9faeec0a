-- What is known at each place of a list, told of the list.
use Rattle.std.proofs.Common.{◌≡◌, ℕ, zero, suc, ◌+◌, ◌-◌, ◌<◌, ◌≤◌, List, [], ◌∷◌, ◌++◌, length, map, take, drop, get_or, Option, Some, refl, ◌∙◌, ap, arith}
use Rattle.std.specs.List.{slice_range, range_with_len}
use Rattle.std.proofs.lemmas.List.{take_more, map-append, take-map, drop-map}
use Rattle.aql_value.specs.Lists.{below}
use Rattle.aql_value.specs.Partial.{◌>>=◌, each, total}

-- a function at each element of a column
pub each_column : {A B D : Type 0} (f : D → Option D) (h : B → D) (g : A → D) (e : B) (d : A) (col : List B) (xs : List A) → length xs ≡ length col → ((j : ℕ) → j < length col → f (h (get_or col j e)) ≡ Some (g (get_or xs j d))) →
    each f (map h col) ≡ Some (map g xs)
each_column f h g e d [] [] l p = refl
each_column f h g e d [] (x ∷ xs) l p = cc
each_column f h g e d (c ∷ col) [] l p = cc
each_column f h g e d (c ∷ col) (x ∷ xs) l p =
    (λ j. p 0 (omega arith) j >>= λ y. each f (map h col) >>= λ ys. Some (y ∷ ys))
    ∙ ap (λ o. o >>= λ ys. Some (g x ∷ ys)) (each_column f h g e d col xs (omega (arith, l)) (λ j k. p (suc j) (omega (arith, k))))

-- turns that no element takes
pub total_column : {B D : Type 0} (f : D → ℕ) (h : B → D) (e : B) (col : List B) → ((j : ℕ) → j < length col → f (h (get_or col j e)) ≡ 0) → total f (map h col) ≡ 0
total_column f h e [] p = refl
total_column f h e (c ∷ col) p = omega (arith, p 0 (omega arith), total_column f h e col (λ j k. p (suc j) (omega (arith, k))))

-- a range of a list that is made element by element
pub range_of_map : {A B : Type 0} (f : A → B) (xs : List A) (a b : ℕ) → slice_range (map f xs) a b ≡ map f (slice_range xs a b)
range_of_map f xs a b = ap (take (b - a)) (drop-map f a xs) ∙ take-map f (b - a) (drop a xs)

-- a range of the numbers below n
pub range_of_below : (n a b : ℕ) → a ≤ b → b ≤ n → slice_range (below n) a b ≡ range_with_len a (b - a)
range_of_below n a b low high = ap (take (b - a)) (dropped 0 n a (omega (arith, low, high)) ∙ (λ j. range_with_len (let e : 0 + a ≡ a = omega arith in e j) (n - a))) ∙ taken a (n - a) (b - a) (omega (arith, low, high))
  where
    dropped : (s n a : ℕ) → a ≤ n → drop a (range_with_len s n) ≡ range_with_len (s + a) (n - a)
    dropped s n zero h = (λ j. range_with_len (let e : s ≡ s + 0 = omega arith in e j) (let e : n ≡ n - 0 = omega arith in e j))
    dropped s zero (suc a) h = absurd (omega (arith, h))
    dropped s (suc n) (suc a) h = dropped (s + 1) n a (omega (arith, h)) ∙ (λ j. range_with_len (let e : s + 1 + a ≡ s + suc a = omega arith in e j) (let e : n - a ≡ suc n - suc a = omega arith in e j))

    taken : (s n k : ℕ) → k ≤ n → take k (range_with_len s n) ≡ range_with_len s k
    taken s n zero h = refl
    taken s zero (suc k) h = absurd (omega (arith, h))
    taken s (suc n) (suc k) h = ap (λ l. s ∷ l) (taken (s + 1) n k (omega (arith, h)))

-- the numbers from a on, one more of them
more : (a n : ℕ) → range_with_len a n ++ (a + n) ∷ [] ≡ range_with_len a (suc n)
more a zero = ap (λ k. k ∷ []) (let e : a + 0 ≡ a = omega arith in e)
more a (suc n) = ap (λ l. a ∷ l) (ap (λ k. range_with_len (a + 1) n ++ k ∷ []) (let e : a + suc n ≡ a + 1 + n = omega arith in e) ∙ more (a + 1) n)

-- one number more
pub range_last : (a i : ℕ) → a ≤ i → range_with_len a (i - a) ++ i ∷ [] ≡ range_with_len a (i + 1 - a)
range_last a i h =
    (λ j. range_with_len a (i - a) ++ (let e : i ≡ a + (i - a) = omega (arith, h) in e j) ∷ [])
    ∙ more a (i - a)
    ∙ ap (range_with_len a) (let e : suc (i - a) ≡ i + 1 - a = omega (arith, h) in e)

-- one element more of a list that is made element by element
pub mapped_more : {A B : Type 0} (f : A → B) (xs : List A) (i : ℕ) (d : A) → i < length xs → map f (take (i + 1) xs) ≡ map f (take i xs) ++ f (get_or xs i d) ∷ []
mapped_more f xs i d h = ap (map f) (take_more xs i d h) ∙ map-append f (take i xs) (get_or xs i d ∷ [])
