-- The positions of a name among a list of names.
use Rattle.std.proofs.Common.{◌≡◌, ◌+◌, ◌-◌, ◌<◌, ◌≤◌, ℕ, zero, suc, Bool, true, false, List, [], ◌∷◌, ◌++◌, length, map, take, get_or, slice_get, slice_set, Option, Some, None, cond, nat_lt, refl, sym, ap, ◌∙◌, subst, if◌then◌else◌, arith, le-ltb}
use Rattle.std.specs.List.Sorted.{IsPartitionPoint, IsPartitionedBy, IsNonDecreasingBy}
use Rattle.std.specs.Option.{option_map}
use Rattle.std.specs.Str.{bytes_eq}
use Rattle.std.proofs.Math.Seq.{set-append_seam}
use Rattle.std.proofs.lemmas.Bool.{ltb-true, ltb-false}
use Rattle.std.proofs.lemmas.List.Sorted.{IsPartitionedBy-ltb}
use Rattle.indexmap.specs.IndexMap.{keys}
use Rattle.aql_value.specs.Partial.{or_else}
use Rattle.aql_names.specs.Index.{NameIndex, key_at, names_in, AreBelow, positions_from, IsIndex, GainsPosition, last_of, count_below}
use Rattle.aql_names.specs.Named.{Name, last_named}

-- the positions of a name after one name more
positions_from-last : (n : ℕ) (x y : Name) (names : List Name) →
    positions_from n x (names ++ y ∷ []) ≡ (if bytes_eq x y then positions_from n x names ++ (n + length names) ∷ [] else positions_from n x names)
positions_from-last n x y [] =
    let z : n ≡ n + 0 = omega arith in
    go (bytes_eq x y) z
  where
    go : (b : Bool) → n ≡ n + 0 → (if b then n ∷ [] else []) ≡ (if b then (n + 0) ∷ [] else [])
    go true z = ap (λ k. k ∷ []) z
    go false z = refl
positions_from-last n x y (k ∷ names) =
    let z : n + 1 + length names ≡ n + suc (length names) = omega arith in
    ap (λ l. if bytes_eq x k then n ∷ l else l) (positions_from-last (n + 1) x y names) ∙ go (bytes_eq x k) (bytes_eq x y) z
  where
    go : (a b : Bool) → n + 1 + length names ≡ n + suc (length names) →
        (if a then n ∷ (if b then positions_from (n + 1) x names ++ (n + 1 + length names) ∷ [] else positions_from (n + 1) x names)
        else (if b then positions_from (n + 1) x names ++ (n + 1 + length names) ∷ [] else positions_from (n + 1) x names))
        ≡ (if b then (if a then n ∷ positions_from (n + 1) x names else positions_from (n + 1) x names) ++ (n + suc (length names)) ∷ []
        else (if a then n ∷ positions_from (n + 1) x names else positions_from (n + 1) x names))
    go true true z = ap (λ i. n ∷ (positions_from (n + 1) x names ++ i ∷ [])) z
    go true false z = refl
    go false true z = ap (λ i. positions_from (n + 1) x names ++ i ∷ []) z
    go false false z = refl

below-last : (n k : ℕ) (ks : List ℕ) → AreBelow n ks → k < n → AreBelow n (ks ++ k ∷ [])
below-last n k [] h lt = (lt, tt)
below-last n k (l ∷ ks) h lt = (h.0, below-last n k ks h.1 lt)

below-longer : (n m : ℕ) (ks : List ℕ) → AreBelow n ks → n ≤ m → AreBelow m ks
below-longer n m [] h le = tt
below-longer n m (k ∷ ks) h le = (omega (arith, h.0, le), below-longer n m ks h.1 le)

map_last : {A B : Type 0} (f : A → B) (xs : List A) (y : A) → map f (xs ++ y ∷ []) ≡ map f xs ++ f y ∷ []
map_last f [] y = refl
map_last f (x ∷ xs) y = ap (λ l. f x ∷ l) (map_last f xs y)

map_length : {A B : Type 0} (f : A → B) (xs : List A) → length (map f xs) ≡ length xs
map_length f [] = refl
map_length f (x ∷ xs) = ap suc (map_length f xs)

map_below : {A : Type 0} (f g : ℕ → A) (n : ℕ) (ks : List ℕ) → AreBelow n ks → ((i : ℕ) → i < n → g i ≡ f i) → map g ks ≡ map f ks
map_below f g n [] h e = refl
map_below f g n (k ∷ ks) h e = ap (λ a. a ∷ map g ks) (e k h.0) ∙ ap (λ l. f k ∷ l) (map_below f g n ks h.1 e)

module _ {S : Type 0} (m new : NameIndex S) (name : Name) (k : ℕ) where
  -- the names after one position more
  names-gain : (numbers : List ℕ) → AreBelow (length (keys m)) numbers → GainsPosition m new name (length numbers) k →
      names_in new (numbers ++ k ∷ []) ≡ names_in m numbers ++ name ∷ []
  names-gain numbers h g =
      map_last (key_at (keys new)) numbers k ∙ ap (λ x. map (key_at (keys new)) numbers ++ x ∷ []) g.named
      ∙ ap (λ l. l ++ name ∷ []) (map_below (key_at (keys m)) (key_at (keys new)) (length (keys m)) numbers h g.kept)

  index-gain : (numbers : List ℕ) → IsIndex m numbers → GainsPosition m new name (length numbers) k → IsIndex new (numbers ++ k ∷ [])
  index-gain numbers h g = record {
    numbered = below-last _ k numbers (below-longer _ _ numbers h.numbered g.longer) g.inside;
    positions = λ x.
        let n : length numbers ≡ 0 + length (names_in m numbers) = (let e : length (names_in m numbers) ≡ length numbers = map_length (key_at (keys m)) numbers in omega (arith, e)) in
        g.positions x
        ∙ ap (λ l. if bytes_eq x name then l ++ length numbers ∷ [] else l) (h.positions x)
        ∙ ap (λ i. if bytes_eq x name then positions_from 0 x (names_in m numbers) ++ i ∷ [] else positions_from 0 x (names_in m numbers)) n
        ∙ sym (positions_from-last 0 x name (names_in m numbers))
        ∙ ap (λ l. positions_from 0 x l) (sym (names-gain numbers h.numbered g));
  }

  -- where the number was written over another
  pub index-pushed : (numbers new_numbers : List ℕ) (d n : ℕ) → IsIndex m numbers → n ≡ length numbers → new_numbers ≡ numbers ++ d ∷ [] → GainsPosition m new name n k →
      IsIndex new (slice_set new_numbers n k)
  index-pushed numbers new_numbers d n h e f g =
      subst (IsIndex new) (sym (written numbers new_numbers d n e f)) (index-gain numbers h (subst (λ i. GainsPosition m new name i k) e g))
    where
      written : (numbers new_numbers : List ℕ) (d n : ℕ) → n ≡ length numbers → new_numbers ≡ numbers ++ d ∷ [] → slice_set new_numbers n k ≡ numbers ++ k ∷ []
      written numbers new_numbers d n e f = ap (λ l. slice_set l n k) f ∙ ap (λ i. slice_set (numbers ++ d ∷ []) i k) e ∙ set-append_seam numbers d [] k

  pub names-pushed : (numbers new_numbers : List ℕ) (d n : ℕ) → IsIndex m numbers → n ≡ length numbers → new_numbers ≡ numbers ++ d ∷ [] → GainsPosition m new name n k →
      names_in new (slice_set new_numbers n k) ≡ names_in m numbers ++ name ∷ []
  names-pushed numbers new_numbers d n h e f g =
      ap (names_in new) (ap (λ l. slice_set l n k) f ∙ ap (λ i. slice_set (numbers ++ d ∷ []) i k) e ∙ set-append_seam numbers d [] k)
      ∙ names-gain numbers h.numbered (subst (λ i. GainsPosition m new name i k) e g)

-- the last of the positions
last_of-positions : (n : ℕ) (x : Name) (names : List Name) → last_of (positions_from n x names) ≡ option_map (λ i. n + i) (last_named x names)
last_of-positions n x [] = refl
last_of-positions n x (y ∷ ys) =
    go (bytes_eq x y) (last_named x ys) (last_of-positions (n + 1) x ys)
  where
    later : (o : Option ℕ) → option_map (λ i. n + 1 + i) o ≡ option_map (λ i. n + i) (option_map suc o)
    later None = refl
    later (Some i) = let z : n + 1 + i ≡ n + suc i = omega arith in ap Some z

    none_later : (o : Option ℕ) → option_map suc o ≡ or_else (option_map suc o) None
    none_later None = refl
    none_later (Some i) = refl

    here : (o : Option ℕ) → or_else (option_map (λ i. n + 1 + i) o) (Some n) ≡ option_map (λ i. n + i) (or_else (option_map suc o) (Some 0))
    here None = let z : n ≡ n + 0 = omega arith in ap Some z
    here (Some i) = let z : n + 1 + i ≡ n + suc i = omega arith in ap Some z

    go : (b : Bool) (o : Option ℕ) → last_of (positions_from (n + 1) x ys) ≡ option_map (λ i. n + 1 + i) o →
        last_of (if b then n ∷ positions_from (n + 1) x ys else positions_from (n + 1) x ys) ≡ option_map (λ i. n + i) (or_else (option_map suc o) (if b then Some 0 else None))
    go true o h = ap (λ p. or_else p (Some n)) h ∙ here o
    go false o h = h ∙ later o ∙ ap (option_map (λ i. n + i)) (none_later o)

-- the last position of a name
pub last-named : (x : Name) (names : List Name) → last_of (positions_from 0 x names) ≡ last_named x names
last-named x names = last_of-positions 0 x names ∙ same (last_named x names)
  where
    same : (o : Option ℕ) → option_map (λ i. 0 + i) o ≡ o
    same None = refl
    same (Some i) = let z : 0 + i ≡ i = omega arith in ap Some z

-- none of the positions is below the first
none_below : (n m : ℕ) (x : Name) (names : List Name) → n ≤ m → count_below n (positions_from m x names) ≡ 0
none_below n m x [] le = refl
none_below n m x (y ∷ ys) le = go (bytes_eq x y) (none_below n (m + 1) x ys (omega (arith, le)))
  where
    go : (b : Bool) → count_below n (positions_from (m + 1) x ys) ≡ 0 → count_below n (if b then m ∷ positions_from (m + 1) x ys else positions_from (m + 1) x ys) ≡ 0
    go true h = ap (λ t. cond t (1 + count_below n (positions_from (m + 1) x ys)) 0) (le-ltb m n le)
    go false h = h

-- those below n are the positions of the names before position n
places_below : (n m : ℕ) (x : Name) (names : List Name) → take (count_below n (positions_from m x names)) (positions_from m x names) ≡ positions_from m x (take (n - m) names)
places_below n m x [] = ap (positions_from m x) (sym (take-none (n - m)))
  where
    take-none : (k : ℕ) → take {A = Name} k [] ≡ []
    take-none zero = refl
    take-none (suc k) = refl
places_below n m x (y ∷ ys) = by (nat_lt m n) refl (places_below n (m + 1) x ys)
  where
    go : nat_lt m n ≡ true → (b : Bool) → take (count_below n (positions_from (m + 1) x ys)) (positions_from (m + 1) x ys) ≡ positions_from (m + 1) x (take (n - (m + 1)) ys) →
        take (count_below n (if b then m ∷ positions_from (m + 1) x ys else positions_from (m + 1) x ys)) (if b then m ∷ positions_from (m + 1) x ys else positions_from (m + 1) x ys)
        ≡ (if b then m ∷ positions_from (m + 1) x (take (n - (m + 1)) ys) else positions_from (m + 1) x (take (n - (m + 1)) ys))
    go q true h =
        let z : 1 + count_below n (positions_from (m + 1) x ys) ≡ suc (count_below n (positions_from (m + 1) x ys)) = omega arith in
        ap (λ t. take (cond t (1 + count_below n (positions_from (m + 1) x ys)) 0) (m ∷ positions_from (m + 1) x ys)) q
        ∙ ap (λ k. take k (m ∷ positions_from (m + 1) x ys)) z ∙ ap (λ l. m ∷ l) h
    go q false h = h

    by : (t : Bool) → nat_lt m n ≡ t → take (count_below n (positions_from (m + 1) x ys)) (positions_from (m + 1) x ys) ≡ positions_from (m + 1) x (take (n - (m + 1)) ys) →
        take (count_below n (positions_from m x (y ∷ ys))) (positions_from m x (y ∷ ys)) ≡ positions_from m x (take (n - m) (y ∷ ys))
    by true q h =
        let lt : m < n = ltb-true m n q in
        let z : n - m ≡ suc (n - (m + 1)) = omega (arith, lt) in
        go q (bytes_eq x y) h ∙ ap (λ i. positions_from m x (take i (y ∷ ys))) (sym z)
    by false q h =
        let le : n ≤ m = ltb-false m n q in
        let z : n - m ≡ 0 = omega (arith, le) in
        ap (λ c. take c (positions_from m x (y ∷ ys))) (none_below n m x (y ∷ ys) le) ∙ sym (ap (λ i. positions_from m x (take i (y ∷ ys))) z)

-- the last position of a name below n
pub last-before : (n : ℕ) (x : Name) (names : List Name) → last_of (take (count_below n (positions_from 0 x names)) (positions_from 0 x names)) ≡ last_named x (take n names)
last-before n x names =
    let z : n - 0 ≡ n = omega arith in
    ap last_of (places_below n 0 x names) ∙ last-named x (take (n - 0) names) ∙ ap (λ i. last_named x (take i names)) z

-- where a search by halving ends
pub point_count : (n : ℕ) (ps : List ℕ) (i : ℕ) → i ≤ length ps → IsPartitionPoint (λ p. nat_lt p n ≡ true) (λ p. nat_lt p n ≡ false) ps i → i ≡ count_below n ps
point_count n [] i le h = omega (arith, le)
point_count n (p ∷ ps) zero le h = sym (ap (λ t. cond t (1 + count_below n ps) 0) (h.1 0 p (omega arith) (omega arith)))
point_count n (p ∷ ps) (suc i) le h =
    let rest : i ≡ count_below n ps =
    point_count n ps i (omega (arith, le)) (λ k d a b. h.0 (suc k) d (omega arith) (omega (arith, b)), λ k d a b. h.1 (suc k) d (omega (arith, a)) (omega (arith, b))) in
    ap suc rest ∙ (let z : suc (count_below n ps) ≡ 1 + count_below n ps = omega arith in z)
    ∙ sym (ap (λ t. cond t (1 + count_below n ps) 0) (h.0 0 p (omega arith) (omega arith)))

-- the last of a list, by its length
pub last-by_length : (ps : List ℕ) → slice_get ps (length ps - 1) ≡ last_of ps
last-by_length [] = refl
last-by_length (p ∷ []) = refl
last-by_length (p ∷ q ∷ ps) =
    let z : length (p ∷ q ∷ ps) - 1 ≡ suc (length (q ∷ ps) - 1) = omega arith in
    ap (slice_get (p ∷ q ∷ ps)) z ∙ last-by_length (q ∷ ps) ∙ some (last_of ps)
  where
    some : (o : Option ℕ) → or_else o (Some q) ≡ or_else (or_else o (Some q)) (Some p)
    some None = refl
    some (Some r) = refl

-- no position is below the first
at_least : (m : ℕ) (x : Name) (names : List Name) (k i d : ℕ) → k ≤ m → i < length (positions_from m x names) → k ≤ get_or (positions_from m x names) i d
at_least m x [] k i d le lt = absurd (omega (arith, lt))
at_least m x (y ∷ ys) k i d le lt = go (bytes_eq x y) i (λ j. at_least (m + 1) x ys k j d (omega (arith, le))) lt
  where
    go : (b : Bool) (i : ℕ) → ((j : ℕ) → j < length (positions_from (m + 1) x ys) → k ≤ get_or (positions_from (m + 1) x ys) j d) →
        i < length (if b then m ∷ positions_from (m + 1) x ys else positions_from (m + 1) x ys) → k ≤ get_or (if b then m ∷ positions_from (m + 1) x ys else positions_from (m + 1) x ys) i d
    go true zero h lt = le
    go true (suc i) h lt = h i (omega (arith, lt))
    go false i h lt = h i lt

-- the positions of a name ascend
rising : (m : ℕ) (x : Name) (names : List Name) → IsNonDecreasingBy (λ (p : ℕ). p) (positions_from m x names)
rising m x [] = λ i j d le lt. absurd (omega (arith, lt))
rising m x (y ∷ ys) = go (bytes_eq x y) (rising (m + 1) x ys)
  where
    more : IsNonDecreasingBy (λ (p : ℕ). p) (positions_from (m + 1) x ys) → (i j d : ℕ) → i ≤ j → j < length (m ∷ positions_from (m + 1) x ys) →
        get_or (m ∷ positions_from (m + 1) x ys) i d ≤ get_or (m ∷ positions_from (m + 1) x ys) j d
    more h zero zero d le lt = omega arith
    more h zero (suc j) d le lt = at_least (m + 1) x ys m j d (omega arith) (omega (arith, lt))
    more h (suc i) zero d le lt = absurd (omega (arith, le))
    more h (suc i) (suc j) d le lt = h i j d (omega (arith, le)) (omega (arith, lt))

    go : (b : Bool) → IsNonDecreasingBy (λ (p : ℕ). p) (positions_from (m + 1) x ys) →
        IsNonDecreasingBy (λ (p : ℕ). p) (if b then m ∷ positions_from (m + 1) x ys else positions_from (m + 1) x ys)
    go true h = more h
    go false h = h

pub ascending : (n m : ℕ) (x : Name) (names : List Name) → IsPartitionedBy (λ p. nat_lt p n) (positions_from m x names)
ascending n m x names = IsPartitionedBy-ltb (λ p. p) (positions_from m x names) n (rising m x names)
