-- The least dimensions that indices are below.
use Rattle.std.proofs.Common.{◌≡◌, ℕ, zero, suc, ◌+◌, ◌^◌, ◌<◌, ◌≤◌, Bool, true, false, List, [], ◌∷◌, ◌++◌, length, map, take, get_or, min, max, Option, Some, None, refl, sym, ◌∙◌, ap, arith}
use Rattle.std.specs.Prelude.{nat_lt, replicate, slice_get, ◌&&◌}
use Rattle.std.specs.List.{range_with_len}
use Rattle.std.proofs.lemmas.Bool.{lt-ltb}
use Rattle.std.specs.Option.{option_map}
use Rattle.std.proofs.lemmas.List.{take_more, take_all, length-map, map-append}
use Rattle.std.proofs.Math.ListN.{get_or-map}
use Rattle.std.proofs.lemmas.Option.{slice_get-map, slice_get-get_or, slice_get_read}
use Rattle.aql_value.specs.Lists.{below, Every}
use Rattle.aql_value.specs.Laws.Lists.{length-below}
use Rattle.aql_value.specs.Operations.{greater_each, dims_above, all_in_range}
use Rattle.aql_value.specs.Datum.{Datum}
use Rattle.aql_value.specs.Meaning.{datum}
use Rattle.aql_value.specs.Operations.{as_natural, as_tuple, index_numbers}
use Rattle.aql_value.specs.Partial.{◌>>=◌, each}
use Rattle.aql_value.specs.Laws.Partial.{each-none}
use Rattle.aql_value.specs.declared.value.Value.{Value}
use Rattle.nrca_forms.specs.Indexing.{extent, ranked_numbers}
use Rattle.nrca_loops.specs.Laws.Run.{each-more}
use Rattle.aql_value.specs.Laws.Lists.{map_pushed}

pub length-greater_each : (xs ys : List ℕ) → length (greater_each xs ys) ≡ min (length xs) (length ys)
length-greater_each [] ys = omega arith
length-greater_each (x ∷ xs) [] = omega arith
length-greater_each (x ∷ xs) (y ∷ ys) = omega (arith, length-greater_each xs ys)

get_or-greater_each : (xs ys : List ℕ) (j d e f : ℕ) → j < length xs → j < length ys → get_or (greater_each xs ys) j d ≡ max (get_or xs j e) (get_or ys j f)
get_or-greater_each [] ys j d e f h k = absurd (omega (arith, h))
get_or-greater_each (x ∷ xs) [] j d e f h k = absurd (omega (arith, k))
get_or-greater_each (x ∷ xs) (y ∷ ys) zero d e f h k = refl
get_or-greater_each (x ∷ xs) (y ∷ ys) (suc j) d e f h k = get_or-greater_each xs ys j d e f (omega (arith, h)) (omega (arith, k))

-- one place more
pub greater_each_next : (xs ys : List ℕ) (j e f : ℕ) → j < length xs → j < length ys → take (j + 1) (greater_each xs ys) ≡ take j (greater_each xs ys) ++ max (get_or xs j e) (get_or ys j f) ∷ []
greater_each_next xs ys j e f h k =
    take_more (greater_each xs ys) j 0 (omega (arith, h, k, length-greater_each xs ys))
    ∙ ap (λ n. take j (greater_each xs ys) ++ n ∷ []) (get_or-greater_each xs ys j 0 e f h k)

pub greater_each_all : (xs ys : List ℕ) (j : ℕ) → min (length xs) (length ys) ≤ j → take j (greater_each xs ys) ≡ greater_each xs ys
greater_each_all xs ys j h = take_all j (greater_each xs ys) (omega (arith, h, length-greater_each xs ys))

-- as many zeros as numbers
zeros_range : (a n : ℕ) → replicate {A = ℕ} n 0 ≡ map (λ j. 0) (range_with_len a n)
zeros_range a zero = refl
zeros_range a (suc n) = ap (λ l. 0 ∷ l) (zeros_range (a + 1) n)

pub zeros_below : (n : ℕ) → replicate {A = ℕ} n 0 ≡ map (λ j. 0) (below n)
zeros_below n = zeros_range 0 n

-- numbers of which one is 2^128 are not all in range
pub past_range : (ns : List ℕ) (i : ℕ) → slice_get ns i ≡ Some (2 ^ 128) → all_in_range ns ≡ false
past_range [] i h = cc
past_range (n ∷ ns) zero h = let z : n ≡ 2 ^ 128 = cc in ap (λ m. nat_lt m (2 ^ 128) && all_in_range ns) z
past_range (n ∷ ns) (suc i) h = go (nat_lt n (2 ^ 128)) (past_range ns i h)
  where
    go : (b : Bool) → all_in_range ns ≡ false → (b && all_in_range ns) ≡ false
    go true e = e
    go false e = refl

pub in_range_more : (ns : List ℕ) (n : ℕ) → all_in_range ns ≡ true → n < 2 ^ 128 → all_in_range (ns ++ n ∷ []) ≡ true
in_range_more [] n h l = ap (λ b. b && true) (lt-ltb n (2 ^ 128) l)
in_range_more (m ∷ ns) n h l = go (nat_lt m (2 ^ 128)) h (λ e. in_range_more ns n e l)
  where
    go : (b : Bool) → (b && all_in_range ns) ≡ true → (all_in_range ns ≡ true → all_in_range (ns ++ n ∷ []) ≡ true) → (b && all_in_range (ns ++ n ∷ [])) ≡ true
    go true e f = f e
    go false e f = cc

-- dimensions above indices of one rank have that rank
pub length-dims_above : (rank : ℕ) (ats : List (List ℕ)) → Every (λ at. length at ≡ rank) ats → length (dims_above rank ats) ≡ rank
length-dims_above rank [] h = length-map (below rank) (λ j. 0) ∙ length-below rank
length-dims_above rank (at ∷ ats) h = omega (arith, length-greater_each (map suc at) (dims_above rank ats), length-map at suc, h.0, length-dims_above rank ats h.1)

-- a dimension that stands for 2^128 is past the range
pub none_past : (ds : List (Option ℕ)) (i : ℕ) → i < length ds → get_or ds i None ≡ None → all_in_range (map extent ds) ≡ false
none_past ds i h e = past_range (map extent ds) i (slice_get-map extent ds i ∙ ap (option_map extent) (slice_get-get_or ds i None h ∙ ap Some e))

pub some_next : (ds : List (Option ℕ)) (i d : ℕ) (ns : List ℕ) → i < length ds → get_or ds i None ≡ Some d → map extent (take i ds) ≡ ns → map extent (take (i + 1) ds) ≡ ns ++ d ∷ []
some_next ds i d ns h e k =
    ap (map extent) (take_more ds i None h) ∙ map-append extent (take i ds) (get_or ds i None ∷ []) ∙ (λ j. k j ++ extent (e j) ∷ [])

-- one place of dimensions more
pub raised_next : (at : List ℕ) (ds : List (Option ℕ)) (j x : ℕ) (all more : List (Option ℕ)) (o : Option ℕ) → j < length at → j < length ds → x ≡ get_or at j x →
    map extent all ≡ take j (greater_each (map suc at) (map extent ds)) → more ≡ all ++ o ∷ [] → extent o ≡ max (suc x) (extent (get_or ds j None)) →
    map extent more ≡ take (j + 1) (greater_each (map suc at) (map extent ds))
raised_next at ds j x all more o h k e inv p m =
    map_pushed extent all more o (max (suc x) (extent (get_or ds j None))) (take j (greater_each (map suc at) (map extent ds))) p inv m
    ∙ ap (λ n. take j (greater_each (map suc at) (map extent ds)) ++ max n (extent (get_or ds j None)) ∷ []) number
    ∙ ap (λ n. take j (greater_each (map suc at) (map extent ds)) ++ max (get_or (map suc at) j (suc x)) n ∷ []) bound
    ∙ sym (greater_each_next (map suc at) (map extent ds) j (suc x) (extent None) (omega (arith, h, length-map at suc)) (omega (arith, k, length-map ds extent)))
  where
    number : suc x ≡ get_or (map suc at) j (suc x)
    number = ap suc e ∙ sym (get_or-map suc at j x)

    bound : extent (get_or ds j None) ≡ get_or (map extent ds) j (extent None)
    bound = sym (get_or-map extent ds j None)

-- the numbers of values, one at a time
pub numbers_next : (vs : List Value) (i : ℕ) (v : Value) (ns : List ℕ) (n : ℕ) → i < length vs → v ≡ get_or vs i v → each as_natural (map datum (take i vs)) ≡ Some ns → Some n ≡ as_natural (datum v) →
    each as_natural (map datum (take (i + 1) vs)) ≡ Some (ns ++ n ∷ [])
numbers_next vs i v ns n h e k m =
    ap (λ l. each as_natural (map datum l)) (take_more vs i v h ∙ ap (λ x. take i vs ++ x ∷ []) (sym e))
    ∙ ap (each as_natural) (map-append datum (take i vs) (v ∷ []))
    ∙ each-more as_natural (map datum (take i vs)) (datum v)
    ∙ (λ j. k j >>= λ ys. sym m j >>= λ y. Some (ys ++ y ∷ []))

pub numbers_stop : (vs : List Value) (i : ℕ) (v : Value) → i < length vs → v ≡ get_or vs i v → None ≡ as_natural (datum v) → each as_natural (map datum vs) ≡ None
numbers_stop vs i v h e m =
    each-none as_natural (map datum vs) i (datum v) (slice_get-map datum vs i ∙ ap (option_map datum) (slice_get_read vs (length vs) i v refl h e)) (sym m)

pub index_numbers_tuple : (rank : ℕ) (v : Datum) → (rank ≡ 1 → ⊥) → index_numbers rank v ≡ ranked_numbers rank (as_tuple v >>= each as_natural)
index_numbers_tuple zero v h = refl
index_numbers_tuple (suc zero) v h = absurd (h refl)
index_numbers_tuple (suc (suc n)) v h = refl
