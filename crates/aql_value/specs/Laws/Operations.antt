-- Laws of the operations on values.
use Rattle.std.specs.Prelude.{◌≡◌, ◌⊎◌, ◌<◌, ℕ, suc, ◌+◌, ◌≤◌, Bool, true, false, ◌&&◌, nat_lt, nat_eq, List, [], ◌∷◌, ◌++◌, length, map, get_or, Option, Some, None, if◌then◌else◌, refl}
use Rattle.std.proofs.Common.{sym, ap, ◌∙◌, arith, inl, inr}
use Rattle.std.specs.List.{slice_get}
use Rattle.std.proofs.lemmas.Bool.{le-ltb, lt-ltb, eq-eqb, eqb-true, eqb-false, ltb-true, cases_lt, cases_Bool}
use Rattle.std.proofs.lemmas.List.{length-map}
use Rattle.aql_value.specs.Datum.{Datum, natural, tuple, set, array, data_of}
use Rattle.aql_value.specs.Laws.Datum.{list_of-data_of}
use Rattle.std.specs.declared.cmp.Ordering.TheVariants.{Less, Equal, Greater}
use Rattle.std.specs.Ordering.{nat_cmp, is_lt, is_eq}
use Rattle.std.specs.Cmp.{nat_cmp_is}
use Rattle.aql_value.specs.Order.{datum_cmp}
use Rattle.aql_value.specs.Laws.Order.{equal_decides}
use Rattle.aql_value.specs.Ops.{compare_by}
use Rattle.aql_value.specs.declared.ops.CompareOp.TheVariants as op
use Rattle.aql_value.specs.Canon.{canon}
use Rattle.aql_value.specs.Indices.{product, indices}
use Rattle.aql_value.specs.Laws.Indices.{length_indices}
use Rattle.aql_value.specs.Laws.Set.{canon_append, canon_concat}
use Rattle.aql_value.specs.Partial.{◌>>=◌, each, concat}
use Rattle.aql_value.specs.Laws.Partial.{each-append}
use Rattle.aql_value.specs.Operations.{as_natural, as_set, tuple_of, part_of, set_of, union_of, union_all, array_of, index_value, index_numbers, all_in_range, values_at, index_array, as_indexed, dims_above}
use Rattle.aql_value.specs.Strict.{Strict, strict_turns}

-- a tuple is undefined at fewer than two values
pub tuple_of-if : (vs : List Datum) → tuple_of vs ≡ (if nat_lt (length vs) 2 then None else Some (tuple (data_of vs)))
tuple_of-if [] = refl
tuple_of-if (v ∷ []) = refl
tuple_of-if (v ∷ w ∷ vs) = rw (le-ltb (length (v ∷ w ∷ vs)) 2 (omega arith)) refl

-- part j of the tuple of n values is its element j, counted from 1
pub part_of-tuple : (j n : ℕ) (vs : List Datum) → length vs ≡ n → part_of (suc j) n (tuple (data_of vs)) ≡ slice_get vs j
part_of-tuple j n vs e = rw (list_of-data_of vs, eq-eqb (length vs) n e) refl

pub as_set-set_of : (vs : List Datum) → as_set (set_of vs) ≡ Some (canon vs)
as_set-set_of vs = ap Some (list_of-data_of (canon vs))

-- the union of two sets that are made of lists
pub union_of-sets : (vs ws : List Datum) → union_of (set_of vs) (set_of ws) ≡ Some (set_of (vs ++ ws))
union_of-sets vs ws = rw (list_of-data_of (canon vs), list_of-data_of (canon ws)) (ap (λ l. Some (set (data_of l))) (canon_append vs ws))

each-sets : (vss : List (List Datum)) → each as_set (map set_of vss) ≡ Some (map canon vss)
each-sets [] = refl
each-sets (vs ∷ vss) = rw (each-sets vss, list_of-data_of (canon vs)) refl

-- the union of sets that are made of lists
pub union_all-sets : (vss : List (List Datum)) → union_all (map set_of vss) ≡ Some (set_of (concat vss))
union_all-sets vss = rw (each-sets vss) (ap (λ l. Some (set (data_of l))) (canon_concat vss))

-- the set of what f gives at two lists is the union of the sets at each
pub set_of-append : {A : Type 0} (f : A → Option Datum) (xs ys : List A) →
    ((each f xs >>= λ vs. Some (set_of vs)) >>= λ v. (each f ys >>= λ ws. Some (set_of ws)) >>= λ w. union_of v w) ≡ (each f (xs ++ ys) >>= λ ws. Some (set_of ws))
set_of-append f xs ys = rw (each-append f xs ys) (go (each f xs) (each f ys))
  where
    go : (p q : Option (List Datum)) →
        ((p >>= λ vs. Some (set_of vs)) >>= λ v. (q >>= λ ws. Some (set_of ws)) >>= λ w. union_of v w)
        ≡ ((p >>= λ vs. q >>= λ ws. Some (vs ++ ws)) >>= λ ws. Some (set_of ws))
    go None q = refl
    go (Some vs) None = refl
    go (Some vs) (Some ws) = union_of-sets vs ws

pub each-naturals : (ns : List ℕ) → each as_natural (map natural ns) ≡ Some ns
each-naturals [] = refl
each-naturals (n ∷ ns) = rw (each-naturals ns) refl

-- an index is read back from its value
pub index_numbers-value : (ns : List ℕ) → 1 ≤ length ns → index_numbers (length ns) (index_value ns) ≡ Some ns
index_numbers-value [] h = absurd (omega (arith, h))
index_numbers-value (n ∷ []) h = refl
index_numbers-value (m ∷ n ∷ ns) h = rw (list_of-data_of (map natural ns), each-naturals ns, eq-eqb (length (m ∷ n ∷ ns)) (length (m ∷ n ∷ ns)) refl) refl

-- an array has the dimensions and cells that it is made of
pub array_of-is : (ds : List ℕ) (vs : List Datum) (v : Datum) → array_of ds vs ≡ Some v → (v ≡ array ds (data_of vs)) × (1 ≤ length ds) × (length ds ≤ 8) × (product ds ≡ length vs)
array_of-is ds vs v e = go (nat_lt 0 (length ds)) (nat_lt (length ds) 9) (nat_eq (product ds) (length vs)) refl refl refl e
  where
    go : (a b c : Bool) → nat_lt 0 (length ds) ≡ a → nat_lt (length ds) 9 ≡ b → nat_eq (product ds) (length vs) ≡ c →
        (if (a && b) && c then Some (array ds (data_of vs)) else None) ≡ Some v → (v ≡ array ds (data_of vs)) × (1 ≤ length ds) × (length ds ≤ 8) × (product ds ≡ length vs)
    go false b c f g h k = cc
    go true false c f g h k = cc
    go true true false f g h k = cc
    go true true true f g h k =
        let z : v ≡ array ds (data_of vs) = cc in
        (z, omega (arith, ltb-true 0 (length ds) f), omega (arith, ltb-true (length ds) 9 g), eqb-true (product ds) (length vs) h)

pub array_of-made : (ds : List ℕ) (vs : List Datum) → 1 ≤ length ds → length ds ≤ 8 → product ds ≡ length vs → array_of ds vs ≡ Some (array ds (data_of vs))
array_of-made ds vs h k e = rw (lt-ltb 0 (length ds) (omega (arith, h)), lt-ltb (length ds) 9 (omega (arith, k)), eq-eqb (product ds) (length vs) e) refl

-- an index array has a cell for each of its indices
pub indexed-is : (ds : List ℕ) (ps : List (List ℕ × Datum)) (v : Datum) → index_array ds ps ≡ Some v →
    (all_in_range ds ≡ true) × (v ≡ array ds (data_of (map (λ at. set_of (values_at at ps)) (indices ds)))) × (1 ≤ length ds) × (length ds ≤ 8)
indexed-is ds ps v e = go (all_in_range ds) refl e
  where
    go : (b : Bool) → all_in_range ds ≡ b → (if b then array_of ds (map (λ at. set_of (values_at at ps)) (indices ds)) else None) ≡ Some v →
        (all_in_range ds ≡ true) × (v ≡ array ds (data_of (map (λ at. set_of (values_at at ps)) (indices ds)))) × (1 ≤ length ds) × (length ds ≤ 8)
    go false f k = cc
    go true f k = let r = array_of-is ds (map (λ at. set_of (values_at at ps)) (indices ds)) v k in (f, r.0, r.1, r.2)

-- the order of two naturals is that of the numbers
pub less-naturals : (m n : ℕ) → compare_by op.Less (datum_cmp (natural m) (natural n)) ≡ nat_lt m n
less-naturals m n =
    elim (cases_lt m n) as (λ _. is_lt (nat_cmp m n) ≡ nat_lt m n) [
      | inl h ↦ ap is_lt (sym (nat_cmp_is m n Less h)) ∙ sym (lt-ltb m n h)
      | inr h ↦ not_less (cases_lt n m) h ∙ sym (le-ltb m n h)
    ]
  where
    not_less : (n < m) ⊎ (m ≤ n) → n ≤ m → is_lt (nat_cmp m n) ≡ false
    not_less (inl k) h = ap is_lt (sym (nat_cmp_is m n Greater k))
    not_less (inr k) h = ap is_lt (sym (nat_cmp_is m n Equal (omega (arith, h, k))))

pub equal-naturals : (m n : ℕ) → compare_by op.Equal (datum_cmp (natural m) (natural n)) ≡ nat_eq m n
equal-naturals m n =
    elim (cases_Bool (nat_eq m n)) as (λ _. is_eq (nat_cmp m n) ≡ nat_eq m n) [
      | inl e ↦ ap is_eq (sym (nat_cmp_is m n Equal (eqb-true m n e))) ∙ sym e
      | inr e ↦ apart (cases_lt m n) (eqb-false m n e) ∙ sym e
    ]
  where
    apart : (m < n) ⊎ (n ≤ m) → (m ≡ n → ⊥) → is_eq (nat_cmp m n) ≡ false
    apart (inl h) k = ap is_eq (sym (nat_cmp_is m n Less h))
    apart (inr h) k = ap is_eq (sym (nat_cmp_is m n Greater (omega (arith, h, k))))

-- values that compare as equal are one
pub equal-is : (v w : Datum) → compare_by op.Equal (datum_cmp v w) ≡ true → v ≡ w
equal-is v w = (equal_decides v w).0

-- the value of the indices of an array of rank 1 is its only number
pub index_one : (ds : List ℕ) (n : ℕ) → length ds ≡ 1 → n ≡ get_or ds 0 n → index_value ds ≡ natural n
index_one [] n h e = absurd (omega (arith, h))
index_one (d ∷ []) n h e = ap natural (sym e)
index_one (d ∷ c ∷ ds) n h e = absurd (omega (arith, h))

-- and of a higher rank the tuple of them
pub index_more : (ds : List ℕ) → 2 ≤ length ds → index_value ds ≡ tuple (data_of (map natural ds))
index_more [] h = absurd (omega (arith, h))
index_more (d ∷ []) h = absurd (omega (arith, h))
index_more (d ∷ c ∷ ds) h = refl

pub length_indexed : (ds : List ℕ) → length (map natural ds) ≡ length ds
length_indexed ds = length-map ds natural
