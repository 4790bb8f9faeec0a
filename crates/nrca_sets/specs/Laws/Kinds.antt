-- Sorted numbers, pairs of numbers and values as sets.
use Rattle.std.specs.Prelude.{◌≡◌, ℕ, nat_eq, List, [], ◌∷◌, length, map, refl}
use Rattle.std.proofs.Common.{ap}
use Rattle.std.specs.Ordering.{nat_cmp, ordering_then, ordering_reverse, on, eq_by_cmp}
use Rattle.std.specs.List.Sorted.{IsStrictlySortedBy}
use Rattle.std.specs.Cmp.{both_tied, unsigned_ties}
use Rattle.std.specs.Cmp.Lexicographic.{slice_cmp}
use Rattle.aql_value.specs.Datum.{natural, data_of}
use Rattle.aql_value.specs.Canon.{canon, IsAscending}
use Rattle.aql_value.specs.Meaning.{datum}
use Rattle.aql_value.specs.Order.{datum_cmp, data_cmp}
use Rattle.aql_value.specs.Laws.Order.{then_equal}
use Rattle.aql_value.specs.declared.value.Value.{Value}
use Rattle.nrca_sets.specs.Distinct.{IsDistinct}
use Rattle.nrca_sets.specs.Pairs.{pair_value, pair_cmp, pair_eq}
use Rattle.nrca_sets.specs.Laws.Packed.{distinct_canon, list_cmp, ascending_back}
use Rattle.nrca_sets.specs.Rows.{kinds_cmp}

-- pairs stand in the order of their values
pub pair_order : (p q : ℕ × ℕ) → datum_cmp (pair_value p) (pair_value q) ≡ pair_cmp p q
pair_order p q = ap (ordering_then (nat_cmp p.0 q.0)) (then_equal (nat_cmp p.1 q.1))

pub pair_ties : (p q : ℕ × ℕ) → pair_eq p q ≡ eq_by_cmp pair_cmp p q
pair_ties p q = both_tied _ _ (nat_cmp p.0 q.0) (nat_cmp p.1 q.1) (unsigned_ties p.0 q.0) (unsigned_ties p.1 q.1)

pub numbers_distinct : (xs ys : List ℕ) → IsDistinct nat_cmp nat_eq xs ys → map natural ys ≡ canon (map natural xs)
numbers_distinct xs ys d = distinct_canon natural nat_cmp (λ x y. refl) nat_eq unsigned_ties xs ys d

pub pairs_distinct : (xs ys : List (ℕ × ℕ)) → IsDistinct pair_cmp pair_eq xs ys → map pair_value ys ≡ canon (map pair_value xs)
pairs_distinct xs ys d = distinct_canon pair_value pair_cmp pair_order pair_eq pair_ties xs ys d

pub values_distinct : (xs ys : List Value) → IsDistinct (on datum datum_cmp) (eq_by_cmp (on datum datum_cmp)) xs ys → map datum ys ≡ canon (map datum xs)
values_distinct xs ys d = distinct_canon datum (on datum datum_cmp) (λ x y. refl) (eq_by_cmp (on datum datum_cmp)) (λ x y. refl) xs ys d

pub numbers_cmp : (xs ys : List ℕ) → data_cmp (data_of (map natural xs)) (data_of (map natural ys)) ≡ slice_cmp nat_cmp xs ys
numbers_cmp = list_cmp natural nat_cmp (λ x y. refl)

pub pairs_cmp : (xs ys : List (ℕ × ℕ)) → data_cmp (data_of (map pair_value xs)) (data_of (map pair_value ys)) ≡ slice_cmp pair_cmp xs ys
pairs_cmp = list_cmp pair_value pair_cmp pair_order

pub values_cmp : (xs ys : List Value) → data_cmp (data_of (map datum xs)) (data_of (map datum ys)) ≡ slice_cmp (on datum datum_cmp) xs ys
values_cmp = list_cmp datum (on datum datum_cmp) (λ x y. refl)

-- a natural comes before a pair
pub number_before_pair : (ns : List ℕ) (ps : List (ℕ × ℕ)) → data_cmp (data_of (map natural ns)) (data_of (map pair_value ps)) ≡ kinds_cmp (length ns) (length ps)
number_before_pair [] [] = refl
number_before_pair [] (p ∷ ps) = refl
number_before_pair (n ∷ ns) [] = refl
number_before_pair (n ∷ ns) (p ∷ ps) = refl

pub pair_after_number : (ps : List (ℕ × ℕ)) (ns : List ℕ) → data_cmp (data_of (map pair_value ps)) (data_of (map natural ns)) ≡ ordering_reverse (kinds_cmp (length ns) (length ps))
pair_after_number [] [] = refl
pair_after_number [] (n ∷ ns) = refl
pair_after_number (p ∷ ps) [] = refl
pair_after_number (p ∷ ps) (n ∷ ns) = refl

-- pairs whose values ascend ascend
pub pairs_ascend : (ps : List (ℕ × ℕ)) → IsAscending (map pair_value ps) → IsStrictlySortedBy pair_cmp ps
pairs_ascend ps h = ascending_back pair_value pair_cmp pair_order ps h

pub numbers_ascend : (ns : List ℕ) → IsAscending (map natural ns) → IsStrictlySortedBy nat_cmp ns
numbers_ascend ns h = ascending_back natural nat_cmp (λ x y. refl) ns h
