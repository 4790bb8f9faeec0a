-- Steps of runs, and runs that follow each other.
use Rattle.std.proofs.Common.{◌≡◌, ℕ, ◌+◌, ◌-◌, ◌<◌, ◌≤◌, List, [], ◌∷◌, ◌++◌, length, take, drop, Option, Some, None, refl, sym, ◌∙◌, ap, arith}
use Rattle.std.specs.Prelude.{slice_get, sum}
use Rattle.std.specs.List.{slice_range}
use Rattle.std.specs.Option.{option_map}
use Rattle.std.proofs.lemmas.List.{append-nil, drop-drop, take_all}
use Rattle.std.proofs.lemmas.List.Sums.{sum_by-append}
use Rattle.std.proofs.lemmas.Bool.Decides.{nat_tests}
use Rattle.aql_value.specs.Canon.{canon}
use Rattle.aql_value.specs.Laws.Set.{canon_append}
use Rattle.aql_value.specs.Datum.{Datum}
use Rattle.aql_value.specs.Arith.{if_fits, natural_sum}
use Rattle.aql_value.specs.Operations.{as_natural, as_set}
use Rattle.aql_value.specs.Partial.{◌>>=◌, each, concat, total}
use Rattle.aql_value.specs.Laws.Partial.{each-append, total-append, then-none}
use Rattle.aql_value.specs.Laws.Lists.{concat-append, range_more}
use Rattle.std.proofs.Math.Seq.{take-add}
use Rattle.nrca_loops.specs.Runs.{sum_value, sum_with, all_members, members_with, list_with, sums_join, sets_join, lists_join, union_value}

-- f of one element more, whatever it gives
pub each-more : {X Y : Type 0} (f : X → Option Y) (xs : List X) (x : X) → each f (xs ++ x ∷ []) ≡ list_with (each f xs) (f x)
each-more f xs x = each-append f xs (x ∷ []) ∙ go (each f xs) (f x)
  where
    go : {Y : Type 0} (o : Option (List Y)) (p : Option Y) → (o >>= λ ys. (p >>= λ y. Some (y ∷ [])) >>= λ zs. Some (ys ++ zs)) ≡ list_with o p
    go None p = refl
    go (Some ys) None = refl
    go (Some ys) (Some y) = refl

pub total-push : {X : Type 0} (g : X → ℕ) (xs : List X) (x : X) → total g (xs ++ x ∷ []) ≡ total g xs + g x
total-push g xs x = omega (arith, total-append g xs (x ∷ []))

module _ {X : Type 0} (f : X → Option Datum) (g : X → ℕ) (xs : List X) (a i : ℕ) (x : X) (low : a ≤ i) (at : slice_get xs i ≡ Some x) where
  pub each-range_more : each f (slice_range xs a (i + 1)) ≡ list_with (each f (slice_range xs a i)) (f x)
  each-range_more = ap (each f) (range_more xs a i x low at) ∙ each-more f (slice_range xs a i) x

  pub total-range_more : total g (slice_range xs a (i + 1)) ≡ total g (slice_range xs a i) + g x
  total-range_more = ap (total g) (range_more xs a i x low at) ∙ total-push g (slice_range xs a i) x

-- ranges that follow each other
pub range_split : {X : Type 0} (xs : List X) (a m b : ℕ) → a ≤ m → m ≤ b → slice_range xs a b ≡ slice_range xs a m ++ slice_range xs m b
range_split xs a m b h k =
    ap (λ n. take n (drop a xs)) (let e : b - a ≡ (m - a) + (b - m) = omega arith in e)
    ∙ take-add (m - a) (b - m) (drop a xs)
    ∙ ap (λ l. take (m - a) (drop a xs) ++ take (b - m) l) (drop-drop (m - a) a xs ∙ ap (λ n. drop n xs) (let e : a + (m - a) ≡ m = omega arith in e))

-- the turns up to an element and at it are among those of the run
pub total-range_within : {X : Type 0} (g : X → ℕ) (xs : List X) (a i b : ℕ) (x : X) → a ≤ i → i < b → slice_get xs i ≡ Some x → total g (slice_range xs a i) + g x ≤ total g (slice_range xs a b)
total-range_within g xs a i b x low high e =
    omega (arith, ap (total g) (range_split xs a (i + 1) b (omega (arith, low)) (omega (arith, high))), total-append g (slice_range xs a (i + 1)) (slice_range xs (i + 1) b), ap (total g) (range_more xs a i x low e), total-push g (slice_range xs a i) x)

sum-push : (ns : List ℕ) (n : ℕ) → sum (ns ++ n ∷ []) ≡ sum ns + n
sum-push ns n = sum_by-append (λ x. x) ns (n ∷ []) ∙ omega arith

fits_more : (a n : ℕ) → if_fits (a + n) ≡ (if_fits a >>= λ m. if_fits (m + n))
fits_more a n = grind (arith, nat_tests)

-- a sum with one value more
pub sum_value-with : (vs : Option (List Datum)) (v : Option Datum) → sum_value (list_with vs v) ≡ sum_with (sum_value vs) v
sum_value-with None v = refl
sum_value-with (Some xs) None = sym (then-none (sum_value (Some xs)) (λ m. None) (λ m e. refl))
sum_value-with (Some xs) (Some y) = ap (λ o. o >>= λ ns. if_fits (sum ns)) (each-more as_natural xs y) ∙ go (each as_natural xs) (as_natural y)
  where
    go : (o : Option (List ℕ)) (p : Option ℕ) → ((o >>= λ ns. p >>= λ n. Some (ns ++ n ∷ [])) >>= λ ns. if_fits (sum ns)) ≡ ((o >>= λ ns. if_fits (sum ns)) >>= λ m. p >>= natural_sum m)
    go None p = refl
    go (Some ns) None = sym (then-none (if_fits (sum ns)) (λ m. None) (λ m e. refl))
    go (Some ns) (Some n) = ap if_fits (sum-push ns n) ∙ fits_more (sum ns) n

pub all_members-with : (vs : Option (List Datum)) (v : Option Datum) → all_members (list_with vs v) ≡ members_with (all_members vs) v
all_members-with None v = refl
all_members-with (Some xs) None = sym (then-none (all_members (Some xs)) (λ m. None) (λ m e. refl))
all_members-with (Some xs) (Some y) = ap (λ o. o >>= λ sets. Some (concat sets)) (each-more as_set xs y) ∙ go (each as_set xs) (as_set y)
  where
    go : (o : Option (List (List Datum))) (p : Option (List Datum)) → ((o >>= λ ss. p >>= λ s. Some (ss ++ s ∷ [])) >>= λ ss. Some (concat ss)) ≡ ((o >>= λ ss. Some (concat ss)) >>= λ ms. p >>= λ ys. Some (ms ++ ys))
    go None p = refl
    go (Some ss) None = refl
    go (Some ss) (Some s) = ap Some (concat-append ss (s ∷ []) ∙ ap (λ l. concat ss ++ l) (append-nil s))

-- a whole list as a range
pub range_whole : {X : Type 0} (xs : List X) (n : ℕ) → n ≡ length xs → slice_range xs 0 n ≡ xs
range_whole xs n e = take_all (n - 0) xs (omega (arith, e))

-- no members
pub range_none : {X : Type 0} (xs : List X) (a : ℕ) → slice_range xs a a ≡ []
range_none xs a = ap (λ n. take n (drop a xs)) (let e : a - a ≡ 0 = omega arith in e)

-- what a run gives is what its two parts give, and the same of the turns
module _ {X : Type 0} (xs : List X) (a m b : ℕ) (low : a ≤ m) (high : m ≤ b) where
  pub each-range_split : {Y : Type 0} (f : X → Option Y) → lists_join (each f (slice_range xs a m)) (each f (slice_range xs m b)) ≡ each f (slice_range xs a b)
  each-range_split f = sym (ap (each f) (range_split xs a m b low high) ∙ each-append f (slice_range xs a m) (slice_range xs m b))

  pub total-range_split : (g : X → ℕ) → total g (slice_range xs a m) + total g (slice_range xs m b) ≡ total g (slice_range xs a b)
  total-range_split g = sym (ap (total g) (range_split xs a m b low high) ∙ total-append g (slice_range xs a m) (slice_range xs m b))

fits_both : (a b : ℕ) → if_fits (a + b) ≡ (if_fits a >>= λ m. if_fits b >>= natural_sum m)
fits_both a b = grind (arith, nat_tests)

-- the sum of two runs
pub sum_value-join : (o p : Option (List Datum)) → sums_join (sum_value o) (sum_value p) ≡ sum_value (lists_join o p)
sum_value-join None p = refl
sum_value-join (Some xs) None = then-none (sum_value (Some xs)) (λ m. None) (λ m e. refl)
sum_value-join (Some xs) (Some ys) = sym (ap (λ o. o >>= λ ns. if_fits (sum ns)) (each-append as_natural xs ys) ∙ go (each as_natural xs) (each as_natural ys))
  where
    go : (o p : Option (List ℕ)) → ((o >>= λ ns. p >>= λ ks. Some (ns ++ ks)) >>= λ ns. if_fits (sum ns)) ≡ sums_join (o >>= λ ns. if_fits (sum ns)) (p >>= λ ns. if_fits (sum ns))
    go None p = refl
    go (Some ns) None = sym (then-none (if_fits (sum ns)) (λ m. None) (λ m e. refl))
    go (Some ns) (Some ks) = ap if_fits (sum_by-append (λ x. x) ns ks) ∙ fits_both (sum ns) (sum ks)

-- the set of the members of two runs
pub union_value-join : (o p : Option (List Datum)) → sets_join (union_value o) (union_value p) ≡ union_value (lists_join o p)
union_value-join None p = refl
union_value-join (Some xs) None = then-none (union_value (Some xs)) (λ m. None) (λ m e. refl)
union_value-join (Some xs) (Some ys) = sym (ap (λ o. option_map canon (o >>= λ sets. Some (concat sets))) (each-append as_set xs ys) ∙ go (each as_set xs) (each as_set ys))
  where
    go : (o p : Option (List (List Datum))) →
        option_map canon ((o >>= λ ss. p >>= λ ts. Some (ss ++ ts)) >>= λ sets. Some (concat sets))
        ≡ sets_join (option_map canon (o >>= λ sets. Some (concat sets))) (option_map canon (p >>= λ sets. Some (concat sets)))
    go None p = refl
    go (Some ss) None = refl
    go (Some ss) (Some ts) = ap (λ l. Some (canon l)) (concat-append ss ts) ∙ ap Some (sym (canon_append (concat ss) (concat ts)))
