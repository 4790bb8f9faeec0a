-- What the values of runs of the members of a loop and of the cells of a tabulation come to.
use Rattle.std.specs.Prelude.{ℕ, ◌++◌, ◌∷◌, [], List, map, sum, Option, Some}
use Rattle.std.specs.Option.{option_map}
use Rattle.aql_value.specs.Datum.{Datum, natural}
use Rattle.aql_value.specs.Arith.{if_fits, natural_sum}
use Rattle.aql_value.specs.Lists.{below}
use Rattle.aql_value.specs.Operations.{as_natural, as_set}
use Rattle.aql_value.specs.Canon.{canon}
use Rattle.aql_value.specs.Partial.{◌>>=◌, each, concat}
use Rattle.nrca_loops.specs.declared.members.Members.{Members}
use Rattle.nrca_loops.specs.declared.members.Members.TheVariants.{Below, Listed, Both}

-- the members of a loop, ascending
abbrev pub member_list : Members → List Datum
member_list (Below n) = map natural (below n)
member_list (Listed set) = set
member_list (Both a b) = canon (a ++ b)

-- the sum of values, undefined past 2^128-1 and where one is no natural
abbrev pub sum_value : Option (List Datum) → Option ℕ
sum_value o = o >>= each as_natural >>= λ ns. if_fits (sum ns)

-- a sum with one value more
abbrev pub sum_with : Option ℕ → Option Datum → Option ℕ
sum_with s v = s >>= λ m. v >>= as_natural >>= natural_sum m

-- the members of all these sets, one set after the other
abbrev pub all_members : Option (List Datum) → Option (List Datum)
all_members o = o >>= each as_set >>= λ sets. Some (concat sets)

-- the members of one set more
abbrev pub members_with : Option (List Datum) → Option Datum → Option (List Datum)
members_with ms v = ms >>= λ xs. v >>= as_set >>= λ ys. Some (xs ++ ys)

-- a list with one value more
abbrev pub list_with : {A : Type 0} → Option (List A) → Option A → Option (List A)
list_with vs v = vs >>= λ xs. v >>= λ y. Some (xs ++ y ∷ [])

-- the members, where there are some
abbrev pub members_value : Option Members → Option (List Datum)
members_value o = option_map member_list o

-- the sum of two runs that follow each other, the set of their members, and their cells
abbrev pub sums_join : Option ℕ → Option ℕ → Option ℕ
sums_join s t = s >>= λ m. t >>= natural_sum m

-- the set of two sets' members, where both are there
abbrev pub sets_join : Option (List Datum) → Option (List Datum) → Option (List Datum)
sets_join s t = s >>= λ xs. t >>= λ ys. Some (canon (xs ++ ys))

-- the second list behind the first, where both are there
abbrev pub lists_join : {A : Type 0} → Option (List A) → Option (List A) → Option (List A)
lists_join s t = s >>= λ xs. t >>= λ ys. Some (xs ++ ys)

-- the set of the members of all these sets
abbrev pub union_value : Option (List Datum) → Option (List Datum)
union_value o = option_map canon (all_members o)
