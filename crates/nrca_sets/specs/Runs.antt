-- The runs of pairs with equal first numbers.
use Rattle.std.specs.Prelude.{ℕ, suc, nat_lt, List, [], ◌∷◌, length, map}
use Rattle.std.specs.List.{filter}
use Rattle.aql_value.specs.Lists.{below}

-- the first number of a pair as an index of one number
abbrev pub first_index : ℕ × ℕ → List ℕ
first_index p = p.0 ∷ []

-- how many pairs have a first number below n
abbrev pub count_below : ℕ → List (ℕ × ℕ) → ℕ
count_below n ps = length (filter (λ p. nat_lt p.0 n) ps)

-- how many pairs have a first number below each of 0 to n
abbrev pub run_starts : ℕ → List (ℕ × ℕ) → List ℕ
run_starts n ps = map (λ i. count_below i ps) (below (suc n))
