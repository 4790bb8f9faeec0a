-- What is told of intervals and of sets, and where the upper ends stop.
use Rattle.std.proofs.Common.{◌≡◌, ◌-◌, ◌^◌, [], ◌∷◌, refl, arith}
use Rattle.aql_value.specs.Datum.{Datum, natural, set, data_of}
use Rattle.nrca_ranges.specs.Bounds.{HasShape, number, members}
use Rattle.nrca_ranges.specs.Intervals.{between, hull, union_count, loop_count, loop_sum}

-- one to three members and two of another set are together two to five
two_sets : union_count (between 1 3) (between 2 2) ≡ between 2 5
two_sets = refl

-- an upper end stops at 2^128-1
no_upper_end : union_count (between 0 (2 ^ 128 - 1)) (between 1 1) ≡ between 1 (2 ^ 128 - 1)
no_upper_end = refl

-- two or three sets of one to four members are together up to twelve
over_a_set : loop_count (between 2 3) (between 1 4) ≡ between 0 12
over_a_set = refl

-- two or three numbers from 5 to 9 are together 10 to 27
sum_over_a_set : loop_sum (between 2 3) (between 5 9) ≡ between 10 27
sum_over_a_set = refl

-- a branch from 1 to 3 and one from 7 to 8
two_branches : hull (between 1 3) (between 7 8) ≡ between 1 8
two_branches = refl

-- the set of 1 and 2
abbrev one_and_two : Datum
one_and_two = set (data_of (natural 1 ∷ natural 2 ∷ []))

-- it has two members, each from 1 to 2
has_two : HasShape (members (between 2 2) (number (between 1 2))) one_and_two
has_two = (data_of (natural 1 ∷ natural 2 ∷ []), refl, (omega arith, λ l. omega arith), ((1, refl, (omega arith, λ l. omega arith)), ((2, refl, (omega arith, λ l. omega arith)), tt)))
