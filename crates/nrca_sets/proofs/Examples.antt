-- Worked examples of the definitions.
use Rattle.std.proofs.Common.{◌≡◌, true, [], ◌∷◌, map, Some, None, refl}
use Rattle.std.specs.declared.cmp.Ordering.TheVariants.{Less, Greater}
use Rattle.aql_value.specs.Canon.{canon}
use Rattle.aql_value.specs.Datum.{natural, truth, tuple, data_of}
use Rattle.nrca_sets.specs.Bounded.{most_kept}
use Rattle.nrca_sets.specs.Pairs.{pair_value, pair_cmp, as_numbers, number_at, pair_at}
use Rattle.nrca_sets.specs.Rows.{kinds_cmp}

-- the set of 3, 1 and 3 has two members
numbers : canon (map natural (3 ∷ 1 ∷ 3 ∷ [])) ≡ natural 1 ∷ natural 3 ∷ []
numbers = refl

-- pairs stand by the first number, and then by the second
pairs : canon (map pair_value ((2, 0) ∷ (1, 9) ∷ (1, 2) ∷ (2, 0) ∷ [])) ≡ map pair_value ((1, 2) ∷ (1, 9) ∷ (2, 0) ∷ [])
pairs = refl

second_decides : pair_cmp (1, 9) (1, 2) ≡ Greater
second_decides = refl

-- a natural stands before a pair, whatever the numbers
mixed : canon (pair_value (0, 0) ∷ natural 7 ∷ []) ≡ natural 7 ∷ pair_value (0, 0) ∷ []
mixed = refl

shorter_kind : kinds_cmp 5 1 ≡ Less
shorter_kind = refl

-- a pair with a truth value, and a triple, are no pairs of naturals
with_truth : as_numbers (tuple (data_of (truth true ∷ natural 1 ∷ []))) ≡ None
with_truth = refl

triple : as_numbers (tuple (data_of (natural 1 ∷ natural 2 ∷ natural 3 ∷ []))) ≡ None
triple = refl

-- places are counted from 0, and past the end there is nothing
second_member : number_at (map natural (4 ∷ 6 ∷ [])) 1 ≡ Some 6
second_member = refl

past_the_end : pair_at (map pair_value ((4, 6) ∷ [])) 1 ≡ None
past_the_end = refl

-- of few values 1,024 may be kept
least : most_kept (map natural (3 ∷ 1 ∷ 3 ∷ [])) ≡ 1024
least = refl
