-- The definitions, computed at examples.
use Rattle.std.specs.Prelude.{◌≡◌, ℕ, ◌-◌, ◌^◌, true, false, List, [], ◌∷◌, map, Some, None, refl}
use Rattle.std.specs.declared.cmp.Ordering.TheVariants.{Less}
use Rattle.aql_value.specs.Datum.{Datum, natural, truth, tuple, set, array, Table, data_of}
use Rattle.aql_value.specs.Order.{datum_cmp}
use Rattle.aql_value.specs.Canon.{canon}
use Rattle.aql_value.specs.Indices.{indices, cell}
use Rattle.aql_value.specs.Operations.{set_of, index_of, part_of, literal_of, sum_of, dim_of, gen_of, get_of, arith_of}
use Rattle.aql_value.specs.Strict.{Strict, strict_value, strict_turns}
use Rattle.aql_value.specs.declared.ops.ArithOp.TheVariants.{Monus, Quotient}

abbrev numbers : List ℕ → List Datum
numbers ns = map natural ns

abbrev pair : Datum → Datum → Datum
pair v w = tuple (data_of (v ∷ w ∷ []))

abbrev numbers_set : List ℕ → Datum
numbers_set ns = set (data_of (numbers ns))

-- members once each, ascending
members : canon (numbers (3 ∷ 1 ∷ 3 ∷ 2 ∷ 1 ∷ [])) ≡ numbers (1 ∷ 2 ∷ 3 ∷ [])
members = refl

-- {} < {0} < {0, 1}
prefixes : datum_cmp (numbers_set []) (numbers_set (0 ∷ [])) ≡ Less
prefixes = refl

longer : datum_cmp (numbers_set (0 ∷ [])) (numbers_set (0 ∷ 1 ∷ [])) ≡ Less
longer = refl

-- [[1; 9]] < [[2; 0, 0]]
dimensions_first : datum_cmp (array (1 ∷ []) (data_of (numbers (9 ∷ [])))) (array (2 ∷ []) (data_of (numbers (0 ∷ 0 ∷ [])))) ≡ Less
dimensions_first = refl

row_major : indices (2 ∷ 3 ∷ []) ≡ (0 ∷ 0 ∷ []) ∷ (0 ∷ 1 ∷ []) ∷ (0 ∷ 2 ∷ []) ∷ (1 ∷ 0 ∷ []) ∷ (1 ∷ 1 ∷ []) ∷ (1 ∷ 2 ∷ []) ∷ []
unfolding indices
row_major = refl

abbrev grid : Table
grid = record { dims = 2 ∷ 3 ∷ []; cells = numbers (10 ∷ 11 ∷ 12 ∷ 13 ∷ 14 ∷ 15 ∷ []) }

cell_inside : cell grid (1 ∷ 0 ∷ []) ≡ Some (natural 13)
unfolding indices
cell_inside = refl

cell_past : cell grid (0 ∷ 3 ∷ []) ≡ None
unfolding indices
cell_past = refl

cell_short : cell grid (1 ∷ []) ≡ None
unfolding indices
cell_short = refl

-- [[2^127, 4, 0; ]]
huge : literal_of 3 (numbers (2 ^ 127 ∷ 4 ∷ 0 ∷ [])) ≡ Some (array (2 ^ 127 ∷ 4 ∷ 0 ∷ []) (data_of []))
huge = refl

too_few : literal_of 2 (numbers (0 ∷ [])) ≡ None
too_few = refl

too_many_cells : strict_value (Strict.literal 1) (numbers (2 ∷ 5 ∷ [])) ≡ None
too_many_cells = refl

-- {(0, 5), (2, 7), (0, 6)}
abbrev entries : Datum
entries = set_of (pair (natural 0) (natural 5) ∷ pair (natural 2) (natural 7) ∷ pair (natural 0) (natural 6) ∷ [])

grouped : index_of 1 entries ≡ Some (array (3 ∷ []) (data_of (numbers_set (5 ∷ 6 ∷ []) ∷ numbers_set [] ∷ numbers_set (7 ∷ []) ∷ [])))
unfolding indices
grouped = refl

grouped_turns : strict_turns (Strict.index 1) (Some (entries ∷ [])) ≡ 6
unfolding indices
grouped_turns = refl

nothing_grouped : index_of 2 (set_of []) ≡ Some (array (0 ∷ 0 ∷ []) (data_of []))
unfolding indices
nothing_grouped = refl

-- {((1, 0), true), ((0, 1), false)}
grouped_by_two : index_of 2 (set_of (pair (pair (natural 1) (natural 0)) (truth true) ∷ pair (pair (natural 0) (natural 1)) (truth false) ∷ []))
    ≡ Some (array (2 ∷ 2 ∷ []) (data_of (numbers_set [] ∷ set_of (truth false ∷ []) ∷ set_of (truth true ∷ []) ∷ numbers_set [] ∷ [])))
unfolding indices
grouped_by_two = refl

-- {(2^128-1, 0)}
dimension_past : index_of 1 (set_of (pair (natural (2 ^ 128 - 1)) (natural 0) ∷ [])) ≡ None
dimension_past = refl

dimension_past_turns : strict_turns (Strict.index 1) (Some (set_of (pair (natural (2 ^ 128 - 1)) (natural 0) ∷ []) ∷ [])) ≡ 1
dimension_past_turns = refl

third_of_three : part_of 3 3 (tuple (data_of (numbers (7 ∷ 8 ∷ 9 ∷ [])))) ≡ Some (natural 9)
third_of_three = refl

third_of_two : part_of 3 2 (pair (natural 7) (natural 8)) ≡ None
third_of_two = refl

part_nought : part_of 0 2 (pair (natural 7) (natural 8)) ≡ None
part_nought = refl

numbers_below : gen_of (natural 3) ≡ Some (numbers_set (0 ∷ 1 ∷ 2 ∷ []))
numbers_below = refl

two_members : get_of (numbers_set (0 ∷ 1 ∷ [])) ≡ None
two_members = refl

sum_past : sum_of (natural (2 ^ 128 - 1) ∷ natural 1 ∷ []) ≡ None
sum_past = refl

difference : arith_of Monus (natural 3) (natural 5) ≡ Some (natural 0)
difference = refl

by_nought : arith_of Quotient (natural 3) (natural 0) ≡ None
by_nought = refl

rank_two : dim_of 2 (array (2 ∷ 0 ∷ []) (data_of [])) ≡ Some (pair (natural 2) (natural 0))
rank_two = refl

wrong_rank : dim_of 1 (array (2 ∷ 0 ∷ []) (data_of [])) ≡ None
wrong_rank = refl
