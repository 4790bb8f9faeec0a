-- Terms inside a tabulation of an index below a number: spans, firm terms, and one that is not sure to have a value.
use Rattle.std.proofs.Common.{arith}
use Rattle.std.specs.Prelude.{◌≡◌, ◌^◌, ◌+◌, ℕ, zero, suc, Bool, true, false, [], ◌∷◌, Some, refl}
use Rattle.aql_value.specs.declared.ops.ArithOp.TheVariants.{Add, Monus, Mul, Quotient}
use Rattle.aql_value.specs.Datum as datum
use Rattle.aql_value.specs.Datum.{Datum}
use Rattle.aql_ty.specs.Types.{natural}
use Rattle.nrca_term.specs.Term.{Term}
use Rattle.nrca_term.specs.Meaning.{outcome, cden}
use Rattle.nrca_term.specs.Typing.{arg, ctyped, instances, OutcomesHave}
use Rattle.nrca_term.specs.Nodes.{variable, position, number, let_term, arith_term, empty_term, single_term, union_term, sum_term, gen_term, tab_term, sub_term, literal_term}
use Rattle.nrca_term.specs.Facts.{Context, no_facts, facts_at}
use Rattle.nrca_term.specs.Firm.{span, firm, is_defined}
use Rattle.nrca_ranges.specs.Bounds.{Bounds, HasShape, unknown, number as of_number, Ranges, at_root, with_own}
use Rattle.nrca_ranges.specs.Certain.{certain}
use Rattle.nrca_ranges.specs.Entered.{is_shaped}
use Rattle.nrca_ranges.specs.Intervals.{between}
use Rattle.nrca_ranges.specs.Shapes.{Tells}
use Rattle.nrca_ranges.specs.Transfer.{bounds, ranges_at}
use Rattle.nrca_defined.specs.Defined.{IsDefinedAt}

-- no position has a value
abbrev none_defined : ℕ → Bool
none_defined n = false

-- nothing is known of any value
abbrev nothing : Ranges
nothing = at_root []

-- nor of that of a variable
abbrev one_variable : Ranges
one_variable = with_own nothing (unknown ∷ [])

-- the facts of the body of `[[b | \i<n]]`
abbrev below : ℕ → Term → Context
below n b = facts_at (tab_term (number n ∷ []) b) (1 ∷ [])

abbrev sum : Term
sum = arith_term Add (variable 0) (variable 0)

abbrev square : Term
square = arith_term Mul (variable 0) (variable 0)

abbrev by_index : Term
by_index = arith_term Quotient (number 10) (variable 0)

abbrev by_more : Term
by_more = arith_term Quotient (number 10) (arith_term Add (variable 0) (number 1))

abbrev cell : Term
cell = sub_term (tab_term (number 3 ∷ []) (variable 0)) (variable 0 ∷ [])

abbrev by_seven : Term
by_seven = arith_term Quotient (variable 0) (number 7)

-- an array of one dimension, of two cells that are the index
abbrev two_cells : Term → Term
two_cells d = literal_term (d ∷ []) (variable 0 ∷ variable 0 ∷ [])

-- `i+i` below 1000 is from 0 to 1998
sum_below_1000 : span (below 1000 sum) sum ≡ Some (0, 1998)
sum_below_1000 = refl

-- and that is all that is known of it
sum_known : bounds nothing (below 1000 sum) sum ≡ of_number (between 0 1998)
sum_known = refl

-- `10/i` below 3 has no span and is not firm
quotient_by_index : firm none_defined (below 3 by_index) by_index ≡ false
quotient_by_index = refl

-- nor is it certain to have a value, though it is from 0 to 10 where it has one; `10/(i+1)` is certain, and not firm
quotient_uncertain : certain nothing (below 3 by_index) by_index ≡ false
quotient_uncertain = refl

quotient_known : bounds nothing (below 3 by_index) by_index ≡ of_number (between 0 10)
quotient_known = refl

quotient_by_more : certain nothing (below 3 by_more) by_more ≡ true
quotient_by_more = refl

quotient_not_firm : firm none_defined (below 3 by_more) by_more ≡ false
quotient_not_firm = refl

-- `i/7` below 3 is firm
quotient_by_seven : firm none_defined (below 3 by_seven) by_seven ≡ true
quotient_by_seven = refl

-- `i*i` below 2^64 is firm, and below 2^64+1 it is not: there its greatest number is 2^128
square_below : firm none_defined (below (2 ^ 64) square) square ≡ true
square_below = refl

square_past : firm none_defined (below (2 ^ 64 + 1) square) square ≡ false
square_past = refl

-- nor is it certain to have a value
square_uncertain : certain nothing (below (2 ^ 64 + 1) square) square ≡ false
square_uncertain = refl

-- `[[2; i, i]]` is certain to have a value, and not firm; of the dimension 3 it is not, nor of a dimension that is more than one number
literal_certain : certain nothing (below 3 (two_cells (number 2))) (two_cells (number 2)) ≡ true
literal_certain = refl

literal_not_firm : firm none_defined (below 3 (two_cells (number 2))) (two_cells (number 2)) ≡ false
literal_not_firm = refl

literal_of_too_few : certain nothing (below 3 (two_cells (number 3))) (two_cells (number 3)) ≡ false
literal_of_too_few = refl

literal_of_an_index : certain nothing (below 3 (two_cells (variable 0))) (two_cells (variable 0)) ≡ false
literal_of_an_index = refl

-- `[[j | \j<3]][i]` below 3 is certain to have a value, and below 4 it is not; it is from 0 to 2
cell_certain : certain nothing (below 3 cell) cell ≡ true
cell_certain = refl

cell_uncertain : certain nothing (below 4 cell) cell ≡ false
cell_uncertain = refl

cell_known : bounds nothing (below 3 cell) cell ≡ of_number (between 0 2)
cell_known = refl

-- the type of a number, among variables that are one number
number_typed : (n : ℕ) → ctyped (instances []) (natural ∷ []) (number n) natural
number_typed n = (tt, [], ([], refl, (refl, refl)), refl)

variable_typed : ctyped (instances []) (natural ∷ []) (variable 0) natural
variable_typed = (tt, [], (refl, refl), refl)

by_index_typed : ctyped (instances []) (natural ∷ []) by_index natural
by_index_typed = (tt, arg [] natural ∷ arg [] natural ∷ [], (natural ∷ natural ∷ [], refl, (refl, refl)), (arg [] natural, arg [] natural ∷ [], refl, refl, number_typed 10, (arg [] natural, [], refl, refl, variable_typed, refl)))

-- no position has a shape, and none has a value
no_shapes : Tells [] []
no_shapes = (λ n s v e k. no_outcome n s v k, none_there)
  where
    no_outcome : (n : ℕ) (s : Bounds) (v : Datum) → outcome [] n ≡ Some v → HasShape s v
    no_outcome zero s v k = cc
    no_outcome (suc n) s v k = cc

    none_there : (n : ℕ) → is_shaped [] n ≡ is_defined [] n
    none_there zero = refl
    none_there (suc n) = refl

-- no position has a value that is not of its types
no_outcomes : OutcomesHave (instances []) []
no_outcomes zero T v g e = cc
no_outcomes (suc n) T v g e = cc

-- `10/i` below 3 is not sure to have a value: it has none at 0
quotient_may_fail : IsDefinedAt one_variable (below 3 by_index) by_index → ⊥
unfolding IsDefinedAt
quotient_may_fail h =
    let v = h [] [] (natural ∷ []) (datum.natural 0 ∷ []) natural no_outcomes ((0, refl), tt) no_shapes ((refl, ((omega arith, refl), tt)), (tt, tt)) by_index_typed in
    none_is v.0 v.1
  where
    none_is : (d : Datum) → cden [] (datum.natural 0 ∷ []) by_index ≡ Some d → ⊥
    none_is d e = cc

square_typed : ctyped (instances []) (natural ∷ []) square natural
square_typed = (tt, arg [] natural ∷ arg [] natural ∷ [], (natural ∷ natural ∷ [], refl, (refl, refl)), (arg [] natural, arg [] natural ∷ [], refl, refl, variable_typed, (arg [] natural, [], refl, refl, variable_typed, refl)))

-- `i*i` below 2^64+1 is not sure to have a value: it has none at 2^64
square_may_fail : IsDefinedAt one_variable (below (2 ^ 64 + 1) square) square → ⊥
unfolding IsDefinedAt
square_may_fail h =
    let v = h [] [] (natural ∷ []) (datum.natural (2 ^ 64) ∷ []) natural no_outcomes ((2 ^ 64, refl), tt) no_shapes ((refl, ((omega arith, refl), tt)), (tt, tt)) square_typed in
    none_is v.0 v.1
  where
    none_is : (d : Datum) → cden [] (datum.natural (2 ^ 64) ∷ []) square ≡ Some d → ⊥
    none_is d e = cc

-- position 1 is 1000
abbrev thousand : Ranges
thousand = at_root (Some (of_number (between 1000 1000)) ∷ [])

-- what is known in the body of `[[10/(i+1) | \i<@1]]`: the index is from 0 to 999, and the body is certain to have a value, though it is not firm
abbrev by_size : Term
by_size = tab_term (position 1 ∷ []) by_more

index_known : (ranges_at thousand no_facts by_size (1 ∷ [])).variables ≡ of_number (between 0 999) ∷ []
index_known = refl

size_certain : certain (ranges_at thousand no_facts by_size (1 ∷ [])) (facts_at by_size (1 ∷ [])) by_more ≡ true
size_certain = refl

size_not_firm : firm (is_shaped thousand.positions) (facts_at by_size (1 ∷ [])) by_more ≡ false
size_not_firm = refl

-- so is the whole tabulation; `[[10/i | \i<@1]]` is not
tabulation_certain : certain thousand no_facts by_size ≡ true
tabulation_certain = refl

tabulation_uncertain : certain thousand no_facts (tab_term (position 1 ∷ []) by_index) ≡ false
tabulation_uncertain = refl

-- `let x = @1 in 10/x` is certain to have a value, and `let x = @1 in 10/(x-@1)` is not
let_certain : certain thousand no_facts (let_term (position 1) by_index) ≡ true
let_certain = refl

let_uncertain : certain thousand no_facts (let_term (position 1) (arith_term Quotient (number 10) (arith_term Monus (variable 0) (position 1)))) ≡ false
let_uncertain = refl

-- of a variable that binds an index below no number nothing is below 0 either: the index is 0 alone
empty_index : (ranges_at nothing no_facts (tab_term (number 0 ∷ []) sum) (1 ∷ [])).variables ≡ of_number (between 0 0) ∷ []
empty_index = refl

-- a member of `gen!@1` is from 0 to 999, and one of `{@1}` is 1000
member_known : (ranges_at thousand no_facts (sum_term (gen_term (position 1)) by_more) (1 ∷ [])).variables ≡ of_number (between 0 999) ∷ []
member_known = refl

single_known : (ranges_at thousand no_facts (sum_term (single_term (position 1)) by_index) (1 ∷ [])).variables ≡ of_number (between 1000 1000) ∷ []
single_known = refl

-- behind its binder nothing is known of a variable: the second part of the union stands at the root
behind_binder : (ranges_at thousand no_facts (union_term (let_term (position 1) (single_term (variable 0))) (empty_term)) (1 ∷ [])).variables ≡ []
behind_binder = refl
