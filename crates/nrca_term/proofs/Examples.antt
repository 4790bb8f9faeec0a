-- The definitions, computed: values, turns, places, spans, and a left side with its right side for each rule.
use Rattle.std.specs.Prelude.{◌≡◌, true, false, [], ◌∷◌, Some, None, refl}
use Rattle.std.proofs.Common.{arith, inl, inr}
use Rattle.aql_value.specs.declared.ops.ArithOp.TheVariants.{Add, Mul, Quotient, Remainder}
use Rattle.aql_value.specs.declared.ops.CompareOp.TheVariants as compare_op
use Rattle.aql_value.specs.Datum as datum
use Rattle.aql_value.specs.Datum.{Datum, natural, data_of}
use Rattle.aql_value.specs.Indices.{indices}
use Rattle.nrca_term.specs.declared.trace.Rule.TheVariants.{B1, K1, I1, I2, L1, L2, L3, P1, P2, S1, S2, S3, S4, S5, S6, S7, S8, S9, A1, A2, A3, A4, A5, A6, A7, C1, C2, C3, C4, N1, N2}
use Rattle.nrca_term.specs.Term.{Term, Form, weight_of}
use Rattle.nrca_term.specs.Nodes.{variable, position, number, truth_term, bottom_term, let_term, if_term, default_term, tuple_term, proj_term, arith_term, compare_term, less_term, empty_term, single_term, union_term, big_union_term, sum_term, gen_term, get_term, tab_term, sub_term, dim_term, index_term, literal_term}
use Rattle.nrca_term.specs.Meaning.{cden}
use Rattle.nrca_term.specs.Places.{reach}
use Rattle.nrca_term.specs.Turns.{settle}
use Rattle.nrca_term.specs.Subst.{subst_term}
use Rattle.nrca_term.specs.Facts.{facts_at}
use Rattle.nrca_term.specs.Firm.{span, firm, sure}
use Rattle.nrca_term.specs.Measure.{pairs_of}
use Rattle.nrca_term.specs.Rules.{Redex, arithmetic, numbers, inside}

-- the squares of 0 to 3, as a set
squares : Term
squares = big_union_term (gen_term (number 4)) (single_term (arith_term Mul (variable 0) (variable 0)))

squares_value : cden [] [] squares ≡ Some (datum.set (data_of (natural 0 ∷ natural 1 ∷ natural 4 ∷ natural 9 ∷ [])))
unfolding squares
squares_value = refl

squares_turns : settle [] [] squares ≡ 8
unfolding squares
squares_turns = refl

-- the quotients of 10 by 0, 1 and 2
quotients : Term
quotients = tab_term (number 3 ∷ []) (arith_term Quotient (number 10) (variable 0))

-- one cell is undefined, so the array is, and so is its length
length_undefined : cden [] [] (dim_term 1 quotients) ≡ None
unfolding indices quotients
length_undefined = refl

-- but its cells are counted
length_turns : settle [] [] (dim_term 1 quotients) ≡ 3
unfolding indices quotients
length_turns = refl

-- each member counts once: the remainders of 0 to 9 by 2 are two
remainders : Term
remainders = big_union_term (gen_term (number 10)) (single_term (arith_term Remainder (variable 0) (number 2)))

remainders_counted : cden [] [] (sum_term remainders (number 1)) ≡ Some (natural 2)
unfolding remainders
remainders_counted = refl

-- 10 of the generated set, 10 of the loop over it, 2 of the sum
remainders_turns : settle [] [] (sum_term remainders (number 1)) ≡ 22
unfolding remainders
remainders_turns = refl

-- the sum of the numbers below 1000
thousand : Term
thousand = sum_term (gen_term (number 1000)) (variable 0)

thousand_value : cden [] [] thousand ≡ Some (natural 499500)
unfolding thousand
thousand_value = refl

-- 1,000 turns of the generated set, and 1,000 of the sum
thousand_turns : settle [] [] thousand ≡ 2000
unfolding thousand
thousand_turns = refl

-- an index array: 5 and 6 at 0, nothing at 1, 7 at 2
pairs : Term
pairs = union_term (single_term (tuple_term (number 0 ∷ number 5 ∷ []))) (union_term (single_term (tuple_term (number 2 ∷ number 7 ∷ []))) (single_term (tuple_term (number 0 ∷ number 6 ∷ []))))

index_value : cden [] [] (index_term 1 pairs)
    ≡ Some (datum.array (3 ∷ []) (data_of (datum.set (data_of (natural 5 ∷ natural 6 ∷ [])) ∷ datum.set (data_of []) ∷ datum.set (data_of (natural 7 ∷ [])) ∷ [])))
unfolding indices pairs
index_value = refl

-- 3 members and 3 cells
index_turns : settle [] [] (index_term 1 pairs) ≡ 6
unfolding indices pairs
index_turns = refl

-- only the branch taken is evaluated, and a set with an undefined member is undefined
branch_value : cden (None ∷ []) [] (if_term (compare_term compare_op.Equal (number 1) (number 1)) (number 2) (position 1)) ≡ Some (natural 2)
branch_value = refl

undefined_member : cden (None ∷ []) [] (single_term (position 1)) ≡ None
undefined_member = refl

-- positions count from 1
second_position : cden (None ∷ Some (natural 7) ∷ []) [] (position 2) ≡ Some (natural 7)
second_position = refl

no_position : cden (Some (natural 7) ∷ []) [] (position 0) ≡ None
no_position = refl

-- 10/i with 0 in its place where it is undefined
defaults : Term
defaults = tab_term (number 3 ∷ []) (default_term (arith_term Quotient (number 10) (variable 0)) (number 0))

defaults_value : cden [] [] defaults ≡ Some (datum.array (3 ∷ []) (data_of (natural 0 ∷ natural 10 ∷ natural 5 ∷ [])))
unfolding defaults indices
defaults_value = refl

-- the second part is entered at the index 0 alone
second_part_reached : reach [] [] defaults (1 ∷ 1 ∷ []) ≡ (natural 0 ∷ []) ∷ []
unfolding defaults indices
second_part_reached = refl

first_part_reached : reach [] [] defaults (1 ∷ 0 ∷ []) ≡ (natural 0 ∷ []) ∷ (natural 1 ∷ []) ∷ (natural 2 ∷ []) ∷ []
unfolding defaults indices
first_part_reached = refl

-- an index of rank 2: the last is variable 0
grid : Term
grid = tab_term (number 2 ∷ number 2 ∷ []) (tuple_term (variable 1 ∷ variable 0 ∷ []))

grid_reached : reach [] [] grid (2 ∷ []) ≡ (natural 0 ∷ natural 0 ∷ []) ∷ (natural 1 ∷ natural 0 ∷ []) ∷ (natural 0 ∷ natural 1 ∷ []) ∷ (natural 1 ∷ natural 1 ∷ []) ∷ []
unfolding grid indices
grid_reached = refl

-- below an index i, (10/i)%5 has the span 0 to 4 though it may be undefined, and is not firm
rest : Term
rest = arith_term Remainder (arith_term Quotient (number 10) (variable 0)) (number 5)

rest_span : span (facts_at (tab_term (number 3 ∷ []) rest) (1 ∷ [])) rest ≡ Some (0, 4)
unfolding rest
rest_span = refl

rest_not_firm : firm (λ n. false) (facts_at (tab_term (number 3 ∷ []) rest) (1 ∷ [])) rest ≡ false
unfolding rest
rest_not_firm = refl

-- i+i below 1000 is firm, with the span 0 to 1998
double : Term
double = arith_term Add (variable 0) (variable 0)

double_span : span (facts_at (tab_term (number 1000 ∷ []) double) (1 ∷ [])) double ≡ Some (0, 1998)
unfolding double
double_span = refl

double_firm : firm (λ n. false) (facts_at (tab_term (number 1000 ∷ []) double) (1 ∷ [])) double ≡ true
unfolding double
double_firm = refl

-- below 2^64 the square stays in range, and below 2^64+1 it need not
square : Term
square = arith_term Mul (variable 0) (variable 0)

square_firm : firm (λ n. false) (facts_at (tab_term (number 18446744073709551616 ∷ []) square) (1 ∷ [])) square ≡ true
unfolding square
square_firm = refl

square_not_firm : firm (λ n. false) (facts_at (tab_term (number 18446744073709551617 ∷ []) square) (1 ∷ [])) square ≡ false
unfolding square
square_not_firm = refl

-- an index below 0 has the span 0 to 0
nothing_span : span (facts_at (tab_term (number 0 ∷ []) (variable 0)) (1 ∷ [])) (variable 0) ≡ Some (0, 0)
nothing_span = refl

-- a default is sure where one of its parts is
default_sure : sure (λ n. false) (default_term bottom_term (number 3)) ≡ true
default_sure = refl

-- under a binder the term put in is shifted
put_in_shifted : subst_term 0 (variable 0) (sum_term (gen_term (variable 0)) (variable 1)) ≡ sum_term (gen_term (variable 0)) (variable 1)
put_in_shifted = refl

-- the weight, and the pairs of a subscript with the nodes of its array
grid_weight : weight_of (sub_term grid (number 0 ∷ number 1 ∷ [])) ≡ 26
unfolding grid pairs
grid_weight = refl

grid_pairs : pairs_of (sub_term grid (number 0 ∷ number 1 ∷ [])) ≡ 6
unfolding grid
grid_pairs = refl

-- the rules, one left side each
one : Term
one = number 1

b1 : Redex B1 (union_term (gen_term one) bottom_term) bottom_term []
unfolding one
b1 = (1, refl, refl, refl, refl)

k1 : Redex K1 (arith_term Quotient (number 7) (number 0)) bottom_term []
k1 = (arithmetic Quotient 7 0 refl refl, refl)

k1_compare : Redex K1 (less_term (number 1) (number 2)) (truth_term true) []
k1_compare = (numbers compare_op.Less 1 2 refl refl, refl)

i1 : Redex I1 (if_term (truth_term false) one (number 2)) (number 2) []
unfolding one
i1 = (false, one, number 2, refl, refl, refl)

i2 : Redex I2 (sum_term (if_term (variable 3) (gen_term one) empty_term) (variable 0)) (if_term (variable 3) (sum_term (gen_term one) (variable 0)) (number 0)) []
unfolding one
i2 = (Form.sum, number 0, variable 3, gen_term one, variable 0, refl, refl, refl, refl)

l1 : Redex L1 (let_term (variable 4) (tuple_term (variable 0 ∷ variable 0 ∷ []))) (tuple_term (variable 4 ∷ variable 4 ∷ [])) []
l1 = (variable 4, tuple_term (variable 0 ∷ variable 0 ∷ []), (refl, refl), refl, refl)

-- a position is an atom where it is defined
l1_position : Redex L1 (let_term (position 2) (variable 0)) (position 2) ((0 ∷ []) ∷ [])
l1_position = (position 2, variable 0, (refl, refl), refl, refl)

l2 : Redex L2 (let_term (gen_term one) (get_term (variable 0))) (get_term (gen_term one)) []
unfolding one
l2 = (gen_term one, get_term (variable 0), refl, refl, refl, refl, refl)

l3 : Redex L3 (let_term (gen_term one) (variable 5)) (variable 4) ((0 ∷ []) ∷ [])
unfolding one
l3 = (gen_term one, refl, refl)

p1 : Redex P1 (proj_term 2 3 (tuple_term (variable 0 ∷ variable 1 ∷ variable 2 ∷ []))) (variable 1) ((0 ∷ 0 ∷ []) ∷ (0 ∷ 2 ∷ []) ∷ [])
p1 = (1, variable 0 ∷ variable 1 ∷ variable 2 ∷ [], refl, refl, refl)

p2 : Redex P2 (proj_term 1 2 (let_term one (variable 0))) (let_term one (proj_term 1 2 (variable 0))) []
unfolding one
p2 = (1, 2, one, variable 0, refl, refl, refl)

s1 : Redex S1 (big_union_term empty_term (variable 0)) empty_term []
s1 = (variable 0, refl, refl, refl)

s2 : Redex S2 (big_union_term (single_term one) (gen_term (variable 0))) (let_term one (gen_term (variable 0))) []
unfolding one
s2 = (one, gen_term (variable 0), refl, refl, refl)

-- the inner body's own variable stays, and those around it are shifted past the outer member
s3 : Redex S3 (big_union_term (big_union_term (variable 2) (variable 0)) (tuple_term (variable 0 ∷ variable 1 ∷ [])))
    (big_union_term (variable 2) (big_union_term (variable 0) (tuple_term (variable 0 ∷ variable 2 ∷ [])))) []
s3 = (variable 2, variable 0, tuple_term (variable 0 ∷ variable 1 ∷ []), refl, refl, refl)

s4 : Redex S4 (sum_term empty_term (variable 0)) (number 0) []
s4 = (variable 0, refl, refl, refl)

s5 : Redex S5 (sum_term (single_term one) (variable 0)) (let_term one (variable 0)) []
unfolding one
s5 = (one, variable 0, refl, refl, refl)

s6 : Redex S6 (big_union_term (gen_term one) (single_term (variable 0))) (gen_term one) []
unfolding one
s6 = (refl, refl)

s7 : Redex S7 (union_term empty_term (gen_term one)) (gen_term one) []
unfolding one
s7 = (inr refl, refl)

s8 : Redex S8 (get_term (single_term one)) one []
unfolding one
s8 = (refl, refl)

s9 : Redex S9 (big_union_term (let_term one (gen_term (variable 0))) (tuple_term (variable 0 ∷ variable 1 ∷ [])))
    (let_term one (big_union_term (gen_term (variable 0)) (tuple_term (variable 0 ∷ variable 2 ∷ [])))) []
unfolding one
s9 = (Form.big_union, empty_term, one, gen_term (variable 0), tuple_term (variable 0 ∷ variable 1 ∷ []), refl, refl, refl, refl)

-- rank 2: the first index is the outer let, and its test the outer if
a1 : Redex A1 (sub_term (tab_term (variable 3 ∷ variable 4 ∷ []) (variable 1)) (variable 5 ∷ variable 6 ∷ []))
    (let_term (variable 5) (let_term (variable 7) (if_term (less_term (variable 1) (variable 5)) (if_term (less_term (variable 0) (variable 6)) (variable 1) bottom_term) bottom_term)))
    ((0 ∷ 2 ∷ []) ∷ [])
a1 = (variable 3 ∷ variable 4 ∷ [], variable 1, variable 5 ∷ variable 6 ∷ [], refl, refl, refl, refl)

a2 : Redex A2 (tab_term (proj_term 1 2 (dim_term 2 (variable 0)) ∷ proj_term 2 2 (dim_term 2 (variable 0)) ∷ []) (sub_term (variable 2) (variable 1 ∷ variable 0 ∷ []))) (variable 0) []
a2 = (2, omega arith, refl, refl)

a3 : Redex A3 (dim_term 2 (tab_term (variable 3 ∷ variable 4 ∷ []) (variable 0))) (tuple_term (variable 3 ∷ variable 4 ∷ [])) ((0 ∷ 2 ∷ []) ∷ [])
a3 = (variable 3 ∷ variable 4 ∷ [], variable 0, refl, refl, refl)

-- under the loop's binder the bound is shifted once more
a4 : Redex A4 (let_term (tab_term (variable 3 ∷ []) (variable 0)) (sum_term (gen_term (dim_term 1 (variable 0))) (dim_term 1 (variable 1))))
    (let_term (tab_term (variable 3 ∷ []) (variable 0)) (sum_term (gen_term (variable 4)) (variable 5))) []
a4 = (variable 3 ∷ [], variable 0, sum_term (gen_term (dim_term 1 (variable 0))) (dim_term 1 (variable 1)), (inl (3, refl), tt), omega arith, refl, refl, refl)

a5 : Redex A5 (sub_term (literal_term (number 2 ∷ []) (variable 0 ∷ variable 1 ∷ [])) (number 1 ∷ [])) (variable 1) ((0 ∷ 1 ∷ []) ∷ [])
unfolding indices
a5 = inside (2 ∷ []) (variable 0 ∷ variable 1 ∷ []) (1 ∷ []) 1 refl refl refl refl refl

a6 : Redex A6 (dim_term 1 (literal_term (number 2 ∷ []) (variable 0 ∷ variable 1 ∷ []))) (number 2) ((0 ∷ 1 ∷ []) ∷ (0 ∷ 2 ∷ []) ∷ [])
a6 = (2 ∷ [], variable 0 ∷ variable 1 ∷ [], refl, refl, refl, refl)

a7 : Redex A7 (sub_term (let_term one (variable 0)) (variable 3 ∷ [])) (let_term one (sub_term (variable 0) (variable 4 ∷ []))) []
unfolding one
a7 = (one, variable 0, inl (variable 3 ∷ [], refl, refl), refl)

c1 : Redex C1 (less_term (variable 0) (variable 1)) (truth_term true) []
c1 = ((compare_op.Less, variable 0, variable 1, refl), refl, refl)

c2 : Redex C2 (less_term (variable 0) (variable 1)) (truth_term true) []
c2 = ((compare_op.Less, variable 0, variable 1, refl), refl, refl)

c3 : Redex C3 (less_term (variable 0) (variable 1)) (truth_term false) []
c3 = ((compare_op.Less, variable 0, variable 1, refl), refl, refl)

c4 : Redex C4 (less_term (variable 0) (number 9)) (truth_term true) ((0 ∷ []) ∷ (1 ∷ []) ∷ [])
c4 = ((compare_op.Less, variable 0, number 9, refl), (true, refl), refl)

n1 : Redex N1 (default_term bottom_term one) one []
unfolding one
n1 = (refl, refl)

n2 : Redex N2 (default_term one (variable 0)) one ((0 ∷ []) ∷ [])
unfolding one
n2 = (variable 0, refl, refl)
