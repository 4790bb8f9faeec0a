-- The texts of worked terms and traces, computed.
use Rattle.std.specs.Prelude.{◌≡◌, ℕ, true, List, [], ◌∷◌, codes, refl}
use Rattle.std.specs.Fmt.{digits}
use Rattle.aql_value.specs.declared.ops.ArithOp.TheVariants as ariths
use Rattle.aql_value.specs.declared.ops.CompareOp.TheVariants as compares
use Rattle.nrca_term.specs.Term.{Term}
use Rattle.nrca_term.specs.Nodes.{variable, position, number, truth_term, text_term, bottom_term, let_term, if_term, default_term, tuple_term, proj_term, arith_term, compare_term, less_term, empty_term, single_term, union_term, big_union_term, sum_term, gen_term, get_term, tab_term, sub_term, dim_term, index_term, literal_term}
use Rattle.nrca_term.specs.declared.trace.Rule.TheVariants as rules
use Rattle.nrca_motion.specs.declared.moves.MoveRule.TheVariants as move_rules
use Rattle.aql_print.specs.CoreText.{core_text}
use Rattle.aql_print.specs.TraceText.{trace_text, rule_text}
use Rattle.aql_print.specs.MovesText.{moves_text}

abbrev shown : Term → List ℕ
shown t = core_text 0 t

-- 10 / the innermost variable
abbrev tenth : Term
tenth = arith_term ariths.Quotient (number 10) (variable 0)

pair : shown (tuple_term (number 3 ∷ number 3 ∷ [])) ≡ codes "(3, 3)"
unfolding digits
pair = refl

sum : shown (sum_term (gen_term (number 3)) (variable 0)) ≡ codes "S{x0 | x0 in gen(3)}"
unfolding digits
sum = refl

length_of : shown (dim_term 1 (tab_term (number 3 ∷ []) tenth)) ≡ codes "dim_1([[(10 / x0) | x0<3]])"
unfolding digits
length_of = refl

otherwise : shown (default_term (dim_term 1 (tab_term (number 3 ∷ []) tenth)) (number 0)) ≡ codes "(dim_1([[(10 / x0) | x0<3]]) default 0)"
unfolding digits
otherwise = refl

-- the test speaks of the outer loop's variable, which is variable 1 in the inner loop
nested :
    shown
    (big_union_term (gen_term (number 10000))
    (big_union_term (gen_term (number 10000)) (if_term (less_term (variable 1) (number 5)) (single_term (variable 1)) empty_term)))
    ≡ codes "U{U{(if (x0 < 5) then {x0} else {}) | x1 in gen(10000)} | x0 in gen(10000)}"
unfolding digits
nested = refl

declared :
    shown (big_union_term (gen_term (position 25)) (if_term (compare_term compares.Equal (arith_term ariths.Quotient (number 1) (position 25)) (number 1)) (single_term (number 1)) empty_term))
    ≡ codes "U{(if ((1 / @1) = 1) then {1} else {}) | x0 in gen(@1)}"
unfolding digits
declared = refl

early : shown (position 5) ≡ codes "@0"
unfolding digits
early = refl

-- the last index is variable 0; a bound has none of the indices around it
grid :
    shown (let_term (number 2) (tab_term (variable 0 ∷ number 3 ∷ []) (sub_term (variable 2) (variable 1 ∷ variable 0 ∷ []))))
    ≡ codes "(let x0 = 2 in [[sub(x0; x1, x2) | x1<x0, x2<3]])"
unfolding digits
grid = refl

literal : shown (literal_term (number 2 ∷ number 1 ∷ []) (text_term (97 ∷ 10 ∷ []) ∷ truth_term true ∷ [])) ≡ codes "[[2,1; \"a\\x0a\", true]]"
unfolding digits
literal = refl

no_cells : shown (literal_term (number 0 ∷ []) []) ≡ codes "[[0; ]]"
unfolding digits
no_cells = refl

rest : shown (union_term (get_term bottom_term) (index_term 2 (proj_term 1 3 empty_term))) ≡ codes "(get(undefined) union index_2(#1/3({})))"
unfolding digits
rest = refl

no_rule : trace_text [] ≡ codes "none"
no_rule = refl

name : rule_text rules.N2 ≡ codes "N2"
name = refl

no_move : moves_text [] ≡ codes "none"
no_move = refl

two_moves :
    moves_text (record { rule = move_rules.M1; path = [] } ∷ record { rule = move_rules.M4; path = [] } ∷ []) ≡ codes "M1 M4"
two_moves = refl
