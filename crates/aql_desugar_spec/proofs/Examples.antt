-- Start terms of small queries, one or two for each form.
use Rattle.std.proofs.Common.{◌≡◌, ℕ, true, false, [], ◌∷◌, refl}
use Rattle.aql_value.specs.Strict.{Strict}
use Rattle.aql_value.specs.declared.ops.ArithOp.TheVariants as arith_op
use Rattle.aql_value.specs.declared.ops.CompareOp.TheVariants as compare_op
use Rattle.aql_syntax.specs.Tree as tree
use Rattle.aql_syntax.specs.Tree.{Name, Pat, bind, any, equals, refers, tuple, no_pat, pat, Tree, name, op, members, comp, tab, bindings, choice, conjunction, disjunction, negation, default, apply, function, summap, no_tree, no_axis, axis, no_qual, from, cells, same, test, no_def, def, Declaration, val, mac}
use Rattle.nrca_term.specs.Nodes.{variable, position, number, truth_term, text_term, bottom_term, let_term, if_term, default_term, tuple_term, proj_term, arith_term, less_term, empty_term, single_term, union_term, big_union_term, sum_term, gen_term, get_term, tab_term, sub_term, dim_term, index_term, literal_term}
use Rattle.aql_desugar_spec.specs.Start.{equal_term, start, knowns_of}

abbrev a : Name
a = 97 ∷ []

abbrev f : Name
f = 102 ∷ []

abbrev x : Name
x = 120 ∷ []

abbrev y : Name
y = 121 ∷ []

abbrev numeral : ℕ → Tree
numeral n = op (Strict.nat n) no_tree

-- `gen!3`
abbrev three : Tree
three = op Strict.gen (tree.tree (numeral 3) no_tree)

-- `1 + 2`
sum_of_two : start (op (Strict.arith arith_op.Add) (tree.tree (numeral 1) (tree.tree (numeral 2) no_tree))) [] [] ≡ arith_term arith_op.Add (number 1) (number 2)
sum_of_two = refl

-- `"a"`, `{}`
a_text : start (op (Strict.text (97 ∷ [])) no_tree) [] [] ≡ text_term (97 ∷ [])
a_text = refl

no_member : start (op Strict.empty no_tree) [] [] ≡ empty_term
no_member = refl

-- `if true then 1 else 2`
a_choice : start (choice (op (Strict.bool true) no_tree) (numeral 1) (numeral 2)) [] [] ≡ if_term (truth_term true) (number 1) (number 2)
a_choice = refl

-- `true and false`, `true or false`, `not true`
of_truths : start (conjunction (op (Strict.bool true) no_tree) (op (Strict.bool false) no_tree)) [] [] ≡ if_term (truth_term true) (truth_term false) (truth_term false)
of_truths = refl

or_truths : start (disjunction (op (Strict.bool true) no_tree) (op (Strict.bool false) no_tree)) [] [] ≡ if_term (truth_term true) (truth_term true) (truth_term false)
or_truths = refl

not_true : start (negation (op (Strict.bool true) no_tree)) [] [] ≡ if_term (truth_term true) (truth_term false) (truth_term true)
not_true = refl

-- `{1, 2, 3}`
three_members : start (members (tree.tree (numeral 1) (tree.tree (numeral 2) (tree.tree (numeral 3) no_tree)))) [] []
    ≡ union_term (single_term (number 1)) (union_term (single_term (number 2)) (single_term (number 3)))
three_members = refl

-- `{1} union {}`, `get!{1}`
a_union : start (op Strict.union (tree.tree (members (tree.tree (numeral 1) no_tree)) (tree.tree (op Strict.empty no_tree) no_tree))) [] []
    ≡ union_term (single_term (number 1)) empty_term
a_union = refl

the_member : start (op Strict.get (tree.tree (members (tree.tree (numeral 1) no_tree)) no_tree)) [] [] ≡ get_term (single_term (number 1))
the_member = refl

-- `[[2; 3, 4]]`, `[[2; 3, 4]][1]`
a_literal : start (op (Strict.literal 1) (tree.tree (numeral 2) (tree.tree (numeral 3) (tree.tree (numeral 4) no_tree)))) [] []
    ≡ literal_term (number 2 ∷ []) (number 3 ∷ number 4 ∷ [])
a_literal = refl

a_cell : start (op Strict.sub (tree.tree (name x) (tree.tree (numeral 1) no_tree))) (knowns_of (val x (numeral 1) ∷ [])) [] ≡ sub_term (position 1) (number 1 ∷ [])
a_cell = refl

-- `dim_2!x`, `index_2!x`
dimensions : start (op (Strict.dim 2) (tree.tree (name x) no_tree)) (knowns_of (val x (numeral 1) ∷ [])) [] ≡ dim_term 2 (position 1)
dimensions = refl

groups : start (op (Strict.index 2) (tree.tree (name x) no_tree)) (knowns_of (val x (numeral 1) ∷ [])) [] ≡ index_term 2 (position 1)
groups = refl

-- `val \x = 1; x`
a_position : start (name x) (knowns_of (val x (numeral 1) ∷ [])) [] ≡ position 1
a_position = refl

-- `val \x = 1; macro \f = fn \y => x; f!5`
a_macro : start (apply f (numeral 5)) (knowns_of (mac f (bind y) (name x) ∷ val x (numeral 1) ∷ [])) [] ≡ let_term (number 5) (let_term (variable 0) (position 1))
a_macro = refl

-- `macro \f = fn \y => x; let val \x = 1 in f!5 end`: the body does not see the name around the application
not_its_callers : start (bindings (def (bind x) (numeral 1) no_def) (apply f (numeral 5))) (knowns_of (mac f (bind y) (name x) ∷ [])) []
    ≡ let_term (number 1) (let_term (variable 0) (let_term (number 5) (let_term (variable 0) bottom_term)))
not_its_callers = refl

-- `let val (\x, _) = (1, 2) in x end`
a_tuple : start (bindings (def (tuple (pat (bind x) (pat any no_pat))) (op Strict.tuple (tree.tree (numeral 1) (tree.tree (numeral 2) no_tree))) no_def) (name x)) [] []
    ≡ let_term (tuple_term (number 1 ∷ number 2 ∷ [])) (let_term (proj_term 1 2 (variable 0)) (let_term (variable 0) (let_term (proj_term 2 2 (variable 2)) (variable 1))))
a_tuple = refl

-- `let val \x = 1 val \y = x in y end`
two_bindings : start (bindings (def (bind x) (numeral 1) (def (bind y) (name x) no_def)) (name y)) [] []
    ≡ let_term (number 1) (let_term (variable 0) (let_term (variable 0) (let_term (variable 0) (variable 0))))
two_bindings = refl

-- `(fn 1 => 2)!3`
a_function : start (function (equals (tree.number 1)) (numeral 2) (numeral 3)) [] [] ≡ let_term (number 3) (if_term (equal_term 0 (number 1)) (number 2) bottom_term)
a_function = refl

-- `summap(fn \x => x)!(gen!3)`
a_sum : start (summap (bind x) (name x) three) [] [] ≡ sum_term (gen_term (number 3)) (let_term (variable 0) (variable 0))
a_sum = refl

-- `{x | \x <- gen!3, x < 2}`
a_comprehension : start (comp (name x) (from (bind x) three (test (op (Strict.compare compare_op.Less) (tree.tree (name x) (tree.tree (numeral 2) no_tree))) no_qual))) [] []
    ≡ big_union_term (gen_term (number 3)) (let_term (variable 0) (if_term (less_term (variable 0) (number 2)) (single_term (variable 0)) empty_term))
a_comprehension = refl

-- `{x | (\x, 2) <- gen!3}`
a_tuple_row : start (comp (name x) (from (tuple (pat (bind x) (pat (equals (tree.number 2)) no_pat))) three no_qual)) [] []
    ≡ big_union_term (gen_term (number 3))
    (let_term (proj_term 1 2 (variable 0)) (let_term (variable 0) (let_term (proj_term 2 2 (variable 2)) (if_term (equal_term 0 (number 2)) (single_term (variable 1)) empty_term))))
a_tuple_row = refl

-- `{1 | \x <- gen!3, x == 2}`: a name in a pattern is compared
a_match : start (comp (numeral 1) (from (bind x) three (same (refers x) (numeral 2) no_qual))) [] []
    ≡ big_union_term (gen_term (number 3)) (let_term (variable 0) (let_term (number 2) (if_term (equal_term 0 (variable 1)) (single_term (number 1)) empty_term)))
a_match = refl

-- `val \a = ..; {x | [_:\x] <- a}`
a_row : start (comp (name x) (cells any (bind x) (name a) no_qual)) (knowns_of (val a (numeral 1) ∷ [])) []
    ≡ let_term (position 1) (big_union_term (gen_term (dim_term 1 (variable 0))) (let_term (sub_term (variable 1) (variable 0 ∷ [])) (let_term (variable 0) (single_term (variable 0)))))
a_row = refl

-- `val \a = ..; {y | [(\y, _):3] <- a}`
a_grid : start (comp (name y) (cells (tuple (pat (bind y) (pat any no_pat))) (equals (tree.number 3)) (name a) no_qual)) (knowns_of (val a (numeral 1) ∷ [])) []
    ≡ let_term (position 1)
    (big_union_term (gen_term (proj_term 1 2 (dim_term 2 (variable 0))))
    (big_union_term (gen_term (proj_term 2 2 (dim_term 2 (variable 1))))
    (let_term (variable 1)
    (let_term (sub_term (variable 3) (variable 2 ∷ variable 1 ∷ [])) (if_term (equal_term 0 (number 3)) (single_term (variable 1)) empty_term)))))
a_grid = refl

-- `[[x + y | \x < 2, \y < 3]]`
a_tabulation : start (tab (axis x (numeral 2) (axis y (numeral 3) no_axis)) (op (Strict.arith arith_op.Add) (tree.tree (name x) (tree.tree (name y) no_tree)))) [] []
    ≡ tab_term (number 2 ∷ number 3 ∷ []) (arith_term arith_op.Add (variable 1) (variable 0))
a_tabulation = refl

-- `x default 0`, where nothing declares x
a_default : start (default (name x) (numeral 0)) [] [] ≡ default_term bottom_term (number 0)
a_default = refl
