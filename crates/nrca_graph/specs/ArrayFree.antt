-- The array-free form of a term: a case for each form that speaks of arrays; any other form is kept, and its parts are translated.
use Rattle.std.specs.Prelude.{ℕ, zero, suc, ◌*◌, nat_le, List, [], ◌∷◌, length, map, take, drop, if◌then◌else◌}
use Rattle.aql_value.specs.declared.ops.ArithOp.TheVariants.{Add, Mul, Quotient, Remainder}
use Rattle.aql_value.specs.declared.ops.CompareOp.TheVariants as compare_op
use Rattle.aql_value.specs.Lists.{below}
use Rattle.aql_value.specs.Operations.{is_rank}
use Rattle.aql_value.specs.Strict.{Strict}
use Rattle.nrca_term.specs.Term.{Term, Parts, node, none, part, Form, terms_in}
use Rattle.nrca_term.specs.Nodes.{variable, number, truth_term, bottom_term, let_term, if_term, tuple_term, proj_term, arith_term, compare_term, less_term, empty_term, single_term, union_term, big_union_term, get_term}
use Rattle.nrca_term.specs.Subst.{shift_term}
use Rattle.nrca_term.specs.Rules.{lets, sizes_term, index_variables}
use Rattle.nrca_graph.specs.Tabulation.{tabulation_graph, table_term}

-- whether two terms are equal
abbrev pub equal_term : Term → Term → Term
equal_term a b = compare_term compare_op.Equal a b

-- the term at a place, counted from 0; `Bottom` where there is none
abbrev pub term_at : List Term → ℕ → Term
term_at [] i = bottom_term
term_at (t ∷ ts) zero = t
term_at (t ∷ ts) (suc i) = term_at ts i

-- The set of the second parts of those pairs of s whose first part is the index. The index stands under the loop's member.
abbrev pub paired_with : (s index : Term) → Term
paired_with s index =
    big_union_term s
    (if_term (equal_term (proj_term 1 2 (variable 0)) (shift_term 0 1 index)) (single_term (proj_term 2 2 (variable 0))) empty_term)

-- a subscript: the array is variable 1 and the index variable 0 under the lets
abbrev pub subscript_graph : List Term → Term
subscript_graph [] = bottom_term
subscript_graph (a ∷ is) = lets 0 (a ∷ sizes_term is ∷ []) (get_term (paired_with (proj_term 2 2 (variable 1)) (variable 0)))

-- the j-th number, counted from 1, of the index of a pair
abbrev pub number_at : (rank j : ℕ) → Term → Term
number_at (suc zero) j p = proj_term 1 2 p
number_at rank j p = proj_term j rank (proj_term 1 2 p)

-- the set of those j-th numbers of the indices of the set variable 1 that are greater than the one of the pair variable 0
abbrev pub greater : (rank j : ℕ) → Term
greater rank j =
    big_union_term (variable 1)
    (if_term (less_term (number_at rank j (variable 1)) (number_at rank j (variable 0))) (single_term (number_at rank j (variable 0))) empty_term)

-- the set of those j-th numbers of the indices of the set variable 0 that no j-th number of one exceeds
abbrev pub greatest : (rank j : ℕ) → Term
greatest rank j =
    big_union_term (variable 0)
    (if_term (equal_term (greater rank j) empty_term) (single_term (number_at rank j (variable 0))) empty_term)

-- dimension j above the indices of the set variable 0: 0 where it is empty, and else 1 plus the greatest number
abbrev pub dimension_above : (rank j : ℕ) → Term
dimension_above rank j =
    if_term (equal_term (variable 0) empty_term) (number 0) (arith_term Add (number 1) (get_term (greatest rank j)))

-- An index: the set is variable 2k under its let, k dimensions and k indices. Its rank is no list's length, so a term that has no type
-- may have any number there; arrays have ranks from 1 to 8, and an index of another rank is undefined.
abbrev pub index_graph : (rank : ℕ) → Term → Term
index_graph rank s =
    let_term s
    (if is_rank rank
    then lets 0 (map (λ j. dimension_above rank (suc j)) (below rank))
    (table_term rank (paired_with (variable (2 * rank)) (sizes_term (index_variables rank))))
    else bottom_term)

-- a product, one factor after another
abbrev pub times : Term → List Term → Term
times p [] = p
times p (d ∷ ds) = times (arith_term Mul p d) ds

-- the product of dimensions, from the first on
abbrev pub product_term : List Term → Term
product_term [] = number 1
product_term (d ∷ ds) = times d ds

-- z where one of the dimensions is 0, and else t
abbrev pub where_zero : List Term → Term → Term → Term
where_zero [] z t = t
where_zero (d ∷ ds) z t = if_term (equal_term d (number 0)) z (where_zero ds z t)

-- Whether dimensions have n cells. A 0 among them is looked for first, since the product of the others may pass 2^128-1.
abbrev pub is_filled : List Term → ℕ → Term
is_filled ds n = where_zero ds (truth_term (nat_le n 0)) (equal_term (product_term ds) (number n))

-- the number of a cell over the product of the dimensions that follow
abbrev pub over_rest : ℕ → List Term → Term
over_rest m [] = number m
over_rest m (d ∷ ds) = arith_term Quotient (number m) (product_term (d ∷ ds))

-- the numbers of the index of cell m below these dimensions, others standing before them
abbrev pub further_numbers : ℕ → List Term → List Term
further_numbers m [] = []
further_numbers m (d ∷ ds) = arith_term Remainder (over_rest m ds) d ∷ further_numbers m ds

-- the numbers of the index of cell m; the first wants no remainder
abbrev pub index_of_cell : ℕ → List Term → List Term
index_of_cell m [] = []
index_of_cell m (d ∷ ds) = over_rest m ds ∷ further_numbers m ds

-- each cell beside its index as the set of one pair, the cells being counted from m
abbrev pub cell_pairs : ℕ → List Term → List Term → List Term
cell_pairs m ds [] = []
cell_pairs m ds (c ∷ cs) = single_term (tuple_term (sizes_term (index_of_cell m ds) ∷ c ∷ [])) ∷ cell_pairs (suc m) ds cs

-- the unions of neighbours
abbrev pub united_neighbours : List Term → List Term
united_neighbours [] = []
united_neighbours (s ∷ []) = s ∷ []
united_neighbours (s ∷ t ∷ ts) = union_term s t ∷ united_neighbours ts

-- The union of sets, in so many rounds of neighbours; a round leaves one set as it is.
abbrev pub union_tree : (rounds : ℕ) → List Term → Term
union_tree zero [] = empty_term
union_tree zero (t ∷ ts) = t
union_tree (suc n) ts = union_tree n (united_neighbours ts)

-- A literal array: lets of the dimensions, and the cells in their places. As many rounds as cells are more than enough.
abbrev pub literal_graph : List Term → List Term → Term
literal_graph ds cs =
    lets 0 ds
    (if_term (is_filled (index_variables (length ds)) (length cs))
    (tuple_term
    (sizes_term (index_variables (length ds))
    ∷ union_tree (length cs) (cell_pairs 0 (index_variables (length ds)) (map (shift_term 0 (length ds)) cs)) ∷ []))
    bottom_term)

-- the array-free form of a node whose parts are translated
abbrev pub array_free_node : Form → Parts → Term
array_free_node (Form.tab rank) ps = tabulation_graph (take rank (terms_in ps)) (term_at (terms_in ps) rank)
array_free_node (Form.strict Strict.sub) ps = subscript_graph (terms_in ps)
array_free_node (Form.strict (Strict.dim rank)) ps = proj_term 1 2 (term_at (terms_in ps) 0)
array_free_node (Form.strict (Strict.index rank)) ps = index_graph rank (term_at (terms_in ps) 0)
array_free_node (Form.strict (Strict.literal rank)) ps = literal_graph (take rank (terms_in ps)) (drop rank (terms_in ps))
array_free_node f ps = node f ps

abbrev mutual
  -- the array-free form of a term
  pub array_free : Term → Term
  array_free (node f ps) = array_free_node f (array_free_parts ps)

  -- the array-free forms of the parts
  pub array_free_parts : Parts → Parts
  array_free_parts none = none
  array_free_parts (part k t ps) = part k (array_free t) (array_free_parts ps)
