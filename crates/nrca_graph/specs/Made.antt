-- What the code makes of parts that are made as these terms, where memory suffices.
use Rattle.std.specs.Prelude.{◌≡◌, ℕ, Bool, ◌+◌, ◌*◌, ◌<◌, ◌^◌, suc, List, [], ◌∷◌, length, map, if◌then◌else◌, Result, IfOk, Option, Some, None}
use Rattle.aql_value.specs.declared.ops.ArithOp.TheVariants.{Remainder}
use Rattle.aql_value.specs.declared.memory.Memory.{Memory}
use Rattle.nrca_term.specs.declared.term.Core.{Core}
use Rattle.nrca_term.specs.declared.term.Terms.{Terms}
use Rattle.nrca_term.specs.Term.{Term, node, form_of, parts_of, count, weight_of}
use Rattle.nrca_term.specs.Nodes.{single_term, proj_term, empty_term, bottom_term, variable, if_term, big_union_term, union_term, tuple_term, number, truth_term, arith_term}
use Rattle.nrca_term.specs.Subst.{shift_term, top_var, parts_top, list_top}
use Rattle.nrca_term.specs.View.{term_of, terms_of}
use Rattle.aql_value.specs.Lists.{below}
use Rattle.aql_value.specs.Operations.{is_rank}
use Rattle.nrca_term.specs.Rules.{lets, sizes_term, index_variables}
use Rattle.nrca_graph.specs.Tabulation.{table_term}
use Rattle.nrca_graph.specs.ArrayFree.{equal_term, paired_with, dimension_above, over_rest, index_of_cell, cell_pairs, union_tree, array_free_node, array_free_parts}

-- the answer is the term, where there is one
abbrev pub Makes : Result Core Memory → Term → Type 0
Makes r t = IfOk r (λ c. term_of c ≡ t)

-- the answer is a list of the terms, where there is one
abbrev pub MakesAll : Result Terms Memory → List Term → Type 0
MakesAll r ts = IfOk r (λ cs. terms_of cs ≡ ts)

-- of a part that is made as a term, the answer is f of that term
abbrev pub MakesOf : (Term → Term) → Result Core Memory → Result Core Memory → Type 0
MakesOf f a r = (x : Term) → Makes a x → Makes r (f x)

-- the same of two parts
abbrev pub MakesOfTwo : (Term → Term → Term) → Result Core Memory → Result Core Memory → Result Core Memory → Type 0
MakesOfTwo f a b r = (x y : Term) → Makes a x → Makes b y → Makes r (f x y)

-- a choice of three parts
abbrev pub MakesChoice : (c a b r : Result Core Memory) → Type 0
MakesChoice c a b r = (x y z : Term) → Makes c x → Makes a y → Makes b z → Makes r (if_term x y z)

-- the tuple of two terms
abbrev pub pair_term : Term → Term → Term
pair_term a b = tuple_term (a ∷ b ∷ [])

-- the union of two sets, or the one set
abbrev pub joined_term : Term → Option Term → Term
joined_term s None = s
joined_term s (Some t) = union_term s t

-- the second parts of those pairs of a set whose first part is the index, which stands under the member already
abbrev pub paired_under : Term → Term → Term
paired_under s index =
    big_union_term s
    (if_term (equal_term (proj_term 1 2 (variable 0)) index) (single_term (proj_term 2 2 (variable 0))) empty_term)

-- the dimensions above the indices of the set variable 0
abbrev pub dimensions_above : (rank : ℕ) → List Term
dimensions_above rank = map (λ j. dimension_above rank (suc j)) (below rank)

-- the pairs of the set variable 2k at the index that the innermost variables are
abbrev pub pairs_at_index : (rank : ℕ) → Term
pairs_at_index rank = paired_with (variable (2 * rank)) (sizes_term (index_variables rank))

-- an index below the let of its set
abbrev pub index_body : (rank : ℕ) → Term
index_body rank = if is_rank rank then lets 0 (dimensions_above rank) (table_term rank (pairs_at_index rank)) else bottom_term

-- the truth value where a variable is 0, and else the other test
abbrev pub zero_test : ℕ → Bool → Term → Term
zero_test i empty t = if_term (equal_term (variable i) (number 0)) (truth_term empty) t

-- what remains of the number of a cell below the last of these dimensions, over the dimension before them
abbrev pub further_number : ℕ → ℕ → Term
further_number m last = arith_term Remainder (over_rest m (index_variables last)) (variable last)

-- the set of the one pair of a cell
abbrev pub cell_pair : (rank m : ℕ) → Term → Term
cell_pair rank m c =
    single_term (pair_term (sizes_term (index_of_cell m (index_variables rank))) (shift_term 0 rank c))

-- those of all cells
abbrev pub all_pairs : (rank : ℕ) → List Term → List Term
all_pairs rank cs = cell_pairs 0 (index_variables rank) (map (shift_term 0 rank) cs)

-- their union
abbrev pub cells_graph : (rank : ℕ) → List Term → Term
cells_graph rank cs = union_tree (length cs) (all_pairs rank cs)

-- each of the terms may be shifted by as many variables as there are terms
abbrev pub MayShift : List Term → Type 0
MayShift ts = list_top ts + length ts < 2 ^ 64

-- no variable of the parts is so high, and the parts are not so many, that a shift under the variables of the node passes 64 bits
abbrev pub PartsHaveRoom : Term → Type 0
PartsHaveRoom t = (parts_top (parts_of t) < 2 ^ 63) × (count (parts_of t) < 2 ^ 62)

-- the same of a term whose parts are not translated yet
abbrev pub HasRoom : Term → Type 0
HasRoom t = top_var t + 25 * weight_of t < 2 ^ 63

-- the term with its parts translated
abbrev pub with_array_free_parts : Term → Term
with_array_free_parts t = node (form_of t) (array_free_parts (parts_of t))

-- the array-free form of a term whose parts are translated
abbrev pub array_free_of : Term → Term
array_free_of t = array_free_node (form_of t) (parts_of t)
