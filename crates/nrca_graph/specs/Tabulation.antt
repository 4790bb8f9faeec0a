-- The array-free form of a tabulation.
use Rattle.std.specs.Prelude.{ℕ, zero, suc, ◌-◌, List, [], ◌∷◌, length}
use Rattle.nrca_term.specs.Term.{Term}
use Rattle.nrca_term.specs.Nodes.{variable, tuple_term, single_term, gen_term, big_union_term}
use Rattle.nrca_term.specs.Subst.{shift_term}
use Rattle.nrca_term.specs.Rules.{lets, sizes_term, index_variables}

-- n nested big unions over the same term
abbrev pub nest : ℕ → Term → Term → Term
nest zero g b = b
nest (suc n) g b = big_union_term g (nest n g b)

-- The pair of the dimensions and of the graph, under k dimensions of which the last is variable 0. The dimension that a loop is over
-- is variable k-1 at each level, as each level has one more index around it.
abbrev pub table_term : ℕ → Term → Term
table_term k b =
    tuple_term
    (sizes_term (index_variables k)
    ∷ nest k (gen_term (variable (k - 1))) (single_term (tuple_term (sizes_term (index_variables k) ∷ b ∷ []))) ∷ [])

-- a tabulation, by the array-free forms of its bounds and its body
abbrev pub tabulation_graph : List Term → Term → Term
tabulation_graph ds b = lets 0 ds (table_term (length ds) (shift_term (length ds) (length ds) b))
