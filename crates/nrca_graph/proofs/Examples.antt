-- The definitions at terms of each form.
use Rattle.std.proofs.Common.{◌≡◌, ◌^◌, [], ◌∷◌, Some, None, refl, map}
use Rattle.aql_value.specs.declared.ops.ArithOp.TheVariants.{Add, Mul}
use Rattle.aql_value.specs.Datum.{natural, set, tuple, data_of}
use Rattle.aql_value.specs.Indices.{indices}
use Rattle.aql_value.specs.Partial.{◌>>=◌}
use Rattle.nrca_term.specs.Term.{Term}
use Rattle.nrca_term.specs.Nodes.{variable, number, tuple_term, arith_term, single_term, union_term, tab_term, sub_term, dim_term, index_term, literal_term}
use Rattle.nrca_term.specs.Meaning.{cden}
use Rattle.nrca_term.specs.Turns.{settle}
use Rattle.nrca_graph.specs.Encoding.{encoding, pair}
use Rattle.nrca_graph.specs.ArrayFree.{array_free}
use Rattle.nrca_graph.specs.GraphTurns.{graph_turns}

abbrev grid : Term
grid = tab_term (number 2 ∷ number 2 ∷ []) (arith_term Add (arith_term Mul (variable 1) (number 10)) (variable 0))

grid_means : cden [] [] (array_free grid) ≡ (cden [] [] grid >>= λ v. Some (encoding v))
unfolding indices
grid_means = refl

grid_turns : settle [] [] (array_free grid) ≡ graph_turns [] [] grid
unfolding indices
grid_turns = refl

grid_cell : cden [] [] (array_free (sub_term grid (number 1 ∷ number 0 ∷ []))) ≡ Some (natural 10)
unfolding indices
grid_cell = refl

grid_outside : cden [] [] (array_free (sub_term grid (number 1 ∷ number 2 ∷ []))) ≡ None
unfolding indices
grid_outside = refl

abbrev pairs : Term
pairs = union_term (single_term (tuple_term (number 0 ∷ number 5 ∷ []))) (single_term (tuple_term (number 2 ∷ number 7 ∷ [])))

index_means : cden [] [] (array_free (index_term 1 pairs)) ≡ (cden [] [] (index_term 1 pairs) >>= λ v. Some (encoding v))
unfolding indices
index_means = refl

index_turns : settle [] [] (array_free (index_term 1 pairs)) ≡ graph_turns [] [] (index_term 1 pairs)
unfolding indices
index_turns = refl

abbrev places : Term
places = union_term (single_term (tuple_term (tuple_term (number 0 ∷ number 1 ∷ []) ∷ number 5 ∷ []))) (single_term (tuple_term (tuple_term (number 1 ∷ number 0 ∷ []) ∷ number 7 ∷ [])))

index_2_means : cden [] [] (array_free (index_term 2 places)) ≡ (cden [] [] (index_term 2 places) >>= λ v. Some (encoding v))
unfolding indices
index_2_means = refl

index_2_turns : settle [] [] (array_free (index_term 2 places)) ≡ graph_turns [] [] (index_term 2 places)
unfolding indices
index_2_turns = refl

abbrev literal : Term
literal = literal_term (number 2 ∷ number 3 ∷ []) (map number (1 ∷ 2 ∷ 3 ∷ 4 ∷ 5 ∷ 6 ∷ []))

literal_means : cden [] [] (array_free literal) ≡ (cden [] [] literal >>= λ v. Some (encoding v))
unfolding indices
literal_means = refl

short_literal : cden [] [] (array_free (literal_term (number 2 ∷ []) (number 5 ∷ []))) ≡ None
unfolding indices
short_literal = refl

-- a huge dimension beside a 0
empty_literal : cden [] [] (array_free (literal_term (number (2 ^ 127) ∷ number 4 ∷ number 0 ∷ []) [])) ≡
    Some (pair (tuple (data_of (natural (2 ^ 127) ∷ natural 4 ∷ natural 0 ∷ []))) (set (data_of [])))
empty_literal = refl

literal_dims : cden [] [] (array_free (dim_term 2 literal)) ≡ Some (pair (natural 2) (natural 3))
unfolding indices
literal_dims = refl
