-- A bound of the turns of the array-free form, by the turns of the parts of the term.
use Rattle.std.specs.Prelude.{ℕ, suc, ◌+◌, ◌*◌, List, [], ◌∷◌, ◌++◌, length}
use Rattle.aql_value.specs.Datum.{Datum}
use Rattle.aql_value.specs.Operations.{as_set, as_array, index_of}
use Rattle.aql_value.specs.Partial.{◌>>=◌, each, total, if_some}
use Rattle.aql_value.specs.Strict.{Strict}
use Rattle.aql_value.specs.Indices.{prefix_products}
use Rattle.nrca_term.specs.Term.{Term, Parts, node, none, part, Form}
use Rattle.nrca_term.specs.Meaning.{Outcomes, Part, here, bounds_value, part_values}
use Rattle.nrca_term.specs.Places.{entry_values}
use Rattle.nrca_term.specs.Turns.{own_turns}

-- of a subscript: the cells of the array
abbrev pub subscript_graph_turns : List Datum → ℕ
subscript_graph_turns [] = 0
subscript_graph_turns (a ∷ at) = if_some (as_array a) (λ t. length t.cells)

-- of an index over m members: for each dimension a loop and a loop inside it, and the loops of the result where there is one
abbrev pub index_graph_turns : (rank : ℕ) → List Datum → ℕ
index_graph_turns rank [] = 0
index_graph_turns rank (v ∷ w ∷ vs) = 0
index_graph_turns rank (v ∷ []) =
    if_some (as_set v) (λ ms. rank * (length ms + length ms * length ms)
    + if_some (index_of rank v >>= as_array) (λ t. 2 * prefix_products t.dims + length t.cells * length ms))

-- those of a node beside its parts'
abbrev pub own_graph_turns : Form → List Part → ℕ
own_graph_turns (Form.tab rank) ps = if_some (bounds_value rank ps) (λ ds. 2 * prefix_products ds)
own_graph_turns (Form.strict Strict.sub) ps = if_some (each here ps) subscript_graph_turns
own_graph_turns (Form.strict (Strict.index rank)) ps = if_some (each here ps) (index_graph_turns rank)
own_graph_turns f ps = own_turns f ps

abbrev mutual
  -- what the turns of the array-free form are bounded by
  pub graph_turns : Outcomes → List Datum → Term → ℕ
  graph_turns V vals (node f ps) = own_graph_turns f (part_values V vals ps) + parts_graph_turns V vals f (part_values V vals ps) 0 ps

  -- the bound of the turns of the parts from number i on
  pub parts_graph_turns : Outcomes → List Datum → Form → List Part → ℕ → Parts → ℕ
  parts_graph_turns V vals f worths i none = 0
  parts_graph_turns V vals f worths i (part k t ps) = total (λ new. graph_turns V (new ++ vals) t) (entry_values f worths i) + parts_graph_turns V vals f worths (suc i) ps
