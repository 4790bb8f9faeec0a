-- Graphs as lists of forms.
use Rattle.std.specs.Prelude.{ℕ, ◌≡◌, ◌+◌, List, [], ◌∷◌, ◌++◌, length, Result, Ok, Err}
use Rattle.aql_ty.specs.Types.{Subst}
use Rattle.aql_types.specs.declared.fault.UnifyFault.{UnifyFault}
use Rattle.aql_types.specs.declared.fault.UnifyFault.TheVariants as faults
use Rattle.aql_types.specs.declared.node.Equation.{Equation}
use Rattle.aql_types.specs.declared.graph.Graph.{Graph}
use Rattle.aql_types.specs.declared.solved_graph.SolvedGraph.{SolvedGraph}
use Rattle.aql_types.specs.Solved.{Solves, IsSolution}
use Rattle.aql_types.specs.Forms.{Form, forms}
use Rattle.aql_types.specs.Ranges.{variable_in, homes_of}

-- the forms of a graph's nodes
abbrev pub forms_of : Graph → List Form
forms_of g = forms g.parts.items g.nodes.items

-- the forms of the nodes of a solved graph
abbrev pub solved_forms : SolvedGraph → List Form
solved_forms s = forms s.parts.items s.nodes.items

-- what `solve` answers: a graph of a most general solution, or there is none within the limits
abbrev pub SolvedBy : Result SolvedGraph UnifyFault → Graph → List Equation → Type 0
SolvedBy (Ok s) g w = Solves 400 (homes_of (forms_of g)) (forms_of g) (solved_forms s) w
SolvedBy (Err faults.Clash) g w = (u : Subst) → IsSolution u (forms_of g) w → ⊥
SolvedBy (Err faults.Memory) g w = Unit {0}

-- the graph with one node more, of that number and form
pub record Adds (i : ℕ) (new old : Graph) (f : Form) : Type 0 where
  pub number : i ≡ length old.nodes.items
  pub long : length new.nodes.items ≡ i + 1
  pub forms : forms_of new ≡ forms_of old ++ f ∷ []
  pub variables : new.variables ≡ old.variables + length (variable_in f)
