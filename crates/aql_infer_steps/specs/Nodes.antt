-- A graph under way: the variables stand first, and the instances that were pushed have their nodes.
use Rattle.std.specs.Prelude.{ℕ, ◌≡◌, ◌<◌, List, length}
use Rattle.aql_value.specs.Lists.{Every}
use Rattle.aql_types.specs.declared.graph.Graph.{Graph}
use Rattle.aql_types.specs.Trees.{type_at}
use Rattle.aql_types.specs.Graphs.{forms_of}
use Rattle.aql_types.specs.Pushed.{AreNumbered}
use Rattle.aql_infer_steps.specs.View.{instance_type}
use Rattle.aql_infer_steps.specs.declared.positions.Position.{Position}
use Rattle.aql_infer_steps.specs.declared.sketch.Instance.{Instance}
use Rattle.aql_infer_steps.specs.declared.nodes.Working.{Working}

-- a node of the graph whose type is that of the instance
pub record IsNode (ps : List Position) (g : Graph) (i : Instance) (n : ℕ) : Type 0 where
  pub below : n < length g.nodes.items
  pub is : type_at (forms_of g) n ≡ instance_type ps i

-- each instance of a list has a node of its type
abbrev pub AreNodes : List Position → Graph → List (Instance × ℕ) → Type 0
AreNodes ps g es = Every (λ e. IsNode ps g e.0 e.1) es

-- the first nodes are the variables, and what is known are nodes of the instances
pub record IsUnderWay (ps : List Position) (w : Working) : Type 0 where
  pub numbered : AreNumbered w.graph.variables (forms_of w.graph)
  pub known : AreNodes ps w.graph w.known.entries

-- the node is known as that of the instance
abbrev pub IsKnown : List (Instance × ℕ) → Instance → ℕ → Type 0
IsKnown es i n = (ps : List Position) (g : Graph) → AreNodes ps g es → IsNode ps g i n

-- more is known: the node of that instance
abbrev pub IsNoted : List (Instance × ℕ) → List (Instance × ℕ) → Instance → ℕ → Type 0
IsNoted old new i n = (ps : List Position) (g : Graph) → AreNodes ps g old → IsNode ps g i n → AreNodes ps g new
