-- What the nodes of the code are, without the list that the parts of tuples stand in.
use Rattle.std.specs.Prelude.{ℕ, List, map, take, drop, slice_index_or}
use Rattle.aql_types.specs.declared.node.Node.{Node}
use Rattle.aql_types.specs.declared.node.Node.TheVariants as node
use Rattle.aql_types.specs.Shapes as shape
use Rattle.aql_types.specs.Shapes.{Shape}

-- a variable by its number, a type by its parts, or a link to the node that stands for this one
pub data Form : Type 0 where
  var : ℕ → Form
  made : Shape → Form
  link : ℕ → Form

-- the parts of a tuple: those of the list from that place on, as many as they are
abbrev pub parts_from : List ℕ → ℕ → ℕ → List ℕ
parts_from ps first count = take count (drop first ps)

-- the form of a node, where the parts of tuples stand in that list
abbrev pub form_of : List ℕ → Node → Form
form_of ps (node.Var x) = var x
form_of ps node.Nat = made shape.natural
form_of ps node.Bool = made shape.truth
form_of ps node.Text = made shape.text
form_of ps (node.Tuple first count) = made (shape.product (parts_from ps first count))
form_of ps (node.Set p) = made (shape.set_of p)
form_of ps (node.Array rank p) = made (shape.array_of rank p)
form_of ps (node.Link j) = link j

-- the forms of all nodes
abbrev pub forms : List ℕ → List Node → List Form
forms ps ns = map (form_of ps) ns

-- the form of that number; past the end a variable, of which nothing is said
abbrev pub at : List Form → ℕ → Form
at fs i = slice_index_or fs i (var 0)
