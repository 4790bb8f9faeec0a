-- Where the parts of tuples stand, and how variables are numbered.
use Rattle.std.specs.Prelude.{ℕ, ◌≤◌, ◌+◌, List, [], ◌∷◌, ◌++◌, length, slice_index_or}
use Rattle.aql_types.specs.declared.node.Node.{Node}
use Rattle.aql_types.specs.declared.node.Node.TheVariants as node
use Rattle.aql_types.specs.Forms.{Form}
use Rattle.aql_types.specs.Forms as form

-- where the parts of a tuple end
abbrev pub range_end : Node → ℕ
range_end (node.Var x) = 0
range_end node.Nat = 0
range_end node.Bool = 0
range_end node.Text = 0
range_end (node.Tuple first count) = first + count
range_end (node.Set p) = 0
range_end (node.Array rank p) = 0
range_end (node.Link j) = 0

-- the parts of each tuple stand in the list
abbrev pub AreInside : List ℕ → List Node → Type 0
AreInside ps ns = (i : ℕ) → range_end (slice_index_or ns i (node.Var 0)) ≤ length ps

-- the number of a variable's node
abbrev pub variable_in : Form → List ℕ
variable_in (form.var x) = x ∷ []
variable_in (form.made s) = []
variable_in (form.link j) = []

-- the numbers of the variables, in the order of their nodes
abbrev pub variables_in : List Form → List ℕ
variables_in [] = []
variables_in (f ∷ fs) = variable_in f ++ variables_in fs

-- where the variables' nodes stand, the first form having number a
abbrev pub homes_from : ℕ → List Form → List ℕ
homes_from a [] = []
homes_from a (form.var x ∷ fs) = a ∷ homes_from (a + 1) fs
homes_from a (form.made s ∷ fs) = homes_from (a + 1) fs
homes_from a (form.link j ∷ fs) = homes_from (a + 1) fs

-- the nodes of the variables, by the variables' numbers where these are in the order of the nodes
abbrev pub homes_of : List Form → List ℕ
homes_of fs = homes_from 0 fs
