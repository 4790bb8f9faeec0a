-- What a graph keeps has at most one proof.
use Rattle.std.specs.Prelude.{ℕ, ◌<◌, List}
use Rattle.std.specs.Coded.{Π_prop, Unit-prop, le_prop}
use Rattle.std.specs.List.{AllByRecursion-prop}
use Rattle.aql_types.specs.declared.node.Node.{Node}
use Rattle.aql_types.specs.Shapes.{parts}
use Rattle.aql_types.specs.Forms.{Form, at}
use Rattle.aql_types.specs.Forms as form
use Rattle.aql_types.specs.Trees.{Grows, IsBuilt}
use Rattle.aql_types.specs.Ranges.{AreInside}

Grows-prop : (f : Form) (i : ℕ) → IsProp (Grows f i)
Grows-prop (form.var x) i = Unit-prop
Grows-prop (form.made s) i = AllByRecursion-prop (λ p. p < i) (λ p. le_prop) (parts s)
Grows-prop (form.link j) i = λ h k. absurd h

-- that each node was made after its parts
pub IsBuilt-prop : (fs : List Form) → IsProp (IsBuilt fs)
IsBuilt-prop fs = Π_prop λ i. Grows-prop (at fs i) i

-- that the parts of each tuple stand in the list
pub AreInside-prop : (ps : List ℕ) (ns : List Node) → IsProp (AreInside ps ns)
AreInside-prop ps ns = Π_prop λ i. le_prop
