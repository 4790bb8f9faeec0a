-- A graph as a list of flat equations: node i stands for a type, and says what that is by the types of other nodes.
use Rattle.std.specs.Prelude.{ℕ, ◌≡◌, ◌<◌, List, [], ◌∷◌, length}
use Rattle.aql_value.specs.Lists.{Every}
use Rattle.aql_ty.specs.Types.{Ty, Subst}
use Rattle.aql_types.specs.declared.node.Equation.{Equation}
use Rattle.aql_types.specs.Shapes.{Valuation, whole, parts}
use Rattle.aql_types.specs.Forms.{Form, at}
use Rattle.aql_types.specs.Forms as form

-- what a node says of its type, under the types of all nodes; the node of a variable says nothing
abbrev pub Says : Valuation → Form → Ty → Type 0
Says v (form.var z) t = Unit {0}
Says v (form.made s) t = t ≡ whole v s
Says v (form.link j) t = t ≡ v j

-- these types fit all nodes
abbrev pub Holds : Valuation → List Form → Type 0
Holds v fs = (i : ℕ) → Says v (at fs i) (v i)

-- the two nodes of each equation have one type
abbrev pub Equal : Valuation → List Equation → Type 0
Equal v [] = Unit {0}
Equal v (e ∷ w) = (v e.left ≡ v e.right) × Equal v w

-- a variable's node has the variable's type: the numbers of variables are not those of nodes
abbrev pub Names : Subst → Form → Ty → Type 0
Names u (form.var x) t = t ≡ u x
Names u (form.made s) t = Unit {0}
Names u (form.link j) t = Unit {0}

-- each variable's node has its type
abbrev pub Named : Subst → Valuation → List Form → Type 0
Named u v fs = (i : ℕ) → Names u (at fs i) (v i)

-- links lead down, and parts are nodes
abbrev pub Points : Form → ℕ → ℕ → Type 0
Points (form.var z) i n = Unit {0}
Points (form.made s) i n = Every (λ p. p < n) (parts s)
Points (form.link j) i n = j < i

-- each link leads to a node below, and each part is a node
abbrev pub IsOrdered : List Form → Type 0
IsOrdered fs = (i : ℕ) → Points (at fs i) i (length fs)

-- both sides of each equation are below n
abbrev pub AreIn : ℕ → List Equation → Type 0
AreIn n [] = Unit {0}
AreIn n (e ∷ w) = (e.left < n) × (e.right < n) × AreIn n w

-- a node that stands for itself
abbrev pub IsRoot : Form → Type 0
IsRoot (form.var z) = Unit {0}
IsRoot (form.made s) = Unit {0}
IsRoot (form.link j) = ⊥
