-- What the steps of solving do.
use Rattle.std.specs.Prelude.{ℕ, ◌≡◌, ◌⊎◌, ◌<◌, ◌≤◌, ◌+◌, List, [], ◌∷◌, ◌++◌, length, sum_by, slice_set, Bool, true, false, Option, Some, None, Result, Ok, Err, Vec}
use Rattle.std.specs.Global.{Global}
use Rattle.aql_ty.specs.Types.{Subst}
use Rattle.aql_types.specs.declared.fault.UnifyFault.{UnifyFault}
use Rattle.aql_types.specs.declared.fault.UnifyFault.TheVariants as faults
use Rattle.aql_types.specs.declared.node.Node.{Node}
use Rattle.aql_types.specs.declared.node.Node.TheVariants as node
use Rattle.aql_types.specs.declared.node.Equation.{Equation}
use Rattle.aql_types.specs.Shapes.{Valuation, parts, alike}
use Rattle.aql_types.specs.Forms.{Form, forms, at}
use Rattle.aql_types.specs.Forms as form
use Rattle.aql_types.specs.Valuations.{Holds, Equal, Named, IsOrdered, AreIn, IsRoot}

-- a node that no link has replaced has a potential one above the number of its parts: it pays for their equations
abbrev pub potential_of : Form → ℕ
potential_of (form.var z) = 1
potential_of (form.made s) = length (parts s) + 1
potential_of (form.link j) = 0

-- the potential of all nodes
abbrev pub potential : List Form → ℕ
potential fs = sum_by potential_of fs

-- the same types fit both graphs: at most links were changed
pub record Keeps (fs gs : List Form) : Type 0 where
  pub long : length gs ≡ length fs
  pub ordered : IsOrdered fs → IsOrdered gs
  pub on : (v : Valuation) → Holds v fs → Holds v gs
  pub back : (v : Valuation) → Holds v gs → Holds v fs
  pub potential_kept : potential gs ≡ potential fs
  pub names : (u : Subst) (v : Valuation) → Holds v fs → Named u v fs → Named u v gs
  pub roots : (i : ℕ) → IsRoot (at fs i) → IsRoot (at gs i)

-- the same types fit the nodes, whatever the parts of their tuples
abbrev pub KeepsNodes : List Node → List Node → Type 0
KeepsNodes ns ms = (ps : List ℕ) → Keeps (forms ps ns) (forms ps ms)

-- the nodes as far as links go, which lead to no parts
abbrev pub bare : List Node → List Form
bare ns = forms [] ns

-- each link leads to a node below
abbrev pub LinksDown : List Form → Type 0
LinksDown fs = (i j : ℕ) → at fs i ≡ form.link j → j < i

-- whether it is the node of a variable
abbrev pub is_var : Form → Bool
is_var (form.var z) = true
is_var (form.made s) = false
is_var (form.link j) = false

-- whether the types of two nodes may be equal, as far as their forms show
abbrev pub alike_forms : Form → Form → Bool
alike_forms (form.made s) (form.made t) = alike s t
alike_forms _ _ = false

-- the numbers of a node's parts
abbrev pub form_parts : Form → List ℕ
form_parts (form.var z) = []
form_parts (form.made s) = parts s
form_parts (form.link j) = []

-- the equations between parts, place by place
abbrev pub pair_parts : List ℕ → List ℕ → List Equation
pair_parts (p ∷ ps) (q ∷ qs) = record { left = p; right = q } ∷ pair_parts ps qs
pair_parts _ _ = []

-- the equation of these two nodes, either way round
abbrev pub Sides : Equation → ℕ → ℕ → Type 0
Sides e a b = (e ≡ record { left = a; right = b }) ⊎ (e ≡ record { left = b; right = a })

-- the same types solve both: the first graph with the equations w, and the second with x
pub record Leads (fs gs : List Form) (w x : List Equation) : Type 0 where
  pub long : length gs ≡ length fs
  pub ordered : IsOrdered gs
  pub inside : AreIn (length gs) x
  pub on : (v : Valuation) → Holds v fs → Equal v w → Holds v gs × Equal v x
  pub back : (v : Valuation) → Holds v gs → Equal v x → Holds v fs × Equal v w
  pub names : (u : Subst) (v : Valuation) → Holds v fs → Equal v w → Named u v fs → Named u v gs

-- one equation was taken, and less is left to do
pub record Steps (fs gs : List Form) (e : Equation) (w x : List Equation) : Type 0 where
  pub leads : Leads fs gs (w ++ e ∷ []) x
  pub potential_falls : potential gs + length x ≤ potential fs + length w

-- one equation taken beside w, or no types solve it
abbrev pub Stepped : Result (Vec Equation Global) UnifyFault → List Form → List Form → Equation → List Equation → Type 0
Stepped (Ok x) fs gs e w = Steps fs gs e w x.items
Stepped (Err faults.Clash) fs gs e w = (v : Valuation) → Holds v fs → v e.left ≡ v e.right → ⊥
Stepped (Err faults.Memory) fs gs e w = Unit {0}

-- all equations taken, or no types solve them
abbrev pub Taken : Result (Unit {0}) UnifyFault → List Form → List Form → List Equation → Type 0
Taken (Ok x) fs gs w = Leads fs gs w []
Taken (Err faults.Clash) fs gs w = (v : Valuation) → Holds v fs → Equal v w → ⊥
Taken (Err faults.Memory) fs gs w = Unit {0}

-- each link leads to a root
abbrev pub IsFlat : List Form → Type 0
IsFlat fs = (i j : ℕ) → at fs i ≡ form.link j → IsRoot (at fs j)

-- each link of the first n nodes does
abbrev pub IsFlatBelow : ℕ → List Form → Type 0
IsFlatBelow n fs = (i j : ℕ) → i < n → at fs i ≡ form.link j → IsRoot (at fs j)

-- where a link leads; none where the node stands for itself
abbrev pub link_in : Form → Option ℕ
link_in (form.var z) = None
link_in (form.made s) = None
link_in (form.link j) = Some j

-- the node at i made to lead there
abbrev pub shorter : List Node → ℕ → Option ℕ → List Node
shorter ns i None = ns
shorter ns i (Some k) = slice_set ns i (node.Link k)
