-- The measure that each rewriting lowers: the weight, and then the number of pairs.
use Rattle.std.specs.Prelude.{◌≡◌, ℕ, suc, ◌+◌, ◌*◌, ◌<◌, ◌⊎◌, Bool, true, false}
use Rattle.aql_value.specs.Strict.{Strict}
use Rattle.nrca_term.specs.Term.{Term, Parts, node, none, part, Form, weight_of}

-- the forms with an operand, which is their first part: loops, projections, subscripts, dimensions
abbrev pub has_operand : Form → Bool
has_operand Form.big_union = true
has_operand Form.sum = true
has_operand (Form.strict (Strict.proj at of)) = true
has_operand (Form.strict Strict.sub) = true
has_operand (Form.strict (Strict.dim rank)) = true
has_operand _ = false

abbrev mutual
  -- the number of nodes
  pub nodes_of : Term → ℕ
  nodes_of (node f ps) = suc (parts_nodes ps)

  -- the nodes of all parts
  pub parts_nodes : Parts → ℕ
  parts_nodes none = 0
  parts_nodes (part k t ps) = nodes_of t + parts_nodes ps

-- the nodes of the first part
abbrev pub first_nodes : Parts → ℕ
first_nodes none = 0
first_nodes (part k t ps) = nodes_of t

-- the pairs that a node makes with the nodes of its first part, where its form makes any
abbrev pub own_pairs : Bool → Parts → ℕ
own_pairs true ps = first_nodes ps
own_pairs false ps = 0

abbrev mutual
  -- the number of pairs of a node with an operand and a node in that operand
  pub pairs_of : Term → ℕ
  pairs_of (node f ps) = own_pairs (has_operand f) ps + parts_pairs ps

  -- the pairs within all parts
  pub parts_pairs : Parts → ℕ
  parts_pairs none = 0
  parts_pairs (part k t ps) = pairs_of t + parts_pairs ps

-- the order in which terms fall
abbrev pub Below : Term → Term → Type 0
Below s t = (weight_of s < weight_of t) ⊎ ((weight_of s ≡ weight_of t) × (pairs_of s < pairs_of t))

-- a rule lowers the weight, or keeps the weight and the nodes and lowers the pairs
abbrev pub Lowers : Term → Term → Type 0
Lowers l r = (weight_of r < weight_of l) ⊎ ((weight_of r ≡ weight_of l) × (nodes_of r ≡ nodes_of l) × (pairs_of r < pairs_of l))

-- what is left to fall, where no term has more than b pairs
abbrev pub left_of : ℕ → Term → ℕ
left_of b t = weight_of t * (b + 1) + pairs_of t
