-- Numbers of nodes and of pairs of nodes, and what keeps them.
use Rattle.std.proofs.Common.{◌≡◌, ℕ, suc, ◌+◌, Bool, true, false}
use Rattle.nrca_term.specs.Term.{Term, Parts, node, none, part, Form}
use Rattle.nrca_term.specs.Subst.{shift_form}

-- which nodes count, and below which parts of which forms they are paired
pub record Count : Type 0 where
  pub counted : Form → Bool
  pub above : Form → ℕ → Bool

-- 1 where it is so
abbrev pub one : Bool → ℕ
one true = 1
one false = 0

-- n where it is so
abbrev pub where_above : Bool → ℕ → ℕ
where_above true n = n
where_above false n = 0

abbrev mutual
  -- the nodes that count
  pub number_of : Count → Term → ℕ
  number_of c (node f ps) = one (c.counted f) + parts_number c ps

  -- how many nodes of the parts count
  pub parts_number : Count → Parts → ℕ
  parts_number c none = 0
  parts_number c (part k t ps) = number_of c t + parts_number c ps

abbrev mutual
  -- the pairs of a node and a node that counts below it, in a part that the first is above
  pub pairs_of : Count → Term → ℕ
  pairs_of c (node f ps) = parts_pairs c f 0 ps

  -- how many pairs the parts from number i on make
  pub parts_pairs : Count → Form → ℕ → Parts → ℕ
  parts_pairs c f i none = 0
  parts_pairs c f i (part k t ps) = where_above (c.above f i) (number_of c t) + (pairs_of c t + parts_pairs c f (suc i) ps)

-- the number of a variable plays no part
pub record IsNameless (c : Count) : Type 0 where
  pub counted : (from by : ℕ) (f : Form) → c.counted (shift_form from by f) ≡ c.counted f
  pub above : (from by : ℕ) (f : Form) (i : ℕ) → c.above (shift_form from by f) i ≡ c.above f i
  pub variables : (i j : ℕ) → c.counted (Form.var i) ≡ c.counted (Form.var j)
