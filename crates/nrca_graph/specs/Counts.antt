-- How many loops a term has.
use Rattle.std.specs.Prelude.{ℕ, ◌+◌}
use Rattle.nrca_term.specs.Term.{Term, Parts, node, none, part, Form}

-- what a node counts as a loop, where each sum and each big union counts so much
abbrev pub loop_number : (sum big_union : ℕ) → Form → ℕ
loop_number a b Form.sum = a
loop_number a b Form.big_union = b
loop_number a b _ = 0

abbrev mutual
  -- what all loops of a term count
  pub loops_of : (sum big_union : ℕ) → Term → ℕ
  loops_of a b (node f ps) = loop_number a b f + parts_loops a b ps

  -- those of the parts
  pub parts_loops : (sum big_union : ℕ) → Parts → ℕ
  parts_loops a b none = 0
  parts_loops a b (part k t ps) = loops_of a b t + parts_loops a b ps

-- the number of sums
abbrev pub sums_of : Term → ℕ
sums_of t = loops_of 1 0 t

-- the number of big unions
abbrev pub big_unions_of : Term → ℕ
big_unions_of t = loops_of 0 1 t

-- the rank of a tabulation, 0 for another form
abbrev pub own_rank : Form → ℕ
own_rank (Form.tab rank) = rank
own_rank _ = 0

abbrev mutual
  -- the sum of the ranks of the tabulations of a term
  pub ranks_of : Term → ℕ
  ranks_of (node f ps) = own_rank f + parts_ranks ps

  -- those of the parts
  pub parts_ranks : Parts → ℕ
  parts_ranks none = 0
  parts_ranks (part k t ps) = ranks_of t + parts_ranks ps
