-- What each move lowers.
use Rattle.std.proofs.Common.{ℕ, suc, ◌+◌, ◌*◌, Bool, true, false, nat_le}
use Rattle.nrca_term.specs.Term.{Term, Form}
use Rattle.nrca_rule_laws.specs.Lets.{is_bind}
use Rattle.nrca_motion.specs.Counting.{Count, pairs_of}

-- every form but the let, above each of its parts
abbrev pub is_other : Form → ℕ → Bool
is_other Form.bind i = false
is_other _ i = true

-- a loop or tabulation, above its body
abbrev pub is_body : Form → ℕ → Bool
is_body Form.big_union (suc i) = true
is_body Form.sum (suc i) = true
is_body (Form.tab rank) i = nat_le rank i
is_body _ i = false

-- the pairs of a loop or tabulation and a node in its body
abbrev pub in_loops : Count
in_loops = record { counted = λ f. true; above = is_body }

-- the pairs of a node other than a let and a let below it
abbrev pub lets_below : Count
lets_below = record { counted = is_bind; above = is_other }

-- the measure that each move lowers: N is the number of nodes of the whole term, which stays
abbrev pub measure_of : ℕ → Term → ℕ
measure_of N t = (N + 1) * pairs_of in_loops t + pairs_of lets_below t
