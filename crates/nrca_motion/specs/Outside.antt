-- Terms as they stand outside of variables that they do not use.
use Rattle.std.specs.Prelude.{◌≡◌, ℕ, ◌+◌, ◌≤◌, Option, Some, None}
use Rattle.nrca_term.specs.declared.term.Core.{Core}
use Rattle.nrca_term.specs.Term.{Term, weight_of}
use Rattle.nrca_term.specs.View.{term_of}
use Rattle.nrca_term.specs.Subst.{shift_term, top_var}

-- the numbers of the term's variables and its weight stay far below 2^64
abbrev pub HasRoom : Term → Type 0
HasRoom t = top_var t + weight_of t ≤ 4000000

-- the term as it stands outside of its `count` innermost variables, and none where it uses one of them
abbrev pub IsOutside : ℕ → Term → Option Core → Type 0
IsOutside count t None = (u : Term) → t ≡ shift_term 0 count u → ⊥
IsOutside count t (Some u) = t ≡ shift_term 0 count (term_of u)
