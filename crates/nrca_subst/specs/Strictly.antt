-- Strict parts of a node: the uses of a variable under strict parts alone, as they are counted.
use Rattle.std.specs.Prelude.{◌≡◌, ℕ, zero, suc, ◌+◌, ◌-◌, ◌^◌, min, Bool, true, false}
use Rattle.nrca_term.specs.Term.{Term, Parts, none, part, form_of, parts_of}
use Rattle.nrca_term.specs.Subst.{is_strict, strict_uses}
use Rattle.nrca_subst.specs.Depth.{IsDepth}

-- the strict uses of each variable that the number `at` may stand for, or the greatest number of 64 bits
abbrev pub CountsStrict : ℕ → Term → ℕ → Type 0
CountsStrict at t count = (n : ℕ) → IsDepth at n → count ≡ min (strict_uses n t) (2 ^ 64 - 1)

-- the strict uses of variable n in part i, if that part is strict, and else none
abbrev pub strict_in : ℕ → Bool → Parts → ℕ → ℕ
strict_in n false ps i = 0
strict_in n true none i = 0
strict_in n true (part k t ps) zero = strict_uses (n + k) t
strict_in n true (part k t ps) (suc i) = strict_in n true ps i

-- those in part i, counted likewise
abbrev pub CountsPart : ℕ → Term → ℕ → ℕ → Type 0
CountsPart at t i count = (n : ℕ) → IsDepth at n → count ≡ min (strict_in n (is_strict (form_of t) i) (parts_of t) i) (2 ^ 64 - 1)
