-- The limits of a run, which the command line and the evaluator name, and numbers that stop at the greatest of 128 bits.
use Rattle.std.specs.Prelude.{ℕ, ◌-◌, ◌^◌, min}

-- the most threads that a run may have
abbrev pub most_workers : ℕ
most_workers = 64

-- the most turns that a declaration may take
abbrev pub most_budget : ℕ
most_budget = 50000000

-- a number, or 2^128-1 where it is larger
abbrev pub saturate : ℕ → ℕ
saturate n = min n (2 ^ 128 - 1)
