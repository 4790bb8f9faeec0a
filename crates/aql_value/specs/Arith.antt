-- The arithmetic of naturals from 0 to 2^128-1: none where it is undefined. A difference is `a - b`, which is 0 where a is smaller.
use Rattle.std.specs.Prelude.{ℕ, ◌+◌, ◌*◌, ◌/◌, ◌%◌, ◌^◌, nat_lt, nat_eq, cond, Option, Some, None}

-- the number, or none past 2^128-1
abbrev pub if_fits : ℕ → Option ℕ
if_fits n = cond (nat_lt n (2 ^ 128)) (Some n) None

-- undefined past 2^128-1
abbrev pub natural_sum : ℕ → ℕ → Option ℕ
natural_sum a b = if_fits (a + b)

-- undefined past 2^128-1
abbrev pub natural_product : ℕ → ℕ → Option ℕ
natural_product a b = if_fits (a * b)

-- undefined at the divisor 0
abbrev pub natural_quotient : ℕ → ℕ → Option ℕ
natural_quotient a b = cond (nat_eq b 0) None (Some (a / b))

-- undefined at the divisor 0
abbrev pub natural_remainder : ℕ → ℕ → Option ℕ
natural_remainder a b = cond (nat_eq b 0) None (Some (a % b))
