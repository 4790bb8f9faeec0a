-- What operations make of intervals. An upper end of 2^128-1 means that or more, so sums and products stop there.
use Rattle.std.proofs.Common.{ℕ, ◌+◌, ◌*◌, ◌-◌, ◌^◌, Bool, true, ◌&&◌, nat_lt, nat_eq, min, max, List, [], ◌∷◌, if◌then◌else◌}
use Rattle.aql_value.specs.declared.ops.ArithOp.{ArithOp}
use Rattle.aql_value.specs.declared.ops.ArithOp.TheVariants.{Add, Monus, Mul, Quotient, Remainder}
use Rattle.aql_value.specs.Limits.{saturate}
use Rattle.nrca_ranges.specs.declared.interval.Interval.{Interval}

-- the interval with these ends
abbrev pub between : ℕ → ℕ → Interval
between l h = record { low = l; high = h }

-- all numbers
abbrev pub everything : Interval
everything = between 0 (2 ^ 128 - 1)

-- whether an upper end is one
abbrev pub is_end : ℕ → Bool
is_end h = nat_lt h (2 ^ 128 - 1)

-- the upper end of what is below the numbers that have this one
abbrev pub before : ℕ → ℕ
before h = if is_end h then h - 1 else h

-- the least interval that holds both
abbrev pub hull : Interval → Interval → Interval
hull a b = between (min a.low b.low) (max a.high b.high)

-- the same at each place of two lists, as far as both go
abbrev pub hulls : List Interval → List Interval → List Interval
hulls [] js = []
hulls (i ∷ is) [] = []
hulls (i ∷ is) (j ∷ js) = hull i j ∷ hulls is js

-- the least that a difference may be, from the least first number and the greatest second one
abbrev pub least_rest : ℕ → ℕ → ℕ
least_rest low high = if is_end high then low - high else 0

-- the interval of what an operation makes of a number of the one and a number of the other
abbrev pub arith_interval : ArithOp → Interval → Interval → Interval
arith_interval Add a b = between (saturate (a.low + b.low)) (saturate (a.high + b.high))
arith_interval Monus a b = between (least_rest a.low b.high) a.high
arith_interval Mul a b = between (saturate (a.low * b.low)) (saturate (a.high * b.high))
arith_interval Quotient a b = between 0 a.high
arith_interval Remainder a b = between 0 (min a.high (before b.high))

-- of the union of two sets: at least as many members as the greater lower end, at most the sum of the upper ends
abbrev pub union_count : Interval → Interval → Interval
union_count a b = between (max a.low b.low) (saturate (a.high + b.high))

-- of the union of sets: none, or up to the product of how many they are and how many members each has
abbrev pub loop_count : Interval → Interval → Interval
loop_count a b = between 0 (saturate (a.high * b.high))

-- of a sum: the products of how many numbers they are and how great each is
abbrev pub loop_sum : Interval → Interval → Interval
loop_sum a b = between (saturate (a.low * b.low)) (saturate (a.high * b.high))

-- whether the operation has a value at all numbers of the two intervals
abbrev pub always_fits : ArithOp → Interval → Interval → Bool
always_fits Add a b = is_end (saturate (a.high + b.high))
always_fits Monus a b = true
always_fits Mul a b = is_end (saturate (a.high * b.high))
always_fits Quotient a b = nat_lt 0 b.low
always_fits Remainder a b = nat_lt 0 b.low

-- whether all numbers of the interval are below all those of the other
abbrev pub is_below : Interval → Interval → Bool
is_below x d = is_end x.high && nat_lt x.high d.low

-- whether the interval is of one number alone
abbrev pub is_single : Interval → Bool
is_single i = nat_eq i.low i.high && is_end i.high

-- whether each interval of a list is
abbrev pub all_single : List Interval → Bool
all_single [] = true
all_single (i ∷ is) = is_single i && all_single is

-- the lower ends
abbrev pub lows : List Interval → List ℕ
lows [] = []
lows (i ∷ is) = i.low ∷ lows is

-- whether sets with so many members have exactly one
abbrev pub is_one : Interval → Bool
is_one i = nat_eq i.low 1 && nat_eq i.high 1
