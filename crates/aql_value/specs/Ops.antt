-- What an operation makes of two numbers, and a comparison of an order.
use Rattle.std.specs.Prelude.{ℕ, ◌-◌, Bool, Option, Some}
use Rattle.std.specs.declared.cmp.Ordering.{Ordering}
use Rattle.std.specs.Ordering.{is_eq, is_ne, is_lt, is_le, is_gt, is_ge}
use Rattle.aql_value.specs.Arith.{natural_sum, natural_product, natural_quotient, natural_remainder}
use Rattle.aql_value.specs.declared.ops.ArithOp.{ArithOp}
use Rattle.aql_value.specs.declared.ops.ArithOp.TheVariants.{Add, Monus, Mul, Quotient, Remainder}
use Rattle.aql_value.specs.declared.ops.CompareOp.{CompareOp}
use Rattle.aql_value.specs.declared.ops.CompareOp.TheVariants as op

-- the number that an operation makes of two, or none
abbrev pub arith_by : ArithOp → ℕ → ℕ → Option ℕ
arith_by Add a b = natural_sum a b
arith_by Monus a b = Some (a - b)
arith_by Mul a b = natural_product a b
arith_by Quotient a b = natural_quotient a b
arith_by Remainder a b = natural_remainder a b

-- whether a comparison holds of two values in this order
abbrev pub compare_by : CompareOp → Ordering → Bool
compare_by op.Equal o = is_eq o
compare_by op.Unequal o = is_ne o
compare_by op.Less o = is_lt o
compare_by op.LessEqual o = is_le o
compare_by op.Greater o = is_gt o
compare_by op.GreaterEqual o = is_ge o
