-- Lists of at most 8.
use Rattle.std.proofs.Common.{ℕ, ◌≡◌, ◌<◌, ◌≤◌, Some, None, arith}
use Rattle.aql_parse_spec.specs.Parsing.{short}

pub short_ok : {A : Type 0} (n : ℕ) (x : A) → n ≤ 8 → short n x ≡ Some x
short_ok n x h = grind arith

pub short_long : {A : Type 0} (n : ℕ) (x : A) → 8 < n → short n x ≡ None
short_long n x h = grind arith
