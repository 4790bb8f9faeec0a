-- Pairs of two naturals as values.
use Rattle.std.specs.Prelude.{ℕ, Bool, ◌&&◌, nat_eq, List, [], ◌∷◌, Option, Some, None}
use Rattle.std.specs.Ordering.{nat_cmp, ordering_then}
use Rattle.std.specs.declared.cmp.Ordering.{Ordering}
use Rattle.std.specs.List.{slice_get}
use Rattle.aql_value.specs.Datum.{Datum, natural, tuple, data_of}
use Rattle.aql_value.specs.Operations.{as_natural, as_tuple}
use Rattle.aql_value.specs.Partial.{◌>>=◌}

-- a pair of two numbers as a value
abbrev pub pair_value : ℕ × ℕ → Datum
pair_value p = tuple (data_of (natural p.0 ∷ natural p.1 ∷ []))

-- the numbers of two parts that are naturals
abbrev pub two_numbers : List Datum → Option (ℕ × ℕ)
two_numbers [] = None
two_numbers (a ∷ []) = None
two_numbers (a ∷ b ∷ []) = as_natural a >>= λ m. as_natural b >>= λ n. Some (m, n)
two_numbers (a ∷ b ∷ c ∷ vs) = None

-- the two numbers, where the value is a pair of naturals
abbrev pub as_numbers : Datum → Option (ℕ × ℕ)
as_numbers v = as_tuple v >>= two_numbers

-- the order of pairs, by the first numbers and then by the second
abbrev pub pair_cmp : ℕ × ℕ → ℕ × ℕ → Ordering
pair_cmp p q = ordering_then (nat_cmp p.0 q.0) (nat_cmp p.1 q.1)

-- whether two pairs are equal
abbrev pub pair_eq : ℕ × ℕ → ℕ × ℕ → Bool
pair_eq p q = nat_eq p.0 q.0 && nat_eq p.1 q.1

-- the natural that the value at a place is, if there is one and it is a natural
abbrev pub number_at : List Datum → ℕ → Option ℕ
number_at vs i = slice_get vs i >>= as_natural

-- the two numbers of the value at a place, if there is one and it is a pair of naturals
abbrev pub pair_at : List Datum → ℕ → Option (ℕ × ℕ)
pair_at vs i = slice_get vs i >>= as_numbers
