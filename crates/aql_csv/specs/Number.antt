-- Numbers in fields.
use Rattle.std.specs.Prelude.{ℕ, ◌+◌, ◌-◌, ◌*◌, ◌^◌, List, [], ◌∷◌, Bool, true, Option, Some, None, nat_lt, nat_le, nat_eq, length, ◌&&◌, if◌then◌else◌}

-- a byte is a decimal digit
abbrev pub is_digit : ℕ → Bool
is_digit b = nat_le 48 b && nat_le b 57

-- bytes are decimal digits
abbrev pub all_digits : List ℕ → Bool
all_digits [] = true
all_digits (b ∷ s) = is_digit b && all_digits s

-- the number that digits make behind the number n
abbrev pub decimal : ℕ → List ℕ → ℕ
decimal n [] = n
decimal n (b ∷ s) = decimal (10 * n + (b - 48)) s

-- the same, None where it is no number of 128 bits or a byte is no digit
abbrev pub number_behind : ℕ → List ℕ → Option ℕ
number_behind n s = if all_digits s && nat_lt (decimal n s) (2 ^ 128) then Some (decimal n s) else None

-- the number that one or more decimal digits spell, None for other bytes and past 128 bits
abbrev pub number_of : List ℕ → Option ℕ
number_of s = if nat_eq (length s) 0 then None else number_behind 0 s
