-- The calls on an object in memory: which of them fail, and how many bytes each gives or takes.
use Rattle.std.specs.Prelude.{ℕ, ◌+◌, ◌-◌, ◌^◌, ◌<◌, Bool, List, min, max, Contains, slice_get, if◌then◌else◌}
use Rattle.std.specs.Option.{option_map_or}

-- the calls made so far, and what is settled of those to come
pub record Calls : Type 0 where
  -- the numbers of the calls that fail, where the first call has number 1
  pub fails : List ℕ
  -- the most bytes that each call in turn gives or takes
  pub pieces : List ℕ
  -- how many calls were made
  pub made : ℕ
  -- how many of them failed
  pub failed : ℕ

-- before the first call
abbrev pub no_calls : List ℕ → List ℕ → Calls
no_calls fails pieces = record { fails = fails; pieces = pieces; made = 0; failed = 0 }

-- one more, in a counter of 64 bits that stays at its end
abbrev pub one_more : ℕ → ℕ
one_more count = min (count + 1) (2 ^ 64 - 1)

-- after one call more
abbrev pub after_call : Calls → Bool → Calls
after_call calls fails = record calls { made = one_more calls.made; failed = if fails then one_more calls.failed else calls.failed }

-- the next call is one of those that fail, whose numbers have 64 bits
abbrev pub NextFails : Calls → Type 0
NextFails calls = (calls.made + 1 < 2 ^ 64) × Contains calls.fails (calls.made + 1)

-- the most bytes that the next call gives or takes of so many: at most its number in the list, where
-- 0 counts as 1, and no bound past the end of the list
abbrev pub next_piece : Calls → ℕ → ℕ
next_piece calls length = option_map_or (λ most. min (max most 1) length) (slice_get calls.pieces calls.made) length
