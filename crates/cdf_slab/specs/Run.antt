-- Offsets a step apart.
use Rattle.std.specs.Prelude.{◌≡◌, ℕ, ◌+◌, ◌-◌, ◌*◌, ◌^◌, ◌≤◌, ◌<◌, false, List, map, Option, Some, None, if◌then◌else◌}
use Rattle.std.specs.List.{range_with_len}
use Rattle.cdf_header.specs.Format.{type_size}
use Rattle.cdf_slab.specs.Numbers.{has_sign, number_of}
use Rattle.cdf_slab.specs.declared.window.Window.{Window}

-- n offsets from `here` on, a step apart
abbrev pub apart : (here step n : ℕ) → List ℕ
apart here step n = map (λ k. here + k * step) (range_with_len 0 n)

-- n numbers of so many bytes, a step apart from an offset on, stand in the piece
pub record HoldsRun (w : Window) (place size step n : ℕ) : Type 0 where
  pub behind : w.at ≤ place
  pub before : (k : ℕ) → k < n → place + k * step + size ≤ w.at + w.count

-- the least that the bytes of a number below 0 spell, where the type has a sign
abbrev pub lowest : (kind : ℕ) → Option ℕ
lowest kind = if has_sign kind then Some (2 ^ (8 * type_size kind - 1)) else None

-- what the bytes spell is the number itself
abbrev pub IsNatural : (kind : ℕ) → ℕ → Type 0
IsNatural kind x = number_of kind x ≡ (false, x)
