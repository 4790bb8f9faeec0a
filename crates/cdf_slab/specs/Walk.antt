-- The offsets of the cells, dimension after dimension.
use Rattle.std.specs.Prelude.{◌≡◌, ℕ, ◌+◌, ◌-◌, ◌*◌, ◌≤◌, cond, nat_lt, List, [], ◌∷◌, map, Option, Some, None}
use Rattle.std.specs.List.{flat_map, range_with_len}
use Rattle.aql_value.specs.Limits.{saturate}
use Rattle.cdf_slab.specs.declared.axes.Axis.{Axis}

-- one dimension of a hyperslab: where it starts, how many, how far apart, and the bytes from one index to the next
pub record DimensionStep : Type 0 where
  pub start : ℕ
  pub count : ℕ
  pub stride : ℕ
  pub pitch : ℕ

-- what the code holds as such a dimension
abbrev pub step_of : Axis → DimensionStep
step_of a = record { start = a.start; count = a.count; stride = a.stride; pitch = a.pitch }

-- the same of each
abbrev pub steps_of : List Axis → List DimensionStep
steps_of axes = map step_of axes

-- the steps of these lists
abbrev pub steps : (start count stride pitches : List ℕ) → List DimensionStep
steps (s ∷ ss) (c ∷ cs) (t ∷ ts) (w ∷ ws) = record { start = s; count = c; stride = t; pitch = w } ∷ steps ss cs ts ws
steps ss cs ts ws = []

-- the offset of index i of a dimension
abbrev pub along : DimensionStep → ℕ → ℕ → ℕ
along a base i = base + (a.start + i * a.stride) * a.pitch

-- the offsets of the cells from a base on
abbrev pub walk : List DimensionStep → ℕ → List ℕ
walk [] base = base ∷ []
walk (a ∷ axes) base = flat_map (λ i. walk axes (along a base i)) (range_with_len 0 a.count)

-- the offset of the last index of each dimension
abbrev pub last_offset : List DimensionStep → ℕ → ℕ
last_offset [] base = base
last_offset (a ∷ axes) base = last_offset axes (along a base (a.count - 1))

-- each has room for a number of so many bytes before the end
abbrev pub HaveRoom : (size end : ℕ) → List ℕ → Type 0
HaveRoom size end [] = Unit {0}
HaveRoom size end (p ∷ ps) = (p + size ≤ end) × HaveRoom size end ps

-- each that is larger than 2^128-1 as that number
abbrev pub saturate_all : List ℕ → List ℕ
saturate_all ps = map saturate ps

-- the first place whose number passes the end
abbrev pub first_past : (size end : ℕ) → List ℕ → Option ℕ
first_past size end [] = None
first_past size end (p ∷ ps) = cond (nat_lt end (p + size)) (Some p) (first_past size end ps)

-- the places at the index i of the first dimension and behind it
abbrev pub offsets_left : (rest : List DimensionStep) (a : DimensionStep) (base i : ℕ) → List ℕ
offsets_left rest a base i = flat_map (λ j. walk rest (along a base j)) (range_with_len i (a.count - i))

-- these have room
pub record RoomSoFar (rest : List DimensionStep) (a : DimensionStep) (base i size end : ℕ) : Type 0 where
  pub within : HaveRoom size end (offsets_left rest a base i)

-- `here` is the place of index i, and those behind it have room
pub record Turn (rest : List DimensionStep) (a : DimensionStep) (base i size end here : ℕ) : Type 0 where
  pub same : walk rest here ≡ walk rest (along a base i)
  pub next : RoomSoFar rest a base (i + 1) size end
