-- The strict forms that speak of no arrays: those that an array-free term keeps as they are.
use Rattle.aql_value.specs.Strict.{Strict}

-- the strict forms that are kept
abbrev pub IsPlain : Strict → Type 0
IsPlain Strict.sub = ⊥
IsPlain (Strict.dim rank) = ⊥
IsPlain (Strict.index rank) = ⊥
IsPlain (Strict.literal rank) = ⊥
IsPlain _ = Unit {0}
