-- The names of positions, and where a name stands.
use Rattle.std.specs.Prelude.{ℕ, suc, List, [], ◌∷◌, Option, Some, None, if◌then◌else◌}
use Rattle.std.specs.Option.{option_map}
use Rattle.std.specs.Str.{bytes_eq}
use Rattle.aql_value.specs.Partial.{or_else}

-- a name: its bytes
abbrev pub Name : Type 0
Name = List ℕ

-- the last position, counted from 0, that has the name: None where none has
abbrev pub last_named : Name → List Name → Option ℕ
last_named x [] = None
last_named x (y ∷ ys) = or_else (option_map suc (last_named x ys)) (if bytes_eq x y then Some 0 else None)
