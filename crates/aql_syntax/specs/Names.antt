-- Names and what they stand for.
use Rattle.std.specs.Prelude.{Bool, List, [], ◌∷◌, Option, Some, None, if◌then◌else◌}
use Rattle.std.specs.Str.{bytes_eq}
use Rattle.aql_syntax.specs.Tree.{Name}

-- whether two names are the same bytes
abbrev pub names_equal : Name → Name → Bool
names_equal = bytes_eq

-- the first entry of that name: the innermost local name, or the latest position
abbrev pub find : {A : Type 0} → Name → List (Name × A) → Option A
find x [] = None
find x ((y, a) ∷ rest) = if names_equal x y then Some a else find x rest
