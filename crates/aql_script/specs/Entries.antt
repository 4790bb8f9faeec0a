-- The extents that the code's list of them is, beside the names of the positions.
use Rattle.std.specs.Prelude.{List, [], ◌∷◌, Some}
use Rattle.aql_syntax.specs.Tree.{Name}
use Rattle.aql_syntax.specs.Size.{Extents}
use Rattle.aql_syntax.specs.Kept.{extent_in}
use Rattle.aql_syntax.specs.declared.walk.Added.{Added}

-- names with what is kept of them, put before others one after another
abbrev pub entries_onto : List Name → List Added → Extents → Extents
entries_onto [] ks ms = ms
entries_onto (x ∷ xs) [] ms = ms
entries_onto (x ∷ xs) (k ∷ ks) ms = entries_onto xs ks ((x, Some (extent_in k)) ∷ ms)

-- names with what is kept of them, the latest first
abbrev pub entries : List Name → List Added → Extents
entries xs ks = entries_onto xs ks []
