-- Places in a script, by lines and columns.
use Rattle.std.specs.Prelude.{◌≡◌, ◌≤◌, ◌+◌, ℕ, List, [], ◌∷◌, ◌==◌, length, take, if◌then◌else◌}
use Rattle.aql_explain.specs.declared.place.Place.{Place}

-- the line of the byte behind these, where n is that of the first of them: a line feed ends a line
abbrev pub line_behind : (n : ℕ) → List ℕ → ℕ
line_behind n [] = n
line_behind n (b ∷ s) = if b == 10 then line_behind (n + 1) s else line_behind n s

-- the column of the byte behind these in its line, where c is that of the first of them: each byte takes one
abbrev pub column_behind : (c : ℕ) → List ℕ → ℕ
column_behind c [] = c
column_behind c (b ∷ s) = if b == 10 then column_behind 1 s else column_behind (c + 1) s

-- the bytes of a place lie in the script, and its line and column are those of the first, each counted from 1
pub record IsPlaceIn (script : List ℕ) (p : Place) : Type 0 where
  pub order : p.from ≤ p.to
  pub within : p.to ≤ length script
  pub line : p.line ≡ line_behind 1 (take p.from script)
  pub column : p.column ≡ column_behind 1 (take p.from script)
