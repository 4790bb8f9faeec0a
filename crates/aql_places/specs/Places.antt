-- Places among tokens.
use Rattle.std.specs.Prelude.{◌≡◌, ◌≤◌, ℕ, length}
use Rattle.std.specs.List.{All}
use Rattle.aql_places.specs.declared.places.Part.{Part}
use Rattle.aql_places.specs.declared.places.Places.{Places}
use Rattle.aql_places.specs.declared.walk.Walk.{Walk}

-- the tokens of a part are some of n
pub record IsPartOf (n : ℕ) (p : Part) : Type 0 where
  pub order : p.from ≤ p.to
  pub within : p.to ≤ n

-- there is a word for each of n tokens, all parts lie among them, and the furthest token is one of them, or the end
-- behind them
pub record ArePlaces (n : ℕ) (p : Places) : Type 0 where
  pub words : length p.words.items ≡ n
  pub parts : All (IsPartOf n) p.parts.items
  pub furthest : p.furthest ≤ n

-- the same of a walk, and of the token that it has come to
pub record IsWithin (n : ℕ) (w : Walk) : Type 0 where
  pub at : w.at ≤ n
  pub parts : All (IsPartOf n) w.parts.items
  pub furthest : w.furthest ≤ n

-- a walk stays within as many tokens as it lay in
abbrev pub Keeps : Walk → Walk → Type 0
Keeps v w = (n : ℕ) → IsWithin n v → IsWithin n w
