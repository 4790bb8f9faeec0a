-- The index: a map from each name to its positions, and of each position the number of its name among the map's keys.
use Rattle.std.specs.Prelude.{◌≡◌, ◌+◌, ◌<◌, ◌≤◌, ℕ, zero, suc, Bool, List, [], ◌∷◌, ◌++◌, map, length, Option, Some, None, is_some, nat_lt, if◌then◌else◌}
use Rattle.std.specs.Global.{Vec}
use Rattle.std.specs.List.{prefix_len}
use Rattle.std.specs.Str.{bytes_eq}
use Rattle.indexmap.specs.IndexMap.{IndexMap, get_by, keys}
use Rattle.aql_value.specs.Partial.{or_else}
use Rattle.aql_names.specs.Named.{Name}

-- the map
abbrev pub NameIndex : Type 0 → Type 0
NameIndex S = IndexMap (Vec ℕ) (Vec ℕ) S

-- the positions of a list that may be there
abbrev pub positions_in : Option (Vec ℕ) → List ℕ
positions_in None = []
positions_in (Some list) = list.items

-- the positions that the map has for a name
abbrev pub name_positions : {S : Type 0} → NameIndex S → Name → List ℕ
name_positions m x = positions_in (get_by (λ k. bytes_eq x k.items) m)

-- whether the name is a key of the map
abbrev pub has_key : {S : Type 0} → NameIndex S → Name → Bool
has_key m x = is_some (get_by (λ k. bytes_eq x k.items) m)

-- the key of that number
abbrev pub key_at : List (Vec ℕ) → ℕ → Name
key_at [] i = []
key_at (k ∷ ks) zero = k.items
key_at (k ∷ ks) (suc i) = key_at ks i

-- the names of the positions
abbrev pub names_in : {S : Type 0} → NameIndex S → List ℕ → List Name
names_in m numbers = map (key_at (keys m)) numbers

-- each of these numbers is below n
abbrev pub AreBelow : ℕ → List ℕ → Type 0
AreBelow n [] = Unit {0}
AreBelow n (k ∷ ks) = (k < n) × AreBelow n ks

-- the positions that have the name, ascending, the first of these names being that of position n
abbrev pub positions_from : ℕ → Name → List Name → List ℕ
positions_from n x [] = []
positions_from n x (y ∷ ys) = if bytes_eq x y then n ∷ positions_from (n + 1) x ys else positions_from (n + 1) x ys

-- the map has the positions of each name
pub record IsIndex {S : Type 0} (m : NameIndex S) (numbers : List ℕ) : Type 0 where
  pub numbered : AreBelow (length (keys m)) numbers
  pub positions : (x : Name) → name_positions m x ≡ positions_from 0 x (names_in m numbers)

-- the map has one position more for the name, which is the key of number k, and else what it had
pub record GainsPosition {S : Type 0} (old new : NameIndex S) (name : Name) (n k : ℕ) : Type 0 where
  pub positions : (x : Name) → name_positions new x ≡ (if bytes_eq x name then name_positions old x ++ n ∷ [] else name_positions old x)
  pub kept : (i : ℕ) → i < length (keys old) → key_at (keys new) i ≡ key_at (keys old) i
  pub longer : length (keys old) ≤ length (keys new)
  pub inside : k < length (keys new)
  pub named : key_at (keys new) k ≡ name

-- the map has for each name what it had
pub record SamePositions {S : Type 0} (old new : NameIndex S) : Type 0 where
  pub positions : (x : Name) → name_positions new x ≡ name_positions old x
  pub keys : keys new ≡ keys old

-- the last of a list
abbrev pub last_of : List ℕ → Option ℕ
last_of [] = None
last_of (p ∷ ps) = or_else (last_of ps) (Some p)

-- how many from the front on are below n
abbrev pub count_below : ℕ → List ℕ → ℕ
count_below n ps = prefix_len (λ p. nat_lt p n) ps
