-- A type by the numbers of its parts.
use Rattle.std.specs.Prelude.{ℕ, List, [], ◌∷◌, Bool, true, false, ◌==◌, ◌&&◌, nat_le, length}
use Rattle.aql_ty.specs.Types as types
use Rattle.aql_ty.specs.Types.{Ty, Tys, no_type, type}

-- the forms of a type, its parts named by number
pub data Shape : Type 0 where
  natural : Shape
  truth : Shape
  text : Shape
  product : List ℕ → Shape
  set_of : ℕ → Shape
  array_of : ℕ → ℕ → Shape

-- the numbers of the parts, from left to right
abbrev pub parts : Shape → List ℕ
parts natural = []
parts truth = []
parts text = []
parts (product ps) = ps
parts (set_of p) = p ∷ []
parts (array_of k p) = p ∷ []

-- a type for each number
abbrev pub Valuation : Type 0
Valuation = ℕ → Ty

-- the types of some numbers
abbrev pub types_at : Valuation → List ℕ → Tys
types_at v [] = no_type
types_at v (p ∷ ps) = type (v p) (types_at v ps)

-- the type of that shape, each part having its number's type
abbrev pub whole : Valuation → Shape → Ty
whole v natural = types.natural
whole v truth = types.truth
whole v text = types.text
whole v (product ps) = types.product (types_at v ps)
whole v (set_of p) = types.set_of (v p)
whole v (array_of k p) = types.array_of k (v p)

-- whether two shapes are of one form, with as many parts: else no type has both
abbrev pub alike : Shape → Shape → Bool
alike natural natural = true
alike truth truth = true
alike text text = true
alike (product ps) (product qs) = length ps == length qs
alike (set_of p) (set_of q) = true
alike (array_of k p) (array_of l q) = k == l
alike _ _ = false

-- whether it is the shape of a type of the language: its tuples have two or more parts and its arrays ranks from 1 to 8
abbrev pub is_formed : Shape → Bool
is_formed natural = true
is_formed truth = true
is_formed text = true
is_formed (product ps) = nat_le 2 (length ps)
is_formed (set_of p) = true
is_formed (array_of k p) = nat_le 1 k && nat_le k 8
