-- The last position that has a name is one of the positions.
use Rattle.std.proofs.Common.{◌≡◌, ◌<◌, ℕ, suc, Bool, true, false, List, [], ◌∷◌, length, Option, Some, None, IfSome, subst, if◌then◌else◌, arith}
use Rattle.std.specs.Option.{option_map}
use Rattle.std.specs.Str.{bytes_eq}
use Rattle.aql_value.specs.Partial.{or_else}
use Rattle.aql_names.specs.Named.{Name, last_named}

inside : (x : Name) (names : List Name) → IfSome (last_named x names) (λ i. i < length names)
inside x [] = tt
inside x (y ∷ ys) = go (last_named x ys) (bytes_eq x y) (inside x ys)
  where
    go : (o : Option ℕ) (b : Bool) → IfSome o (λ i. i < length ys) → IfSome (or_else (option_map suc o) (if b then Some 0 else None)) (λ i. i < length (y ∷ ys))
    go None true h = omega arith
    go None false h = tt
    go (Some i) b h = omega (arith, h)

-- it is one of the positions
pub last_named_inside : (x : Name) (names : List Name) (i : ℕ) → last_named x names ≡ Some i → i < length names
last_named_inside x names i e = subst (λ o. IfSome o (λ i. i < length names)) e (inside x names)
