-- Types without variables, which every instance leaves as they are.
use Rattle.std.specs.Prelude.{ℕ, ◌≡◌, ◌&&◌, List, map, Bool, true, false, Some}
use Rattle.aql_ty.specs.Types as types
use Rattle.aql_ty.specs.Types.{Ty, natural, truth, var, product, set_of, array_of, Tys, no_type, type, Sort, value, macro}
use Rattle.aql_ty.specs.View.{sort_of}
use Rattle.aql_syntax.specs.Names.{find}
use Rattle.aql_names.specs.Named.{Name}
use Rattle.aql_infer_steps.specs.View.{scheme_of, schemes_of, sort_at, names_of}
use Rattle.aql_infer_steps.specs.declared.positions.Position.{Position}
use Rattle.aql_infer_steps.specs.declared.positions.Ground.{Ground}

abbrev mutual
  -- whether no variable stands in a type
  pub is_ground : Ty → Bool
  is_ground natural = true
  is_ground truth = true
  is_ground types.text = true
  is_ground (var x) = false
  is_ground (product ts) = are_ground ts
  is_ground (set_of t) = is_ground t
  is_ground (array_of k t) = is_ground t

  -- and none in some types
  pub are_ground : Tys → Bool
  are_ground no_type = true
  are_ground (type t ts) = is_ground t && are_ground ts

-- whether the type of a value or of an argument is without variables, and that of a result
abbrev pub ground_of : Sort → Ground
ground_of (value t) = record { first = is_ground t; result = true }
ground_of (macro a b) = record { first = is_ground a; result = is_ground b }

-- the same of each position
abbrev pub grounds_of : List Position → List Ground
grounds_of ps = map (λ p. ground_of (sort_of p.scheme)) ps

-- names and facts that are those of the positions
pub record AreOf (ps : List Position) (xs : List Name) (gs : List Ground) : Type 0 where
  pub names : xs ≡ names_of ps
  pub ground : gs ≡ grounds_of ps

-- the latest position of a name, by its number and what is known of its types
pub record IsLatest (x : Name) (ps : List Position) (i : ℕ) (p : Position) (g : Ground) : Type 0 where
  pub found : find x (schemes_of ps) ≡ Some (scheme_of p)
  pub here : sort_at ps i ≡ sort_of p.scheme
  pub ground : g ≡ ground_of (sort_of p.scheme)
