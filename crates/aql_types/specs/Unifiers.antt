-- Equations between types, and the substitutions that solve them.
use Rattle.std.specs.Prelude.{ℕ, ◌≡◌, List, [], ◌∷◌}
use Rattle.aql_ty.specs.Types.{Ty, Tys, no_type, type, Subst, apply, IsWithin}

-- pairs of types that are to become one type
abbrev pub Equations : Type 0
Equations = List (Ty × Ty)

-- a substitution that makes both types one type within the limits
pub record Unifies (u : Subst) (a b : Ty) : Type 0 where
  pub equal : apply u a ≡ apply u b
  pub within : IsWithin (apply u a)

-- a unifier from which each other one follows: each is unchanged when taken after it
pub record IsMostGeneral (s : Subst) (a b : Ty) : Type 0 where
  pub unifies : Unifies s a b
  pub general : (u : Subst) → Unifies u a b → (x : ℕ) → u x ≡ apply u (s x)

-- each equation holds
abbrev pub AllUnify : Subst → Equations → Type 0
AllUnify u [] = Unit {0}
AllUnify u ((a, b) ∷ w) = (apply u a ≡ apply u b) × AllUnify u w

-- each type's instance is within the limits
abbrev pub AllWithin : Subst → Tys → Type 0
AllWithin u no_type = Unit {0}
AllWithin u (type t ts) = IsWithin (apply u t) × AllWithin u ts

-- both sides of each equation become types within the limits
abbrev pub SidesWithin : Subst → Equations → Type 0
SidesWithin u [] = Unit {0}
SidesWithin u ((a, b) ∷ w) = IsWithin (apply u a) × IsWithin (apply u b) × SidesWithin u w

-- a substitution that solves all equations within the limits, the types used being within them too
pub record IsSolution (u : Subst) (w : Equations) (us : Tys) : Type 0 where
  pub unifies : AllUnify u w
  pub sides : SidesWithin u w
  pub uses : AllWithin u us

-- a most general solution of all equations, under which the types used are within the limits
pub record IsBest (w : Equations) (us : Tys) (s : Subst) : Type 0 where
  pub unifies : AllUnify s w
  pub within : AllWithin s us
  pub general : (u : Subst) → AllUnify u w → (x : ℕ) → u x ≡ apply u (s x)
