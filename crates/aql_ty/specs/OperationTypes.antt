-- The types of the operations on values: what the parts have and what the whole has.
use Rattle.std.specs.Prelude.{◌≡◌, ℕ, suc, ◌≤◌, List, [], ◌∷◌, ◌++◌, length, replicate, Some}
use Rattle.std.specs.List.{slice_get}
use Rattle.aql_value.specs.Strict.{Strict}
use Rattle.aql_ty.specs.Types as types
use Rattle.aql_ty.specs.Types.{Ty, natural, truth, text, IsRank, tys_of, index_type}

-- the types of the parts, and the type, of the forms that evaluate every part
abbrev pub strict_rule : Strict → List Ty → Ty → Type 0
strict_rule (Strict.nat n) Ts T = (Ts ≡ []) × (T ≡ natural)
strict_rule (Strict.bool b) Ts T = (Ts ≡ []) × (T ≡ truth)
strict_rule (Strict.text s) Ts T = (Ts ≡ []) × (T ≡ text)
strict_rule Strict.bottom Ts T = Ts ≡ []
strict_rule Strict.tuple Ts T = (2 ≤ length Ts) × (T ≡ types.product (tys_of Ts))
strict_rule (Strict.proj at of) Ts T =
    (As : List Ty) × (j : ℕ) × (Ts ≡ types.product (tys_of As) ∷ []) × (length As ≡ of) × (at ≡ suc j) × (slice_get As j ≡ Some T)
strict_rule (Strict.arith op) Ts T = (Ts ≡ natural ∷ natural ∷ []) × (T ≡ natural)
strict_rule (Strict.compare op) Ts T = (A : Ty) × (Ts ≡ A ∷ A ∷ []) × (T ≡ truth)
strict_rule Strict.empty Ts T = (A : Ty) × (Ts ≡ []) × (T ≡ types.set_of A)
strict_rule Strict.single Ts T = (A : Ty) × (Ts ≡ A ∷ []) × (T ≡ types.set_of A)
strict_rule Strict.union Ts T = (A : Ty) × (Ts ≡ types.set_of A ∷ types.set_of A ∷ []) × (T ≡ types.set_of A)
strict_rule Strict.gen Ts T = (Ts ≡ natural ∷ []) × (T ≡ types.set_of natural)
strict_rule Strict.get Ts T = Ts ≡ types.set_of T ∷ []
strict_rule Strict.sub Ts T = (rank : ℕ) × IsRank rank × (Ts ≡ types.array_of rank T ∷ replicate rank natural)
strict_rule (Strict.dim rank) Ts T = (A : Ty) × IsRank rank × (Ts ≡ types.array_of rank A ∷ []) × (T ≡ index_type rank)
strict_rule (Strict.index rank) Ts T =
    (A : Ty) × IsRank rank × (Ts ≡ types.set_of (types.product (tys_of (index_type rank ∷ A ∷ []))) ∷ []) × (T ≡ types.array_of rank (types.set_of A))
strict_rule (Strict.literal rank) Ts T =
    (A : Ty) × (n : ℕ) × IsRank rank × (Ts ≡ replicate rank natural ++ replicate n A) × (T ≡ types.array_of rank A)
