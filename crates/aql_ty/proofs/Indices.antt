-- Lists of the type of numbers, as a loop makes them.
use Rattle.std.proofs.Common.{◌≡◌, ℕ, zero, suc, ◌+◌, List, [], ◌∷◌, ◌++◌, refl, ap, ◌∙◌, arith}
use Rattle.aql_ty.specs.Types as types
use Rattle.aql_ty.specs.Types.{Tys, no_type, type, append, natural_types}
use Rattle.aql_ty.specs.declared.ty.Ty.{Ty}
use Rattle.aql_ty.specs.View.{type_of, types_of}
use Rattle.aql_ty.specs.Laws.View.{types_last}

append-natural : (n : ℕ) → append (natural_types n) (type types.natural no_type) ≡ natural_types (suc n)
append-natural zero = refl
append-natural (suc n) = ap (type types.natural) (append-natural n)

-- one number more at the end
pub natural_last : (xs : List Ty) (x : Ty) (i : ℕ) → type_of x ≡ types.natural → types_of xs ≡ natural_types i → types_of (xs ++ (x ∷ [])) ≡ natural_types (i + 1)
natural_last xs x i e h =
    types_last xs x ∙ ap (λ t. append (types_of xs) (type t no_type)) e ∙ ap (λ ts. append ts (type types.natural no_type)) h ∙ append-natural i
    ∙ (let z : suc i ≡ i + 1 = omega arith in ap natural_types z)

-- an index of a rank other than 1 is a tuple of numbers
pub index_type_many : (n : ℕ) (ts : Tys) → (n ≡ 1 → ⊥) → ts ≡ natural_types n → types.product ts ≡ types.index_type n
index_type_many zero ts h e = ap types.product e
index_type_many (suc zero) ts h e = absurd (h refl)
index_type_many (suc (suc n)) ts h e = ap types.product e

pub ruleset naturals = natural_last
