-- The components of a tuple.
use Rattle.std.proofs.Common.{◌≡◌, ℕ, zero, suc, ◌-◌, List, Some, refl, ap, ◌∙◌, arith}
use Rattle.std.specs.List.{slice_get}
use Rattle.aql_value.specs.Datum.{Datum}
use Rattle.aql_value.specs.Operations.{nth}

-- a component that is there
pub nth_there : (n i : ℕ) (vs : List Datum) (x : Datum) → i ≡ n - 1 → (n ≡ 0 → ⊥) → slice_get vs i ≡ Some x → nth n vs ≡ Some x
nth_there zero i vs x e h g = absurd (h refl)
nth_there (suc n) i vs x e h g = ap (slice_get vs) (let k : n ≡ i = omega (arith, e) in k) ∙ g
