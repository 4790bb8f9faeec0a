-- A part that is there.
use Rattle.std.proofs.Common.{◌≡◌, ℕ, ◌-◌, List, length, Some, ◌∙◌, ap, eq-eqb}
use Rattle.std.specs.Prelude.{slice_get, None, if◌then◌else◌}
use Rattle.aql_value.specs.Datum.{Datum}
use Rattle.aql_value.specs.Operations.{nth}
use Rattle.nrca_loops.specs.Laws.Parts.{nth_there}
use Rattle.nrca_numbers.specs.Quick.{item_of}

pub item_there : (at of i : ℕ) (vs : List Datum) (x : Datum) → length vs ≡ of → i ≡ at - 1 → (at ≡ 0 → ⊥) → slice_get vs i ≡ Some x → item_of at of vs ≡ Some x
item_there at of i vs x l e h g = ap (λ b. if b then nth at vs else None) (eq-eqb (length vs) of l) ∙ nth_there at i vs x e h g

pub ruleset items = (nth_there, item_there)
