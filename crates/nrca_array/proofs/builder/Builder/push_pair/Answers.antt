use Rattle.std.proofs.Common.{◌≤◌, length, sym, ap, ◌∙◌, subst}
use Rattle.std.proofs.lemmas.List.{length-map}
use Rattle.aql_value.specs.Meaning.{datum}
use Rattle.nrca_array.specs.Stored.{IsStored}
use Rattle.nrca_array.proofs.CellKinds.{plain-last}
use Rattle.nrca_array.proofs.Steps.{not_empty}
use Rattle.nrca_array.proofs.builder.Builder.push_pair.Goals as goal

pub plain_with-requires-clause-mixed : goal.plain_with-requires-clause-mixed
plain_with-requires-clause-mixed c =
    let view = rw c.in-Plain.is at c.items.view_is in
    let some : 1 ≤ length c.in-Plain.items = not_empty _ _ c.if-is_empty.ensures (ap length (sym view) ∙ length-map c.items.inside.items.items datum ∙ sym c.items.inside.items.ok.0) in
    rw c.in-Plain.is (plain-last c.in-Plain.items (datum c.in_ok-pair-in-Plain.pair) some (subst IsStored c.in-Plain.is c.self.invariant))
