use Rattle.std.proofs.Common.{◌≤◌, length, refl, sym, ap, ◌∙◌, subst, arith}
use Rattle.std.proofs.lemmas.List.{length-map}
use Rattle.aql_value.specs.Datum.{natural}
use Rattle.aql_value.specs.Meaning.{datum}
use Rattle.nrca_array.specs.Kept.{paired_up}
use Rattle.nrca_array.specs.Stored.{IsStored}
use Rattle.nrca_array.proofs.CellKinds.{plain-last, pairs-last}
use Rattle.nrca_array.proofs.PairsKept.{length-paired_up}
use Rattle.nrca_array.proofs.Steps.{not_empty}
use Rattle.nrca_array.proofs.builder.Builder.push_natural.Goals as goal

pub plain_with-requires-clause-mixed : goal.plain_with-requires-clause-mixed
plain_with-requires-clause-mixed c =
    let view = rw c.in-Plain.is at c.items.view_is in
    let some : 1 ≤ length c.in-Plain.items = not_empty _ _ c.if-is_empty.ensures (ap length (sym view) ∙ length-map c.items.inside.items.items datum ∙ sym c.items.inside.items.ok.0) in
    rw c.in-Plain.is (plain-last c.in-Plain.items (natural c.args.n) some (subst IsStored c.in-Plain.is c.self.invariant))

pub plain_with-requires-in-Pairs-clause-mixed : goal.plain_with-requires-in-Pairs-clause-mixed
plain_with-requires-in-Pairs-clause-mixed c =
    let k = subst IsStored c.in-Pairs.is c.self.invariant in
    rw c.in-Pairs.is (pairs-last (paired_up c.in-Pairs.truths c.in-Pairs.numbers) (natural c.args.n) (omega (arith, k.0, length-paired_up c.in-Pairs.truths c.in-Pairs.numbers k.1)) refl)
