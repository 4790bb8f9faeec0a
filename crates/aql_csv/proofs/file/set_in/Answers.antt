use Rattle.std.proofs.Common.{◌∙◌, ap, sym, Ok}
use Rattle.aql_csv.specs.Laws.Typed.{members_typed}
use Rattle.aql_csv.proofs.file.set_in.Goals as goal

pub returns-clause-typed : goal.returns-clause-typed
returns-clause-typed c =
    members_typed c.args.reader.now.header c.args.reader.now.kinds.items.items c.args.bytes.now c.in_ok-set_of_values.field-0
    (rw c.deref.ensures.value at c.in_ok-values.ensures.meant ∙ ap Ok (sym c.in_ok-set_of_values.ensures.same))
