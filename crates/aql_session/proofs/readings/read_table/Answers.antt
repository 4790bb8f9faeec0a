use Rattle.std.proofs.Common.{refl, sym, ap, subst}
use Rattle.std.specs.Prelude.{Err, Some}
use Rattle.aql_value.specs.Valid.{IsValue}
use Rattle.aql_csv.specs.File.{found_of}
use Rattle.aql_session.specs.Executions.{IsReadCause, table_asked}
use Rattle.aql_session.proofs.Tables.{table-of, table-cause}
use Rattle.aql_session.proofs.readings.read_table.Goals as goal

pub returns-in_ok-value-in-Ok-clause-read : goal.returns-in_ok-value-in-Ok-clause-read
returns-in_ok-value-in-Ok-clause-read g c =
    let r = c.args.reader.now in
    table-of c.args.file.now r.header r.kinds.items.items c.args.budget (g.F.Files.holds c.args.files.now) _ (found_of c.in-Ok.field-0) (ap Some c.in_ok-value-in-Ok.ensures) c.from.ensures
    (λ n. (let z = c.in-Ok.ensures.unnamed n in cc)) c.in-Ok.ensures.given c.in-Ok.ensures.told c.in-Ok.ensures.typed (subst IsValue c.in_ok-value-in-Ok.ensures c.valid_held.ensures)

pub returns-in-Err-clause-cause : goal.returns-in-Err-clause-cause
returns-in-Err-clause-cause g c =
    let holds = g.F.Files.holds c.args.files.now in
    let before = g.F.Files.faults c.args.files.now in
    let now = g.F.Files.faults c.read_csv.new.files in
    subst (IsReadCause (table_asked c.args.file.now c.args.reader.now) c.args.budget holds before now) (sym c.hand_on_table.ensures)
    (table-cause c.args.file.now c.args.reader.now c.args.budget holds before now c.in-Err.fault (λ q. c.in-Err.ensures.frame.blames.failed (ap Err q))
    (λ n. (let z = c.in-Err.ensures.unnamed n in cc)) c.in-Err.ensures.given c.in-Err.ensures.told)
