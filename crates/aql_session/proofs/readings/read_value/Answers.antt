use Rattle.std.proofs.lemmas.Result.{IfOk-weaker}
use Rattle.nrca_array.specs.Held.{held_datum}
use Rattle.aql_syntax.specs.View.{reader_of}
use Rattle.aql_session.proofs.Obtaining.{read-by}
use Rattle.aql_session.proofs.readings.read_value.Goals as goal

pub returns-clause-read : goal.returns-clause-read
returns-clause-read g c =
    IfOk-weaker c.read_request.result _ _
    (read-by (reader_of c.args.reader.now) (held_datum c.args.argument) c.in_ok-request.request c.in_ok-request.ensures c.args.budget (g.F.Files.holds c.args.files.now))
    c.read_request.ensures.read
