use Rattle.std.proofs.Common.{◌∙◌, ap, sym}
use Rattle.std.specs.Option.{option_map}
use Rattle.nrca_array.specs.Held.{held_datum}
use Rattle.aql_syntax.specs.View.{reader_of}
use Rattle.aql_session.specs.Executions.{request_asked}
use Rattle.aql_session.proofs.Obtaining.{asks-some, request-typed}
use Rattle.aql_session.proofs.readings.typed_request.Goals as goal

pub unreachable-requires : goal.unreachable-requires
unreachable-requires c =
    asks-some (reader_of c.args.reader.now) (held_datum c.args.argument) c.requires.within c.requires.typed
    (ap (option_map request_asked) (sym c.in-None.is) ∙ c.in_ok-request.ensures)

pub returns : goal.returns
returns c =
    request-typed (reader_of c.args.reader.now) (held_datum c.args.argument) c.in-Some.request c.requires.within c.requires.typed
    (ap (option_map request_asked) (sym c.in-Some.is) ∙ c.in_ok-request.ensures)
