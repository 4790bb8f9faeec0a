use Rattle.aql_session.specs.Device.{sink_of, files_of}
use Rattle.aql_options.specs.Settings.{settings_of}
use Rattle.aql_run.proofs.Endings.{answering, is_prepared}
use Rattle.aql_run.proofs.closed.answer_each.Goals as goal

pub answer_all-requires-clause-prepared : goal.answer_all-requires-clause-prepared
answer_all-requires-clause-prepared g c κs within = is_prepared c.args.prepared.now c.requires.prepared

pub returns-clause-written : goal.returns-clause-written
returns-clause-written g c =
    answering c.args.prepared.now (settings_of c.args.options.now) c.answer_all.new.answers.items
    (sink_of g.O.Sink c.args.output.now c.answer_all.new.output) (files_of g.F.Files c.args.files.now c.answer_all.new.files)
    c.answer_all.result c.answer_all.ensures.done c.answer_all.ensures.early
