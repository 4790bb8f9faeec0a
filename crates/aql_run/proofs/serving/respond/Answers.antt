use Rattle.std.proofs.Common.{refl}
use Rattle.aql_session.specs.Device.{sink_of, files_of}
use Rattle.aql_options.specs.Settings.{settings_of}
use Rattle.aql_run.proofs.Endings.{ready_of, responds, responds_refused}
use Rattle.aql_run.proofs.Keeping.{no_refusal, refusal}
use Rattle.aql_run.proofs.serving.respond.Goals as goal

pub answer-requires-clause-prepared : goal.answer-requires-clause-prepared
answer-requires-clause-prepared g c κs within = ready_of c.args.script.now c.in-Ok.prepared c.in-Ok.ensures

pub returns-in-Ok-clause-written : goal.returns-in-Ok-clause-written
returns-in-Ok-clause-written g c =
    responds c.args.script.now c.in-Ok.prepared (settings_of c.args.options.now) c.answer.new.answers.items
    (sink_of g.O.Sink c.args.output.now c.answer.new.output) (files_of g.F.Files c.args.files.now c.answer.new.files) c.answer.result
    c.in-Ok.ensures c.answer.ensures.written

pub returns-in-Err-clause-written : goal.returns-in-Err-clause-written
returns-in-Err-clause-written g c =
    responds_refused c.args.script.now c.in-Err.fault (settings_of c.args.options.now) c.args.answers.now.items
    (sink_of g.O.Sink c.args.output.now c.refuse.new.output) (files_of g.F.Files c.args.files.now c.args.files.now) c.refuse.result
    c.requires.none refl c.in-Err.ensures c.refuse.ensures.written

pub returns-in-Ok-clause-refused : goal.returns-in-Ok-clause-refused
returns-in-Ok-clause-refused g c =
    no_refusal c.args.script.now (sink_of g.O.Sink c.args.output.now c.answer.new.output) c.answer.result.status c.args.found.now c.requires.no_fault c.answer.ensures.later

pub returns-in-Err-clause-refused : goal.returns-in-Err-clause-refused
returns-in-Err-clause-refused g c =
    refusal c.args.script.now (sink_of g.O.Sink c.args.output.now c.refuse.new.output) c.refuse.result c.in-Err.fault c.in-Err.ensures c.refuse.ensures.written
