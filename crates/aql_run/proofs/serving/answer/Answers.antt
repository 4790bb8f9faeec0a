use Rattle.std.proofs.Common.{◌∙◌, ◌+◌, ap}
use Rattle.std.proofs.KnownBytes.{Appends-trans}
use Rattle.aql_session.specs.Device.{sink_of, files_of}
use Rattle.aql_options.specs.Settings.{settings_of}
use Rattle.aql_run.proofs.Endings.{answers_done, answers_memory, answers_sink, answers_fault}
use Rattle.aql_run.proofs.Keeping.{stopped_later}
use Rattle.aql_run.proofs.serving.answer.Goals as goal

pub returns-in-Ok-clause-written : goal.returns-in-Ok-clause-written
returns-in-Ok-clause-written g c =
    answers_done c.args.prepared.now (settings_of c.args.options.now) c.answer_each.new.answers.items
    (sink_of g.O.Sink c.args.output.now c.answer_each.new.output) (files_of g.F.Files c.args.files.now c.answer_each.new.files)
    tt c.requires.prepared c.in-Ok.ensures.written

pub returns-in-Err-Memory-clause-written : goal.returns-in-Err-Memory-clause-written
returns-in-Err-Memory-clause-written g c =
    answers_memory c.args.prepared.now (settings_of c.args.options.now) c.answer_each.new.answers.items
    (sink_of g.O.Sink c.args.output.now c.answer_each.new.output) (files_of g.F.Files c.args.files.now c.answer_each.new.files)
    c.in-Err-Memory.field-0 c.in-Err-Memory.field-0-is c.requires.prepared c.in-Err-Memory.ensures.written

pub returns-in-Err-Sink-clause-written : goal.returns-in-Err-Sink-clause-written
returns-in-Err-Sink-clause-written g c =
    answers_sink c.args.prepared.now (settings_of c.args.options.now) c.answer_each.new.answers.items
    (sink_of g.O.Sink c.args.output.now c.answer_each.new.output) (files_of g.F.Files c.args.files.now c.answer_each.new.files)
    c.in-Err-Sink.field-0 c.in-Err-Sink.field-0-is c.requires.prepared c.in-Err-Sink.ensures.written

pub returns-in-Err-Fault-clause-written : goal.returns-in-Err-Fault-clause-written
returns-in-Err-Fault-clause-written g c =
    answers_fault c.args.prepared.now (settings_of c.args.options.now) c.answer_each.new.answers.items c.in-Err-Fault.fault (c.len.result + 1)
    (sink_of g.O.Sink c.args.output.now c.answer_each.new.output) (sink_of g.O.Sink c.answer_each.new.output c.stop_at.new.output)
    (sink_of g.O.Sink c.args.output.now c.stop_at.new.output) (files_of g.F.Files c.args.files.now c.answer_each.new.files)
    c.stop_at.result c.in-Err-Fault.field-0
    (Appends-trans (g.O.Sink.holds c.args.output.now) (g.O.Sink.holds c.answer_each.new.output) (g.O.Sink.holds c.stop_at.new.output))
    c.in-Err-Fault.field-0-is c.requires.prepared c.in-Err-Fault.ensures.written (ap (λ k. k + 1) (c.len.ensures ∙ c.answer_each.new.answers.ok.0)) c.stop_at.ensures.written

pub returns-in-Err-Fault-clause-later : goal.returns-in-Err-Fault-clause-later
returns-in-Err-Fault-clause-later g c =
    stopped_later (c.len.result + 1) c.in-Err-Fault.fault (sink_of g.O.Sink c.answer_each.new.output c.stop_at.new.output) c.stop_at.result c.stop_at.ensures.written
