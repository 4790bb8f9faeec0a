use Rattle.std.proofs.Common.{refl, ap, subst}
use Rattle.std.proofs.KnownBytes.{Appends-nil}
use Rattle.std.specs.Prelude.{Err}
use Rattle.aql_session.specs.Device.{source_of, sink_of, files_of}
use Rattle.aql_options.specs.Settings.{settings_of}
use Rattle.aql_run.specs.Reading.{ReadFails}
use Rattle.aql_run.proofs.Endings.{ends_read, ends_unread, ends_long, ends_input}
use Rattle.aql_run.specs.Keeping.{IsOfScript}
use Rattle.aql_run.specs.declared.status.Status.TheVariants as status
use Rattle.aql_run.proofs.Keeping.{neither, no_refusal}
use Rattle.aql_run.proofs.serving.serve_source.Goals as goal

pub returns-in-Ok-clause-serves : goal.returns-in-Ok-clause-serves
returns-in-Ok-clause-serves g c =
    ends_read (settings_of c.args.options.now) c.in-Ok.script.items c.respond-end.new.answers.items (record {
      source = source_of g.S.Source c.args.input.now c.read_script.new.input;
      sink = sink_of g.O.Sink c.args.output.now c.respond-end.new.output;
      files = files_of g.F.Files c.args.files.now c.respond-end.new.files;
    }) c.respond-end.result c.requires.no_sample c.in-Ok.ensures.whole c.deref.result.now c.deref.ensures.value c.respond-end.ensures.written

pub returns-in-Err-Memory-clause-serves : goal.returns-in-Err-Memory-clause-serves
returns-in-Err-Memory-clause-serves g c =
    ends_unread (settings_of c.args.options.now) c.args.answers.now.items (record {
      source = source_of g.S.Source c.args.input.now c.read_script.new.input;
      sink = sink_of g.O.Sink c.args.output.now c.args.output.now;
      files = files_of g.F.Files c.args.files.now c.args.files.now;
    }) c.requires.none refl (Appends-nil (g.O.Sink.holds c.args.output.now))
    (subst (ReadFails (g.S.Source.left c.args.input.now) (g.S.Source.left c.read_script.new.input)) c.in-Err-Memory.field-0-is c.in-Err-Memory.ensures.fails)

pub returns-in-Err-Long-clause-serves : goal.returns-in-Err-Long-clause-serves
returns-in-Err-Long-clause-serves g c =
    ends_long (settings_of c.args.options.now) c.args.answers.now.items (record {
      source = source_of g.S.Source c.args.input.now c.read_script.new.input;
      sink = sink_of g.O.Sink c.args.output.now c.end_with.new.output;
      files = files_of g.F.Files c.args.files.now c.args.files.now;
    }) c.end_with.result c.requires.no_sample c.requires.none refl
    (subst (ReadFails (g.S.Source.left c.args.input.now) (g.S.Source.left c.read_script.new.input)) c.in-Err-Long.field-0-is c.in-Err-Long.ensures.fails)
    c.end_with.ensures.written

pub returns-in-Err-Failed-clause-serves : goal.returns-in-Err-Failed-clause-serves
returns-in-Err-Failed-clause-serves g c =
    ends_input (settings_of c.args.options.now) c.args.answers.now.items (record {
      source = source_of g.S.Source c.args.input.now c.read_script.new.input;
      sink = sink_of g.O.Sink c.args.output.now c.end_with-in-Err-Failed.new.output;
      files = files_of g.F.Files c.args.files.now c.args.files.now;
    }) c.end_with-in-Err-Failed.result c.requires.no_sample c.requires.none refl
    (subst (ReadFails (g.S.Source.left c.args.input.now) (g.S.Source.left c.read_script.new.input)) c.in-Err-Failed.field-0-is c.in-Err-Failed.ensures.fails)
    (c.in-Err-Failed.ensures.input.failed (ap Err c.in-Err-Failed.field-0-is)) c.end_with-in-Err-Failed.ensures.written

pub returns-in-Err-Memory-clause-refused : goal.returns-in-Err-Memory-clause-refused
returns-in-Err-Memory-clause-refused g c =
    no_refusal c.args.kept.now.items (sink_of g.O.Sink c.args.output.now c.args.output.now) status.Memory c.args.found.now c.requires.no_fault (λ h. h)

pub returns-in-Err-Long-clause-refused : goal.returns-in-Err-Long-clause-refused
returns-in-Err-Long-clause-refused g c =
    no_refusal c.args.kept.now.items (sink_of g.O.Sink c.args.output.now c.end_with.new.output) c.end_with.result c.args.found.now c.requires.no_fault
    (neither IsOfScript c.end_with.result status.Long status.Output (λ h. h) (λ h. h) c.end_with.ensures.ends)

pub returns-in-Err-Failed-clause-refused : goal.returns-in-Err-Failed-clause-refused
returns-in-Err-Failed-clause-refused g c =
    no_refusal c.args.kept.now.items (sink_of g.O.Sink c.args.output.now c.end_with-in-Err-Failed.new.output) c.end_with-in-Err-Failed.result c.args.found.now c.requires.no_fault
    (neither IsOfScript c.end_with-in-Err-Failed.result status.Input status.Output (λ h. h) (λ h. h) c.end_with-in-Err-Failed.ensures.ends)
