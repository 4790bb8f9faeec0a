use Rattle.std.proofs.Common.{refl}
use Rattle.std.proofs.KnownBytes.{Appends-nil, Consumes-nil}
use Rattle.std.specs.Prelude.{map}
use Rattle.std.specs.String.{string_bytes}
use Rattle.aql_session.specs.Device.{source_of, sink_of, files_of}
use Rattle.aql_options.specs.Settings.{settings_of}
use Rattle.aql_run.proofs.Endings.{asks_sample, never_usage, no_memory, options_run, words_refused}
use Rattle.aql_run.specs.declared.status.Status.TheVariants as status
use Rattle.aql_run.proofs.Keeping.{no_refusal, words_read}
use Rattle.aql_run.proofs.serving.end_of.Goals as goal

pub returns-in-Ok-clause-serves : goal.returns-in-Ok-clause-serves
returns-in-Ok-clause-serves g c =
    options_run (map string_bytes c.args.words.now) c.in-Ok.options c.serve.new.answers.items (record {
      source = source_of g.S.Source c.args.input.now c.serve.new.input;
      sink = sink_of g.O.Sink c.args.output.now c.serve.new.output;
      files = files_of g.F.Files c.args.files.now c.serve.new.files;
    }) c.serve.result c.in-Ok.ensures.asks c.serve.ensures.serves

pub returns-in-Ok-clause-untouched_input : goal.returns-in-Ok-clause-untouched_input
returns-in-Ok-clause-untouched_input g c is =
    absurd (never_usage (settings_of c.in-Ok.options) c.serve.new.answers.items (record {
      source = source_of g.S.Source c.args.input.now c.serve.new.input;
      sink = sink_of g.O.Sink c.args.output.now c.serve.new.output;
      files = files_of g.F.Files c.args.files.now c.serve.new.files;
    }) c.serve.result c.serve.ensures.serves is)

pub returns-in-Ok-clause-untouched_output : goal.returns-in-Ok-clause-untouched_output
returns-in-Ok-clause-untouched_output g c is =
    absurd (never_usage (settings_of c.in-Ok.options) c.serve.new.answers.items (record {
      source = source_of g.S.Source c.args.input.now c.serve.new.input;
      sink = sink_of g.O.Sink c.args.output.now c.serve.new.output;
      files = files_of g.F.Files c.args.files.now c.serve.new.files;
    }) c.serve.result c.serve.ensures.serves is)

pub returns-in-Ok-clause-sample : goal.returns-in-Ok-clause-sample
returns-in-Ok-clause-sample g c n asked = c.serve.ensures.sample n (asks_sample (map string_bytes c.args.words.now) c.in-Ok.options n c.in-Ok.ensures.asks asked)

pub returns-in-Err-Usage-clause-serves : goal.returns-in-Err-Usage-clause-serves
returns-in-Err-Usage-clause-serves g c =
    words_refused (map string_bytes c.args.words.now) c.in-Err-Usage.field-0 c.args.answers.now.items (record {
      source = source_of g.S.Source c.args.input.now c.args.input.now;
      sink = sink_of g.O.Sink c.args.output.now c.args.output.now;
      files = files_of g.F.Files c.args.files.now c.args.files.now;
    }) c.in-Err-Usage.field-0-is c.requires.none
    (Consumes-nil (g.S.Source.left c.args.input.now), Appends-nil (g.O.Sink.holds c.args.output.now), refl) c.in-Err-Usage.ensures.asks

pub returns-in-Err-Memory-clause-serves : goal.returns-in-Err-Memory-clause-serves
returns-in-Err-Memory-clause-serves g c =
    no_memory (map string_bytes c.args.words.now) c.args.answers.now.items (record {
      source = source_of g.S.Source c.args.input.now c.args.input.now;
      sink = sink_of g.O.Sink c.args.output.now c.args.output.now;
      files = files_of g.F.Files c.args.files.now c.args.files.now;
    }) c.requires.none
    (Consumes-nil (g.S.Source.left c.args.input.now), Appends-nil (g.O.Sink.holds c.args.output.now), refl)

pub returns-in-Ok-clause-script : goal.returns-in-Ok-clause-script
returns-in-Ok-clause-script g c h =
    words_read (map string_bytes c.args.words.now) c.in-Ok.options (source_of g.S.Source c.args.input.now c.serve.new.input) c.serve.new.kept.items
    c.in-Ok.ensures.asks (c.serve.ensures.script h)

pub returns-in-Err-Usage-clause-refused : goal.returns-in-Err-Usage-clause-refused
returns-in-Err-Usage-clause-refused g c =
    no_refusal c.args.kept.now.items (sink_of g.O.Sink c.args.output.now c.args.output.now) status.Usage c.args.found.now c.requires.no_fault (λ h. h)

pub returns-in-Err-Memory-clause-refused : goal.returns-in-Err-Memory-clause-refused
returns-in-Err-Memory-clause-refused g c =
    no_refusal c.args.kept.now.items (sink_of g.O.Sink c.args.output.now c.args.output.now) status.Memory c.args.found.now c.requires.no_fault (λ h. h)
