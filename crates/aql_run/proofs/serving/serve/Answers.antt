use Rattle.std.proofs.Common.{sym, ◌∙◌}
use Rattle.std.proofs.KnownBytes.{Consumes-nil}
use Rattle.aql_session.specs.Device.{source_of, sink_of, files_of}
use Rattle.aql_options.specs.Settings.{settings_of}
use Rattle.aql_run.proofs.Endings.{ends_sample}
use Rattle.aql_run.proofs.serving.serve.Goals as goal

pub returns-in-Some-clause-serves : goal.returns-in-Some-clause-serves
returns-in-Some-clause-serves g c =
    ends_sample (settings_of c.args.options.now) c.in-Some.n c.serve_sample.new.answers.items (record {
      source = source_of g.S.Source c.args.input.now c.args.input.now;
      sink = sink_of g.O.Sink c.args.output.now c.serve_sample.new.output;
      files = files_of g.F.Files c.args.files.now c.serve_sample.new.files;
    }) c.serve_sample.result c.in-Some.is (Consumes-nil (g.S.Source.left c.args.input.now)) c.serve_sample.ensures.written

pub returns-in-None-clause-sample : goal.returns-in-None-clause-sample
returns-in-None-clause-sample g c n asked =
    let none = sym c.in-None.is ∙ asked in
    cc
