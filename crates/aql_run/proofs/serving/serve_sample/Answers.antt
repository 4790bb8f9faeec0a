use Rattle.std.proofs.Common.{refl, ◌∙◌}
use Rattle.std.proofs.KnownBytes.{Appends-nil}
use Rattle.aql_session.specs.Device.{sink_of, files_of}
use Rattle.aql_options.specs.Settings.{settings_of}
use Rattle.aql_run.proofs.Endings.{ends_unmade, samples}
use Rattle.aql_run.specs.declared.status.Status.TheVariants as status
use Rattle.aql_run.proofs.Keeping.{no_refusal}
use Rattle.aql_run.proofs.serving.serve_sample.Goals as goal

pub returns-in-Ok-clause-written : goal.returns-in-Ok-clause-written
returns-in-Ok-clause-written g c =
    samples c.args.n c.deref.result.now (settings_of c.args.options.now) c.respond-end.new.answers.items
    (sink_of g.O.Sink c.args.output.now c.respond-end.new.output) (files_of g.F.Files c.args.files.now c.respond-end.new.files) c.respond-end.result
    (c.deref.ensures.value ∙ c.in-Ok.ensures) c.respond-end.ensures.written

pub returns-in-Err-clause-written : goal.returns-in-Err-clause-written
returns-in-Err-clause-written g c =
    ends_unmade c.args.n (settings_of c.args.options.now) c.args.answers.now.items
    (sink_of g.O.Sink c.args.output.now c.args.output.now) (files_of g.F.Files c.args.files.now c.args.files.now)
    c.requires.none refl (Appends-nil (g.O.Sink.holds c.args.output.now))

pub returns-in-Err-clause-refused : goal.returns-in-Err-clause-refused
returns-in-Err-clause-refused g c =
    no_refusal c.args.kept.now.items (sink_of g.O.Sink c.args.output.now c.args.output.now) status.Memory c.args.found.now c.requires.no_fault (λ h. h)
