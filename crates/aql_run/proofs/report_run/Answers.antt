use Rattle.std.proofs.Common.{◌≡◌, ◌∙◌, ◌⊎◌, inl, inr, ℕ, ap, refl}
use Rattle.std.specs.Prelude.{map}
use Rattle.std.specs.String.{string_bytes}
use Rattle.aql_session.specs.Device.{source_of, sink_of, files_of}
use Rattle.aql_run.specs.Codes.{code_of}
use Rattle.aql_run.specs.Laws.Codes.{status_is}
use Rattle.aql_run.specs.declared.status.Status.{Status}
use Rattle.aql_run.specs.declared.status.Status.TheVariants as status
use Rattle.aql_outside.specs.Laws.Causes.{blamed_as}
use Rattle.aql_run.proofs.Endings.{reports}
use Rattle.aql_run.proofs.Keeping.{keeps}
use Rattle.aql_run.proofs.report_run.Goals as goal

-- one of two statuses, by their numbers
one_of : (s a b : Status) (n : ℕ) → n ≡ code_of s → (s ≡ a) ⊎ (s ≡ b) → (n ≡ code_of a) ⊎ (n ≡ code_of b)
one_of s a b n is (inl e) = inl (is ∙ ap code_of e)
one_of s a b n is (inr e) = inr (is ∙ ap code_of e)

pub returns-clause-serves : goal.returns-clause-serves
returns-clause-serves g c =
    reports (map string_bytes c.args.words.now) (record {
      source = source_of g.S.Source c.args.input.now c.end_of-end.new.input;
      sink = sink_of g.O.Sink c.args.output.now c.end_of-end.new.output;
      files = files_of g.F.Files c.args.files.now c.end_of-end.new.files;
    }) c.end_of-end.result
    (record { status = c.code-status.result; answers = record { items = c.end_of-end.new.answers }; stop = c.end_of-end.result.stop })
    c.code-status.ensures refl c.end_of-end.ensures.serves

pub returns-clause-keeps : goal.returns-clause-keeps
returns-clause-keeps g c =
    keeps (map string_bytes c.args.words.now) (source_of g.S.Source c.args.input.now c.end_of-end.new.input) (sink_of g.O.Sink c.args.output.now c.end_of-end.new.output)
    c.code-status.result c.end_of-end.result.status c.end_of-end.new.kept.items c.end_of-end.new.found c.code-status.ensures c.end_of-end.ensures.script c.end_of-end.ensures.refused

pub returns-clause-untouched_input : goal.returns-clause-untouched_input
returns-clause-untouched_input g c is = c.end_of-end.ensures.untouched_input (status_is c.end_of-end.result.status status.Usage c.code-status.result c.code-status.ensures is)

pub returns-clause-untouched_output : goal.returns-clause-untouched_output
returns-clause-untouched_output g c is = c.end_of-end.ensures.untouched_output (status_is c.end_of-end.result.status status.Usage c.code-status.result c.code-status.ensures is)

pub returns-clause-output : goal.returns-clause-output
returns-clause-output g c =
    blamed_as g.O.Sink.quiet (c.end_of-end.result.status ≡ status.Output) (c.code-status.result ≡ 11) (g.O.Sink.faults c.args.output.now) (g.O.Sink.faults c.end_of-end.new.output)
    (λ e. c.code-status.ensures ∙ ap code_of e) (λ is. status_is c.end_of-end.result.status status.Output c.code-status.result c.code-status.ensures is) c.end_of-end.ensures.output

pub returns-clause-noticed_input : goal.returns-clause-noticed_input
returns-clause-noticed_input g c q less =
    one_of c.end_of-end.result.status status.Input status.Output c.code-status.result c.code-status.ensures (c.end_of-end.ensures.noticed_input q less)

pub returns-clause-noticed_files : goal.returns-clause-noticed_files
returns-clause-noticed_files g c q less =
    one_of c.end_of-end.result.status status.Files status.Output c.code-status.result c.code-status.ensures (c.end_of-end.ensures.noticed_files q less)
