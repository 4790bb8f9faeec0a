use Rattle.std.proofs.Common.{◌≡◌, ◌∙◌, ◌⊎◌, inl, inr, ℕ, ap}
use Rattle.std.specs.Prelude.{map}
use Rattle.std.specs.String.{string_bytes}
use Rattle.aql_outside.specs.Causes.{Rose}
use Rattle.aql_session.specs.Device.{source_of, sink_of, files_of}
use Rattle.aql_run.specs.Codes.{code_of}
use Rattle.aql_run.specs.Laws.Codes.{status_is}
use Rattle.aql_run.specs.declared.status.Status.{Status}
use Rattle.aql_run.specs.declared.status.Status.TheVariants as status
use Rattle.aql_run.specs.Devices.{Devices}
use Rattle.aql_run.proofs.Endings.{reported_files, reported_input, reported_sample, reported_serves}
use Rattle.aql_run.proofs.run_keeping.Goals as goal

-- one of two statuses, of which this is the number
one_of : (s a b : Status) (n : ℕ) → n ≡ code_of s → (n ≡ code_of a) ⊎ (n ≡ code_of b) → (s ≡ a) ⊎ (s ≡ b)
one_of s a b n is (inl e) = inl (status_is s a n is e)
one_of s a b n is (inr e) = inr (status_is s b n is e)

pub returns-clause-headline : goal.returns-clause-headline
returns-clause-headline g c =
    let words = map string_bytes c.args.words.now in
    let n = c.report_run.result.report.status in
    let d : Devices = record {
      source = source_of g.S.Source c.args.input.now c.report_run.new.input;
      sink = sink_of g.O.Sink c.args.output.now c.report_run.new.output;
      files = files_of g.F.Files c.args.files.now c.report_run.new.files;
    } in
    let (s, is, (taken, written, consumed, appended, few, (cause, complete))) =
    reported_serves words (Rose d.sink.faults_before d.sink.faults_after) d c.report_run.result.report c.tokens_exist.ensures c.report_run.ensures.output.failed c.report_run.ensures.serves in
    record {
      status = s;
      number = is;
      taken = taken;
      written = written;
      consumed = consumed;
      appended = appended;
      few = few;
      cause = cause;
      complete = complete;
      usage = λ e. (c.report_run.ensures.untouched_input (is ∙ ap code_of e), c.report_run.ensures.untouched_output (is ∙ ap code_of e));
      sample = λ m asked. c.report_run.ensures.sample m (reported_sample words m asked);
      input = record {
        later = c.report_run.ensures.later_input;
        failed = λ e. reported_input words d c.report_run.result.report c.report_run.ensures.serves (is ∙ ap code_of e);
        noticed = λ q less. one_of s status.Input status.Output n is (c.report_run.ensures.noticed_input q less);
      };
      output = record {
        later = c.report_run.ensures.output.later;
        failed = λ e. c.report_run.ensures.output.failed (is ∙ ap code_of e);
        noticed = λ q less. status_is s status.Output n is (c.report_run.ensures.output.noticed q less);
      };
      files = record {
        later = c.report_run.ensures.later_files;
        failed = λ e. reported_files words d c.report_run.result.report c.report_run.ensures.serves (is ∙ ap code_of e);
        noticed = λ q less. one_of s status.Files status.Output n is (c.report_run.ensures.noticed_files q less);
      };
      kept = c.report_run.ensures.kept;
    }
