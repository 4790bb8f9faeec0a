use Rattle.std.proofs.Common.{◌∙◌, refl, sym, ap, subst}
use Rattle.std.proofs.KnownBytes.{Appends-nil}
use Rattle.std.specs.Prelude.{codes}
use Rattle.aql_session.specs.Device.{sink_of}
use Rattle.aql_run.specs.Lines.{in_declaration, of_file, of_table}
use Rattle.aql_session.specs.declared.answer.StepFault.{StepFault}
use Rattle.aql_run.specs.Outcome.{stop_of}
use Rattle.aql_run.specs.Ending.{Stopped, stop_status, stop_line}
use Rattle.aql_run.specs.declared.report.Stop.TheVariants as stops
use Rattle.aql_run.specs.declared.status.Status.TheVariants as status
use Rattle.aql_run.proofs.Endings.{stopped_as, stopped_memory}
use Rattle.aql_run.proofs.serving.stop_at.Goals as goal

pub returns-in-Query-clause-written : goal.returns-in-Query-clause-written
returns-in-Query-clause-written g c = stopped_as c.args.n c.args.fault (sink_of g.O.Sink c.args.output.now c.end_with_made-status.new.output) (in_declaration (codes "budget") c.args.n) status.Spent c.end_with_made-status.result c.keep_stop.result
    (ap stop_status c.in-Query.is) (ap (λ f. stop_line c.args.n f) c.in-Query.is) (λ e. absurd cc) (λ e. absurd cc) (c.end_with_made-status.ensures.written (in_declaration (codes "budget") c.args.n) c.declaration_line-line.ensures) c.keep_stop.ensures.status
    (λ x. c.keep_stop.ensures.kept x ∙ sym (ap stop_of c.in-Query.is)) c.keep_stop.ensures.other

pub returns-in-Cells-clause-written : goal.returns-in-Cells-clause-written
returns-in-Cells-clause-written g c = stopped_as c.args.n c.args.fault (sink_of g.O.Sink c.args.output.now c.end_with_made-status-in-Cells.new.output) (in_declaration (codes "budget") c.args.n) status.Spent c.end_with_made-status-in-Cells.result c.keep_stop-in-Cells.result
    (ap stop_status c.in-Cells.is) (ap (λ f. stop_line c.args.n f) c.in-Cells.is) (λ e. absurd cc) (λ e. absurd cc) (c.end_with_made-status-in-Cells.ensures.written (in_declaration (codes "budget") c.args.n) c.declaration_line-line-in-Cells.ensures) c.keep_stop-in-Cells.ensures.status
    (λ x. c.keep_stop-in-Cells.ensures.kept x ∙ sym (ap stop_of c.in-Cells.is)) c.keep_stop-in-Cells.ensures.other

pub returns-in-File-clause-written : goal.returns-in-File-clause-written
returns-in-File-clause-written g c = stopped_as c.args.n c.args.fault (sink_of g.O.Sink c.args.output.now c.end_with_made-status-in-File.new.output) (of_file c.args.n c.in-File.fault) status.File c.end_with_made-status-in-File.result c.keep_stop-in-File.result
    (ap stop_status c.in-File.is) (ap (λ f. stop_line c.args.n f) c.in-File.is) (λ e. absurd cc) (λ e. absurd cc) (c.end_with_made-status-in-File.ensures.written (of_file c.args.n c.in-File.fault) c.file_line-line.ensures) c.keep_stop-in-File.ensures.status
    (λ x. c.keep_stop-in-File.ensures.kept x ∙ sym (ap stop_of c.in-File.is)) c.keep_stop-in-File.ensures.other

pub returns-in-Csv-clause-written : goal.returns-in-Csv-clause-written
returns-in-Csv-clause-written g c = stopped_as c.args.n c.args.fault (sink_of g.O.Sink c.args.output.now c.end_with_made-status-in-Csv.new.output) (of_table c.args.n c.in-Csv.fault) status.File c.end_with_made-status-in-Csv.result c.keep_stop-in-Csv.result
    (ap stop_status c.in-Csv.is) (ap (λ f. stop_line c.args.n f) c.in-Csv.is) (λ e. absurd cc) (λ e. absurd cc) (c.end_with_made-status-in-Csv.ensures.written (of_table c.args.n c.in-Csv.fault) c.table_line-line.ensures) c.keep_stop-in-Csv.ensures.status
    (λ x. c.keep_stop-in-Csv.ensures.kept x ∙ sym (ap stop_of c.in-Csv.is)) c.keep_stop-in-Csv.ensures.other

pub returns-in-Device-clause-written : goal.returns-in-Device-clause-written
returns-in-Device-clause-written g c = stopped_as c.args.n c.args.fault (sink_of g.O.Sink c.args.output.now c.end_with.new.output) (codes "fault files\n") status.Files c.end_with.result
    (record { status = c.end_with.result; stop = stops.Other }) (ap stop_status c.in-Device.is) (ap (λ f. stop_line c.args.n f) c.in-Device.is) (λ e. absurd cc) (λ e. absurd cc)
    c.end_with.ensures.written refl (λ x. sym (ap stop_of c.in-Device.is)) (λ x. refl)

pub returns-in-Memory-clause-written : goal.returns-in-Memory-clause-written
returns-in-Memory-clause-written g c =
    subst (λ (f : StepFault). Stopped c.args.n f (sink_of g.O.Sink c.args.output.now c.args.output.now) (record { status = status.Memory; stop = stops.Other })) (sym c.in-Memory.is)
    (stopped_memory c.args.n (sink_of g.O.Sink c.args.output.now c.args.output.now) (Appends-nil (g.O.Sink.holds c.args.output.now)))
