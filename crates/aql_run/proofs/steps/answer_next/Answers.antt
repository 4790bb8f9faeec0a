use Rattle.std.proofs.Common.{subst, ap, ◌∙◌, length, List, ◌++◌, ◌∷◌, []}
use Rattle.std.proofs.KnownBytes.{Appends-nil}
use Rattle.std.specs.Prelude.{Option}
use Rattle.aql_value.specs.Datum.{Datum}
use Rattle.nrca_term.specs.Meaning.{outcome}
use Rattle.aql_session.specs.Bound.{outcomes}
use Rattle.aql_session.specs.declared.answer.Answer.{Answer}
use Rattle.aql_run.specs.Entry.{entry}
use Rattle.aql_run.specs.Writing.{WritesFront}
use Rattle.aql_outside.specs.Laws.Causes.{blamed_as, none_blamed}
use Rattle.aql_options.specs.Settings.{settings_of}
use Rattle.aql_run.proofs.Answering.{next_within, has_stepped, stopped, wrote, halted, outcome_last, next_unread}
use Rattle.aql_run.proofs.steps.answer_next.Goals as goal

pub step-requires-clause-limits : goal.step-requires-clause-limits
step-requires-clause-limits g c κs within = next_within c.args.script.now.prepared.now c.args.n c.requires.prepared c.requires.last

pub returns-in-Ok-clause-goes : goal.returns-in-Ok-clause-goes
returns-in-Ok-clause-goes g c =
    let h = has_stepped c.args.script.now.prepared.now (settings_of c.args.script.now.options.now) (g.F.Files.holds c.args.files.now) c.args.answers.now.items c.args.session.now c.step.new.self
    c.in-Ok.answer c.args.n c.requires.prepared c.requires.next c.requires.last c.requires.so_far c.in-Ok.ensures.answer c.in-Ok.ensures.answerable c.in-Ok.ensures.binds in
    wrote c.args.script.now.prepared.now (settings_of c.args.script.now.options.now) (g.F.Files.holds c.args.files.now) c.args.answers.now.items c.push_reserved.new.self.items c.args.session.now
    c.step.new.self c.in-Ok.answer (outcome (outcomes c.step.new.self) c.args.n) (g.O.Sink.holds c.args.output.now) (g.O.Sink.holds c.write_entry-written.new.output) c.write_entry-written.result h
    (c.push_reserved.ensures.items ∙ ap (λ (l : List Answer). l ++ c.in-Ok.answer ∷ []) c.reserve.ensures.items)
    (ap (λ V. outcome V c.args.n) h.outcomes ∙ outcome_last (outcomes c.args.session.now) h.outcome c.args.n (length c.args.answers.now.items) c.requires.so_far.answered.many c.requires.next)
    (subst (λ (o : Option Datum). WritesFront (g.O.Sink.holds c.args.output.now) (g.O.Sink.holds c.write_entry-written.new.output) (entry c.args.script.now.options.now.plan c.in-Ok.answer o) c.write_entry-written.result) c.value.ensures
    c.write_entry-written.ensures.written)

pub returns-in-Ok-clause-halts : goal.returns-in-Ok-clause-halts
returns-in-Ok-clause-halts g c =
    let h = has_stepped c.args.script.now.prepared.now (settings_of c.args.script.now.options.now) (g.F.Files.holds c.args.files.now) c.args.answers.now.items c.args.session.now c.step.new.self
    c.in-Ok.answer c.args.n c.requires.prepared c.requires.next c.requires.last c.requires.so_far c.in-Ok.ensures.answer c.in-Ok.ensures.answerable c.in-Ok.ensures.binds in
    halted c.args.script.now.prepared.now (settings_of c.args.script.now.options.now) (g.F.Files.holds c.args.files.now) c.args.answers.now.items c.push_reserved.new.self.items c.args.session.now
    c.step.new.self c.in-Ok.answer (outcome (outcomes c.step.new.self) c.args.n) (g.O.Sink.holds c.args.output.now) (g.O.Sink.holds c.write_entry-written.new.output) c.write_entry-written.result
    (g.F.Files.faults c.args.files.now) (g.F.Files.faults c.step.new.files) h
    (c.push_reserved.ensures.items ∙ ap (λ (l : List Answer). l ++ c.in-Ok.answer ∷ []) c.reserve.ensures.items)
    (ap (λ V. outcome V c.args.n) h.outcomes ∙ outcome_last (outcomes c.args.session.now) h.outcome c.args.n (length c.args.answers.now.items) c.requires.so_far.answered.many c.requires.next)
    (subst (λ (o : Option Datum). WritesFront (g.O.Sink.holds c.args.output.now) (g.O.Sink.holds c.write_entry-written.new.output) (entry c.args.script.now.options.now.plan c.in-Ok.answer o) c.write_entry-written.result) c.value.ensures
    c.write_entry-written.ensures.written)
    c.write_entry-written.ensures.causes

pub returns-in-Ok-clause-untouched : goal.returns-in-Ok-clause-untouched
returns-in-Ok-clause-untouched g c none =
    let (d, there, reads) = next_unread c.args.script.now.prepared.now c.args.script.now.options.now.budget (outcomes c.args.session.now) c.args.n (length c.args.answers.now.items)
    c.requires.prepared c.requires.next c.requires.last none in
    c.in-Ok.ensures.untouched d there reads

pub returns-in-Err : goal.returns-in-Err
returns-in-Err g c = record {
  goes = tt;
  halts = (
    record { same = c.reserve.ensures.items; written = Appends-nil (g.O.Sink.holds c.args.output.now) },
    stopped c.args.script.now.prepared.now (settings_of c.args.script.now.options.now) (g.F.Files.holds c.args.files.now) (g.F.Files.faults c.args.files.now) (g.F.Files.faults c.step.new.files)
        c.args.answers.now.items (outcomes c.args.session.now) c.args.n c.in-Err.fault c.requires.prepared c.requires.next c.requires.last c.in-Err.ensures.cause,
  );
  untouched = λ none.
      (let (d, there, reads) = next_unread c.args.script.now.prepared.now c.args.script.now.options.now.budget (outcomes c.args.session.now) c.args.n (length c.args.answers.now.items)
      c.requires.prepared c.requires.next c.requires.last none in
      c.in-Err.ensures.untouched d there reads);
  unread = c.in-Err.ensures.unread;
  kept = c.in-Err.ensures.kept;
  files = blamed_as _ _ _ _ _ (λ e. cc) (λ e. cc) c.in-Err.ensures.blamed;
  output = none_blamed _ _ _ (λ e. cc);
}

pub returns-in-Err-Memory-clause-untouched : goal.returns-in-Err-Memory-clause-untouched
returns-in-Err-Memory-clause-untouched g c none =
    let (d, there, reads) = next_unread c.args.script.now.prepared.now c.args.script.now.options.now.budget (outcomes c.args.session.now) c.args.n (length c.args.answers.now.items)
    c.requires.prepared c.requires.next c.requires.last none in
    c.in-Err-Memory.ensures.untouched d there reads
