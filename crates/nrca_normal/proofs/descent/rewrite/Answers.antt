use Rattle.nrca_term.specs.View.{term_of}
use Rattle.aql_value.specs.Laws.Partial.{on-ok}
use Rattle.nrca_normal.specs.Laws.Typed.{typed-room}
use Rattle.nrca_normal.specs.Laws.Descent.{rewritten-one}
use Rattle.nrca_normal.proofs.descent.rewrite.Goals as goal

pub put_right_side-requires-clause-inside : goal.put_right_side-requires-clause-inside
put_right_side-requires-clause-inside c = typed-room c.args.run.now.ctx.depth (term_of c.args.term.now) c.requires.typed

pub returns-clause-rewritten : goal.returns-clause-rewritten
returns-clause-rewritten c =
    on-ok c.record_step.result
    (λ s. rewritten-one c.args.run.now c.record_step.new.run (term_of c.args.term.now) (term_of c.put_right_side.new.term) c.args.firing c.rule.result
    c.record_step.ensures.context c.record_step.ensures.way c.rule.ensures s c.requires.fires c.in_ok-put_right_side.ensures)
    c.record_step.ensures.steps
