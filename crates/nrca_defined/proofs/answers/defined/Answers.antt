use Rattle.nrca_term.specs.View.{term_of}
use Rattle.nrca_defined.specs.Laws.Defined.{sound-answer, firm-certain}
use Rattle.nrca_defined.proofs.answers.defined.Goals as goal

pub returns-clause-sound : goal.returns-clause-sound
returns-clause-sound c h = sound-answer c.args.ctx.now (term_of c.args.term.now) c.in_ok-told.told.certain c.in_ok-told.ensures.told.certain h

pub returns-clause-strong : goal.returns-clause-strong
returns-clause-strong c h = firm-certain c.args.ctx.now (term_of c.args.term.now) c.in_ok-told.told.certain c.in_ok-told.ensures.told.certain h
