use Rattle.nrca_motion.specs.Laws.LetTurns.{let_below-turns, strict_let-turns}
use Rattle.nrca_motion.specs.Laws.TestMoves.{test-turns}
use Rattle.nrca_motion.proofs.laws.turns.Goals as goal

pub returns-clause-tests : goal.returns-clause-tests
returns-clause-tests c = test-turns

pub returns-clause-lets : goal.returns-clause-lets
returns-clause-lets c = let_below-turns

pub returns-clause-strict : goal.returns-clause-strict
returns-clause-strict c = strict_let-turns
