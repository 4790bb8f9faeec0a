use Rattle.nrca_term.specs.View.{term_of}
use Rattle.nrca_motion.specs.Laws.Making.{made-test, made-loop, made-tab}
use Rattle.nrca_motion.proofs.making.make.Goals as goal

pub returns-in_ok-right-in-M1 : goal.returns-in_ok-right-in-M1
returns-in_ok-right-in-M1 c = made-test c.args.fit (term_of c.args.term) (term_of c.in_ok-right-in-M1.right) c.in-M1.is c.in_ok-right-in-M1.ensures

pub returns-in_ok-right-in-M2 : goal.returns-in_ok-right-in-M2
returns-in_ok-right-in-M2 c = made-loop c.args.fit (term_of c.args.term) (term_of c.in_ok-right-in-M2.right) c.in-M2.is c.requires.fits c.in_ok-right-in-M2.ensures

pub returns-in_ok-right-in-M3 : goal.returns-in_ok-right-in-M3
returns-in_ok-right-in-M3 c = made-tab c.args.fit (term_of c.args.term) (term_of c.in_ok-right-in-M3.right) c.in-M3.is c.requires.fits c.in_ok-right-in-M3.ensures
