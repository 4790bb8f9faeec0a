use Rattle.std.proofs.lemmas.Bool.{false≢true}
use Rattle.aql_outside.proofs.Numbers.{next_listed}
use Rattle.aql_outside.proofs.counter.Counter.next_fails.Goals as goal

pub returns-in-Some : goal.returns-in-Some
returns-in-Some c = next_listed c.args.self.now.fails.items c.deref.result.now c.args.self.now.made c.in-Some.number c.contains.result c.deref.ensures.value c.in-Some.ensures c.contains.ensures.cases

pub returns-in-None : goal.returns-in-None
returns-in-None c = (λ h. absurd (false≢true h), λ (small, _). absurd (c.in-None.ensures small))
