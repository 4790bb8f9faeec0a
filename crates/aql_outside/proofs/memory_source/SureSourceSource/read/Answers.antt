use Rattle.std.proofs.Common.{refl, arith, ◌^◌, ◌-◌}
use Rattle.aql_outside.proofs.Pieces.{gives_next, to_the_end}
use Rattle.aql_outside.proofs.memory_source.SureSourceSource.read.Goals as goal

pub returns-clause-bytes : goal.returns-clause-bytes
returns-clause-bytes c = gives_next c.args.self.now.given (2 ^ 64 - 1) c.args.self.now.content.items _ c.args.into.now c.copy_front-count.new.into _
    (to_the_end _ _ _ _ c.deref.ensures.value refl) (λ _. omega arith) c.copy_front-count.ensures.count c.copy_front-count.ensures.copied c.copy_front-count.ensures.same
