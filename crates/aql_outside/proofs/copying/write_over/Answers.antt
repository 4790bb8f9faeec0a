use Rattle.std.proofs.Common.{arith, ◌≡◌, length, drop, ◌-◌, length-drop}
use Rattle.std.proofs.lemmas.Grind.{common_steps}
use Rattle.aql_outside.proofs.Pieces.{written_over}
use Rattle.aql_outside.proofs.copying.write_over.Goals as goal

pub returns-clause-written : goal.returns-clause-written
returns-clause-written c =
    written_over c.args.at _ c.args.room.now c.args.from.now c.copy_front.new.into c.copy_front.result c.requires
    (let l : length (drop c.args.at c.args.room.now) ≡ length c.args.room.now - c.args.at = length-drop c.args.at c.args.room.now in
    grind (arith, common_steps, c.copy_front.ensures.count, c.copy_front.ensures.same)) c.copy_front.ensures.copied
