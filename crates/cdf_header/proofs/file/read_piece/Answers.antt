use Rattle.std.proofs.Common.{arith, ◌≡◌, ◌+◌, length, take, eq-eqb}
use Rattle.std.proofs.lemmas.Grind.{common_steps}
use Rattle.cdf_header.proofs.Fronts.{front_read}
use Rattle.cdf_header.proofs.file.read_piece.Goals as goal

pub returns-clause-told : goal.returns-clause-told
returns-clause-told g c = λ bytes there within is.
    let t = c.in_ok-count.ensures.told bytes there in
    let start : c.len-start.result ≡ length c.args.front.now.items = grind (arith, common_steps, c.len-start.ensures) in
    let new : c.truncate.new.self.items ≡ take (c.len-start.result + c.in_ok-count.count) c.read_behind.new.memory = grind (arith, common_steps, c.truncate.ensures.items) in
    let long : length c.read_behind.new.memory ≡ c.len-start.result + c.min-room.result = grind (arith, common_steps) in
    let kept : take c.len-start.result c.read_behind.new.memory ≡ c.args.front.now.items = grind (arith, common_steps, c.in_ok-count.ensures.kept) in
    let p = front_read bytes c.args.front.now.items c.read_behind.new.memory c.truncate.new.self.items c.len-start.result c.in_ok-count.count c.min-room.result is start new long kept (omega arith) t.0 t.1 in
    (eq-eqb _ _ p.0, p.1)
