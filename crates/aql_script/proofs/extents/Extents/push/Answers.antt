use Rattle.std.proofs.lemmas.Result.{on_ok_weaker}
use Rattle.aql_script.proofs.Entries.{one-more}
use Rattle.aql_script.proofs.extents.Extents.push.Goals as goal

pub returns-clause-pushed : goal.returns-clause-pushed
returns-clause-pushed c =
    on_ok_weaker c.add.result
    (one-more c.in_ok-name.name c.by-added.result c.args.self.now c.add.new.self c.args.d.now c.in_ok-name.ensures c.by-added.ensures) c.add.ensures.pushed
