use Rattle.std.proofs.Common.{◌<◌, length, arith}
use Rattle.std.specs.Prelude.{◌-◌}
use Rattle.aql_session.proofs.Running.{scheme-at}
use Rattle.aql_session.proofs.step.scheme_at.Goals as goal

pub returns : goal.returns
returns c =
    let l : c.args.n - 1 < length c.args.schemes.now = omega arith in
    scheme-at c.args.schemes.now (c.args.n - 1) c.index-schemes-n.result l c.index-schemes-n.is
