use Rattle.std.proofs.Common.{sym, subst}
use Rattle.aql_types.specs.Forms.{at}
use Rattle.aql_types.specs.Steps.{KeepsNodes, LinksDown, bare}
use Rattle.aql_types.proofs.Bare.{link_is}
use Rattle.aql_types.proofs.Keeping.{keeps_link, keeps_none, down_link_put}
use Rattle.aql_types.proofs.root.shorten.Goals as goal

pub returns-in-Some-clause-keeps : goal.returns-in-Some-clause-keeps
returns-in-Some-clause-keeps c =
    let ns = c.args.ns.now in
    subst (KeepsNodes ns) (sym c.put.ensures)
    (keeps_link ns c.args.here c.args.up c.in-Some.next c.requires.here c.requires.down (link_is (at (bare ns) c.args.here) c.args.up c.requires.up)
    (link_is (at (bare ns) c.args.up) c.in-Some.next (sym c.in-Some.ensures)))

pub returns-in-Some-clause-down : goal.returns-in-Some-clause-down
returns-in-Some-clause-down c =
    let ns = c.args.ns.now in
    subst (λ ms. LinksDown (bare ms)) (sym c.put.ensures)
    (down_link_put ns c.args.here c.args.up c.in-Some.next c.requires.here c.requires.down (link_is (at (bare ns) c.args.here) c.args.up c.requires.up)
    (link_is (at (bare ns) c.args.up) c.in-Some.next (sym c.in-Some.ensures)))

pub returns-in-None-clause-keeps : goal.returns-in-None-clause-keeps
returns-in-None-clause-keeps c = keeps_none c.args.ns.now
