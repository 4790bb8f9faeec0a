use Rattle.std.proofs.Common.{◌∙◌, ap}
use Rattle.aql_names.specs.Index.{last_of}
use Rattle.aql_names.specs.Named.{last_named}
use Rattle.aql_names.proofs.Positions.{last-named}
use Rattle.aql_names.proofs.names.Names.latest.Goals as goal

pub returns : goal.returns
returns c =
    c.last.ensures ∙ ap last_of (c.positions_of.ensures ∙ c.self.invariant.positions c.args.name.now) ∙ last-named c.args.name.now _ ∙ ap (last_named c.args.name.now) c.self.view_is
