use Rattle.aql_types.proofs.Growing.{more_built, more_inside, more_same}
use Rattle.aql_types.proofs.grow.push_form.Goals as goal

pub invariant_of-made : goal.invariant_of-made
invariant_of-made c =
    let g = c.args.g in let ps = g.parts.items in let ns = g.nodes.items in let ms = c.in_ok-number.nodes.items in let e = c.in_ok-number.ensures.nodes in
    record {
      built = more_built ps ns ms c.args.n e g.built c.requires.grows;
      inside = more_inside ps ns ms c.args.n e g.inside c.requires.inside;
      numbered = more_same ps ns ms c.args.n g.variables e c.requires.made g.numbered;
    }
