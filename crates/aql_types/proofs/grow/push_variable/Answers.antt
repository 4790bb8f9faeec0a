use Rattle.std.proofs.Common.{◌≡◌, ◌+◌, arith}
use Rattle.aql_types.specs.declared.node.Node.TheVariants as node
use Rattle.aql_types.proofs.Growing.{more_built, more_inside, more_next}
use Rattle.aql_types.proofs.grow.push_variable.Goals as goal

pub invariant_of-made : goal.invariant_of-made
invariant_of-made c =
    let g = c.args.g in let ps = g.parts.items in let ns = g.nodes.items in let ms = c.in_ok-number-in-Some.nodes.items in let e = c.in_ok-number-in-Some.ensures.nodes in
    let l : c.in-Some.variables ≡ g.variables + 1 = omega (arith, c.in-Some.ensures) in
    record {
      built = more_built ps ns ms (node.Var g.variables) e g.built tt;
      inside = more_inside ps ns ms (node.Var g.variables) e g.inside (omega arith);
      numbered = more_next ps ns ms g.variables c.in-Some.variables e l g.numbered;
    }
