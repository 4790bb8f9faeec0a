use Rattle.std.proofs.Common.{◌-◌, arith}
use Rattle.aql_value.specs.declared.ops.ArithOp.TheVariants.{Mul}
use Rattle.nrca_term.specs.Nodes.{variable, arith_term}
use Rattle.nrca_term.specs.Laws.Equations.{term_of-Var}
use Rattle.nrca_graph.proofs.Cells.{product_next}
use Rattle.nrca_graph.proofs.literals.product.Goals as goal

pub loop-j-preserved : goal.loop-j-preserved
loop-j-preserved c =
    let p = c.loop-j.invariant in (
      arith_term Mul p.0 (variable (c.args.rank - 1 - c.loop-j.j)),
      c.arith-made.ensures p.0 _ p.1 (term_of-Var _),
      product_next c.args.rank c.loop-j.j p.0 _ (omega (arith, c.loop-j-test.true)) p.2,
    )
