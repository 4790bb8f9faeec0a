use Rattle.std.proofs.Common.{◌-◌, ap, ◌∙◌, arith}
use Rattle.nrca_term.specs.Laws.Equations.{term_of-Var}
use Rattle.nrca_term.specs.Nodes.{variable}
use Rattle.aql_desugar.proofs.Looping.{index_next}
use Rattle.aql_desugar.proofs.arrays.cell.Goals as goal

pub loop-left-preserved : goal.loop-left-preserved
loop-left-preserved c =
    index_next c.loop-left.at.items c.push.new.self.items _ c.loop-left.left (c.loop-left.left - 1) c.args.added c.args.rank c.in_ok-push.ensures.items (omega arith)
    (term_of-Var c.in_ok-number.number ∙ ap variable c.in_ok-number.ensures) c.loop-left.invariant
