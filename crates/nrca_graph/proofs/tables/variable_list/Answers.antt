use Rattle.std.proofs.Common.{arith, ap, map, ◌-◌, ◌+◌, ◌++◌, ◌∙◌}
use Rattle.std.proofs.lemmas.List.{map-append}
use Rattle.nrca_term.specs.Laws.Equations.{term_of-Var}
use Rattle.nrca_term.specs.Rules.{index_variables}
use Rattle.nrca_term.specs.View.{term_of}
use Rattle.nrca_graph.proofs.Trees.{variables_next}
use Rattle.nrca_graph.proofs.tables.variable_list.Goals as goal

pub loop-i-preserved : goal.loop-i-preserved
loop-i-preserved c =
    ap (λ l. l ++ index_variables (c.args.rank - (c.loop-i.i + 1))) (ap (map term_of) c.in_ok-push.ensures.items ∙ map-append term_of _ _)
    ∙ variables_next c.args.rank c.loop-i.i _ _ (omega (arith, c.loop-i-test.true)) (term_of-Var _) c.loop-i.invariant
