use Rattle.std.proofs.Common.{◌-◌, ◌+◌, ◌++◌, map, arith, ap, ◌∙◌}
use Rattle.std.proofs.lemmas.List.{map-append}
use Rattle.nrca_term.specs.Rules.{index_variables}
use Rattle.nrca_term.specs.View.{term_of}
use Rattle.nrca_graph.specs.ArrayFree.{further_numbers}
use Rattle.nrca_graph.proofs.Cells.{number_next}
use Rattle.nrca_graph.proofs.literals.index_items.Goals as goal

pub loop-i-preserved : goal.loop-i-preserved
loop-i-preserved c =
    ap (λ l. l ++ further_numbers c.args.number (index_variables (c.args.rank - (c.loop-i.i + 1)))) (ap (map term_of) c.in_ok-push.ensures.items ∙ map-append term_of _ _)
    ∙ number_next c.args.number c.args.rank c.loop-i.i _ _ (term_of c.in_ok-item.item) (omega (arith, c.loop-i-test.true)) c.in_ok-item.ensures c.loop-i.invariant
