use Rattle.std.proofs.Common.{ap, ◌∙◌}
use Rattle.nrca_graph.specs.ArrayFree.{array_free}
use Rattle.nrca_graph.proofs.Keeping.{means_encoded, has_encoded_types, has_no_arrays, keeps_sums, has_loops, turns_within}
use Rattle.nrca_graph.proofs.terms.to_graph.Goals as goal

pub returns-clause-meaning : goal.returns-clause-meaning
returns-clause-meaning c = means_encoded _ _ c.requires.small (c.in_ok-translate.ensures ∙ ap array_free c.in_ok-whole.ensures)

pub returns-clause-types : goal.returns-clause-types
returns-clause-types c = has_encoded_types _ _ (c.in_ok-translate.ensures ∙ ap array_free c.in_ok-whole.ensures)

pub returns-clause-forms : goal.returns-clause-forms
returns-clause-forms c = has_no_arrays _ _ (c.in_ok-translate.ensures ∙ ap array_free c.in_ok-whole.ensures)

pub returns-clause-sums : goal.returns-clause-sums
returns-clause-sums c = keeps_sums _ _ (c.in_ok-translate.ensures ∙ ap array_free c.in_ok-whole.ensures)

pub returns-clause-loops : goal.returns-clause-loops
returns-clause-loops c = has_loops _ _ (c.in_ok-translate.ensures ∙ ap array_free c.in_ok-whole.ensures)

pub returns-clause-turns : goal.returns-clause-turns
returns-clause-turns c = turns_within _ _ c.requires.small (c.in_ok-translate.ensures ∙ ap array_free c.in_ok-whole.ensures)
