use Rattle.std.proofs.Common.{◌≡◌, ap, sym, ◌∙◌}
use Rattle.std.specs.Prelude.{slice_index_or}
use Rattle.nrca_sets.specs.Pairs.{pair_value}
use Rattle.nrca_term.specs.Laws.Equations.{term_of-Let}
use Rattle.nrca_term.specs.Nodes.{let_term}
use Rattle.nrca_term.specs.View.{term_of}
use Rattle.nrca_numbers.specs.Few.{few_set}
use Rattle.nrca_numbers.specs.declared.sets.AtMostOne.TheVariants as at_most
use Rattle.nrca_numbers.proofs.Arms.{found_as, let_each}
use Rattle.nrca_numbers.proofs.blocks.+few_each.Goals as goal

pub returns-in-Some-lent_pairs : goal.returns-in-Some-lent_pairs
returns-in-Some-lent_pairs t c =
    let V = c.args.globals.now in
    let cs = c.args.columns.now in
    let ps = c.in-Some-lent_pairs.pairs.now in
    let e = term_of c.deref-in-None.result.now in
    let b = term_of c.deref-in-Some-lent_pairs.result.now in
    let whole = ap term_of c.in-Let.is ∙ term_of-Let c.in-Let.bound c.in-Let.body ∙ (λ k. let_term (term_of (sym c.deref-in-None.ensures k)) (term_of (sym c.deref-in-Some-lent_pairs.ensures k))) in
    found_as c.few_each-in-Some-lent_pairs.result _ _ c.few_each-in-Some-lent_pairs.ensures
    (λ xs h. let_each few_set at_most.Nothing V cs c.args.count xs.items _ e b (λ j. pair_value (slice_index_or ps j (0, 0))) whole (c.in-Some-lent_pairs.ensures.pairs V) h.0 h.1)
