use Rattle.std.proofs.Common.{◌≡◌, ap, sym, ◌∙◌}
use Rattle.std.specs.Prelude.{slice_index_or}
use Rattle.aql_value.specs.Datum.{natural}
use Rattle.nrca_array.specs.Held.{held_datum}
use Rattle.nrca_sets.specs.Pairs.{pair_value}
use Rattle.nrca_term.specs.Laws.Equations.{term_of-Let, term_of-Proj, term_of-Sub}
use Rattle.nrca_term.specs.Nodes.{let_term, proj_term, sub_term}
use Rattle.nrca_term.specs.View.{term_of, terms_of}
use Rattle.nrca_numbers.proofs.Arms.{found_as, let_each, part_each, cell_each}
use Rattle.nrca_numbers.proofs.blocks.+numbers.Goals as goal

pub numbers-returns-in-Some-lent_pairs : goal.numbers-returns-in-Some-lent_pairs
numbers-returns-in-Some-lent_pairs t c =
    let V = c.args.globals.now in
    let cs = c.args.columns.now in
    let ps = c.in-Some-lent_pairs.pairs.now in
    let e = term_of c.deref-in-None-lent_outside-2.result.now in
    let b = term_of c.deref-in-Some-lent_pairs.result.now in
    let whole = ap term_of c.in-Let.is ∙ term_of-Let c.in-Let.bound c.in-Let.body ∙ (λ k. let_term (term_of (sym c.deref-in-None-lent_outside-2.ensures k)) (term_of (sym c.deref-in-Some-lent_pairs.ensures k))) in
    found_as c.numbers-in-Some-lent_pairs.result _ _ c.numbers-in-Some-lent_pairs.ensures
    (λ xs h. let_each natural 0 V cs c.args.count xs.items _ e b (λ j. pair_value (slice_index_or ps j (0, 0))) whole (c.in-Some-lent_pairs.ensures.pairs V) h.0 h.1)

pub numbers-returns-in-Some-lent_pairs-2 : goal.numbers-returns-in-Some-lent_pairs-2
numbers-returns-in-Some-lent_pairs-2 t c =
    let V = c.args.globals.now in
    let cs = c.args.columns.now in
    let ps = c.in-Some-lent_pairs-2.pairs.now in
    let a = term_of c.deref-in-Proj.result.now in
    let whole = ap term_of c.in-Proj.is ∙ term_of-Proj c.in-Proj.at c.in-Proj.of c.in-Proj.part ∙ (λ k. proj_term c.in-Proj.at c.in-Proj.of (term_of (sym c.deref-in-Proj.ensures k))) in
    found_as c.parts.result _ _ c.parts.ensures
    (λ xs h. part_each V cs c.args.count xs.items _ a c.in-Proj.at c.in-Proj.of (λ j. pair_value (slice_index_or ps j (0, 0))) whole (c.in-Some-lent_pairs-2.ensures.pairs V) h.0 h.1)

pub numbers-returns-in-Some-lent_outside-4 : goal.numbers-returns-in-Some-lent_outside-4
numbers-returns-in-Some-lent_outside-4 t c =
    let V = c.args.globals.now in
    let cs = c.args.columns.now in
    let a = term_of c.deref-in-Sub.result.now in
    let whole = ap term_of c.in-Sub.is ∙ term_of-Sub c.in-Sub.array c.in-Sub.at ∙ (λ k. sub_term (term_of (sym c.deref-in-Sub.ensures k)) (terms_of c.in-Sub.at)) in
    found_as c.cells.result _ _ c.cells.ensures
    (λ xs h. cell_each V cs c.args.count xs.items _ a (terms_of c.in-Sub.at) (held_datum c.in-Some-lent_outside-4.held.now) whole c.in-Some-lent_outside-4.ensures h.0 h.1)
