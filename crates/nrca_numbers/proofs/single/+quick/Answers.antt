use Rattle.std.proofs.Common.{◌≡◌, ◌+◌, ◌<◌, length, take, Some, sym, ◌∙◌, ap, arith}
use Rattle.std.specs.List.{slice_range}
use Rattle.std.proofs.lemmas.List.{length-map, length-set, take_more_set}
use Rattle.std.proofs.Math.ListN.{set}
use Rattle.aql_value.specs.Partial.{each}
use Rattle.nrca_term.specs.Laws.Equations.{term_of-Sub}
use Rattle.nrca_term.specs.Meaning.{cden}
use Rattle.nrca_term.specs.Turns.{settle}
use Rattle.nrca_term.specs.View.{term_of, terms_of}
use Rattle.nrca_loops.specs.Laws.Run.{range_whole, each-range_more, total-range_more}
use Rattle.nrca_loops.specs.Values.{values}
use Rattle.nrca_numbers.specs.Lending.{lent_datum}
use Rattle.nrca_numbers.specs.Laws.Lent.{term_at, sub_lent, sub_free}
use Rattle.nrca_numbers.proofs.Cells.{cell_number, number_of, turns_of, index_with}
use Rattle.nrca_numbers.proofs.single.+quick.Goals as goal

pub quick-returns-in-Some-lent_part-clause-value : goal.quick-returns-in-Some-lent_part-clause-value
quick-returns-in-Some-lent_part-clause-value t c =
    let V = c.args.globals.now in
    let vals = values c.args.env.now in
    let a = term_of c.in-Sub.array.value in
    let v = lent_datum c.in-Some-lent_part.array in
    let whole = ap term_of c.in-Sub.is ∙ term_of-Sub c.in-Sub.array c.in-Sub.at in
    let same = ap term_of c.deref-in-Sub.ensures in
    let holds : cden V vals a ≡ Some v = ap (cden V vals) (sym same) ∙ c.in-Some-lent_part.ensures.value in
    let free : settle V vals a ≡ 0 = ap (settle V vals) (sym same) ∙ c.in-Some-lent_part.ensures.turns in
    number_of c.quick_cell.result _ _ (ap (cden V vals) whole ∙ sub_lent V vals a v holds free (terms_of c.in-Sub.at)) c.quick_cell.ensures.value

pub quick-returns-in-Some-lent_part-clause-turns : goal.quick-returns-in-Some-lent_part-clause-turns
quick-returns-in-Some-lent_part-clause-turns t c =
    let V = c.args.globals.now in
    let vals = values c.args.env.now in
    let a = term_of c.in-Sub.array.value in
    let v = lent_datum c.in-Some-lent_part.array in
    let whole = ap term_of c.in-Sub.is ∙ term_of-Sub c.in-Sub.array c.in-Sub.at in
    let same = ap term_of c.deref-in-Sub.ensures in
    let holds : cden V vals a ≡ Some v = ap (cden V vals) (sym same) ∙ c.in-Some-lent_part.ensures.value in
    let free : settle V vals a ≡ 0 = ap (settle V vals) (sym same) ∙ c.in-Some-lent_part.ensures.turns in
    turns_of c.quick_cell.result _ _ (ap (settle V vals) whole ∙ sub_free V vals a v holds free (terms_of c.in-Sub.at)) c.quick_cell.ensures.turns

pub quick_cell-returns-clause-value : goal.quick_cell-returns-clause-value
quick_cell-returns-clause-value t c =
    let f = cden c.args.globals.now (values c.args.env.now) in
    let ts = terms_of c.args.at.now in
    let i = c.loop-term.term-index in
    let end : i ≡ length ts = omega (arith, length-map c.args.at.now.0.items term_of, ap length c.deref-term-items.ensures.value) in
    let index = ap (each f) (sym (range_whole ts i end)) ∙ c.loop-term.invariant.0 in
    number_of c.lent_cell.result _ _ (cell_number (lent_datum c.args.array) (each f ts) (take c.loop-term.count c.loop-term.index) index) c.lent_cell.ensures

pub quick_cell-loop-term-preserved : goal.quick_cell-loop-term-preserved
quick_cell-loop-term-preserved t c =
    let f = cden c.args.globals.now (values c.args.env.now) in
    let g = settle c.args.globals.now (values c.args.env.now) in
    let ts = terms_of c.args.at.now in
    let i = c.loop-term.term-index in
    let x = term_of c.term-item.result in
    let inv = c.loop-term.invariant in
    let n = c.loop-term.count in
    let k = c.in-Some.n in
    let more = set c.loop-term.index n k in
    let there : n < length c.loop-term.index = omega (arith, inv.2, inv.3, c.if-count-eq8.false) in
    let at = term_at c.deref-term-items.result.now c.args.at.now.0.items i c.term-item.result c.deref-term-items.ensures.value (omega arith) c.term-item.is in (
      each-range_more f g ts 0 i x (omega arith) at
          ∙ index_with (each f (slice_range ts 0 i)) (f x) (take n c.loop-term.index) (take (n + 1) more) k inv.0 c.in-Some.ensures.value
          (take_more_set c.loop-term.index n k there),
      omega (arith, total-range_more f g ts 0 i x (omega arith) at, inv.1, c.in-Some.ensures.turns),
      omega (arith, there, inv.3),
      length-set c.loop-term.index n k ∙ inv.3,
    )
