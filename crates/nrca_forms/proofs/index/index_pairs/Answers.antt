use Rattle.std.proofs.Common.{◌≡◌, ◌≤◌, map, Some, sym, ap, ◌∙◌, arith}
use Rattle.aql_value.specs.Indices.{product}
use Rattle.aql_value.specs.Operations.{array_of, dims_above, all_in_range}
use Rattle.nrca_forms.specs.Indexing.{pair_of, pairs_of, pairs_value, pairs_turns, extent, AreRanked}
use Rattle.nrca_loops.specs.Values.{held_value}
use Rattle.std.proofs.Common.{inl, inr, subst}
use Rattle.nrca_forms.proofs.Arrays.{dims_of, cells_of, rank_none, none_turns, value_made, turns_made, checked_range}
use Rattle.nrca_forms.proofs.index.index_pairs.Goals as goal

pub returns-then-rank-eq0 : goal.returns-then-rank-eq0
returns-then-rank-eq0 c =
    let ps = map pair_of c.in-Some.pairs.items in
    let e : pairs_of c.args.pairs ≡ Some ps = ap pairs_of c.in-Some.is in
    let ranked = subst (AreRanked c.args.rank) e c.requires in
    let none = rank_none c.args.rank ps ranked (elim c.then-rank-eq0.either [ inl z ↦ inl z | inr r ↦ inr r.1 ]) in
    let idle = ap (pairs_turns c.args.rank) e ∙ none_turns c.args.rank ps ranked none in
    (ap held_value c.free-then-rank-eq0.ensures.answer ∙ sym (ap (pairs_value c.args.rank) e ∙ none), c.free-then-rank-eq0.ensures.turns ∙ sym idle, omega (arith, idle))

pub returns-then-count-from : goal.returns-then-count-from
returns-then-count-from c =
    let ps = map pair_of c.in-Some.pairs.items in
    let e : pairs_of c.args.pairs ≡ Some ps = ap pairs_of c.in-Some.is in
    let ranked = subst (AreRanked c.args.rank) e c.requires in
    let exts : map extent c.in_ok-extents.extents.items ≡ dims_of c.args.rank ps =
    c.in_ok-extents.ensures ∙ ap (λ l. dims_above c.args.rank (map (λ p. p.0) (map pair_of l))) c.as_slice.ensures.value in
    let range = checked_range (map extent c.in_ok-extents.extents.items) c.in-Some-2.dims (sym c.in_ok-dims.ensures ∙ c.in-Some-2.is) in
    let fits = ap all_in_range (sym exts) ∙ range.0 in
    let same = range.1 ∙ exts in
    let full = ap product (c.as_slice-2.ensures.value ∙ c.dims.view_is ∙ same) in
    let some : 1 ≤ c.args.rank = omega arith in
    let few : c.args.rank ≤ 8 = omega arith in
    let turns = ap (pairs_turns c.args.rank) e ∙ turns_made c.args.rank ps ranked some few fits in
    λ s. omega (arith, turns, full, c.saturating_product-count.ensures, c.from.ensures, c.if-count-from.true)

pub returns : goal.returns
returns c =
    let ps = map pair_of c.in-Some.pairs.items in
    let e : pairs_of c.args.pairs ≡ Some ps = ap pairs_of c.in-Some.is in
    let ranked = subst (AreRanked c.args.rank) e c.requires in
    let exts : map extent c.in_ok-extents.extents.items ≡ dims_of c.args.rank ps =
    c.in_ok-extents.ensures ∙ ap (λ l. dims_above c.args.rank (map (λ p. p.0) (map pair_of l))) c.as_slice.ensures.value in
    let range = checked_range (map extent c.in_ok-extents.extents.items) c.in-Some-2.dims (sym c.in_ok-dims.ensures ∙ c.in-Some-2.is) in
    let fits = ap all_in_range (sym exts) ∙ range.0 in
    let same = range.1 ∙ exts in
    let full = ap product (c.as_slice-2.ensures.value ∙ c.dims.view_is ∙ same) in
    let some : 1 ≤ c.args.rank = omega arith in
    let few : c.args.rank ≤ 8 = omega arith in
    let turns = ap (pairs_turns c.args.rank) e ∙ turns_made c.args.rank ps ranked some few fits in
    let cells = c.in_ok-cells.ensures ∙ ap (λ d. cells_of d ps) same in (
      c.in_ok-table_of.ensures ∙ (λ k. array_of (same k) (cells k)) ∙ sym (ap (pairs_value c.args.rank) e ∙ value_made c.args.rank ps ranked some few fits),
      omega (arith, turns, full, c.saturating_product-count.ensures, c.from.ensures, c.if-count-from.false),
      omega (arith, turns, full, c.saturating_product-count.ensures, c.from.ensures, c.if-count-from.false),
    )
