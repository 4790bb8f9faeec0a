use Rattle.std.proofs.Common.{sym, ◌∙◌, arith}
use Rattle.std.specs.Prelude.{nat_lt}
use Rattle.std.specs.Cmp.Lexicographic.{pointwise}
use Rattle.aql_value.specs.Indices.{offset}
use Rattle.nrca_forms.proofs.Grouping.{offset_within}
use Rattle.nrca_forms.proofs.index.group_value.Goals as goal

pub overflow_cast-number : goal.overflow_cast-number
overflow_cast-number c =
    let at = c.as_slice.ensures.value ∙ c.at.view_is in
    let ds = c.as_slice-2.ensures.value ∙ c.dims.view_is in
    let below = (λ k. pointwise nat_lt (sym at k) (sym ds k)) ∙ sym c.if-not-is_below.ensures in
    let within = offset_within c.args.dims.now c.args.at.now below in
    let number = c.offset_at-number.ensures ∙ (λ k. offset ((c.as_slice-4.ensures.value ∙ c.dims.view_is) k) ((c.as_slice-3.ensures.value ∙ c.at.view_is) k)) in
    omega (arith, number, within, c.requires, c.args.groups.ok.0, c.args.groups.ok.1, c.args.groups.small)

pub push_at-requires : goal.push_at-requires
push_at-requires c =
    let at = c.as_slice.ensures.value ∙ c.at.view_is in
    let ds = c.as_slice-2.ensures.value ∙ c.dims.view_is in
    let below = (λ k. pointwise nat_lt (sym at k) (sym ds k)) ∙ sym c.if-not-is_below.ensures in
    let within = offset_within c.args.dims.now c.args.at.now below in
    let number = c.offset_at-number.ensures ∙ (λ k. offset ((c.as_slice-4.ensures.value ∙ c.dims.view_is) k) ((c.as_slice-3.ensures.value ∙ c.at.view_is) k)) in
    omega (arith, number, within, c.requires)
