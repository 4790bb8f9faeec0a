use Rattle.std.proofs.Common.{◌≡◌, Some, sym, ap, subst, ◌∙◌, arith}
use Rattle.cdf_header.specs.Places.{variable_at}
use Rattle.aql_value.specs.Indices.{product}
use Rattle.cdf_slab.specs.Slab.{slab_numbers, slab, cut_fault, negative_fault, IsSlabAnswer, AnswersEarly}
use Rattle.aql_value.specs.Partial.{or_else}
use Rattle.cdf_slab.proofs.Answering.{early-none, empty_early, empty_told}
use Rattle.cdf_slab.proofs.Requests.{index_request}
use Rattle.cdf_slab.proofs.slab.read_named.Goals as goal

pub returns-in-Some-clause-request : goal.returns-in-Some-clause-request
returns-in-Some-clause-request g c =
    index_request c.args.header.now (variable_at c.args.header.now c.args.v) c.args.asked.now.start.now c.args.asked.now.count.now c.args.asked.now.stride.now c.args.asked.now.signed c.in-Some.fault (sym c.first_fault.ensures.which ∙ c.in-Some.is)

pub returns-then-saturating_product-eq0-clause-early : goal.returns-then-saturating_product-eq0-clause-early
returns-then-saturating_product-eq0-clause-early g c =
    let zero : product c.args.asked.now.count.now ≡ 0 = omega (arith, c.saturating_product.ensures, c.if-saturating_product-eq0.true) in
    early-none _ _ (empty_early c.args.header.now (variable_at c.args.header.now c.args.v) c.args.asked.now.start.now c.args.asked.now.count.now c.args.asked.now.stride.now zero (sym c.first_fault.ensures.which ∙ c.in_default.is))

pub returns-then-saturating_product-eq0-clause-told : goal.returns-then-saturating_product-eq0-clause-told
returns-then-saturating_product-eq0-clause-told g c = λ bytes there is.
    let zero : product c.args.asked.now.count.now ≡ 0 = omega (arith, c.saturating_product.ensures, c.if-saturating_product-eq0.true) in
    let r = empty_told bytes c.args.header.now (variable_at c.args.header.now c.args.v) c.args.asked.now.start.now c.args.asked.now.count.now c.args.asked.now.stride.now c.args.asked.now.signed zero (sym c.first_fault.ensures.which ∙ c.in_default.is) in
    (r.0, r.1 ∙ ap (λ cells. Some (record { dims = c.args.asked.now.count.now; cells = cells })) (sym c.new.ensures) ∙ ap Some (sym c.in_ok-array_of.ensures.made))

pub returns-clause-early : goal.returns-clause-early
returns-clause-early g c =
    subst (λ o. AnswersEarly (or_else o (cut_fault c.args.header.now (variable_at c.args.header.now c.args.v) c.args.asked.now.start.now c.args.asked.now.count.now c.args.asked.now.stride.now)) c.read_some.result)
    (sym (sym c.first_fault.ensures.which ∙ c.in_default.is)) c.read_some.ensures.early

pub returns-clause-told : goal.returns-clause-told
returns-clause-told g c = λ bytes there is.
    subst (λ o. IsSlabAnswer (or_else (or_else o (cut_fault c.args.header.now (variable_at c.args.header.now c.args.v) c.args.asked.now.start.now c.args.asked.now.count.now c.args.asked.now.stride.now))
    (negative_fault c.args.asked.now.signed (slab_numbers bytes c.args.header.now (variable_at c.args.header.now c.args.v) c.args.asked.now.start.now c.args.asked.now.count.now c.args.asked.now.stride.now)))
    (slab bytes c.args.header.now (variable_at c.args.header.now c.args.v) c.args.asked.now.start.now c.args.asked.now.count.now c.args.asked.now.stride.now c.args.asked.now.signed) c.read_some.result)
    (sym (sym c.first_fault.ensures.which ∙ c.in_default.is)) (c.read_some.ensures.told bytes there is)
