use Rattle.std.proofs.Common.{rules, true, ◌≡◌, ◌≤◌, ◌↔◌}
use Rattle.aql_value.specs.Lists.{Every}
use Rattle.nrca_term.specs.Rules.{IsVariableOrNumber, dims_of_var}
use Rattle.nrca_term.specs.View.{term_of, terms_of}
use Rattle.nrca_term.specs.Laws.AsVariant.{as-Let, as-Tab}
use Rattle.nrca_arrayrules.proofs.SizeSides.{a4_tells}
use Rattle.nrca_arrayrules.proofs.sizes.fits_a4.Goals as goal

pub returns-in-Tab : goal.returns-in-Tab
returns-in-Tab c =
    let p : (c.are_plain-plain.result ≡ true) ↔ Every IsVariableOrNumber (terms_of c.in-Tab.bounds) = search rules in
    let a : (c.asks-asked.result ≡ true) ↔ (1 ≤ dims_of_var 0 (term_of c.in-Let.body.value)) = search rules in
    a4_tells c.both-both.result (term_of c.args.term.now) (term_of c.in-Let.bound.value) (term_of c.in-Tab.body.value) (term_of c.in-Let.body.value) (terms_of c.in-Tab.bounds) (as-Let c.args.term.now c.in-Let.bound c.in-Let.body c.in-Let.is) (as-Tab c.in-Let.bound.value c.in-Tab.bounds c.in-Tab.body (search rules))
    (λ h. let w = c.both-both.ensures.0 h in (p.0 w.0, a.0 w.1)) (λ w. c.both-both.ensures.1 (p.1 w.0, a.1 w.1))
