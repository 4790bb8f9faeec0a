use Rattle.std.proofs.Common.{rules, true, ◌≡◌, ◌↔◌}
use Rattle.nrca_term.specs.View.{term_of, terms_of}
use Rattle.nrca_term.specs.Laws.AsVariant.{as-Sub}
use Rattle.nrca_arrayrules.proofs.TabulationSides.{same-whole, whole-same}
use Rattle.nrca_arrayrules.specs.Whole.{IsSame}
use Rattle.nrca_arrayrules.proofs.tabulations.is_whole.Goals as goal

pub returns-in-Sub : goal.returns-in-Sub
returns-in-Sub c =
    let k : (c.is_same-same.result ≡ true) ↔ IsSame (terms_of c.args.bounds.now) (term_of c.in-Sub.array.value) (terms_of c.in-Sub.at) = search rules in
    let h = as-Sub c.args.body.now c.in-Sub.array c.in-Sub.at c.in-Sub.is in
    ((λ x. same-whole (terms_of c.args.bounds.now) (terms_of c.in-Sub.at) (term_of c.args.body.now) (term_of c.in-Sub.array.value) h (k.0 x)), (λ x. k.1 (whole-same (terms_of c.args.bounds.now) (terms_of c.in-Sub.at) (term_of c.args.body.now) (term_of c.in-Sub.array.value) h x)))
