use Rattle.std.proofs.Common.{rules, true, ◌≡◌, ◌↔◌}
use Rattle.nrca_term.specs.View.{term_of, terms_of}
use Rattle.nrca_term.specs.Laws.AsVariant.{as-Tab}
use Rattle.nrca_arrayrules.proofs.TabulationSides.{a2_tells}
use Rattle.nrca_arrayrules.specs.Whole.{IsWhole}
use Rattle.nrca_arrayrules.proofs.tabulations.fits_a2.Goals as goal

pub returns-in-Tab : goal.returns-in-Tab
returns-in-Tab c =
    let k : (c.is_whole-whole.result ≡ true) ↔ IsWhole (terms_of c.in-Tab.bounds) (term_of c.in-Tab.body.value) = search rules in
    a2_tells c.is_whole-whole.result (term_of c.args.term.now) (term_of c.in-Tab.body.value) (terms_of c.in-Tab.bounds) (as-Tab c.args.term.now c.in-Tab.bounds c.in-Tab.body c.in-Tab.is) k.0 k.1
