use Rattle.std.proofs.Common.{rules, true, ◌≡◌, ◌↔◌}
use Rattle.nrca_term.specs.View.{term_of}
use Rattle.nrca_term.specs.Laws.AsVariant.{as-Proj}
use Rattle.nrca_arrayrules.proofs.TabulationSides.{component-yes, component-back}
use Rattle.nrca_arrayrules.specs.Whole.{IsDimOf}
use Rattle.nrca_arrayrules.proofs.tabulations.is_component_of.Goals as goal

pub returns-else-of-rank : goal.returns-else-of-rank
returns-else-of-rank c =
    let k : (c.is_dim_of-dim.result ≡ true) ↔ IsDimOf c.args.rank (term_of c.args.array.now) (term_of c.in-Proj.part.value) = search rules in
    let h = as-Proj c.args.term.now c.in-Proj.at c.in-Proj.of c.in-Proj.part c.in-Proj.is in
    let a : c.in-Proj.at ≡ c.args.j = search rules in
    let b : c.in-Proj.of ≡ c.args.rank = search rules in (
      (λ x. component-yes c.in-Proj.at c.in-Proj.of c.args.j c.args.rank (term_of c.args.term.now) (term_of c.args.array.now) (term_of c.in-Proj.part.value) h a b (k.0 x)),
      (λ x. k.1 (component-back c.in-Proj.at c.in-Proj.of c.args.j c.args.rank (term_of c.args.term.now) (term_of c.args.array.now) (term_of c.in-Proj.part.value) h x)),
    )
