use Rattle.std.proofs.Common.{rules, arith, ◌-◌, ◌≡◌, refl, sym, ap, ◌∙◌}
use Rattle.nrca_term.specs.View.{term_of}
use Rattle.nrca_term.specs.Term.{count, child_of, parts_of}
use Rattle.nrca_term.specs.Laws.AsVariant.{as-Proj}
use Rattle.nrca_setrules.proofs.TupleSides.{p1_right, p1_within}
use Rattle.nrca_setrules.proofs.tuples.p1.Goals as goal

pub take_part-component-requires : goal.take_part-component-requires
take_part-component-requires c = let b : c.in-Proj.part.value ≡ c.into_inner.result = search rules in
    let w = p1_within c.in-Proj.at c.in-Proj.of (term_of c.args.term) (term_of c.in-Proj.part.value) (as-Proj c.args.term c.in-Proj.at c.in-Proj.of c.in-Proj.part c.in-Proj.is) c.requires in
    omega (arith, w.1, ap (λ x. count (parts_of (term_of x))) b)

pub returns : goal.returns
returns c = let b : c.in-Proj.part.value ≡ c.into_inner.result = search rules in
    p1_right c.in-Proj.at c.in-Proj.of (c.in-Proj.at - 1) (term_of c.args.term) (term_of c.in-Proj.part.value) _ (as-Proj c.args.term c.in-Proj.at c.in-Proj.of c.in-Proj.part c.in-Proj.is) c.requires refl (c.take_part-component.ensures ∙ ap (λ x. child_of (parts_of (term_of x)) (c.in-Proj.at - 1)) (sym b))
