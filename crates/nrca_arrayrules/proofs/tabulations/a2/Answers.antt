use Rattle.std.proofs.Common.{arith, true, sym, ap, subst, ◌∙◌}
use Rattle.nrca_term.specs.View.{term_of, terms_of}
use Rattle.nrca_term.specs.Laws.AsVariant.{as-Tab}
use Rattle.nrca_term.specs.Laws.Equations.{length-terms_of}
use Rattle.nrca_term.specs.declared.trace.Rule.TheVariants.{A2}
use Rattle.nrca_rule_laws.specs.Fitting.{RuleFits}
use Rattle.nrca_term.specs.Laws.Lists.{item-is}
use Rattle.nrca_arrayrules.proofs.TabulationSides.{a2_first, a2_right}
use Rattle.nrca_arrayrules.specs.Whole.{IsDimensionOf}
use Rattle.nrca_arrayrules.proofs.tabulations.a2.Goals as goal

pub index_mut-requires : goal.index_mut-requires
index_mut-requires c = omega (arith, length-terms_of c.in-Tab.bounds, (a2_first (term_of c.args.term) (term_of c.in-Tab.body.value) (terms_of c.in-Tab.bounds) (as-Tab c.args.term c.in-Tab.bounds c.in-Tab.body c.in-Tab.is) c.requires).0)

pub measured_array-array-requires : goal.measured_array-array-requires
measured_array-array-requires c =
    let f : RuleFits A2 true (term_of c.args.term) = c.requires in
    let e = ap term_of c.replace-first.ensures.value ∙ item-is c.in-Tab.bounds.0.items 0 c.index_mut.result.now c.index_mut.ensures.value in
    (f.0, subst (IsDimensionOf f.0) (sym e) ((a2_first (term_of c.args.term) (term_of c.in-Tab.body.value) (terms_of c.in-Tab.bounds) (as-Tab c.args.term c.in-Tab.bounds c.in-Tab.body c.in-Tab.is) f).1 (term_of c.index_mut.result.now)))

pub returns : goal.returns
returns c = a2_right (term_of c.args.term) (term_of c.in-Tab.body.value) (term_of c.measured_array-array.result) (term_of c.index_mut.result.now) (terms_of c.in-Tab.bounds) (as-Tab c.args.term c.in-Tab.bounds c.in-Tab.body c.in-Tab.is) c.requires (item-is c.in-Tab.bounds.0.items 0 c.index_mut.result.now c.index_mut.ensures.value) (subst (IsDimensionOf (term_of c.measured_array-array.result)) (ap term_of c.replace-first.ensures.value) c.measured_array-array.ensures)
