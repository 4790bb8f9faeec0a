use Rattle.std.proofs.Common.{◌≡◌, arith, ap, refl, ◌∙◌}
use Rattle.nrca_term.specs.Nodes.{variable, sum_term, gen_term}
use Rattle.nrca_term.specs.Subst.{top_var, subst_term}
use Rattle.nrca_term.specs.View.{term_of}
use Rattle.nrca_term.specs.Laws.Equations.{term_of-Var}
use Rattle.nrca_term.specs.declared.term.Core.TheVariants.{Var}
use Rattle.nrca_tests.proofs.tests.substitution.substitute_case.Goals as goal

pub subst-requires : goal.subst-requires
subst-requires c =
    let least : top_var (subst_term 0 (variable 0) (sum_term (gen_term (variable 0)) (variable 1))) ≡ 1 = refl in
    omega (
      arith,
      least,
      ap (λ t. top_var (subst_term 0 (variable 0) t)) (c.in_ok-term.ensures ∙ ap (λ x. sum_term (gen_term x) (term_of (Var 1))) (term_of-Var 0) ∙ ap (λ x. sum_term (gen_term (variable 0)) x) (term_of-Var 1)),
      ap (λ w. top_var (subst_term 0 w (term_of c.in_ok-term.term))) (term_of-Var 0),
    )
