use Rattle.std.proofs.Common.{◌≡◌, arith, ap, refl, ◌∙◌}
use Rattle.nrca_term.specs.Nodes.{variable, sum_term, gen_term}
use Rattle.nrca_term.specs.Subst.{top_var, shift_term}
use Rattle.nrca_term.specs.View.{term_of}
use Rattle.nrca_term.specs.Laws.Equations.{term_of-Var}
use Rattle.nrca_term.specs.declared.term.Core.TheVariants.{Var}
use Rattle.nrca_tests.proofs.tests.substitution.shift_case.Goals as goal

pub shift-requires : goal.shift-requires
shift-requires c =
    let least : top_var (shift_term 0 2 (sum_term (gen_term (variable 3)) (variable 0))) ≡ 5 = refl in
    omega (
      arith,
      least,
      ap (λ t. top_var (shift_term 0 2 t)) (c.in_ok-term.ensures ∙ ap (λ x. sum_term (gen_term x) (term_of (Var 0))) (term_of-Var 3) ∙ ap (λ x. sum_term (gen_term (variable 3)) x) (term_of-Var 0)),
    )
