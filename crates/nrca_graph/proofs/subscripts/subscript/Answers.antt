use Rattle.std.proofs.Common.{arith, ap, sym, subst, refl, ◌∙◌}
use Rattle.nrca_term.specs.Nodes.{variable, let_term, get_term, proj_term}
use Rattle.nrca_term.specs.Rules.{sizes_term}
use Rattle.nrca_term.specs.Subst.{shift_term, top_var}
use Rattle.nrca_term.specs.Laws.Equations.{term_of-Var}
use Rattle.nrca_term.specs.Laws.Shift.{top_var-shift_le, shift_term-none}
use Rattle.nrca_term.specs.View.{term_of, terms_of}
use Rattle.nrca_graph.specs.ArrayFree.{paired_with}
use Rattle.nrca_graph.specs.Made.{Makes}
use Rattle.nrca_graph.proofs.subscripts.subscript.Goals as goal

pub shift-index-requires : goal.shift-index-requires
shift-index-requires c = omega (arith, c.requires, top_var-shift_le 0 1 (term_of c.sizes.result), ap top_var c.sizes.ensures)

pub returns : goal.returns
returns c =
    subst
    (λ a. Makes c.bind-2.result (let_term a (let_term (shift_term 0 1 (sizes_term (terms_of c.args.at))) (get_term (paired_with (proj_term 2 2 (variable 1)) (variable 0))))))
    (sym (shift_term-none 0 (term_of c.args.array)))
    (c.bind-2.ensures (term_of c.args.array) _ refl
    (c.bind.ensures _ _ (c.shift-index.ensures.shifted ∙ ap (shift_term 0 1) c.sizes.ensures) (c.member-cell.ensures _ (c.values_at.ensures _ _ (c.project-graph.ensures _ (term_of-Var 1)) (term_of-Var 1)))))
