use Rattle.std.proofs.Common.{◌≡◌, suc, ◌+◌, ◌<◌, ◌^◌, arith, ap, sym, subst, ◌∙◌}
use Rattle.nrca_term.specs.View.{term_of}
use Rattle.nrca_term.specs.Nodes.{variable}
use Rattle.nrca_term.specs.Subst.{shift_term, subst_term, top_var}
use Rattle.nrca_term.specs.Laws.Equations.{term_of-Var}
use Rattle.nrca_term.specs.Laws.Shift.{top_var-shift_le}
use Rattle.nrca_term.specs.Laws.WellFormed.{well_formed-Core}
use Rattle.nrca_motion.specs.Laws.Outside.{rotated-room}
use Rattle.nrca_motion.proofs.outside.rotate.Goals as goal

pub shift-wide-requires : goal.shift-wide-requires
shift-wide-requires c = omega (arith, c.requires.room, top_var-shift_le (c.args.count + 1) 1 (term_of c.args.body))

pub subst-requires : goal.subst-requires
subst-requires c =
    let z : c.args.count + 1 ≡ suc c.args.count = omega arith in
    subst (λ w. top_var (subst_term 0 w (term_of c.shift-wide.result)) < 2 ^ 64) (sym (term_of-Var c.args.count))
    (subst (λ t. top_var (subst_term 0 (variable c.args.count) t) < 2 ^ 64) (sym (c.shift-wide.ensures.shifted ∙ ap (λ n. shift_term n 1 (term_of c.args.body)) z))
    (rotated-room c.args.count (term_of c.args.body) (well_formed-Core c.args.body) c.requires.room c.requires.few))
