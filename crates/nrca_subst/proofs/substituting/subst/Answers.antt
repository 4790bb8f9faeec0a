use Rattle.std.proofs.Common.{◌≡◌, ◌+◌, ℕ, ap, ◌∙◌, arith}
use Rattle.nrca_term.specs.Subst.{shift_term, subst_term, top_var}
use Rattle.nrca_term.specs.Laws.Shift.{shift_term-none}
use Rattle.nrca_term.specs.Term.{Term}
use Rattle.nrca_term.specs.View.{term_of}
use Rattle.nrca_subst.specs.Depth.{Substitutes}
use Rattle.nrca_subst.proofs.Deeper.{is_depth-start}
use Rattle.nrca_subst.proofs.Keeping.{is_substituted, is_undefined_with, keeps_types_substituted}
use Rattle.nrca_subst.proofs.substituting.subst.Goals as goal

-- under no binders
start : (at : ℕ) (w t : Term) → subst_term (at + 0) (shift_term 0 0 w) t ≡ subst_term at w t
start at w t = (let e : at + 0 ≡ at = omega arith in ap (λ m. subst_term m (shift_term 0 0 w) t) e) ∙ ap (λ x. subst_term at x t) (shift_term-none 0 w)

from_start : (at : ℕ) (w t u : Term) → Substitutes at 0 w t u → u ≡ subst_term at w t
from_start at w t u h = h 0 is_depth-start ∙ start at w t

pub subst_in-requires : goal.subst_in-requires
subst_in-requires c = (0, is_depth-start, omega (arith, c.requires, ap top_var (start c.args.at (term_of c.args.with.now) (term_of c.args.term))))

pub returns-clause-substituted : goal.returns-clause-substituted
returns-clause-substituted c = from_start c.args.at (term_of c.args.with.now) (term_of c.args.term) (term_of c.subst_in.new.term) c.in_ok-subst_in.ensures

pub returns-clause-meaning : goal.returns-clause-meaning
returns-clause-meaning c =
    is_substituted c.args.at (term_of c.args.with.now) (term_of c.args.term) (term_of c.subst_in.new.term) (from_start c.args.at (term_of c.args.with.now) (term_of c.args.term) (term_of c.subst_in.new.term) c.in_ok-subst_in.ensures)

pub returns-clause-undefined : goal.returns-clause-undefined
returns-clause-undefined c =
    is_undefined_with c.args.at (term_of c.args.with.now) (term_of c.args.term) (term_of c.subst_in.new.term) (from_start c.args.at (term_of c.args.with.now) (term_of c.args.term) (term_of c.subst_in.new.term) c.in_ok-subst_in.ensures)

pub returns-clause-types : goal.returns-clause-types
returns-clause-types c =
    keeps_types_substituted c.args.at (term_of c.args.with.now) (term_of c.args.term) (term_of c.subst_in.new.term) (from_start c.args.at (term_of c.args.with.now) (term_of c.args.term) (term_of c.subst_in.new.term) c.in_ok-subst_in.ensures)
