use Rattle.std.proofs.Common.{sym, subst, ◌∙◌}
use Rattle.nrca_term.specs.View.{terms_of}
use Rattle.nrca_term.specs.Laws.Equations.{length-terms_of}
use Rattle.nrca_term.specs.Cells.{CountsCells}
use Rattle.nrca_arrayrules.proofs.SubscriptSides.{subscript-yes, subscript-back}
use Rattle.nrca_arrayrules.proofs.Sides.{false-true}
use Rattle.nrca_arrayrules.proofs.subscripts.is_constant_subscript.Goals as goal

pub returns-in-Some : goal.returns-in-Some
returns-in-Some c =
    let l = c.len.ensures ∙ sym (length-terms_of c.args.at.now) in
    let t = subst (CountsCells (terms_of c.args.at.now)) c.in-Some.is c.cell_count.ensures in (
      (λ h. subscript-yes c.len.result _ (terms_of c.args.dims.now) (terms_of c.args.cells.now) (terms_of c.args.at.now) l t (c.is_constant-constant.ensures.0 h)),
      (λ h. c.is_constant-constant.ensures.1 (subscript-back c.len.result (terms_of c.args.dims.now) (terms_of c.args.cells.now) (terms_of c.args.at.now) l h)),
    )

pub returns-in-None : goal.returns-in-None
returns-in-None c = ((λ h. absurd (false-true h)), (λ f. absurd ((subst (CountsCells (terms_of c.args.at.now)) c.in-None.is c.cell_count.ensures) f.1 f.3)))
