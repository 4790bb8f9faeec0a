use Rattle.std.proofs.Common.{sym, subst, ◌∙◌}
use Rattle.nrca_term.specs.View.{terms_of}
use Rattle.nrca_term.specs.Laws.Equations.{length-terms_of}
use Rattle.nrca_setrules.proofs.CellCounts.{misshapen-yes, misshapen-back}
use Rattle.nrca_setrules.proofs.Sides.{false-true}
use Rattle.nrca_term.specs.Cells.{CountsCells}
use Rattle.nrca_setrules.proofs.constants.is_misshapen.Goals as goal

pub returns-in-Some : goal.returns-in-Some
returns-in-Some c =
    let t = subst (CountsCells (terms_of c.args.dims.now)) c.in-Some.is c.cell_count.ensures in (
      (λ h. misshapen-yes c.in-Some.product c.len.result (terms_of c.args.dims.now) (terms_of c.args.cells.now) (c.len.ensures ∙ sym (length-terms_of c.args.cells.now)) c.len.type_inv t (c.differ-wrong.ensures.0 h)),
      (λ h. c.differ-wrong.ensures.1 (misshapen-back c.in-Some.product c.len.result (terms_of c.args.dims.now) (terms_of c.args.cells.now) (c.len.ensures ∙ sym (length-terms_of c.args.cells.now)) c.len.type_inv t h)),
    )

pub returns-in-None : goal.returns-in-None
returns-in-None c = ((λ h. absurd (false-true h)), (λ f. absurd ((subst (CountsCells (terms_of c.args.dims.now)) c.in-None.is c.cell_count.ensures) f.0 f.1)))
