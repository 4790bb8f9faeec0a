use Rattle.std.proofs.Common.{arith, sym, subst, ◌∙◌}
use Rattle.nrca_term.specs.View.{terms_of}
use Rattle.nrca_term.specs.Laws.Equations.{length-terms_of}
use Rattle.nrca_arrayrules.proofs.Counts.{constant-back, constant-yes}
use Rattle.nrca_term.specs.Cells.{CountsCells}
use Rattle.nrca_arrayrules.proofs.Sides.{false-true}
use Rattle.nrca_arrayrules.proofs.dimensions.is_constant.Goals as goal

pub returns-in-Some : goal.returns-in-Some
returns-in-Some c = (
  (λ h. let k = c.agree-constant.ensures.0 h in constant-yes c.args.rank c.len.result c.in-Some.product (terms_of c.args.dims.now) (terms_of c.args.cells.now) (c.len.ensures ∙ sym (length-terms_of c.args.dims.now)) (omega (arith, length-terms_of c.args.cells.now, c.len-in-Some.ensures, c.len-in-Some.type_inv)) (subst (CountsCells (terms_of c.args.dims.now)) c.in-Some.is c.cell_count.ensures) (k.0, k.1 ∙ (c.len-in-Some.ensures ∙ sym (length-terms_of c.args.cells.now)))),
  (λ h. let k = constant-back c.args.rank c.len.result c.in-Some.product (terms_of c.args.dims.now) (terms_of c.args.cells.now) (c.len.ensures ∙ sym (length-terms_of c.args.dims.now)) (omega (arith, length-terms_of c.args.cells.now, c.len-in-Some.ensures, c.len-in-Some.type_inv)) (subst (CountsCells (terms_of c.args.dims.now)) c.in-Some.is c.cell_count.ensures) h in c.agree-constant.ensures.1 (k.0, k.1 ∙ sym (c.len-in-Some.ensures ∙ sym (length-terms_of c.args.cells.now)))),
)

pub returns-in-None : goal.returns-in-None
returns-in-None c = ((λ h. absurd (false-true h)), (λ f. absurd ((subst (CountsCells (terms_of c.args.dims.now)) c.in-None.is c.cell_count.ensures) f.0 f.1)))
