-- Answers within a budget.
use Rattle.std.proofs.Common.{◌≡◌, ℕ, ◌<◌, sym, ◌∙◌, arith}
use Rattle.std.specs.Prelude.{Result, Ok, Err, IsErr, IsErrAnd}
use Rattle.nrca_par.specs.declared.fault.EvalFault.{EvalFault}
use Rattle.nrca_par.specs.declared.fault.EvalFault.TheVariants.{Spent}
use Rattle.nrca_loops.specs.declared.done.Counted.{Counted}
use Rattle.nrca_loops.specs.Within.{Within}

-- a fault that is passed on
pub err_within : {T X : Type 0} (view : T → X) (r : Result (Counted T) EvalFault) (budget : ℕ) (x : X) (turns : ℕ) (f : EvalFault) → IsErr r → IsErrAnd r (λ e. e ≡ f) → (f ≡ Spent → budget < turns) → Within view budget x turns r
err_within view (Ok d) budget x turns f is and why = cc
err_within view (Err e) budget x turns f is and why = λ s. why (sym and ∙ s)

-- an answer whose value and turns are told in other words
pub same_within : {T X : Type 0} (view : T → X) (r : Result (Counted T) EvalFault) (budget : ℕ) (x y : X) (t u : ℕ) → x ≡ y → t ≡ u → Within view budget x t r → Within view budget y u r
same_within view (Ok d) budget x y t u e f p = (p.0 ∙ e, p.1 ∙ f, omega (arith, p.2, f))
same_within view (Err z) budget x y t u e f p = λ s. let h = p s in omega (arith, h, f)
