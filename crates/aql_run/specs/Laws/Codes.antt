-- What follows from the definitions of `Codes`.
use Rattle.std.proofs.Common.{ℕ, zero, suc, ◌≡◌, ◌∙◌, refl, sym, ap}
use Rattle.aql_run.specs.declared.status.Status.{Status}
use Rattle.aql_run.specs.declared.status.Status.TheVariants as status
use Rattle.aql_run.specs.Codes.{code_of}

-- the status with a number
abbrev status_at : ℕ → Status
status_at zero = status.Done
status_at (suc zero) = status.Memory
status_at (suc (suc zero)) = status.Usage
status_at (suc (suc (suc zero))) = status.Text
status_at (suc (suc (suc (suc zero)))) = status.Syntax
status_at (suc (suc (suc (suc (suc zero))))) = status.Type
status_at (suc (suc (suc (suc (suc (suc zero)))))) = status.Deep
status_at (suc (suc (suc (suc (suc (suc (suc zero))))))) = status.Large
status_at (suc (suc (suc (suc (suc (suc (suc (suc zero)))))))) = status.Long
status_at (suc (suc (suc (suc (suc (suc (suc (suc (suc zero))))))))) = status.File
status_at (suc (suc (suc (suc (suc (suc (suc (suc (suc (suc zero)))))))))) = status.Input
status_at (suc (suc (suc (suc (suc (suc (suc (suc (suc (suc (suc zero))))))))))) = status.Output
status_at (suc (suc (suc (suc (suc (suc (suc (suc (suc (suc (suc (suc zero)))))))))))) = status.Spent
status_at (suc (suc (suc (suc (suc (suc (suc (suc (suc (suc (suc (suc (suc n))))))))))))) = status.Files

-- the status with the number of a status is that one
back : (s : Status) → status_at (code_of s) ≡ s
back status.Done = refl
back status.Memory = refl
back status.Usage = refl
back status.Text = refl
back status.Syntax = refl
back status.Type = refl
back status.Deep = refl
back status.Large = refl
back status.Long = refl
back status.File = refl
back status.Input = refl
back status.Output = refl
back status.Spent = refl
back status.Files = refl

-- statuses with one number are one
pub status_is : (s t : Status) (n : ℕ) → n ≡ code_of s → n ≡ code_of t → s ≡ t
status_is s t n e f = sym (back s) ∙ (ap status_at (sym e ∙ f) ∙ back t)
