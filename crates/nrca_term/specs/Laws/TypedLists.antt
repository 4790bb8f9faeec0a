-- Terms that have the types of a list.
use Rattle.std.proofs.Common.{◌≡◌, ℕ, suc, List, [], ◌∷◌, length, refl, ap}
use Rattle.aql_ty.specs.Types.{Ty}
use Rattle.nrca_term.specs.Term.{Term}
use Rattle.nrca_term.specs.Typing.{ctyped}

-- as many terms as types, each of its type
abbrev pub TermsTyped : (ℕ → Ty → Type 0) → List Ty → List Term → List Ty → Type 0
TermsTyped G env [] [] = Unit {0}
TermsTyped G env [] (A ∷ As) = ⊥
TermsTyped G env (t ∷ ts) [] = ⊥
TermsTyped G env (t ∷ ts) (A ∷ As) = ctyped G env t A × TermsTyped G env ts As

-- there are as many terms as types
pub terms-length : (G : ℕ → Ty → Type 0) (env : List Ty) (ts : List Term) (As : List Ty) → TermsTyped G env ts As → length ts ≡ length As
terms-length G env [] [] h = refl
terms-length G env [] (A ∷ As) h = absurd h
terms-length G env (t ∷ ts) [] h = absurd h
terms-length G env (t ∷ ts) (A ∷ As) h = ap suc (terms-length G env ts As h.1)
