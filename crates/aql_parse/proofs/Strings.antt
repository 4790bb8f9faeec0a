-- A string's bytes so far, and those to come.
use Rattle.std.proofs.Common.{ℕ, ◌≡◌, List, [], ◌∷◌, ◌++◌, append_assoc, refl}

pub spelled : (a b : List ℕ) (x : ℕ) → (a ++ (x ∷ [])) ++ b ≡ a ++ (x ∷ b)
spelled a b x = rw append_assoc refl
