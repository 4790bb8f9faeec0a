-- What follows from the definitions of `Lexis`.
use Rattle.std.proofs.Common.{◌≡◌, ℕ, ◌==◌, List, [], ◌∷◌, ◌++◌, Bool, true, false, Some, refl}
use Rattle.std.proofs.lemmas.Bool.{eqb-true}
use Rattle.aql_syntax.specs.Lexis.{behind}

-- what has something behind a prefix begins with it
pub behind_is : (p s r : List ℕ) → behind p s ≡ Some r → s ≡ p ++ r
behind_is [] s r e = cc
behind_is (a ∷ p) [] r e = cc
behind_is (a ∷ p) (b ∷ s) r e = go (b == a) refl (behind_is p s r)
  where
    go : (t : Bool) → (b == a) ≡ t → (behind p s ≡ Some r → s ≡ p ++ r) → b ∷ s ≡ a ∷ (p ++ r)
    go true here again = let e' = rw here at e in let f = eqb-true b a here in let g = again e' in cc
    go false other again = let e' = rw other at e in cc
