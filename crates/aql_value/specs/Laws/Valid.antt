-- What follows from the definitions of `Valid`.
use Rattle.std.specs.Prelude.{◌≡◌, ℕ, zero, suc, ◌+◌, ◌<◌, List, [], ◌∷◌, length, take}
use Rattle.std.proofs.Common.{arith, subst, sym, get_or}
use Rattle.aql_value.specs.Datum.{Datum, data_of}
use Rattle.aql_value.specs.Valid.{IsValue, AreValues}

-- one value more
pub AreValues-take : (xs : List Datum) (i : ℕ) (x : Datum) → i < length xs → get_or xs i x ≡ x → AreValues (data_of (take i xs)) → IsValue x → AreValues (data_of (take (i + 1) xs))
AreValues-take [] i x h e a v = absurd (omega arith)
AreValues-take (y ∷ xs) zero x h e a v = (subst IsValue (sym e) v, tt)
AreValues-take (y ∷ xs) (suc i) x h e a v =
    subst (λ n. AreValues (data_of (take n (y ∷ xs)))) (let e : suc (i + 1) ≡ suc i + 1 = omega arith in e)
    (a.0, AreValues-take xs i x (omega (arith, h)) e a.1 v)
