-- What is kept stays right where positions are added.
use Rattle.std.proofs.Common.{◌≡◌, ℕ, zero, suc, ◌+◌, ◌≤◌, List, [], ◌∷◌, ◌++◌, length, Option, Some, None, refl, arith, length-append}
use Rattle.std.specs.Prelude.{slice_get}
use Rattle.aql_value.specs.Datum.{Datum}
use Rattle.aql_value.specs.Partial.{◌>>=◌}
use Rattle.nrca_term.specs.Meaning.{Outcomes, outcome}
use Rattle.nrca_encoded.specs.Encodings.{AreEncodings, MayBeKept}

-- of no position nothing is kept
pub no_encodings : AreEncodings [] []
no_encodings = record { few = omega arith; each = λ n. at n }
  where
    at : (n : ℕ) → MayBeKept (outcome [] n) (outcome [] n)
    at zero = tt
    at (suc n) = tt

-- one position more
pub one-more-outcome : (V E : Outcomes) (o : Option Datum) → AreEncodings V E → AreEncodings (V ++ o ∷ []) E
one-more-outcome V E o h = record {
  few = omega (arith, h.few, length-append V (o ∷ []));
  each = λ n. more n (h.each n);
}
  where
    at : (V E : Outcomes) → length E ≤ length V → (i : ℕ) → MayBeKept (slice_get V i >>= λ p. p) (slice_get E i >>= λ p. p) →
        MayBeKept (slice_get (V ++ o ∷ []) i >>= λ p. p) (slice_get E i >>= λ p. p)
    at V [] l i k = tt
    at [] (e ∷ E) l i k = absurd (omega (arith, l))
    at (v ∷ V) (e ∷ E) l zero k = k
    at (v ∷ V) (e ∷ E) l (suc i) k = at V E (omega (arith, l)) i k

    more : (n : ℕ) → MayBeKept (outcome V n) (outcome E n) → MayBeKept (outcome (V ++ o ∷ []) n) (outcome E n)
    more zero k = tt
    more (suc i) k = at V E h.few i k
