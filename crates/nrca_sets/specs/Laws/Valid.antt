-- Numbers and pairs of numbers that fit 64 bits are values of the language.
use Rattle.std.specs.Prelude.{◌≡◌, ℕ, zero, suc, ◌+◌, ◌<◌, ◌^◌, List, [], ◌∷◌, length, map, refl}
use Rattle.std.proofs.Common.{get_or, take, arith}
use Rattle.std.specs.List.{All}
use Rattle.std.proofs.lemmas.List.{length-map}
use Rattle.aql_value.specs.Datum.{Datum, natural, data_of}
use Rattle.aql_value.specs.Laws.Valid.{AreValues-take}
use Rattle.aql_value.specs.Valid.{AreValues, IsValue}

pub numbers_valid : (ns : List ℕ) → All (λ n. n < 2 ^ 64) ns → AreValues (data_of (map natural ns))
numbers_valid [] h = tt
numbers_valid (n ∷ ns) h = (omega (arith, h 0 0 (omega arith)), numbers_valid ns (λ k d l. h (suc k) d (omega (arith, l))))

there : {A : Type 0} (f : A → Datum) (xs : List A) (i : ℕ) (d : A) → i < length xs → get_or (map f xs) i (f (get_or xs i d)) ≡ f (get_or xs i d)
there f [] i d h = absurd (omega (arith, h))
there f (y ∷ xs) zero d h = refl
there f (y ∷ xs) (suc i) d h = there f xs i d (omega (arith, h))

-- one element more whose value is one of the language
pub one_valid : {A : Type 0} (f : A → Datum) (xs : List A) (i : ℕ) (d : A) → i < length xs → AreValues (data_of (take i (map f xs))) → IsValue (f (get_or xs i d)) → AreValues (data_of (take (i + 1) (map f xs)))
one_valid f xs i d h a v = AreValues-take (map f xs) i (f (get_or xs i d)) (omega (arith, h, length-map xs f)) (there f xs i d h) a v
