-- Packed cells are values of the language.
use Rattle.std.proofs.Common.{◌≡◌, ℕ, ◌<◌, ◌≤◌, ◌^◌, max, Bool, List, [], ◌∷◌, length, map, refl, sym, subst, ap, arith}
use Rattle.aql_value.specs.Datum.{Datum, natural, truth, data_of}
use Rattle.aql_value.specs.Valid.{IsValue, AreValues}
use Rattle.nrca_array.specs.Kept.{paired_up, AreSmallPairs, pairs_at, numbers_at, byte_truth}
use Rattle.nrca_array.specs.Packing.{greatest, pair_datum}

-- naturals
pub naturals_valued : (ns : List ℕ) → greatest ns < 2 ^ 128 → AreValues (data_of (map natural ns))
naturals_valued [] h = tt
naturals_valued (n ∷ ns) h = (omega (arith, h), naturals_valued ns (omega (arith, h)))

-- truth values
pub truths_valued : (bs : List Bool) → AreValues (data_of (map truth bs))
truths_valued [] = tt
truths_valued (b ∷ bs) = (tt, truths_valued bs)

-- pairs of a truth value and a natural
pub pairs_valued : (ps : List (Bool × ℕ)) → AreSmallPairs ps → AreValues (data_of (map pair_datum ps))
pairs_valued [] h = tt
pairs_valued (p ∷ ps) h = ((omega arith, (tt, (omega (arith, h), tt))), pairs_valued ps (omega (arith, h)))

-- numbers that are paired up are among these
pub small_pairs : (bs : List Bool) (ns : List ℕ) → greatest ns < 2 ^ 128 → AreSmallPairs (paired_up bs ns)
small_pairs [] ns h = omega arith
small_pairs (b ∷ bs) [] h = omega arith
small_pairs (b ∷ bs) (n ∷ ns) h = let k : greatest (map (λ p. p.1) (paired_up bs ns)) < 2 ^ 128 = small_pairs bs ns (omega (arith, h)) in omega (arith, h, k)
