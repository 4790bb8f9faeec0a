-- Pairs of naturals among values.
use Rattle.std.specs.Prelude.{◌≡◌, ℕ, zero, suc, List, [], ◌∷◌, map, Some, None, refl}
use Rattle.std.proofs.Common.{ap, sym, ◌∙◌}
use Rattle.std.specs.List.{slice_get}
use Rattle.aql_value.specs.Datum.{Datum, natural, truth, text, tuple, set, array, data_of, list_of}
use Rattle.aql_value.specs.Laws.Datum.{data_of-list_of}
use Rattle.nrca_sets.specs.Pairs.{pair_value, two_numbers, as_numbers, number_at, pair_at}

-- a pair of naturals is no natural
pub number_at_pairs : (ps : List (ℕ × ℕ)) (i : ℕ) → number_at (map pair_value ps) i ≡ None
number_at_pairs [] i = refl
number_at_pairs (p ∷ ps) zero = refl
number_at_pairs (p ∷ ps) (suc i) = number_at_pairs ps i

-- a natural is no pair
pub pair_at_numbers : (ns : List ℕ) (i : ℕ) → pair_at (map natural ns) i ≡ None
pair_at_numbers [] i = refl
pair_at_numbers (n ∷ ns) zero = refl
pair_at_numbers (n ∷ ns) (suc i) = pair_at_numbers ns i

pub pair_at_pairs : (ps : List (ℕ × ℕ)) (i : ℕ) → pair_at (map pair_value ps) i ≡ slice_get ps i
pair_at_pairs [] i = refl
pair_at_pairs (p ∷ ps) zero = refl
pair_at_pairs (p ∷ ps) (suc i) = pair_at_pairs ps i

two_numbers-is : (vs : List Datum) (p : ℕ × ℕ) → two_numbers vs ≡ Some p → vs ≡ natural p.0 ∷ natural p.1 ∷ []
two_numbers-is [] p e = cc
two_numbers-is (a ∷ []) p e = cc
two_numbers-is (a ∷ b ∷ c ∷ vs) p e = cc
two_numbers-is (natural m ∷ natural n ∷ []) p e = let q : (m, n) ≡ p = cc in ap (λ r. natural r.0 ∷ natural r.1 ∷ []) q
two_numbers-is (natural m ∷ truth n ∷ []) p e = cc
two_numbers-is (natural m ∷ text n ∷ []) p e = cc
two_numbers-is (natural m ∷ tuple n ∷ []) p e = cc
two_numbers-is (natural m ∷ set n ∷ []) p e = cc
two_numbers-is (natural m ∷ array ds n ∷ []) p e = cc
two_numbers-is (truth m ∷ b ∷ []) p e = cc
two_numbers-is (text m ∷ b ∷ []) p e = cc
two_numbers-is (tuple m ∷ b ∷ []) p e = cc
two_numbers-is (set m ∷ b ∷ []) p e = cc
two_numbers-is (array ds m ∷ b ∷ []) p e = cc

-- a value whose two numbers are p is the pair p
pub as_numbers_is : (v : Datum) (p : ℕ × ℕ) → as_numbers v ≡ Some p → v ≡ pair_value p
as_numbers_is (natural n) p e = cc
as_numbers_is (truth b) p e = cc
as_numbers_is (text s) p e = cc
as_numbers_is (set vs) p e = cc
as_numbers_is (array ds vs) p e = cc
as_numbers_is (tuple vs) p e = ap tuple (sym (data_of-list_of vs) ∙ ap data_of (two_numbers-is (list_of vs) p e))
