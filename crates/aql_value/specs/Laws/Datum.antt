-- What follows from the definitions of `Datum`.
use Rattle.std.specs.Prelude.{◌≡◌, List, [], ◌∷◌, refl}
use Rattle.std.proofs.Common.{ap}
use Rattle.aql_value.specs.Datum.{Datum, Data, nil, cons, data_of, list_of}

pub list_of-data_of : (xs : List Datum) → list_of (data_of xs) ≡ xs
list_of-data_of [] = refl
list_of-data_of (x ∷ xs) = ap (λ ys. x ∷ ys) (list_of-data_of xs)

pub data_of-list_of : (xs : Data) → data_of (list_of xs) ≡ xs
data_of-list_of nil = refl
data_of-list_of (cons x xs) = ap (cons x) (data_of-list_of xs)

-- the two undo each other
pub ruleset data_lists = (list_of-data_of, data_of-list_of)
