-- What the meanings of a list of values keep of it, for loops over `items.items`.
use Rattle.std.specs.Prelude.{◌≡◌, ℕ, List, map, length}
use Rattle.std.proofs.Common.{sym, ap, ◌∙◌, get_or}
use Rattle.std.proofs.lemmas.List.{length-map}
use Rattle.std.proofs.Math.ListN.{get_or-map}
use Rattle.aql_value.specs.Datum.{Datum}
use Rattle.aql_value.specs.Meaning.{datum}
use Rattle.aql_value.specs.declared.value.Value.{Value}

-- as many meanings as values
pub length_meaning : (vs : List Value) (xs : List Datum) → map datum vs ≡ xs → length xs ≡ length vs
length_meaning vs xs p = ap length (sym p) ∙ length-map vs datum

-- the meaning of the value at a place
pub get_or_meaning : (vs : List Value) (xs : List Datum) (i : ℕ) (v : Value) → map datum vs ≡ xs → v ≡ get_or vs i v → get_or xs i (datum v) ≡ datum v
get_or_meaning vs xs i v p e = ap (λ ys. get_or ys i (datum v)) (sym p) ∙ get_or-map datum vs i v ∙ ap datum (sym e)
