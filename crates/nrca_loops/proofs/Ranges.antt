-- The naturals below a number as members.
use Rattle.std.proofs.Common.{◌≡◌, ℕ, ◌<◌, length, map, Some, sym, ◌∙◌, ap, arith}
use Rattle.std.specs.Prelude.{slice_get}
use Rattle.std.specs.Option.{option_map}
use Rattle.std.proofs.lemmas.List.{length-map}
use Rattle.std.proofs.lemmas.Option.{slice_get-map}
use Rattle.aql_value.specs.Datum.{natural}
use Rattle.aql_value.specs.Lists.{below}
use Rattle.aql_value.specs.Laws.Lists.{length-below, slice_get-below}

pub length_naturals : (n : ℕ) → length (map natural (below n)) ≡ n
length_naturals n = length-map (below n) natural ∙ length-below n

pub get_naturals : (n i m : ℕ) → i < length (map natural (below n)) → m ≡ i → slice_get (map natural (below n)) i ≡ Some (natural m)
get_naturals n i m h e =
    slice_get-map natural (below n) i
    ∙ ap (option_map natural) (slice_get-below n i (omega (arith, h, length_naturals n)))
    ∙ ap (λ k. Some (natural k)) (sym e)

pub ruleset ranges = (length_naturals, get_naturals)
