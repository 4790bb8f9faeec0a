-- The set of two lists, one of them empty.
use Rattle.std.proofs.Common.{◌≡◌, ℕ, List, [], ◌∷◌, ◌++◌, length, sym, ◌∙◌, ap, arith}
use Rattle.std.proofs.lemmas.List.{append-nil}
use Rattle.aql_value.specs.Canon.{IsAscending, canon}
use Rattle.aql_value.specs.Datum.{Datum}
use Rattle.aql_value.specs.Laws.Canon.{canon_ascending}

pub no_first : (xs ys : List Datum) → length xs ≡ 0 → IsAscending ys → ys ≡ canon (xs ++ ys)
no_first [] ys e h = sym (canon_ascending ys h)
no_first (x ∷ xs) ys e h = absurd (omega (arith, e))

pub no_second : (xs ys : List Datum) → length ys ≡ 0 → IsAscending xs → xs ≡ canon (xs ++ ys)
no_second xs [] e h = sym (ap canon (append-nil xs) ∙ canon_ascending xs h)
no_second xs (y ∷ ys) e h = absurd (omega (arith, e))

pub ruleset nothing = (no_first, no_second)
