-- The outcome of a position, by its place in the list.
use Rattle.std.proofs.Common.{◌≡◌, ℕ, suc, ◌<◌, ◌≤◌, List, length, map, get_or, Option, Some, None, Bor, sym, ◌∙◌, ap, arith}
use Rattle.std.specs.Prelude.{slice_get, IfSome}
use Rattle.std.specs.Option.{option_map, option_copied}
use Rattle.std.proofs.lemmas.Option.{slice_get-map, slice_get-get_or, slice_get_past}
use Rattle.std.proofs.lemmas.List.{length-map}
use Rattle.aql_value.specs.Datum.{Datum}
use Rattle.aql_value.specs.Partial.{◌>>=◌}
use Rattle.nrca_array.specs.declared.held.Held.{Held}
use Rattle.nrca_array.specs.Held.{held_datum}
use Rattle.nrca_term.specs.Meaning.{outcome}
use Rattle.nrca_loops.specs.Values.{held_value}

pub outcome_at : (V : List (Option Datum)) (n i : ℕ) → n ≡ suc i → outcome V n ≡ (slice_get V i >>= λ o. o)
outcome_at V n i e = ap (outcome V) e

pub outcome_there : (hs : List (Option Held)) (n i : ℕ) (h : Option Held) → n ≡ suc i → i < length hs → h ≡ get_or hs i h → held_value h ≡ outcome (map held_value hs) n
outcome_there hs n i h e l g =
    sym (outcome_at (map held_value hs) n i e
    ∙ ap (λ o. o >>= λ v. v) (slice_get-map held_value hs i ∙ ap (option_map held_value) (slice_get-get_or hs i h l ∙ ap Some (sym g))))

pub outcome_past : (hs : List (Option Held)) (n i : ℕ) → n ≡ suc i → length hs ≤ i → None ≡ outcome (map held_value hs) n
outcome_past hs n i e l =
    sym (outcome_at (map held_value hs) n i e
    ∙ ap (λ o. o >>= λ v. v) (slice_get_past (map held_value hs) i (omega (arith, l, length-map hs held_value))))

-- what a reference to an outcome holds
pub outcome_lent : (r : Option (Bor Held)) (h : Option Held) (o : Option Datum) → option_copied r ≡ h → held_value h ≡ o → IfSome r (λ x. o ≡ Some (held_datum x.now))
outcome_lent None h o e f = tt
outcome_lent (Some x) h o e f = sym f ∙ ap held_value (sym e)
