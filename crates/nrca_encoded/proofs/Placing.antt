-- Places in a list of outcomes.
use Rattle.std.proofs.Common.{◌≡◌, ℕ, zero, suc, ◌+◌, ◌-◌, ◌<◌, ◌≤◌, List, [], ◌∷◌, ◌++◌, length, map, get_or, Option, Some, None, refl, sym, ap, ◌∙◌, subst, arith, length-append}
use Rattle.std.specs.Prelude.{slice_get, slice_set}
use Rattle.std.specs.Option.{option_map}
use Rattle.std.proofs.lemmas.Option.{slice_get-map, slice_get-get_or, slice_get_past}
use Rattle.std.proofs.lemmas.List.{length-map}
use Rattle.aql_value.specs.Datum.{Datum}
use Rattle.aql_value.specs.Partial.{◌>>=◌}
use Rattle.nrca_array.specs.Held.{held_datum}
use Rattle.nrca_array.specs.declared.held.Held.{Held}
use Rattle.nrca_loops.specs.Values.{held_value}
use Rattle.nrca_term.specs.Meaning.{Outcomes, outcome}
use Rattle.nrca_encoded.specs.Encodings.{outcomes_in, PutsValue, ReachesTo, SameOutcomes}

pub held-copied : {B : Type 0} (now : B → Held) (r : Option B) → option_map (λ h. held_datum (now h)) r ≡ held_value (option_map now r)
held-copied now None = refl
held-copied now (Some h) = refl

outcome_at : (V : Outcomes) (n i : ℕ) → n ≡ suc i → outcome V n ≡ (slice_get V i >>= λ o. o)
outcome_at V n i e = ap (outcome V) e

-- the value at a place
pub value-there : (hs : List (Option Held)) (n : ℕ) (x : Option Held) → (n ≡ 0 → ⊥) → n - 1 < length hs → x ≡ get_or hs (n - 1) x → held_value x ≡ outcome (outcomes_in hs) n
value-there hs n x z l g =
    sym (outcome_at (map held_value hs) n (n - 1) (omega (arith, z))
    ∙ ap (λ o. o >>= λ v. v) (slice_get-map held_value hs (n - 1) ∙ ap (option_map held_value) (slice_get-get_or hs (n - 1) x l ∙ ap Some (sym g))))

-- past the end there is none
pub value-past : (hs : List (Option Held)) (n : ℕ) → (n ≡ 0 → ⊥) → length hs ≤ n - 1 → None ≡ outcome (outcomes_in hs) n
value-past hs n z l =
    sym (outcome_at (map held_value hs) n (n - 1) (omega (arith, z))
    ∙ ap (λ o. o >>= λ v. v) (slice_get_past (map held_value hs) (n - 1) (omega (arith, l, length-map hs held_value))))

-- one place more, without a value
none-more : (hs : List (Option Held)) → SameOutcomes (outcomes_in hs) (outcomes_in (hs ++ None ∷ []))
none-more hs zero = refl
none-more hs (suc i) = at hs i
  where
    at : (hs : List (Option Held)) (i : ℕ) → (slice_get (map held_value (hs ++ None ∷ [])) i >>= λ o. o) ≡ (slice_get (map held_value hs) i >>= λ o. o)
    at [] zero = refl
    at [] (suc i) = refl
    at (h ∷ hs) zero = refl
    at (h ∷ hs) (suc i) = at hs i

module _ (n : ℕ) (old now new : List (Option Held)) where
  pub place-more : SameOutcomes (outcomes_in old) (outcomes_in now) → new ≡ now ++ None ∷ [] → SameOutcomes (outcomes_in old) (outcomes_in new)
  place-more s e k = ap (λ hs. outcome (outcomes_in hs) k) e ∙ none-more now k ∙ s k

  pub place-reach : ReachesTo n (outcomes_in old) (outcomes_in now) → length now < n → new ≡ now ++ None ∷ [] → ReachesTo n (outcomes_in old) (outcomes_in new)
  place-reach r l e m a b =
      omega (arith, a, l, length-map new held_value, ap length e, length-append now (None ∷ []))

-- a value at a place that is there
pub put-at : (hs gs : List (Option Held)) (n : ℕ) (h : Held) → 1 ≤ n → n ≤ length hs → gs ≡ slice_set hs (n - 1) (Some h) → PutsValue (outcomes_in hs) n (held_datum h) (outcomes_in gs)
put-at hs gs zero h a b e = absurd (omega (arith, a))
put-at hs gs (suc i) h a b e =
    let z : gs ≡ slice_set hs i (Some h) = e ∙ ap (λ j. slice_set hs j (Some h)) (omega arith) in
    subst (λ l. PutsValue (outcomes_in hs) (suc i) (held_datum h) (outcomes_in l)) (sym z) (record {
      there = there hs i (omega (arith, b));
      others = λ k d. others hs i k d;
    })
  where
    there : (hs : List (Option Held)) (i : ℕ) → i < length hs → (slice_get (map held_value (slice_set hs i (Some h))) i >>= λ o. o) ≡ Some (held_datum h)
    there [] i l = absurd (omega (arith, l))
    there (x ∷ hs) zero l = refl
    there (x ∷ hs) (suc i) l = there hs i (omega (arith, l))

    apart : (hs : List (Option Held)) (i j : ℕ) → (j ≡ i → ⊥) → (slice_get (map held_value (slice_set hs i (Some h))) j >>= λ o. o) ≡ (slice_get (map held_value hs) j >>= λ o. o)
    apart [] i j d = refl
    apart (x ∷ hs) zero zero d = absurd (d refl)
    apart (x ∷ hs) zero (suc j) d = refl
    apart (x ∷ hs) (suc i) zero d = refl
    apart (x ∷ hs) (suc i) (suc j) d = apart hs i j (λ e. d (ap suc e))

    others : (hs : List (Option Held)) (i k : ℕ) → (k ≡ suc i → ⊥) → outcome (outcomes_in (slice_set hs i (Some h))) k ≡ outcome (outcomes_in hs) k
    others hs i zero d = refl
    others hs i (suc j) d = apart hs i j (λ e. d (ap suc e))
