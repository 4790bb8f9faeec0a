-- What the strict forms make of values, step by step.
use Rattle.std.proofs.Common.{◌≡◌, ℕ, zero, suc, ◌<◌, ◌≤◌, List, [], ◌∷◌, ◌++◌, length, map, take, drop, Option, Some, None, refl, sym, ◌∙◌, ap, arith, eq-eqb}
use Rattle.std.specs.Prelude.{slice_get, nat_eq, if◌then◌else◌}
use Rattle.std.specs.Option.{option_map}
use Rattle.std.proofs.lemmas.List.{length-map, map-append, length-take, take-map, drop-map}
use Rattle.std.proofs.lemmas.Option.{slice_get_past}
use Rattle.aql_value.specs.Datum.{Datum}
use Rattle.aql_value.specs.Laws.Operations.{index_one, index_more, length_indexed}
use Rattle.aql_value.specs.Operations.{as_natural, only, nth, array_of, literal_of}
use Rattle.aql_value.specs.Laws.Operations.{tuple_of-if}
use Rattle.aql_value.specs.Partial.{◌>>=◌, each}
use Rattle.aql_value.specs.Laws.Partial.{each-length}
use Rattle.aql_value.specs.Strict.{Strict, strict_turns}
use Rattle.nrca_array.specs.declared.held.Held.{Held}
use Rattle.nrca_array.specs.Held.{held_datum}
use Rattle.nrca_loops.specs.Parts.{numbers_with}
use Rattle.nrca_loops.specs.Laws.Parts.{nth_there}
use Rattle.nrca_loops.specs.Laws.Run.{each-more}

pub then_map : {A B : Type 0} (f : A → B) (o : Option A) → (o >>= λ x. Some (f x)) ≡ option_map f o
then_map f None = refl
then_map f (Some x) = refl

pub only_one : (vs : List Datum) (x : Datum) → length vs ≡ 1 → slice_get vs 0 ≡ Some x → only vs ≡ Some x
only_one [] x h e = cc
only_one (v ∷ []) x h e = e
only_one (v ∷ w ∷ vs) x h e = absurd (omega (arith, h))

pub only_else : (vs : List Datum) → (length vs ≡ 1 → ⊥) → only vs ≡ None
only_else [] h = refl
only_else (v ∷ []) h = absurd (h refl)
only_else (v ∷ w ∷ vs) h = refl

pub nth_past : (n : ℕ) (vs : List Datum) → length vs < n → nth n vs ≡ None
nth_past zero vs h = refl
nth_past (suc n) vs h = slice_get_past vs n (omega (arith, h))

pub ruleset parts = (only_one, only_else, nth_there, nth_past)

pub ruleset indices = (index_one, index_more, length_indexed)

pub ruleset tuples = tuple_of-if

-- the numbers of one value more
pub numbers_push : (hs : List Held) (h : Held) → each as_natural (map held_datum (hs ++ h ∷ [])) ≡ numbers_with (each as_natural (map held_datum hs)) (held_datum h)
numbers_push hs h = ap (each as_natural) (map-append held_datum hs (h ∷ [])) ∙ each-more as_natural (map held_datum hs) (held_datum h)

-- no values take no turns
pub no_turns : (s : Strict) → strict_turns s None ≡ 0
no_turns (Strict.nat n) = refl
no_turns (Strict.bool b) = refl
no_turns (Strict.text s) = refl
no_turns Strict.bottom = refl
no_turns Strict.tuple = refl
no_turns (Strict.proj at of) = refl
no_turns (Strict.arith op) = refl
no_turns (Strict.compare op) = refl
no_turns Strict.empty = refl
no_turns Strict.single = refl
no_turns Strict.union = refl
no_turns Strict.gen = refl
no_turns Strict.get = refl
no_turns Strict.sub = refl
no_turns (Strict.dim rank) = refl
no_turns (Strict.index rank) = refl
no_turns (Strict.literal rank) = refl

-- a literal array, by its dimensions and its cells
module _ (hs front back : List Held) (rank : ℕ) (h : rank ≤ length hs) (f : front ≡ take rank hs) (b : back ≡ drop rank hs) where
  dims_front : each as_natural (take rank (map held_datum hs)) ≡ each as_natural (map held_datum front)
  dims_front = ap (each as_natural) (take-map held_datum rank hs ∙ ap (map held_datum) (sym f))

  cells_back : drop rank (map held_datum hs) ≡ map held_datum back
  cells_back = drop-map held_datum rank hs ∙ ap (map held_datum) (sym b)

  pub literal_none : each as_natural (map held_datum front) ≡ None → literal_of rank (map held_datum hs) ≡ None
  literal_none e = ap (λ o. o >>= λ ds. if nat_eq (length ds) rank then array_of ds (drop rank (map held_datum hs)) else None) (dims_front ∙ e)

  pub literal_made : (ds : List ℕ) → each as_natural (map held_datum front) ≡ Some ds → literal_of rank (map held_datum hs) ≡ array_of ds (map held_datum back)
  literal_made ds e =
      let n : length ds ≡ rank = omega (arith, each-length as_natural (map held_datum front) ds e, length-map front held_datum, ap length f, length-take rank hs) in
      ap (λ o. o >>= λ ds. if nat_eq (length ds) rank then array_of ds (drop rank (map held_datum hs)) else None) (dims_front ∙ e)
      ∙ ap (λ c. if c then array_of ds (drop rank (map held_datum hs)) else None) (eq-eqb (length ds) rank n)
      ∙ ap (array_of ds) cells_back
