-- Variables by their places, as a loop goes over them.
use Rattle.std.proofs.Common.{ℕ, suc, ◌≡◌, ◌+◌, ◌<◌, ◌≤◌, ◌==◌, ◌||◌, false, List, length, drop, get_or, refl, add-one, if◌then◌else◌}
use Rattle.std.proofs.lemmas.List.{at_drop_all}
use Rattle.std.proofs.Math.Seq.{drop-cons}
use Rattle.aql_ty.specs.Variables.{is_one_of, variable_index}

pub seen_from : (x : ℕ) (vs : List ℕ) (i d : ℕ) → i < length vs →
    is_one_of x (drop i vs) ≡ (get_or vs i d == x || is_one_of x (drop (i + 1) vs))
seen_from x vs i d h = rw (add-one, drop-cons vs i d h) refl

pub seen_past : (x : ℕ) (vs : List ℕ) (i : ℕ) → length vs ≤ i → is_one_of x (drop i vs) ≡ false
seen_past x vs i h = at_drop_all (is_one_of x) vs i h

pub variable_index_from : (x : ℕ) (vs : List ℕ) (i d : ℕ) → i < length vs →
    variable_index x (drop i vs) ≡ (if get_or vs i d == x then 0 else suc (variable_index x (drop (i + 1) vs)))
variable_index_from x vs i d h = rw (add-one, drop-cons vs i d h) refl

pub variable_index_past : (x : ℕ) (vs : List ℕ) (i : ℕ) → length vs ≤ i → variable_index x (drop i vs) ≡ 0
variable_index_past x vs i h = at_drop_all (variable_index x) vs i h

pub ruleset variable_index_steps = (seen_from, seen_past, variable_index_from, variable_index_past)
