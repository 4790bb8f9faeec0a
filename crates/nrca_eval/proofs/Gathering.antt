-- What blocks of the members of a loop, or of the cells of a tabulation, come to behind each other.
use Rattle.std.proofs.Common.{◌≡◌, ℕ, ◌+◌, ◌-◌, ◌<◌, ◌≤◌, List, [], ◌∷◌, ◌++◌, Option, Some, None, refl, ◌∙◌, ap, append_assoc, arith}
use Rattle.std.specs.List.{slice_range}
use Rattle.std.specs.Option.{option_map}
use Rattle.aql_value.specs.Canon.{canon}
use Rattle.aql_value.specs.Datum.{Datum}
use Rattle.aql_value.specs.Laws.Set.{canon_canon}
use Rattle.aql_value.specs.Partial.{◌>>=◌, total}
use Rattle.nrca_loops.specs.Laws.Run.{total-range_split}
use Rattle.nrca_loops.specs.Runs.{all_members, list_with, lists_join, sets_join, union_value}

-- the turns up to a block and in it pass the budget, so those of the whole run do
pub spent_block : {X : Type 0} (g : X → ℕ) (xs : List X) (a m e b budget turns : ℕ) → a ≤ m → m ≤ e → e ≤ b →
    turns ≡ total g (slice_range xs a m) → turns ≤ budget → budget - turns < total g (slice_range xs m e) → budget < total g (slice_range xs a b)
spent_block g xs a m e b budget turns low mid high is w s =
    omega (arith, total-range_split xs a m e low mid g, total-range_split xs a e b (omega (arith, low, mid)) high g, is, w, s)

-- the sets of a run, behind none
pub sets_first : (o : Option (List Datum)) → sets_join (option_map canon (Some [])) (union_value o) ≡ union_value o
sets_first o = go (all_members o)
  where
    go : (p : Option (List Datum)) → sets_join (Some []) (option_map canon p) ≡ option_map canon p
    go None = refl
    go (Some xs) = ap Some (canon_canon xs)

-- one cell more behind others
pub lists_more : (o vs : Option (List Datum)) (v : Option Datum) → list_with (lists_join o vs) v ≡ lists_join o (list_with vs v)
lists_more None vs v = refl
lists_more (Some xs) None v = refl
lists_more (Some xs) (Some ys) None = refl
lists_more (Some xs) (Some ys) (Some z) = ap Some (append_assoc xs ys (z ∷ []))
