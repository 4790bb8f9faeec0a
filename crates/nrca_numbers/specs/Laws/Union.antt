-- The set of the members of several sets, one set after another.
use Rattle.std.proofs.Common.{◌≡◌, ◌++◌, List, [], Option, Some, None, refl, sym, ◌∙◌, ap, append_assoc}
use Rattle.std.proofs.lemmas.List.{append-nil}
use Rattle.std.specs.Option.{option_map}
use Rattle.aql_value.specs.Canon.{canon}
use Rattle.aql_value.specs.Datum.{Datum}
use Rattle.aql_value.specs.Laws.Set.{canon_append_left, canon_append_right}
use Rattle.aql_value.specs.Partial.{◌>>=◌}
use Rattle.nrca_loops.specs.Laws.Run.{all_members-with}
use Rattle.nrca_loops.specs.Runs.{all_members, list_with, sets_join, union_value}
use Rattle.nrca_loops.specs.Values.{set_in}

-- the set of the members of one set more
pub union_value-with : (vs : Option (List Datum)) (v : Option Datum) → union_value (list_with vs v) ≡ sets_join (union_value vs) (set_in v)
union_value-with vs v = ap (option_map canon) (all_members-with vs v) ∙ go (all_members vs) (set_in v)
  where
    go : (o p : Option (List Datum)) → option_map canon (o >>= λ xs. p >>= λ ys. Some (xs ++ ys)) ≡ sets_join (option_map canon o) p
    go None p = refl
    go (Some xs) None = refl
    go (Some xs) (Some ys) = ap Some (sym (canon_append_left xs ys))

-- no sets more
pub sets_nothing : (o : Option (List Datum)) → option_map canon o ≡ sets_join (option_map canon o) (union_value (Some []))
sets_nothing None = refl
sets_nothing (Some xs) = ap Some (sym (canon_append_left xs [] ∙ ap canon (append-nil xs)))

-- three sets
pub sets_three : (o p q : Option (List Datum)) → sets_join (sets_join o p) q ≡ sets_join o (sets_join p q)
sets_three None p q = refl
sets_three (Some xs) None q = refl
sets_three (Some xs) (Some ys) None = refl
sets_three (Some xs) (Some ys) (Some zs) = ap Some (canon_append_left (xs ++ ys) zs ∙ ap canon (append_assoc xs ys zs) ∙ sym (canon_append_right xs (ys ++ zs)))

-- one set more behind others
pub sets_more : (o vs : Option (List Datum)) (v a r : Option (List Datum)) (w : Option Datum) → a ≡ sets_join o (union_value vs) → r ≡ sets_join a v → v ≡ set_in w → r ≡ sets_join o (union_value (list_with vs w))
sets_more o vs v a r w e f g = f ∙ (λ j. sets_join (e j) (g j)) ∙ sets_three o (union_value vs) (set_in w) ∙ ap (sets_join o) (sym (union_value-with vs w))
