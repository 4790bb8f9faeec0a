-- The members of sets of at most one member, one set after another.
use Rattle.std.proofs.Common.{◌≡◌, ◌<◌, ℕ, ◌+◌, List, [], ◌∷◌, ◌++◌, length, map, take, get_or, Some, refl, ap, sym, ◌∙◌, append_assoc}
use Rattle.std.proofs.lemmas.List.{append-nil}
use Rattle.std.specs.Option.{option_map}
use Rattle.aql_value.specs.Canon.{canon}
use Rattle.aql_value.specs.Datum.{Datum}
use Rattle.aql_value.specs.Laws.Lists.{concat-append}
use Rattle.aql_value.specs.Laws.Set.{canon_append, canon_append_left}
use Rattle.aql_value.specs.Operations.{as_set}
use Rattle.aql_value.specs.Partial.{◌>>=◌, concat, each}
use Rattle.nrca_loops.specs.Runs.{sets_join, union_value}
use Rattle.nrca_numbers.specs.Few.{few_members, few_set}
use Rattle.nrca_numbers.specs.Laws.Few.{few_in}
use Rattle.nrca_numbers.specs.declared.sets.AtMostOne.{AtMostOne}
use Rattle.nrca_numbers.specs.Runs.{AddsSets}
use Rattle.nrca_numbers.proofs.Places.{mapped_more}

-- the members of each of the sets
each_few : (fs : List AtMostOne) → each as_set (map few_set fs) ≡ Some (map few_members fs)
each_few [] = refl
each_few (f ∷ fs) =
    (λ j. sym (few_in f) j >>= λ ms. each as_set (map few_set fs) >>= λ mss. Some (ms ∷ mss))
    ∙ ap (λ o. o >>= λ mss. Some (few_members f ∷ mss)) (each_few fs)

-- the union of the sets
union_few : (fs : List AtMostOne) → union_value (Some (map few_set fs)) ≡ Some (canon (concat (map few_members fs)))
union_few fs = ap (λ o. option_map canon (o >>= λ mss. Some (concat mss))) (each_few fs)

-- the members of all the sets behind others are those of their union behind them
pub adds_all : (xs gs : List Datum) (fs : List AtMostOne) → canon gs ≡ canon (xs ++ concat (map few_members fs)) → AddsSets (Some xs) (map few_set fs) (Some gs)
adds_all xs gs fs e = ap Some (e ∙ sym (canon_append xs (concat (map few_members fs)))) ∙ ap (sets_join (Some (canon xs))) (sym (union_few fs))

-- the members of one set more
concat-more : (fs : List AtMostOne) (i : ℕ) (d : AtMostOne) → i < length fs → concat (map few_members (take (i + 1) fs)) ≡ concat (map few_members (take i fs)) ++ few_members (get_or fs i d)
concat-more fs i d h =
    ap (λ mss. concat mss) (mapped_more few_members fs i d h)
    ∙ concat-append (map few_members (take i fs)) (few_members (get_or fs i d) ∷ [])
    ∙ ap (λ l. concat (map few_members (take i fs)) ++ l) (append-nil (few_members (get_or fs i d)))

-- the members of one set more behind others
pub all_more : (xs all more : List Datum) (fs : List AtMostOne) (i : ℕ) (d : AtMostOne) → i < length fs → canon all ≡ canon (xs ++ concat (map few_members (take i fs))) →
    canon more ≡ canon (all ++ few_members (get_or fs i d)) → canon more ≡ canon (xs ++ concat (map few_members (take (i + 1) fs)))
all_more xs all more fs i d h e f =
    let ms = concat (map few_members (take i fs)) in
    let last = few_members (get_or fs i d) in
    f
    ∙ sym (canon_append_left all last)
    ∙ ap (λ l. canon (l ++ last)) e
    ∙ canon_append_left (xs ++ ms) last
    ∙ ap canon (append_assoc xs ms last)
    ∙ ap (λ l. canon (xs ++ l)) (sym (concat-more fs i d h))
