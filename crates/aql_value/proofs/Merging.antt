-- Two ascending lists that are merged: what is done, and what is left of each.
use Rattle.std.proofs.Common.{◌≡◌, List, [], ◌∷◌, ◌++◌, map, length, Option, Some, None, sym, ap, ◌∙◌, subst, append_assoc, append-nil, arith}
use Rattle.std.proofs.lemmas.List.{map-append}
use Rattle.std.specs.Option.{option_to_list}
use Rattle.std.specs.declared.cmp.Ordering.TheVariants.{Less, Equal, Greater}
use Rattle.aql_value.specs.Datum.{Datum}
use Rattle.aql_value.specs.Meaning.{datum}
use Rattle.aql_value.specs.Order.{datum_cmp}
use Rattle.aql_value.specs.Canon.{IsAscending, canon}
use Rattle.aql_value.specs.Laws.Set.{canon_merge-less, canon_merge-equal, canon_merge-greater, canon_ascending_cons, ascending_tail}
use Rattle.aql_value.specs.declared.value.Value.{Value}

-- the meanings of the values that are left of a list, of which the first is taken out already
abbrev pub waiting : Option Value → List Value → List Datum
waiting o rest = map datum (option_to_list o ++ rest)

pub record IsMerging (done : List Value) (p : Option Value) (ls : List Value) (q : Option Value) (rs : List Value) (all : List Datum) : Type 0 where
  pub left : IsAscending (waiting p ls)
  pub right : IsAscending (waiting q rs)
  pub left_end : p ≡ None → length ls ≡ 0
  pub right_end : q ≡ None → length rs ≡ 0
  pub split : map datum done ++ canon (waiting p ls ++ waiting q rs) ≡ all

some-none : {v : Value} → Some v ≡ None → ⊥
some-none e = cc

none_left : (p : Option Value) (ls : List Value) → p ≡ None → length ls ≡ 0 → waiting p ls ≡ []
none_left p [] e h = ap (λ o. waiting o []) e
none_left p (v ∷ ls) e h = absurd (omega (arith, h))

moved : (done next : List Value) (v : Value) (xs ys zs all : List Datum) → map datum done ++ canon zs ≡ all → next ≡ done ++ v ∷ [] → canon zs ≡ datum v ∷ canon (xs ++ ys) → map datum next ++ canon (xs ++ ys) ≡ all
moved done next v xs ys zs all e f g =
    ap (λ l. map datum l ++ canon (xs ++ ys)) f
    ∙ ap (λ l. l ++ canon (xs ++ ys)) (map-append datum done (v ∷ []))
    ∙ append_assoc (map datum done) (datum v ∷ []) (canon (xs ++ ys))
    ∙ ap (λ l. map datum done ++ l) (sym g)
    ∙ e

module _ (done next : List Value) (v w : Value) (p q o r : Option Value) (ls ls' rs rs' : List Value) (all : List Datum)
    (h : IsMerging done p ls q rs all) where
  left_is : p ≡ Some v → IsAscending (datum v ∷ map datum ls)
  left_is e = subst (λ u. IsAscending (waiting u ls)) e h.left

  right_is : q ≡ Some w → IsAscending (datum w ∷ map datum rs)
  right_is e = subst (λ u. IsAscending (waiting u rs)) e h.right

  pub less : p ≡ Some v → q ≡ Some w → Less ≡ datum_cmp (datum v) (datum w) → next ≡ done ++ v ∷ [] → ls ≡ option_to_list o ++ ls' → (o ≡ None → length ls' ≡ 0) →
      IsMerging next o ls' (Some w) rs all
  less e f k m n z = record {
    left = subst (λ l. IsAscending (map datum l)) n (ascending_tail (datum v) (map datum ls) (left_is e));
    right = right_is f;
    left_end = z;
    right_end = λ g. absurd (some-none g);
    split = moved done next v (waiting o ls') (datum w ∷ map datum rs) (waiting p ls ++ waiting q rs) all h.split m
        (ap canon (λ i. waiting (e i) ls ++ waiting (f i) rs)
        ∙ canon_merge-less (datum v) (datum w) (map datum ls) (map datum rs) (left_is e) (right_is f) (sym k)
        ∙ ap (λ l. datum v ∷ canon (map datum l ++ datum w ∷ map datum rs)) n);
  }

  pub equal : p ≡ Some v → q ≡ Some w → Equal ≡ datum_cmp (datum v) (datum w) → next ≡ done ++ v ∷ [] →
      ls ≡ option_to_list o ++ ls' → (o ≡ None → length ls' ≡ 0) → rs ≡ option_to_list r ++ rs' → (r ≡ None → length rs' ≡ 0) → IsMerging next o ls' r rs' all
  equal e f k m n z t y = record {
    left = subst (λ l. IsAscending (map datum l)) n (ascending_tail (datum v) (map datum ls) (left_is e));
    right = subst (λ l. IsAscending (map datum l)) t (ascending_tail (datum w) (map datum rs) (right_is f));
    left_end = z;
    right_end = y;
    split = moved done next v (waiting o ls') (waiting r rs') (waiting p ls ++ waiting q rs) all h.split m
        (ap canon (λ i. waiting (e i) ls ++ waiting (f i) rs)
        ∙ canon_merge-equal (datum v) (datum w) (map datum ls) (map datum rs) (left_is e) (right_is f) (sym k)
        ∙ (λ i. datum v ∷ canon (map datum (n i) ++ map datum (t i))));
  }

  pub greater : p ≡ Some v → q ≡ Some w → Greater ≡ datum_cmp (datum v) (datum w) → next ≡ done ++ w ∷ [] → rs ≡ option_to_list r ++ rs' → (r ≡ None → length rs' ≡ 0) →
      IsMerging next (Some v) ls r rs' all
  greater e f k m t y = record {
    left = left_is e;
    right = subst (λ l. IsAscending (map datum l)) t (ascending_tail (datum w) (map datum rs) (right_is f));
    left_end = λ g. absurd (some-none g);
    right_end = y;
    split = moved done next w (datum v ∷ map datum ls) (waiting r rs') (waiting p ls ++ waiting q rs) all h.split m
        (ap canon (λ i. waiting (e i) ls ++ waiting (f i) rs)
        ∙ canon_merge-greater (datum v) (datum w) (map datum ls) (map datum rs) (left_is e) (right_is f) (sym k)
        ∙ ap (λ l. datum w ∷ canon ((datum v ∷ map datum ls) ++ map datum l)) t);
  }

  -- the second list is at its end
  pub left_alone : p ≡ Some v → q ≡ None → next ≡ done ++ v ∷ [] → ls ≡ option_to_list o ++ ls' → (o ≡ None → length ls' ≡ 0) →
      IsMerging next o ls' None rs all
  left_alone e g m n z =
      let f = none_left q rs g (h.right_end g) in record {
        left = subst (λ l. IsAscending (map datum l)) n (ascending_tail (datum v) (map datum ls) (left_is e));
        right = subst (λ u. IsAscending (waiting u rs)) g h.right;
        left_end = z;
        right_end = λ k. h.right_end g;
        split = moved done next v (waiting o ls') (waiting None rs) (waiting p ls ++ waiting q rs) all h.split m
            (ap canon (λ i. waiting (e i) ls ++ f i)
            ∙ ap canon (append-nil (datum v ∷ map datum ls))
            ∙ canon_ascending_cons (datum v) (map datum ls) (left_is e)
            ∙ ap (λ l. datum v ∷ canon l) (sym (append-nil (map datum ls)))
            ∙ (λ i. datum v ∷ canon (map datum (n i) ++ sym f i))
            ∙ ap (λ u. datum v ∷ canon (waiting o ls' ++ waiting u rs)) g);
      }

  -- the first list is at its end
  pub right_alone : p ≡ None → q ≡ Some w → next ≡ done ++ w ∷ [] → rs ≡ option_to_list r ++ rs' → (r ≡ None → length rs' ≡ 0) →
      IsMerging next None ls r rs' all
  right_alone g e m t y =
      let f = none_left p ls g (h.left_end g) in record {
        left = subst (λ u. IsAscending (waiting u ls)) g h.left;
        right = subst (λ l. IsAscending (map datum l)) t (ascending_tail (datum w) (map datum rs) (right_is e));
        left_end = λ k. h.left_end g;
        right_end = y;
        split = moved done next w (waiting None ls) (waiting r rs') (waiting p ls ++ waiting q rs) all h.split m
            (ap canon (λ i. f i ++ waiting (e i) rs)
            ∙ canon_ascending_cons (datum w) (map datum rs) (right_is e)
            ∙ (λ i. datum w ∷ canon (sym f i ++ map datum (t i)))
            ∙ ap (λ u. datum w ∷ canon (waiting u ls ++ waiting r rs')) g);
      }
