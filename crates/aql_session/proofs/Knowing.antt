-- One outcome more, and what is known of it.
use Rattle.std.proofs.Common.{◌≡◌, ℕ, zero, suc, List, [], ◌∷◌, ◌++◌, length, Option, Some, None, refl, sym, ap, ◌∙◌, subst, arith, length-append}
use Rattle.std.specs.Prelude.{slice_get, is_some}
use Rattle.std.specs.Option.{ForSome}
use Rattle.std.proofs.lemmas.List.{map_push}
use Rattle.aql_value.specs.Datum.{Datum}
use Rattle.aql_value.specs.Partial.{◌>>=◌}
use Rattle.aql_value.specs.Valid.{IsValue}
use Rattle.nrca_term.specs.Firm.{is_defined}
use Rattle.nrca_term.specs.Meaning.{Outcomes, outcome, at_position}
use Rattle.nrca_term.specs.Valid.{AreValidOutcomes}
use Rattle.nrca_ranges.specs.Bounds.{Bounds, HasShape}
use Rattle.nrca_ranges.specs.Entered.{is_shaped, has_value}
use Rattle.nrca_ranges.specs.Shapes.{Tells}
use Rattle.aql_session.specs.Known.{HasShapeThere, kept_of, kept_of_each, Knows}

-- what holds of each place of both lists
abbrev Each : List (Option Bounds) → Outcomes → Type 0
Each gs V = (i : ℕ) (b : Option Bounds) (o : Option Datum) → slice_get gs i ≡ Some b → slice_get V i ≡ Some o → HasShapeThere b o

abbrev EachValid : Outcomes → Type 0
EachValid V = (i : ℕ) (v : Datum) → slice_get V i ≡ Some (Some v) → IsValue v

both-there : (b : Option Bounds) (o : Option Datum) → has_value (Some b) ≡ is_some o → ((c : Bounds) (v : Datum) → b ≡ Some c → o ≡ Some v → HasShape c v) → HasShapeThere b o
both-there None None e h = tt
both-there None (Some v) e h = cc
both-there (Some b) None e h = cc
both-there (Some b) (Some v) e h = h b v refl refl

tells-each : (gs : List (Option Bounds)) (V : Outcomes) → Tells gs V → Each gs V
tells-each gs V t i b o p q =
    both-there b o (sym (ap has_value p) ∙ t.1 (suc i) ∙ ap (λ x. is_some (x >>= λ y. y)) q)
    (λ c v e f. t.0 (suc i) c v (p ∙ ap Some e) (ap (λ x. x >>= λ y. y) q ∙ f))

found : {A : Type 0} (p : Option (Option A)) (v : A) → (p >>= λ o. o) ≡ Some v → p ≡ Some (Some v)
found None v e = cc
found (Some None) v e = cc
found (Some (Some x)) v e = ap Some e

shape-of : (b : Bounds) (v : Datum) → HasShapeThere (Some b) (Some v) → HasShape b v
shape-of b v h = h

same-there : (p : Option (Option Bounds)) (q : Option (Option Datum)) → (p ≡ None → q ≡ None) → (q ≡ None → p ≡ None) →
    ((b : Option Bounds) (o : Option Datum) → p ≡ Some b → q ≡ Some o → HasShapeThere b o) → has_value p ≡ is_some (q >>= λ y. y)
same-there None None l r h = refl
same-there None (Some o) l r h = (let z = l refl in cc)
same-there (Some b) None l r h = (let z = r refl in cc)
same-there (Some None) (Some None) l r h = refl
same-there (Some None) (Some (Some v)) l r h = absurd (h None (Some v) refl refl)
same-there (Some (Some b)) (Some None) l r h = absurd (h (Some b) None refl refl)
same-there (Some (Some b)) (Some (Some v)) l r h = refl

past-both : {A B : Type 0} (xs : List A) (ys : List B) (i : ℕ) → length xs ≡ length ys → slice_get xs i ≡ None → slice_get ys i ≡ None
past-both [] [] i e h = refl
past-both [] (y ∷ ys) i e h = cc
past-both (x ∷ xs) [] i e h = cc
past-both (x ∷ xs) (y ∷ ys) zero e h = cc
past-both (x ∷ xs) (y ∷ ys) (suc i) e h = past-both xs ys i (omega (arith, e)) h

each-tells : (gs : List (Option Bounds)) (V : Outcomes) → length gs ≡ length V → Each gs V → Tells gs V
each-tells gs V l h = (λ n b v e k. shaped n b v e k, λ n. same n)
  where
    shaped : (n : ℕ) (b : Bounds) (v : Datum) → at_position gs n ≡ Some (Some b) → outcome V n ≡ Some v → HasShape b v
    shaped zero b v e k = cc
    shaped (suc i) b v e k = shape-of b v (h i (Some b) (Some v) e (found (slice_get V i) v k))

    same : (n : ℕ) → is_shaped gs n ≡ is_defined V n
    same zero = refl
    same (suc i) = same-there (slice_get gs i) (slice_get V i) (past-both gs V i l) (past-both V gs i (sym l)) (λ b o e k. h i b o e k)

push-each : (gs : List (Option Bounds)) (V : Outcomes) (b : Option Bounds) (o : Option Datum) → length gs ≡ length V → Each gs V → HasShapeThere b o → Each (gs ++ b ∷ []) (V ++ o ∷ [])
push-each [] [] b o l h k zero c p e f = let y : b ≡ c = cc in let z : o ≡ p = cc in subst (λ x. HasShapeThere x p) y (subst (HasShapeThere b) z k)
push-each [] [] b o l h k (suc i) c p e f = cc
push-each [] (x ∷ V) b o l h k i c p e f = cc
push-each (g ∷ gs) [] b o l h k i c p e f = cc
push-each (g ∷ gs) (x ∷ V) b o l h k zero c p e f = h zero c p e f
push-each (g ∷ gs) (x ∷ V) b o l h k (suc i) c p e f = push-each gs V b o (omega (arith, l)) (λ j d q m n. h (suc j) d q m n) k i c p e f

push-valid : (V : Outcomes) (o : Option Datum) → EachValid V → ForSome o IsValue → EachValid (V ++ o ∷ [])
push-valid [] o h k zero v e = let z : o ≡ Some v = cc in k v z
push-valid [] o h k (suc i) v e = cc
push-valid (x ∷ V) o h k zero v e = h zero v e
push-valid (x ∷ V) o h k (suc i) v e = push-valid V o (λ j w m. h (suc j) w m) k i v e

valid-each : (V : Outcomes) → AreValidOutcomes V → EachValid V
valid-each V h i v e = h (suc i) v (ap (λ x. x >>= λ y. y) e)

each-valid : (V : Outcomes) → EachValid V → AreValidOutcomes V
each-valid V h zero v e = cc
each-valid V h (suc i) v e = h i v (found (slice_get V i) v e)

-- one position more is bound
pub known-push : (gs hs : List (Option Bounds)) (V W : Outcomes) (b : Option Bounds) (o : Option Datum) → Knows gs V → hs ≡ gs ++ b ∷ [] → W ≡ V ++ o ∷ [] →
    HasShapeThere b o → b ≡ kept_of o → ForSome o IsValue → Knows hs W
known-push gs hs V W b o h e f s x k =
    let l : length (gs ++ b ∷ []) ≡ length (V ++ o ∷ []) = omega (arith, h.many, length-append gs (b ∷ []), length-append V (o ∷ [])) in
    subst (λ x. Knows x W) (sym e) (subst (Knows (gs ++ b ∷ [])) (sym f) (record {
      many = l;
      tells = each-tells (gs ++ b ∷ []) (V ++ o ∷ []) l (push-each gs V b o h.many (tells-each gs V h.tells) s);
      exact = ap (λ l. l ++ b ∷ []) h.exact ∙ ap (λ c. kept_of_each V ++ c ∷ []) x ∙ sym (map_push kept_of V o);
      valid = each-valid (V ++ o ∷ []) (push-valid V o (valid-each V h.valid) k);
    }))
