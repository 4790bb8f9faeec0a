-- What is told of the parts of a node, gathered one by one.
use Rattle.std.proofs.Common.{◌≡◌, ℕ, suc, ◌+◌, ◌<◌, Bool, true, false, ◌&&◌, ◌||◌, List, [], ◌∷◌, ◌++◌, length, map, drop, get_or, refl, sym, ap, ◌∙◌, add-one}
use Rattle.std.proofs.Math.Seq.{drop-cons}
use Rattle.std.proofs.lemmas.List.{map-append}
use Rattle.nrca_ranges.specs.declared.shape.Shape.{Shape}
use Rattle.nrca_ranges.specs.declared.walk.Told.{Told}
use Rattle.nrca_ranges.specs.Shapes.{bounds_of, bounds_each}
use Rattle.nrca_ranges.specs.Walk.{gather_flags, Summary, summary_of, told_each, rest_of}

-- the fields that are told
pub firm-of : (x : Told) → (summary_of x).firm ≡ x.firm
unfolding summary_of
firm-of x = refl

pub certain-of : (x : Told) → (summary_of x).certain ≡ x.certain
unfolding summary_of
certain-of x = refl

pub shape-of : (x : Told) → (summary_of x).shape ≡ bounds_of x.shape
unfolding summary_of
shape-of x = refl

-- gathering goes on with the next
gather-next : (all a b n r s : Bool) → n ≡ gather_flags all a b → r ≡ gather_flags all a (gather_flags all b s) → r ≡ gather_flags all n s
gather-next true true b n r s e z = z ∙ ap (λ x. x && s) (sym e)
gather-next true false b n r s e z = z ∙ ap (λ x. x && s) (sym e)
gather-next false true b n r s e z = z ∙ ap (λ x. x || s) (sym e)
gather-next false false b n r s e z = z ∙ ap (λ x. x || s) (sym e)

-- the same with the entry of a list
pub gather-entry : (T : Summary → Bool) (all a b n : Bool) (xs : List Told) (i : ℕ) (x : Told) → i < length xs → x ≡ get_or xs i x → T (summary_of x) ≡ b → n ≡ gather_flags all a b →
    rest_of all T (told_each xs) ≡ gather_flags all a (rest_of all T (told_each (drop i xs))) → rest_of all T (told_each xs) ≡ gather_flags all n (rest_of all T (told_each (drop (i + 1) xs)))
gather-entry T all a b n xs i x l e t k z =
    gather-next all a b n (rest_of all T (told_each xs)) (rest_of all T (told_each (drop (i + 1) xs))) k
    (z ∙ ap (λ y. gather_flags all a (rest_of all T (told_each y))) (drop-cons xs i x l ∙ ap (λ y. y ∷ drop (suc i) xs) (sym e))
    ∙ ap (λ y. gather_flags all a (gather_flags all y (rest_of all T (told_each (drop (suc i) xs))))) t
    ∙ ap (λ j. gather_flags all a (gather_flags all b (rest_of all T (told_each (drop j xs))))) (sym (add-one i)))

-- one shape more is taken
pub shape-taken : (xs : List Told) (x : Told) (ss ts : List Shape) → bounds_each ss ≡ map (λ s. s.shape) (told_each xs) → ts ≡ ss ++ x.shape ∷ [] → bounds_each ts ≡ map (λ s. s.shape) (told_each (xs ++ x ∷ []))
shape-taken xs x ss ts h e =
    ap bounds_each e ∙ map-append bounds_of ss (x.shape ∷ []) ∙ ap (λ l. l ++ bounds_of x.shape ∷ []) h
    ∙ ap (λ b. map (λ s. s.shape) (told_each xs) ++ b ∷ []) (sym (shape-of x))
    ∙ sym (map-append (λ s. s.shape) (told_each xs) (summary_of x ∷ [])) ∙ ap (map (λ s. s.shape)) (sym (map-append summary_of xs (x ∷ [])))
