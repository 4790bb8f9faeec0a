-- Laws of computations that may be undefined, or end early.
use Rattle.std.specs.Prelude.{◌≡◌, ℕ, zero, suc, ◌+◌, List, [], ◌∷◌, ◌++◌, length, map, take, drop, Option, Some, None, refl, Result, Ok, Err, OnOk, Bool, true, false, cond}
use Rattle.std.specs.List.{slice_get}
use Rattle.std.proofs.Common.{ap, sym, ◌∙◌, subst, arith}
use Rattle.aql_value.specs.Partial.{◌>>=◌, each, concat, total, if_some, or_else}
use Rattle.aql_value.specs.Lists.{Every}

pub then-none : {A B : Type 0} (o : Option A) (f : A → Option B) → ((x : A) → o ≡ Some x → f x ≡ None) → (o >>= f) ≡ None
then-none None f h = refl
then-none (Some x) f h = h x refl

pub then-assoc : {A B C : Type 0} (o : Option A) (f : A → Option B) (g : B → Option C) → (o >>= f >>= g) ≡ (o >>= λ x. f x >>= g)
then-assoc None f g = refl
then-assoc (Some x) f g = refl

-- two steps that agree at the value before them
pub then-ext : {A B : Type 0} (o : Option A) (f g : A → Option B) → ((x : A) → o ≡ Some x → f x ≡ g x) → (o >>= f) ≡ (o >>= g)
then-ext None f g h = refl
then-ext (Some x) f g h = h x refl

-- a value of two steps has a value of the first
pub then-is : {A B : Type 0} (o : Option A) (f : A → Option B) (y : B) → (o >>= f) ≡ Some y → (x : A) × (o ≡ Some x) × (f x ≡ Some y)
then-is None f y e = cc
then-is (Some x) f y e = (x, refl, e)

pub or_cond : {A : Type 0} (b : Bool) (x : A) (p q : Option A) → or_else (cond b (Some x) p) q ≡ cond b (Some x) (or_else p q)
or_cond true x p q = refl
or_cond false x p q = refl

-- what follows where a call ends well
pub on-ok : {A B P Q : Type 0} (r : Result A B) → (P → Q) → OnOk r P → OnOk r Q
on-ok (Ok a) f h = f h
on-ok (Err b) f h = h

pub each-ext : {A B : Type 0} (f g : A → Option B) (xs : List A) → Every (λ x. f x ≡ g x) xs → each f xs ≡ each g xs
each-ext f g [] h = refl
each-ext f g (x ∷ xs) h = rw (h.0, each-ext f g xs h.1) refl

pub each-map : {A B C : Type 0} (f : B → Option C) (g : A → B) (xs : List A) → each f (map g xs) ≡ each (λ x. f (g x)) xs
each-map f g [] = refl
each-map f g (x ∷ xs) = rw (each-map f g xs) refl

-- a step that is always defined
pub each-defined : {A B : Type 0} (f : A → B) (xs : List A) → each (λ x. Some (f x)) xs ≡ Some (map f xs)
each-defined f [] = refl
each-defined f (x ∷ xs) = rw (each-defined f xs) refl

-- a step that is always defined after one that may not be
pub each-then : {A B C : Type 0} (f : A → Option B) (g : B → C) (xs : List A) →
    each (λ x. f x >>= λ y. Some (g y)) xs ≡ (each f xs >>= λ ys. Some (map g ys))
each-then f g [] = refl
each-then {A} {B} {C} f g (x ∷ xs) = rw (each-then f g xs) (go (f x) (each f xs))
  where
    go : (o : Option B) (q : Option (List B)) →
        ((o >>= λ y. Some (g y)) >>= λ z. (q >>= λ ys. Some (map g ys)) >>= λ zs. Some (z ∷ zs))
        ≡ ((o >>= λ y. q >>= λ ys. Some (y ∷ ys)) >>= λ ys. Some (map g ys))
    go None q = refl
    go (Some y) None = refl
    go (Some y) (Some ys) = refl

-- two steps at each element
pub each-each : {A B C : Type 0} (f : A → Option B) (g : B → Option C) (xs : List A) → (each f xs >>= each g) ≡ each (λ x. f x >>= g) xs
each-each f g [] = refl
each-each {A} {B} {C} f g (x ∷ xs) = rw (sym (each-each f g xs)) (go (f x) (each f xs))
  where
    nothing : (o : Option C) → None ≡ (o >>= λ z. ◌>>=◌ {A = List C} None (λ zs. Some (z ∷ zs)))
    nothing None = refl
    nothing (Some z) = refl

    go : (o : Option B) (q : Option (List B)) →
        ((o >>= λ y. q >>= λ ys. Some (y ∷ ys)) >>= each g) ≡ ((o >>= g) >>= λ z. (q >>= each g) >>= λ zs. Some (z ∷ zs))
    go None q = refl
    go (Some y) None = nothing (g y)
    go (Some y) (Some ys) = refl

pub each-append : {A B : Type 0} (f : A → Option B) (xs ys : List A) →
    each f (xs ++ ys) ≡ (each f xs >>= λ as'. each f ys >>= λ bs. Some (as' ++ bs))
each-append {A} {B} f [] ys = go (each f ys)
  where
    go : (q : Option (List B)) → q ≡ (q >>= λ bs. Some bs)
    go None = refl
    go (Some bs) = refl
each-append {A} {B} f (x ∷ xs) ys = rw (each-append f xs ys) (go (f x) (each f xs) (each f ys))
  where
    go : (o : Option B) (p q : Option (List B)) →
        (o >>= λ z. (p >>= λ as'. q >>= λ bs. Some (as' ++ bs)) >>= λ zs. Some (z ∷ zs))
        ≡ ((o >>= λ z. p >>= λ zs. Some (z ∷ zs)) >>= λ as'. q >>= λ bs. Some (as' ++ bs))
    go None p q = refl
    go (Some z) None q = refl
    go (Some z) (Some as') None = refl
    go (Some z) (Some as') (Some bs) = refl

-- what g gives over lists that are found one after another
pub each-concat : {A B C : Type 0} (f : A → Option (List B)) (g : B → Option C) (xs : List A) →
    ((each f xs >>= λ found. Some (concat found)) >>= each g) ≡ (each (λ x. f x >>= each g) xs >>= λ found. Some (concat found))
each-concat f g [] = refl
each-concat {A} {B} {C} f g (x ∷ xs) = first (f x) (each f xs) (each (λ x. f x >>= each g) xs) (each-concat f g xs)
  where
    second : (o : Option (List C)) (q : Option (List (List C))) →
        (o >>= λ as'. (q >>= λ found. Some (concat found)) >>= λ bs. Some (as' ++ bs)) ≡ ((o >>= λ y. q >>= λ ys. Some (y ∷ ys)) >>= λ found. Some (concat found))
    second None q = refl
    second (Some y) None = refl
    second (Some y) (Some ys) = refl

    nothing : (o : Option (List C)) (q : Option (List (List C))) → None ≡ (q >>= λ found. Some (concat found)) →
        None ≡ ((o >>= λ y. q >>= λ ys. Some (y ∷ ys)) >>= λ found. Some (concat found))
    nothing None q e = refl
    nothing (Some y) None e = refl
    nothing (Some y) (Some ys) e = cc

    first : (o : Option (List B)) (p : Option (List (List B))) (q : Option (List (List C))) →
        ((p >>= λ found. Some (concat found)) >>= each g) ≡ (q >>= λ found. Some (concat found)) →
        (((o >>= λ y. p >>= λ ys. Some (y ∷ ys)) >>= λ found. Some (concat found)) >>= each g)
        ≡ (((o >>= each g) >>= λ y. q >>= λ ys. Some (y ∷ ys)) >>= λ found. Some (concat found))
    first None p q e = refl
    first (Some bs) None q e = nothing (each g bs) q e
    first (Some bs) (Some bss) q e = each-append g bs (concat bss) ∙ rw e (second (each g bs) q)

-- both parts of a value of `each` at a first element and a rest
pub each-cons_is : {A B : Type 0} (f : A → Option B) (x : A) (xs : List A) (ys : List B) → each f (x ∷ xs) ≡ Some ys →
    (y : B) × (zs : List B) × (f x ≡ Some y) × (each f xs ≡ Some zs) × (ys ≡ y ∷ zs)
each-cons_is {A} {B} f x xs ys e = go (f x) (each f xs) e
  where
    go : (o : Option B) (q : Option (List B)) → (o >>= λ y. q >>= λ zs. Some (y ∷ zs)) ≡ Some ys → (y : B) × (zs : List B) × (o ≡ Some y) × (q ≡ Some zs) × (ys ≡ y ∷ zs)
    go None q k = cc
    go (Some y) None k = cc
    go (Some y) (Some zs) k = let same : ys ≡ y ∷ zs = cc in (y, zs, refl, refl, same)

pub each-length : {A B : Type 0} (f : A → Option B) (xs : List A) (ys : List B) → each f xs ≡ Some ys → length ys ≡ length xs
each-length f [] ys e = let z : ys ≡ [] = cc in ap length z
each-length f (x ∷ xs) ys e = let r = each-cons_is f x xs ys e in ap length r.4 ∙ ap suc (each-length f xs r.1 r.3)

-- each element has a value, so all have
pub each-total : {A B : Type 0} (f : A → Option B) (xs : List A) → Every (λ x. (y : B) × (f x ≡ Some y)) xs → (ys : List B) × (each f xs ≡ Some ys)
each-total f [] h = ([], refl)
each-total f (x ∷ xs) h = let r = each-total f xs h.1 in (h.0.0 ∷ r.0, rw (h.0.1, r.1) refl)

-- all have a value, so each element has
pub each-is : {A B : Type 0} (f : A → Option B) (xs : List A) (ys : List B) → each f xs ≡ Some ys → Every (λ x. (y : B) × (f x ≡ Some y)) xs
each-is f [] ys e = tt
each-is f (x ∷ xs) ys e = let r = each-cons_is f x xs ys e in ((r.0, r.2), each-is f xs r.1 r.3)

-- what holds of each value, from what holds of each element
pub each-values : {A B : Type 0} (f : A → Option B) (P : A → Type 0) (Q : B → Type 0) → ((x : A) (y : B) → P x → f x ≡ Some y → Q y) →
    (xs : List A) (ys : List B) → Every P xs → each f xs ≡ Some ys → Every Q ys
each-values f P Q h [] ys p e = let z : [] ≡ ys = cc in subst (Every Q) z tt
each-values f P Q h (x ∷ xs) ys p e =
    let r = each-cons_is f x xs ys e in
    subst (Every Q) (sym r.4) (h x r.0 p.0 r.2, each-values f P Q h xs r.1 p.1 r.3)

-- the value at a place is that of the element there
pub each-get : {A B : Type 0} (f : A → Option B) (xs : List A) (ys : List B) (i : ℕ) (x : A) → each f xs ≡ Some ys → slice_get xs i ≡ Some x → slice_get ys i ≡ f x
each-get f [] ys i x e g = cc
each-get f (z ∷ xs) ys zero x e g =
    let r = each-cons_is f z xs ys e in
    let s : z ≡ x = cc in
    ap (λ l. slice_get l 0) r.4 ∙ sym r.2 ∙ ap f s
each-get f (z ∷ xs) ys (suc i) x e g =
    let r = each-cons_is f z xs ys e in
    ap (λ l. slice_get l (suc i)) r.4 ∙ each-get f xs r.1 i x r.3 g

pub each-some : {A B : Type 0} (f : A → Option B) (xs : List A) (ys : List B) → each f xs ≡ Some ys → map f xs ≡ map Some ys
each-some f [] ys e = let z : [] ≡ ys = cc in ap (map Some) z
each-some f (x ∷ xs) ys e =
    let r = each-cons_is f x xs ys e in
    rw (r.2, each-some f xs r.1 r.3) (sym (ap (map Some) r.4))

-- one element is undefined, so all are
pub each-none : {A B : Type 0} (f : A → Option B) (xs : List A) (i : ℕ) (x : A) → slice_get xs i ≡ Some x → f x ≡ None → each f xs ≡ None
each-none f [] i x g e = cc
each-none f (y ∷ xs) zero x g e = let s : y ≡ x = cc in rw (ap f s, e) refl
each-none f (y ∷ xs) (suc i) x g e = rw (each-none f xs i x g e) (then-none (f y) (λ z. None) (λ z k. refl))

pub each-append_none : {A B : Type 0} (f : A → Option B) (xs ys : List A) → each f xs ≡ None → each f (xs ++ ys) ≡ None
each-append_none f xs ys e = each-append f xs ys ∙ rw e refl

pub total-append : {A : Type 0} (f : A → ℕ) (xs ys : List A) → total f (xs ++ ys) ≡ total f xs + total f ys
total-append f [] ys = omega arith
total-append f (x ∷ xs) ys = omega (arith, total-append f xs ys)

pub total-split : {A : Type 0} (f : A → ℕ) (n : ℕ) (xs : List A) → total f (take n xs) + total f (drop n xs) ≡ total f xs
total-split f zero xs = omega arith
total-split f (suc n) [] = omega arith
total-split f (suc n) (x ∷ xs) = omega (arith, total-split f n xs)

pub total-map : {A B : Type 0} (f : B → ℕ) (g : A → B) (xs : List A) → total f (map g xs) ≡ total (λ x. f (g x)) xs
total-map f g [] = refl
total-map f g (x ∷ xs) = rw (total-map f g xs) refl

pub total-ext : {A : Type 0} (f g : A → ℕ) (xs : List A) → Every (λ x. f x ≡ g x) xs → total f xs ≡ total g xs
total-ext f g [] h = refl
total-ext f g (x ∷ xs) h = rw (h.0, total-ext f g xs h.1) refl

pub total-concat : {A : Type 0} (f : A → ℕ) (xss : List (List A)) → total f (concat xss) ≡ total (total f) xss
total-concat f [] = refl
total-concat f (xs ∷ xss) = total-append f xs (concat xss) ∙ ap (λ n. total f xs + n) (total-concat f xss)
