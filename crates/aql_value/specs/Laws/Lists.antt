-- What follows from the definitions of `Lists`.
use Rattle.std.specs.Prelude.{◌≡◌, ℕ, zero, suc, ◌+◌, ◌-◌, ◌<◌, ◌≤◌, List, [], ◌∷◌, ◌++◌, length, map, take, drop, get_or, Some, refl}
use Rattle.std.specs.List.{range_with_len, slice_get, slice_range, flat_map}
use Rattle.std.proofs.Common.{ap, sym, ◌∙◌, subst, arith, append_assoc}
use Rattle.std.proofs.lemmas.List.FromFn.{length-range_with_len}
use Rattle.std.proofs.lemmas.List.{take_more, map-append, length-drop, get_or-drop}
use Rattle.std.proofs.lemmas.Option.{get_or_from_slice_get, slice_get_within}
use Rattle.aql_value.specs.Partial.{concat}
use Rattle.aql_value.specs.Lists.{below, Every}

pub Every-all : {A : Type 0} (P : A → Type 0) → ((x : A) → P x) → (xs : List A) → Every P xs
Every-all P h [] = tt
Every-all P h (x ∷ xs) = (h x, Every-all P h xs)

pub Every-impl : {A : Type 0} (P Q : A → Type 0) → ((x : A) → P x → Q x) → (xs : List A) → Every P xs → Every Q xs
Every-impl P Q h [] k = tt
Every-impl P Q h (x ∷ xs) k = (h x k.0, Every-impl P Q h xs k.1)

-- what follows from two properties of each element
pub Every-join : {A : Type 0} (P Q R : A → Type 0) → ((x : A) → P x → Q x → R x) → (xs : List A) → Every P xs → Every Q xs → Every R xs
Every-join P Q R h [] p q = tt
Every-join P Q R h (x ∷ xs) p q = (h x p.0 q.0, Every-join P Q R h xs p.1 q.1)

pub Every-map : {A B : Type 0} (P : B → Type 0) (f : A → B) (xs : List A) → Every P (map f xs) → Every (λ x. P (f x)) xs
Every-map P f [] h = tt
Every-map P f (x ∷ xs) h = (h.0, Every-map P f xs h.1)

-- of the images, from the elements
pub Every-onto : {A B : Type 0} (P : B → Type 0) (f : A → B) (xs : List A) → Every (λ x. P (f x)) xs → Every P (map f xs)
Every-onto P f [] h = tt
Every-onto P f (x ∷ xs) h = (h.0, Every-onto P f xs h.1)

pub Every-append : {A : Type 0} (P : A → Type 0) (xs ys : List A) → Every P xs → Every P ys → Every P (xs ++ ys)
Every-append P [] ys h k = k
Every-append P (x ∷ xs) ys h k = (h.0, Every-append P xs ys h.1 k)

-- of both lists, from the one after the other
pub Every-append_parts : {A : Type 0} (P : A → Type 0) (xs ys : List A) → Every P (xs ++ ys) → Every P xs × Every P ys
Every-append_parts P [] ys h = (tt, h)
Every-append_parts P (x ∷ xs) ys h = let r = Every-append_parts P xs ys h.1 in ((h.0, r.0), r.1)

pub Every-concat : {A B : Type 0} (P : B → Type 0) (f : A → List B) (xs : List A) → Every P (concat (map f xs)) → Every (λ x. Every P (f x)) xs
Every-concat P f [] h = tt
Every-concat P f (x ∷ xs) h = let r = Every-append_parts P (f x) (concat (map f xs)) h in (r.0, Every-concat P f xs r.1)

pub Every-nested : {A B : Type 0} (P : B → Type 0) (f : A → List B) (xs : List A) → Every (λ x. Every P (f x)) xs → Every P (concat (map f xs))
Every-nested P f [] h = tt
Every-nested P f (x ∷ xs) h = Every-append P (f x) (concat (map f xs)) h.0 (Every-nested P f xs h.1)

-- of the elements of lists, from each list
pub Every-lists : {A : Type 0} (P : A → Type 0) (xss : List (List A)) → Every (λ xs. Every P xs) xss → Every P (concat xss)
Every-lists P [] h = tt
Every-lists P (xs ∷ xss) h = Every-append P xs (concat xss) h.0 (Every-lists P xss h.1)

pub Every-range : (P : ℕ → Type 0) (a n : ℕ) → ((j : ℕ) → a ≤ j → j < a + n → P j) → Every P (range_with_len a n)
Every-range P a zero h = tt
Every-range P a (suc n) h = (h a (omega arith) (omega arith), Every-range P (a + 1) n (λ j l m. h j (omega (arith, l)) (omega (arith, m))))

pub Every-below : (P : ℕ → Type 0) (n : ℕ) → ((j : ℕ) → j < n → P j) → Every P (below n)
Every-below P n h = Every-range P 0 n (λ j l m. h j (omega (arith, m)))

-- of the element at a place
pub Every-get : {A : Type 0} (P : A → Type 0) (xs : List A) (i : ℕ) (x : A) → Every P xs → slice_get xs i ≡ Some x → P x
Every-get P [] i x h e = cc
Every-get P (y ∷ xs) zero x h e = let a : y ≡ x = cc in subst P a h.0
Every-get P (y ∷ xs) (suc i) x h e = Every-get P xs i x h.1 e

pub Every-take : {A : Type 0} (P : A → Type 0) (n : ℕ) (xs : List A) → Every P xs → Every P (take n xs)
Every-take P zero xs h = tt
Every-take P (suc n) [] h = tt
Every-take P (suc n) (x ∷ xs) h = (h.0, Every-take P n xs h.1)

pub Every-drop : {A : Type 0} (P : A → Type 0) (n : ℕ) (xs : List A) → Every P xs → Every P (drop n xs)
Every-drop P zero xs h = h
Every-drop P (suc n) [] h = tt
Every-drop P (suc n) (x ∷ xs) h = Every-drop P n xs h.1

-- a place within a list has an element
pub entry-there : {A : Type 0} (xs : List A) (i : ℕ) → i < length xs → (x : A) × (slice_get xs i ≡ Some x)
entry-there [] i h = absurd (omega (arith, h))
entry-there (x ∷ xs) zero h = (x, refl)
entry-there (x ∷ xs) (suc i) h = entry-there xs i (omega (arith, h))

pub slice_get-append_left : {A : Type 0} (xs ys : List A) (i : ℕ) → i < length xs → slice_get (xs ++ ys) i ≡ slice_get xs i
slice_get-append_left [] ys i h = absurd (omega (arith, h))
slice_get-append_left (x ∷ xs) ys zero h = refl
slice_get-append_left (x ∷ xs) ys (suc i) h = slice_get-append_left xs ys i (omega (arith, h))

pub slice_get-append_right : {A : Type 0} (xs ys : List A) (i : ℕ) → length xs ≤ i → slice_get (xs ++ ys) i ≡ slice_get ys (i - length xs)
slice_get-append_right [] ys i h = let e : i ≡ i - 0 = omega arith in ap (slice_get ys) e
slice_get-append_right (x ∷ xs) ys zero h = absurd (omega (arith, h))
slice_get-append_right (x ∷ xs) ys (suc i) h =
    slice_get-append_right xs ys i (omega (arith, h)) ∙ (let e : i - length xs ≡ suc i - suc (length xs) = omega arith in ap (slice_get ys) e)

pub length-below : (n : ℕ) → length (below n) ≡ n
length-below n = length-range_with_len 0 n

slice_get-range : (a n i : ℕ) → i < n → slice_get (range_with_len a n) i ≡ Some (a + i)
slice_get-range a zero i h = absurd (omega (arith, h))
slice_get-range a (suc n) zero h = let e : a ≡ a + 0 = omega arith in ap Some e
slice_get-range a (suc n) (suc i) h = slice_get-range (a + 1) n i (omega (arith, h)) ∙ (let e : a + 1 + i ≡ a + suc i = omega arith in ap Some e)

pub slice_get-below : (n i : ℕ) → i < n → slice_get (below n) i ≡ Some i
slice_get-below n i h = slice_get-range 0 n i h ∙ (let e : 0 + i ≡ i = omega arith in ap Some e)

range_with_len-suc : (a n : ℕ) → range_with_len (a + 1) n ≡ map suc (range_with_len a n)
range_with_len-suc a zero = refl
range_with_len-suc a (suc n) = (let e : a + 1 ≡ suc a = omega arith in ap (λ b. b ∷ range_with_len (a + 1 + 1) n) e) ∙ ap (λ l. suc a ∷ l) (range_with_len-suc (a + 1) n)

-- 0, and then each number below n and 1
pub below-suc : (n : ℕ) → below (suc n) ≡ 0 ∷ map suc (below n)
below-suc n = ap (λ l. 0 ∷ l) (range_with_len-suc 0 n)

range_with_len-last : (a n : ℕ) → range_with_len a (suc n) ≡ range_with_len a n ++ (a + n) ∷ []
range_with_len-last a zero = let e : a ≡ a + 0 = omega arith in ap (λ b. b ∷ []) e
range_with_len-last a (suc n) =
    ap (λ l. a ∷ l) (range_with_len-last (a + 1) n)
    ∙ (let e : a + 1 + n ≡ a + suc n = omega arith in ap (λ b. a ∷ (range_with_len (a + 1) n ++ b ∷ [])) e)

-- each number below n, and then n
pub below-last : (n : ℕ) → below (suc n) ≡ below n ++ n ∷ []
below-last n = range_with_len-last 0 n ∙ (let e : 0 + n ≡ n = omega arith in ap (λ m. below n ++ m ∷ []) e)

pub concat-append : {A : Type 0} (xss yss : List (List A)) → concat (xss ++ yss) ≡ concat xss ++ concat yss
concat-append [] yss = refl
concat-append (xs ∷ xss) yss = ap (λ l. xs ++ l) (concat-append xss yss) ∙ sym (append_assoc xs (concat xss) (concat yss))

pub flat_map-concat : {A B : Type 0} (f : A → List B) (xs : List A) → flat_map f xs ≡ concat (map f xs)
flat_map-concat f [] = refl
flat_map-concat f (x ∷ xs) = ap (λ l. f x ++ l) (flat_map-concat f xs)

-- the images of a list with one element more
pub map_pushed : {X Y : Type 0} (f : X → Y) (xs ys : List X) (x : X) (y : Y) (zs : List Y) → ys ≡ xs ++ x ∷ [] → map f xs ≡ zs → f x ≡ y → map f ys ≡ zs ++ y ∷ []
map_pushed f xs ys x y zs e h k = ap (map f) e ∙ map-append f xs (x ∷ []) ∙ (λ i. h i ++ k i ∷ [])

-- a range with one element more
pub range_more : {X : Type 0} (xs : List X) (a i : ℕ) (x : X) → a ≤ i → slice_get xs i ≡ Some x → slice_range xs a (i + 1) ≡ slice_range xs a i ++ x ∷ []
range_more xs a i x h e =
    let w : i < length xs = slice_get_within xs i x e in
    ap (λ n. take n (drop a xs)) (let k : i + 1 - a ≡ (i - a) + 1 = omega arith in k)
    ∙ take_more (drop a xs) (i - a) x (omega (arith, length-drop a xs))
    ∙ ap (λ y. take (i - a) (drop a xs) ++ y ∷ []) (get_or-drop a xs (i - a) x ∙ ap (λ k. get_or xs k x) (let k : a + (i - a) ≡ i = omega arith in k) ∙ get_or_from_slice_get xs i x x e)
