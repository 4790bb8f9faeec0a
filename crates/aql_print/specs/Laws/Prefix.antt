-- A prefix of a text is a prefix of a longer one; texts that are written one after another.
use Rattle.std.proofs.Common.{◌≡◌, ℕ, zero, suc, ◌+◌, ◌<◌, List, [], ◌∷◌, ◌++◌, length, map, take, drop, get_or, refl, sym, ap, ◌∙◌, arith, append_assoc, append-nil, Some}
use Rattle.std.specs.Prelude.{decimal}
use Rattle.std.specs.List.{flat_map, slice_get}
use Rattle.std.proofs.Math.ListN.{get_or-map}
use Rattle.aql_value.specs.Datum.{Datum, data_of}
use Rattle.aql_value.specs.Meaning.{datum}
use Rattle.aql_value.specs.Laws.Meaning.{get_or_meaning}
use Rattle.aql_value.specs.declared.value.Value.{Value}
use Rattle.aql_print.specs.Appends.{AppendsPrefix}
use Rattle.aql_print.specs.Joined.{after, join_texts, before}
use Rattle.aql_print.specs.ValueText.{text, texts}

-- a prefix of a text as a prefix of a longer one
within : (n : ℕ) (a b : List ℕ) → (k : ℕ) × (take n a ≡ take k (a ++ b))
within zero a b = (0, refl)
within (suc n) [] b = (0, refl)
within (suc n) (x ∷ a) b = let r = within n a b in (suc r.0, ap (λ l. x ∷ l) r.1)

take-append : (a b : List ℕ) (n : ℕ) → take (length a + n) (a ++ b) ≡ a ++ take n b
take-append [] b n = let e : 0 + n ≡ n = omega arith in ap (λ k. take k b) e
take-append (x ∷ a) b n =
    (let e : suc (length a) + n ≡ suc (length a + n) = omega arith in ap (λ k. take k (x ∷ (a ++ b))) e)
    ∙ ap (λ l. x ∷ l) (take-append a b n)

take-whole : (a : List ℕ) → take (length a) a ≡ a
take-whole [] = refl
take-whole (x ∷ a) = ap (λ l. x ∷ l) (take-whole a)

-- the whole text
pub prefix_whole : (old new a : List ℕ) → new ≡ old ++ a → AppendsPrefix old new a
prefix_whole old new a e = record { count = length a; is = e ∙ ap (λ l. old ++ l) (sym (take-whole a)) }

-- nothing of the text
pub prefix_none : (old new a : List ℕ) → new ≡ old → AppendsPrefix old new a
prefix_none old new a e = record { count = 0; is = e ∙ sym (append-nil old) }

-- a prefix of the first of two texts
pub prefix_first : (old new a b : List ℕ) → AppendsPrefix old new a → AppendsPrefix old new (a ++ b)
prefix_first old new a b h =
    let r = within h.count a b in
    record { count = r.0; is = h.is ∙ ap (λ l. old ++ l) r.1 }

-- a prefix of the second, behind the whole first
pub prefix_second : (old mid new a b : List ℕ) → mid ≡ old ++ a → AppendsPrefix mid new b → AppendsPrefix old new (a ++ b)
prefix_second old mid new a b e h = record {
  count = length a + h.count;
  is = h.is ∙ ap (λ l. l ++ take h.count b) e ∙ append_assoc old a (take h.count b) ∙ ap (λ l. old ++ l) (sym (take-append a b h.count));
}

flat_map-at : {X : Type 0} (f : X → List ℕ) (xs : List X) (i : ℕ) (x d : X) → i < length xs → x ≡ get_or xs i d →
    flat_map f xs ≡ flat_map f (take i xs) ++ (f x ++ flat_map f (drop (i + 1) xs))
flat_map-at f [] i x d h e = absurd (omega (arith, h))
flat_map-at f (y ∷ xs) zero x d h e = ap (λ z. f z ++ flat_map f xs) (sym e)
flat_map-at f (y ∷ xs) (suc i) x d h e =
    ap (λ l. f y ++ l) (flat_map-at f xs i x d (omega (arith, h)) e)
    ∙ sym (append_assoc (f y) (flat_map f (take i xs)) (f x ++ flat_map f (drop (i + 1) xs)))
    ∙ (let z : suc i + 1 ≡ suc (i + 1) = omega arith in ap (λ n. (f y ++ flat_map f (take i xs)) ++ (f x ++ flat_map f (drop n (y ∷ xs)))) (sym z))

-- a prefix of the text of one element, behind those of the elements before it
pub prefix_at : {X : Type 0} (f : X → List ℕ) (xs : List X) (i : ℕ) (x d : X) (old mid new : List ℕ) → AppendsPrefix mid new (f x) → mid ≡ old ++ flat_map f (take i xs) →
    i < length xs → x ≡ get_or xs i d → AppendsPrefix old new (flat_map f xs)
prefix_at f xs i x d old mid new h e l k =
    rw (flat_map-at f xs i x d l k) (prefix_second old mid new (flat_map f (take i xs)) (f x ++ flat_map f (drop (i + 1) xs)) e (prefix_first mid new (f x) (flat_map f (drop (i + 1) xs)) h))

after-at : (sep : List ℕ) (xs : List (List ℕ)) (i : ℕ) (x d : List ℕ) → i < length xs → x ≡ get_or xs i d →
    after sep xs ≡ after sep (take i xs) ++ (sep ++ (x ++ after sep (drop (i + 1) xs)))
after-at sep [] i x d h e = absurd (omega (arith, h))
after-at sep (y ∷ xs) zero x d h e = ap (λ z. sep ++ (z ++ after sep xs)) (sym e)
after-at sep (y ∷ xs) (suc i) x d h e =
    let tail = after sep (drop (i + 1) xs) in
    ap (λ l. sep ++ (y ++ l)) (after-at sep xs i x d (omega (arith, h)) e)
    ∙ ap (λ l. sep ++ l) (sym (append_assoc y (after sep (take i xs)) (sep ++ (x ++ tail))))
    ∙ sym (append_assoc sep (y ++ after sep (take i xs)) (sep ++ (x ++ tail)))
    ∙ (let z : suc i + 1 ≡ suc (i + 1) = omega arith in ap (λ n. (sep ++ (y ++ after sep (take i xs))) ++ (sep ++ (x ++ after sep (drop n (y ∷ xs))))) (sym z))

-- the texts before one, its separator, it, and the texts behind it
pub separated-at : (sep : List ℕ) (xs : List (List ℕ)) (i : ℕ) (x d : List ℕ) → i < length xs → x ≡ get_or xs i d →
    join_texts sep xs ≡ join_texts sep (take i xs) ++ (before i sep ++ (x ++ after sep (drop (i + 1) xs)))
separated-at sep [] i x d h e = absurd (omega (arith, h))
separated-at sep (y ∷ xs) zero x d h e = ap (λ z. z ++ after sep xs) (sym e)
separated-at sep (y ∷ xs) (suc i) x d h e =
    let tail = after sep (drop (i + 1) xs) in
    ap (λ l. y ++ l) (after-at sep xs i x d (omega (arith, h)) e)
    ∙ sym (append_assoc y (after sep (take i xs)) (sep ++ (x ++ tail)))
    ∙ (let z : suc i + 1 ≡ suc (i + 1) = omega arith in ap (λ n. (y ++ after sep (take i xs)) ++ (sep ++ (x ++ after sep (drop n (y ∷ xs))))) (sym z))

after-more : (sep : List ℕ) (xs : List (List ℕ)) (i : ℕ) (x d : List ℕ) → i < length xs → x ≡ get_or xs i d →
    after sep (take (i + 1) xs) ≡ after sep (take i xs) ++ (sep ++ x)
after-more sep [] i x d h e = absurd (omega (arith, h))
after-more sep (y ∷ xs) zero x d h e = ap (λ l. sep ++ l) (append-nil y ∙ sym e)
after-more sep (y ∷ xs) (suc i) x d h e =
    (let z : suc i + 1 ≡ suc (i + 1) = omega arith in ap (λ n. after sep (take n (y ∷ xs))) z)
    ∙ ap (λ l. sep ++ (y ++ l)) (after-more sep xs i x d (omega (arith, h)) e)
    ∙ ap (λ l. sep ++ l) (sym (append_assoc y (after sep (take i xs)) (sep ++ x)))
    ∙ sym (append_assoc sep (y ++ after sep (take i xs)) (sep ++ x))

-- one text more
pub separated-more : (sep : List ℕ) (xs : List (List ℕ)) (i : ℕ) (x d : List ℕ) → i < length xs → x ≡ get_or xs i d →
    join_texts sep (take (i + 1) xs) ≡ join_texts sep (take i xs) ++ (before i sep ++ x)
separated-more sep [] i x d h e = absurd (omega (arith, h))
separated-more sep (y ∷ xs) zero x d h e = append-nil y ∙ sym e
separated-more sep (y ∷ xs) (suc i) x d h e =
    (let z : suc i + 1 ≡ suc (i + 1) = omega arith in ap (λ n. join_texts sep (take n (y ∷ xs))) z)
    ∙ ap (λ l. y ++ l) (after-more sep xs i x d (omega (arith, h)) e)
    ∙ sym (append_assoc y (after sep (take i xs)) (sep ++ x))

-- what is written of texts with a separator between each two
module _ (sep : List ℕ) (xs : List (List ℕ)) (i : ℕ) (x d old done mid new : List ℕ) (e : done ≡ old ++ join_texts sep (take i xs))
    (h : i < length xs) (k : x ≡ get_or xs i d) where
  -- a prefix of the separator
  pub prefix_before : AppendsPrefix done new (before i sep) → AppendsPrefix old new (join_texts sep xs)
  prefix_before p =
      rw (separated-at sep xs i x d h k) (prefix_second old done new (join_texts sep (take i xs)) (before i sep ++ (x ++ after sep (drop (i + 1) xs))) e
      (prefix_first done new (before i sep) (x ++ after sep (drop (i + 1) xs)) p))

  -- the separator, and a prefix of the text
  pub prefix_text : mid ≡ done ++ before i sep → AppendsPrefix mid new x → AppendsPrefix old new (join_texts sep xs)
  prefix_text f p =
      rw (separated-at sep xs i x d h k) (prefix_second old done new (join_texts sep (take i xs)) (before i sep ++ (x ++ after sep (drop (i + 1) xs))) e
      (prefix_second done mid new (before i sep) (x ++ after sep (drop (i + 1) xs)) f (prefix_first mid new x (after sep (drop (i + 1) xs)) p)))

  -- both whole
  pub both_whole : mid ≡ done ++ before i sep → new ≡ mid ++ x → new ≡ old ++ join_texts sep (take (i + 1) xs)
  both_whole f g =
      g ∙ ap (λ l. l ++ x) f ∙ append_assoc done (before i sep) x ∙ ap (λ l. l ++ (before i sep ++ x)) e
      ∙ append_assoc old (join_texts sep (take i xs)) (before i sep ++ x)
      ∙ ap (λ l. old ++ l) (sym (separated-more sep xs i x d h k))

pub length-texts : (vs : List Datum) → length (texts (data_of vs)) ≡ length vs
length-texts [] = refl
length-texts (v ∷ vs) = ap suc (length-texts vs)

get_or-texts : (vs : List Datum) (i : ℕ) (d : Datum) → get_or (texts (data_of vs)) i (text d) ≡ text (get_or vs i d)
get_or-texts [] i d = refl
get_or-texts (v ∷ vs) zero d = refl
get_or-texts (v ∷ vs) (suc i) d = get_or-texts vs i d

-- the text of a value in its place
pub text_at : (vs : List Value) (xs : List Datum) (i : ℕ) (v : Value) → map datum vs ≡ xs → v ≡ get_or vs i v → text (datum v) ≡ get_or (texts (data_of xs)) i (text (datum v))
text_at vs xs i v p e = ap text (sym (get_or_meaning vs xs i v p e)) ∙ sym (get_or-texts xs i (datum v))

-- the text of a number in its place
pub number_at : (ds es : List ℕ) (i d : ℕ) → ds ≡ es → decimal (get_or ds i d) ≡ get_or (map decimal es) i (decimal d)
number_at ds es i d p = sym (get_or-map decimal ds i d) ∙ ap (λ l. get_or (map decimal l) i (decimal d)) p

-- the text of a value that stands in a list
pub text_in : (vs : List Datum) (i : ℕ) (v : Datum) → slice_get vs i ≡ Some v → text v ≡ get_or (texts (data_of vs)) i (text v)
text_in [] i v e = cc
text_in (w ∷ vs) zero v e = let k : w ≡ v = cc in ap text (sym k)
text_in (w ∷ vs) (suc i) v e = text_in vs i v e
