-- Numbers in bytes: what is spelled is read back, and the least width grows with the numbers.
use Rattle.std.proofs.Common.{◌≡◌, ℕ, zero, suc, ◌+◌, ◌*◌, ◌^◌, ◌<◌, ◌≤◌, max, List, [], ◌∷◌, ◌++◌, length, drop, refl, sym, ◌∙◌, ap, subst, arith, append_assoc, length-append}
use Rattle.std.specs.Prelude.{slice_index}
use Rattle.std.proofs.Math.Nat.{zero-mul, add-mul, one-mul, mul-le-mul_right, pow-le-pow_right, le-mul_of_pos_right}
use Rattle.std.proofs.Math.Seq.{drop-append_seam}
use Rattle.std.proofs.lemmas.List.{drop-drop, append-nil}
use Rattle.std.proofs.lemmas.List.Concat.{flat_map-append}
use Rattle.std.proofs.lemmas.Bool.Decides.{nat_tests}
use Rattle.byteorder.specs.Endian.{little_number, little_bytes}
use Rattle.byteorder.specs.Numbers.{little_number-reads_back, length-bytes_low_first}
use Rattle.nrca_array.specs.Packing.{bytes_for, greatest, width_for, spell_numbers}
use Rattle.nrca_array.specs.Kept.{width_bytes, numbers_at, IsSpelled}
use Rattle.nrca_array.specs.declared.width.Width.{Width}
use Rattle.nrca_array.specs.declared.width.Width.TheVariants.{One, Two, Four, Eight, Sixteen}

pub length-numbers_at : (w n : ℕ) (bytes : List ℕ) → length (numbers_at w n bytes) ≡ n
length-numbers_at w zero bytes = refl
length-numbers_at w (suc n) bytes = ap suc (length-numbers_at w n (drop w bytes))

pub length-spelled : (w : ℕ) (ns : List ℕ) → length (spell_numbers w ns) ≡ length ns * w
length-spelled w [] = sym (zero-mul w)
length-spelled w (n ∷ ns) = omega (arith, length-append (little_bytes w n) (spell_numbers w ns), length-bytes_low_first 0 w n, length-spelled w ns, add-mul 1 (length ns) w, one-mul w)

pub spelled-push : (w : ℕ) (ns : List ℕ) (x : ℕ) → spell_numbers w (ns ++ x ∷ []) ≡ spell_numbers w ns ++ little_bytes w x
spelled-push w ns x = flat_map-append (little_bytes w) ns (x ∷ []) ∙ ap (λ l. spell_numbers w ns ++ l) (append-nil (little_bytes w x))

drop-little_bytes : (w n : ℕ) (rest : List ℕ) → drop w (little_bytes w n ++ rest) ≡ rest
drop-little_bytes w n rest = ap (λ k. drop k (little_bytes w n ++ rest)) (sym (length-bytes_low_first 0 w n)) ∙ drop-append_seam (little_bytes w n) rest

-- what is spelled is read back
pub numbers_at-spelled : (w : ℕ) (ns rest : List ℕ) → greatest ns < 256 ^ w → numbers_at w (length ns) (spell_numbers w ns ++ rest) ≡ ns
numbers_at-spelled w [] rest h = refl
numbers_at-spelled w (n ∷ ns) rest h =
    ap (λ l. little_number w l ∷ numbers_at w (length ns) (drop w l)) (append_assoc (little_bytes w n) (spell_numbers w ns) rest)
    ∙ ap (λ k. k ∷ numbers_at w (length ns) (drop w (little_bytes w n ++ (spell_numbers w ns ++ rest)))) (little_number-reads_back w n (spell_numbers w ns ++ rest) (omega (arith, h)))
    ∙ ap (λ l. n ∷ numbers_at w (length ns) l) (drop-little_bytes w n (spell_numbers w ns ++ rest))
    ∙ ap (λ l. n ∷ l) (numbers_at-spelled w ns rest (omega (arith, h)))

-- the number at a place
pub numbers_at-get : (w n : ℕ) (bytes : List ℕ) (i : ℕ) → i < n → slice_index (numbers_at w n bytes) i ≡ little_number w (drop (i * w) bytes)
numbers_at-get w zero bytes i h = absurd (omega (arith, h))
numbers_at-get w (suc n) bytes zero h = ap (λ k. little_number w (drop k bytes)) (sym (zero-mul w))
numbers_at-get w (suc n) bytes (suc i) h =
    numbers_at-get w n (drop w bytes) i (omega (arith, h))
    ∙ ap (little_number w) (drop-drop (i * w) w bytes)
    ∙ ap (λ k. little_number w (drop k bytes)) (let e : w + i * w ≡ suc i * w = omega (arith, add-mul 1 i w, one-mul w) in e)

-- the bytes of a number stand within those of all
pub room : (w n i m : ℕ) → i < n → n * w ≤ m → i * w + w ≤ m
room w n i m h k = let l : (i + 1) * w ≤ n * w = mul-le-mul_right w (omega (arith, h)) in omega (arith, add-mul i 1 w, one-mul w)

pub greatest-append : (xs ys : List ℕ) → greatest (xs ++ ys) ≡ max (greatest xs) (greatest ys)
greatest-append [] ys = omega arith
greatest-append (x ∷ xs) ys = omega (arith, greatest-append xs ys)

pub bytes_for-max : (a b : ℕ) → bytes_for (max a b) ≡ max (bytes_for a) (bytes_for b)
unfolding bytes_for
bytes_for-max a b = grind (arith, nat_tests)

-- a number below 2^128 fits in the bytes for it
pub bytes_for-fits : (n : ℕ) → n < 2 ^ 128 → n < 256 ^ bytes_for n
unfolding bytes_for
bytes_for-fits n h = grind (arith, nat_tests)

pub width_for-append : (xs ys : List ℕ) → width_for (xs ++ ys) ≡ max (width_for xs) (width_for ys)
width_for-append xs ys = ap bytes_for (greatest-append xs ys) ∙ bytes_for-max (greatest xs) (greatest ys)

pub width_for-push : (xs : List ℕ) (x : ℕ) → width_for (xs ++ x ∷ []) ≡ max (width_for xs) (bytes_for x)
width_for-push xs x = width_for-append xs (x ∷ []) ∙ ap (λ k. max (width_for xs) (bytes_for k)) (let e : max x 0 ≡ x = omega arith in e)

pub greatest-push : (xs : List ℕ) (x m : ℕ) → greatest xs < m → x < m → greatest (xs ++ x ∷ []) < m
greatest-push xs x m h k = omega (arith, greatest-append xs (x ∷ []), h, k)

pub width_fits : (ns : List ℕ) → greatest ns < 2 ^ 128 → greatest ns < 256 ^ width_for ns
width_fits ns h = bytes_for-fits (greatest ns) h

-- how the bytes of a list are read
pub spelled-reads : (w n : ℕ) (bytes ns : List ℕ) → w ≡ width_for ns → greatest ns < 2 ^ 128 → bytes ≡ spell_numbers w ns → length ns ≡ n → numbers_at w n bytes ≡ ns
spelled-reads w n bytes ns l s e k =
    (λ i. numbers_at w (sym k i) (e i)) ∙ ap (λ b. numbers_at w (length ns) b) (sym (append-nil (spell_numbers w ns)))
    ∙ numbers_at-spelled w ns [] (subst (λ v. greatest ns < 256 ^ v) (sym l) (width_fits ns s))

pub spelled-is : (w n : ℕ) (bytes ns : List ℕ) → w ≡ width_for ns → greatest ns < 2 ^ 128 → bytes ≡ spell_numbers w ns → length ns ≡ n → IsSpelled w bytes (numbers_at w n bytes)
spelled-is w n bytes ns l s e k =
    let P : List ℕ → Type 0 = λ l. IsSpelled w bytes l in
    subst P (sym (spelled-reads w n bytes ns l s e k)) (record { least = l; small = s; spells = e })

pub spelled_none : (bytes : List ℕ) → bytes ≡ [] → IsSpelled 1 bytes []
unfolding bytes_for
spelled_none bytes e = record { least = refl; small = lit; spells = e }
  where
    lit : 0 < 2 ^ 128
    lit = omega arith

-- each number is at most the greatest
pub get_greatest : (ns : List ℕ) (i : ℕ) → slice_index ns i ≤ greatest ns
get_greatest [] i = omega arith
get_greatest (n ∷ ns) zero = omega arith
get_greatest (n ∷ ns) (suc i) = omega (arith, get_greatest ns i)

-- the numbers fill the bytes
pub filled : (w n : ℕ) (bytes : List ℕ) → IsSpelled w bytes (numbers_at w n bytes) → n * w ≡ length bytes
filled w n bytes s = sym (ap length s.spells ∙ length-spelled w (numbers_at w n bytes) ∙ ap (λ k. k * w) (length-numbers_at w n bytes))

pub fits_wider : (x v w : ℕ) → x < 256 ^ v → v ≤ w → x < 256 ^ w
fits_wider x v w h k = omega (arith, pow-le-pow_right {n = 256} (omega arith) k, h)

pub width_some : (w : Width) → 0 < width_bytes w
width_some One = omega arith
width_some Two = omega arith
width_some Four = omega arith
width_some Eight = omega arith
width_some Sixteen = omega arith

-- there are no more numbers than bytes
pub count_within : (w : Width) (n m : ℕ) → n * width_bytes w ≤ m → n ≤ m
count_within w n m h = omega (arith, le-mul_of_pos_right n (width_some w), h)

pub spelled-append : (w : ℕ) (ns ms : List ℕ) → spell_numbers w (ns ++ ms) ≡ spell_numbers w ns ++ spell_numbers w ms
spelled-append w ns ms = flat_map-append (little_bytes w) ns ms

-- two lists of one width, one after the other
module _ (w n m : ℕ) (bytes more all ns ms : List ℕ) (s : IsSpelled w bytes ns) (t : IsSpelled w more ms) (e : all ≡ bytes ++ more) (j : length ns ≡ n) (k : length ms ≡ m) where
  least : w ≡ width_for (ns ++ ms)
  least = omega (arith, width_for-append ns ms, s.least, t.least)

  small : greatest (ns ++ ms) < 2 ^ 128
  small = omega (arith, greatest-append ns ms, s.small, t.small)

  spells : all ≡ spell_numbers w (ns ++ ms)
  spells = e ∙ (λ i. s.spells i ++ t.spells i) ∙ sym (spelled-append w ns ms)

  many : length (ns ++ ms) ≡ n + m
  many = omega (arith, length-append ns ms, j, k)

  pub joined-reads : numbers_at w (n + m) all ≡ ns ++ ms
  joined-reads = spelled-reads w (n + m) all (ns ++ ms) least small spells many

  pub joined-is : IsSpelled w all (numbers_at w (n + m) all)
  joined-is = spelled-is w (n + m) all (ns ++ ms) least small spells many

  pub joined-fills : (n + m) * w ≡ length all
  joined-fills = ap (λ k. k * w) (sym many) ∙ sym (length-spelled w (ns ++ ms)) ∙ ap length (sym spells)
