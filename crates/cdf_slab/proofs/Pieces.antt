-- The numbers of a piece are those of the file.
use Rattle.std.proofs.Common.{◌≡◌, ℕ, zero, suc, ◌+◌, ◌≤◌, ◌-◌, List, [], ◌∷◌, length, take, drop, refl, sym, ap, ◌∙◌, arith, length-take}
use Rattle.std.proofs.lemmas.List.{drop-drop}
use Rattle.byteorder.specs.Endian.{big_number}
use Rattle.byteorder.specs.Numbers.{big_from-take}
use Rattle.cdf_slab.specs.declared.window.Window.{Window}
use Rattle.cdf_slab.specs.Window.{IsPiece, HasBytes, window_bytes}

nil_take : (m : ℕ) → take {A = ℕ} m [] ≡ []
nil_take zero = refl
nil_take (suc m) = refl

pub drop_take : (k n : ℕ) (xs : List ℕ) → drop k (take n xs) ≡ take (n - k) (drop k xs)
drop_take zero n xs = ap (λ m. take m xs) (omega arith)
drop_take (suc k) zero xs = ap (λ m. take m (drop (suc k) xs)) (let e : 0 ≡ 0 - suc k = omega arith in e)
drop_take (suc k) (suc n) [] = sym (nil_take (suc n - suc k))
drop_take (suc k) (suc n) (x ∷ xs) = drop_take k n xs ∙ ap (λ m. take m (drop k xs)) (omega arith)

-- a number in the first bytes of a list is that of the list
number_first : (size k room : ℕ) (xs : List ℕ) → k + size ≤ room → big_number size (drop k (take room xs)) ≡ big_number size (drop k xs)
number_first size k room xs le = ap (big_number size) (drop_take k room xs) ∙ big_from-take 0 size (room - k) (drop k xs) (omega (arith, le))

-- how many bytes a piece has
pub length-held : (w : Window) → length (window_bytes w) ≡ w.count
length-held w = omega (arith, length-take w.count w.memory.items, w.filled)

-- a number in a piece is that of the file
pub piece_number : (bytes : List ℕ) (w : Window) (place size : ℕ) → HasBytes w place size → IsPiece bytes w →
    big_number size (drop (place - w.at) (window_bytes w)) ≡ big_number size (drop place bytes)
piece_number bytes w place size h p =
    let k : (place - w.at) + size ≤ w.count = omega (arith, h.behind, h.before) in
    let e : w.at + (place - w.at) ≡ place = omega (arith, h.behind) in
    ap (λ xs. big_number size (drop (place - w.at) xs)) p.spelled
    ∙ number_first size (place - w.at) w.count (drop w.at bytes) k
    ∙ ap (big_number size) (drop-drop (place - w.at) w.at bytes ∙ ap (λ n. drop n bytes) e)
