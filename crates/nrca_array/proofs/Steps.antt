-- Steps of loops over lists.
use Rattle.std.proofs.Common.{◌≡◌, ℕ, ◌+◌, ◌<◌, ◌≤◌, false, List, [], ◌∷◌, ◌++◌, length, map, take, Some, sym, ◌∙◌, ap, arith}
use Rattle.std.specs.Prelude.{slice_get, slice_index, nat_eq}
use Rattle.std.proofs.lemmas.List.{take_more, map-append}
use Rattle.std.proofs.lemmas.Bool.Decides.{nat_tests}
use Rattle.std.proofs.lemmas.Option.{get_or_from_slice_get, slice_get_within, slice_get-get_or}

-- the images of one element more
pub map_take_more : {X Y : Type 0} (f : X → Y) (xs : List X) (i : ℕ) (x : X) → slice_get xs i ≡ Some x → map f (take (i + 1) xs) ≡ map f (take i xs) ++ f x ∷ []
map_take_more f xs i x e =
    ap (map f) (take_more xs i x (slice_get_within xs i x e) ∙ ap (λ y. take i xs ++ y ∷ []) (get_or_from_slice_get xs i x x e))
    ∙ map-append f (take i xs) (x ∷ [])

pub number_got : (ns : List ℕ) (i n : ℕ) → i < length ns → n ≡ slice_index ns i → slice_get ns i ≡ Some n
number_got ns i n h e = slice_get-get_or ns i 0 h ∙ ap Some (sym e)

-- a list that is not empty
pub not_empty : (n m : ℕ) → false ≡ nat_eq n 0 → m ≡ n → 1 ≤ m
not_empty n m e f = grind (arith, nat_tests)
