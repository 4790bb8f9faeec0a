-- The names of the elements of a list, in their places.
use Rattle.std.proofs.Common.{◌≡◌, List, ℕ, get_or, length, map, ap, ◌∙◌, sym}
use Rattle.std.proofs.Math.ListN.{get_or-map}
use Rattle.std.proofs.lemmas.List.{length-map}

-- the name of an element stands where the element does
pub named_at : {X : Type 0} (name : X → List ℕ) (items xs : List X) (i : ℕ) (x : X) → items ≡ xs → x ≡ get_or items i x →
    name x ≡ get_or (map name xs) i (name x)
named_at name items xs i x e k = ap name (k ∙ ap (λ l. get_or l i x) e) ∙ sym (get_or-map name xs i x)

-- there are as many names as elements
pub count_named : {X : Type 0} (name : X → List ℕ) (items xs : List X) → items ≡ xs → length (map name xs) ≡ length items
count_named name items xs e = length-map xs name ∙ ap length (sym e)
