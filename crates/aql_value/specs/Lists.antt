-- Lists: numbers from 0 on, a property of every element, elements by their place.
use Rattle.std.specs.Prelude.{ℕ, List, [], ◌∷◌}
use Rattle.std.specs.List.{AllByRecursion, range_with_len}

-- the numbers below n, ascending
abbrev pub below : ℕ → List ℕ
below n = range_with_len 0 n

-- P of every element
abbrev pub Every : {A : Type 0} → (A → Type 0) → List A → Type 0
Every P xs = AllByRecursion P xs

-- the elements of a list put before others one after another, so that the last comes first
abbrev pub onto : {A : Type 0} → List A → List A → List A
onto [] ys = ys
onto (x ∷ xs) ys = onto xs (x ∷ ys)
