-- Texts one after another.
use Rattle.std.specs.Prelude.{ℕ, zero, suc, List, [], ◌∷◌, ◌++◌}

-- each text behind a separator
abbrev pub after : List ℕ → List (List ℕ) → List ℕ
after sep [] = []
after sep (s ∷ rest) = sep ++ (s ++ after sep rest)

-- the texts with a separator between each two
abbrev pub join_texts : List ℕ → List (List ℕ) → List ℕ
join_texts sep [] = []
join_texts sep (s ∷ rest) = s ++ after sep rest

-- what stands before text i
abbrev pub before : ℕ → List ℕ → List ℕ
before zero sep = []
before (suc i) sep = sep
