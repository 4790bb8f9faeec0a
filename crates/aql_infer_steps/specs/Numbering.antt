-- The numbering of the variables of what a declaration has, by first appearance.
use Rattle.std.proofs.Common.{ℕ, zero, suc, ◌≡◌, true, List, [], ◌∷◌}
use Rattle.aql_ty.specs.Types.{var, Subst, Sort, apply_sort}
use Rattle.aql_ty.specs.Variables.{is_one_of, variable_index, sort_variables}

-- the variable at an index
unfoldable pub at_index : ℕ → List ℕ → ℕ
at_index i [] = 0
at_index zero (y ∷ ys) = y
at_index (suc i) (y ∷ ys) = at_index i ys

-- each variable by its index
abbrev pub renumbering : List ℕ → Subst
renumbering vs x = var (variable_index x vs)

-- with its variables numbered by first appearance
abbrev pub number : Sort → Sort
number s = apply_sort (renumbering (sort_variables s)) s

-- The numbering can be undone.
abbrev pub undo_numbering : List ℕ → Subst
undo_numbering vs i = var (at_index i vs)

-- what gives the variables of a numbered sort their names again
unfoldable pub names_back : Sort → Subst
names_back s = undo_numbering (sort_variables s)

-- The numbers of a numbered sort go by first appearance.

-- each variable has the index that its number says
abbrev pub IsNumbered : Sort → Type 0
IsNumbered s = (x : ℕ) → is_one_of x (sort_variables s) ≡ true → variable_index x (sort_variables s) ≡ x
