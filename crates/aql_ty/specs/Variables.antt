-- The variables of types by first appearance, and their indices.
use Rattle.std.specs.Prelude.{ℕ, suc, ◌==◌, ◌||◌, Bool, false, List, [], ◌∷◌, ◌++◌, if◌then◌else◌}
use Rattle.aql_ty.specs.Types as types
use Rattle.aql_ty.specs.Types.{Ty, natural, truth, var, product, set_of, array_of, Tys, no_type, type, Sort, value, macro}

-- whether a variable is one of some
abbrev pub is_one_of : ℕ → List ℕ → Bool
is_one_of x [] = false
is_one_of x (y ∷ ys) = y == x || is_one_of x ys

-- the index of a variable among some; their number where it is none of them
abbrev pub variable_index : ℕ → List ℕ → ℕ
variable_index x [] = 0
variable_index x (y ∷ ys) = if y == x then 0 else suc (variable_index x ys)

abbrev mutual
  -- the variables seen before, and behind them those of a type that are new, by first appearance from the left
  pub variables : Ty → List ℕ → List ℕ
  variables natural seen = seen
  variables truth seen = seen
  variables types.text seen = seen
  variables (var x) seen = if is_one_of x seen then seen else seen ++ (x ∷ [])
  variables (product ts) seen = variables_all ts seen
  variables (set_of t) seen = variables t seen
  variables (array_of k t) seen = variables t seen

  -- and so of the parts of a tuple, one after another
  pub variables_all : Tys → List ℕ → List ℕ
  variables_all no_type seen = seen
  variables_all (type t ts) seen = variables_all ts (variables t seen)

-- the variables of what a declaration has, by first appearance; a macro's argument before its result
abbrev pub sort_variables : Sort → List ℕ
sort_variables (value t) = variables t []
sort_variables (macro a b) = variables b (variables a [])
