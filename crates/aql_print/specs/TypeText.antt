-- The text of a type and of what a declaration has, in ASCII bytes.
use Rattle.std.specs.Prelude.{ℕ, ◌+◌, ◌/◌, ◌%◌, ◌==◌, List, [], ◌∷◌, ◌++◌, codes, decimal, if◌then◌else◌}
use Rattle.aql_ty.specs.Types as types
use Rattle.aql_ty.specs.Types.{Ty, natural, truth, var, product, set_of, array_of, Tys, no_type, type, Sort, value, macro}
use Rattle.aql_ty.specs.Variables.{variable_index, sort_variables}
use Rattle.aql_print.specs.Joined.{join_texts}

-- variable n, counted from 0: `'a` to `'z`, then `'a1` to `'z1`, `'a2` and so on
abbrev pub variable_text : ℕ → List ℕ
variable_text n = codes "'" ++ ((97 + n % 26) ∷ (if n / 26 == 0 then [] else decimal (n / 26)))

-- a part of a tuple: parentheses stand around one that is itself a tuple
abbrev pub part_text : Ty → List ℕ → List ℕ
part_text natural s = s
part_text truth s = s
part_text types.text s = s
part_text (var x) s = s
part_text (product ts) s = codes "(" ++ (s ++ codes ")")
part_text (set_of t) s = s
part_text (array_of k t) s = s

abbrev mutual
  -- a type whose variables have their numbers by the place among some
  pub type_text : Ty → List ℕ → List ℕ
  type_text natural vs = codes "nat"
  type_text truth vs = codes "bool"
  type_text types.text vs = codes "string"
  type_text (var x) vs = variable_text (variable_index x vs)
  type_text (product ts) vs = join_texts (codes " * ") (part_texts ts vs)
  type_text (set_of t) vs = codes "{" ++ (type_text t vs ++ codes "}")
  type_text (array_of k t) vs = codes "[[" ++ (type_text t vs ++ (codes "]]_" ++ decimal k))

  -- of each part of a tuple
  pub part_texts : Tys → List ℕ → List (List ℕ)
  part_texts no_type vs = []
  part_texts (type t ts) vs = part_text t (type_text t vs) ∷ part_texts ts vs

-- the type of a value, or a macro's argument and result
abbrev pub scheme_text : Sort → List ℕ
scheme_text (value t) = type_text t (sort_variables (value t))
scheme_text (macro s t) =
    type_text s (sort_variables (macro s t)) ++ (codes " -> " ++ type_text t (sort_variables (macro s t)))
