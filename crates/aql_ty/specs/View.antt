-- What the types of the code mean, without pointers and capacities.
use Rattle.std.specs.Prelude.{List, [], ◌∷◌}
use Rattle.aql_ty.specs.Types.{Ty, natural, truth, text, var, product, set_of, array_of, Tys, no_type, type, Sort, value, macro}
use Rattle.aql_ty.specs.declared.ty.Ty as code
use Rattle.aql_ty.specs.declared.ty.Ty.{Row_of-Ty, end_of-Ty, more_of-Ty}
use Rattle.aql_ty.specs.declared.ty.Scheme.{Scheme}
use Rattle.aql_ty.specs.declared.ty.Scheme.TheVariants as scheme

abbrev mutual
  -- the type that a `Ty` is
  pub type_of : code.Ty → Ty
  type_of code.Nat = natural
  type_of code.Bool = truth
  type_of code.Text = text
  type_of (code.Var x) = var x
  type_of (code.Tuple' shape ts) = product (row_of ts)
  type_of (code.SetOf' p t) = set_of (type_of t)
  type_of (code.ArrayOf' rank p t) = array_of rank (type_of t)

  -- the types of the parts inside a tuple
  pub row_of : {n : _} → Row_of-Ty n → Tys
  row_of end_of-Ty = no_type
  row_of (more_of-Ty t ts) = type (type_of t) (row_of ts)

-- the types of a list
abbrev pub types_of : List code.Ty → Tys
types_of [] = no_type
types_of (t ∷ ts) = type (type_of t) (types_of ts)

-- the sort that a `Scheme` is
abbrev pub sort_of : Scheme → Sort
sort_of (scheme.Value t) = value (type_of t)
sort_of (scheme.Macro s t) = macro (type_of s) (type_of t)
