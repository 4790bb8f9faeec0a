-- The equations of the code between types.
use Rattle.std.specs.Prelude.{List, [], ◌∷◌}
use Rattle.aql_value.specs.Lists.{onto}
use Rattle.aql_ty.specs.View.{type_of}
use Rattle.aql_types.specs.declared.equation.Equation.{Equation}
use Rattle.aql_types.specs.Unifiers.{Equations}

-- the equations of a list
abbrev pub equation_list : List Equation → Equations
equation_list [] = []
equation_list (p ∷ ps) = (type_of p.left, type_of p.right) ∷ equation_list ps

-- the equations of a list, the last first: the code adds and takes at the end
abbrev pub equations_of : List Equation → Equations
equations_of ps = onto (equation_list ps) []
