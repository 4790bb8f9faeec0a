-- Where an expression has a type and a value, the value has the type, under globals of their types.
use Rattle.std.proofs.Common.{◌≡◌, List, [], ◌∷◌, Some}
use Rattle.aql_value.specs.Datum.{Datum}
use Rattle.aql_ty.specs.Types.{Ty, Subst, apply, value}
use Rattle.aql_ty.specs.ValueTypes.{HasType}
use Rattle.aql_syntax.specs.Tree as tree
use Rattle.aql_syntax.specs.Tree.{Declaration}
use Rattle.aql_syntax.specs.Script.{Earlier, ReaderMeaning}
use Rattle.aql_syntax.specs.Typing.{DeclHas, environment_of, reader_type}

-- Scripts.
abbrev pub declarations_of : Earlier → List Declaration
declarations_of [] = []
declarations_of ((d, o) ∷ earlier) = d ∷ declarations_of earlier

-- the outcome of each position has, where it is a value, every instance of each type of the position
abbrev pub OutcomesTyped : Earlier → Type 0
OutcomesTyped [] = Unit {0}
OutcomesTyped ((d, o) ∷ earlier) =
    ((t : Ty) (v : Datum) → DeclHas d (environment_of (declarations_of earlier)) (value t) → o ≡ Some v → (u : Subst) → HasType (apply u t) v) × OutcomesTyped earlier

-- what a reader gives has the reader's type
abbrev pub ReadsHave : ReaderMeaning → Type 0
ReadsHave reading = (r : tree.Reader) (a w : Datum) → reading r a ≡ Some w → HasType (reader_type r) w
