-- Terms that have a value at all values that a place allows.
use Rattle.std.proofs.Common.{List}
use Rattle.aql_value.specs.Datum.{Datum}
use Rattle.aql_ty.specs.Types.{Ty}
use Rattle.aql_ty.specs.ValueTypes.{HaveTypes}
use Rattle.nrca_term.specs.Term.{Term}
use Rattle.nrca_term.specs.Meaning.{Outcomes, cden}
use Rattle.nrca_term.specs.Facts.{Context}
use Rattle.nrca_term.specs.Typing.{ctyped, instances, OutcomesHave}
use Rattle.nrca_rule_laws.specs.Operations.{Valued}
use Rattle.nrca_ranges.specs.declared.context.Ctx.{Ctx}
use Rattle.nrca_ranges.specs.Bounds.{Ranges}
use Rattle.nrca_ranges.specs.Context.{context_of}
use Rattle.nrca_ranges.specs.Shapes.{Tells, PlaceHolds, ranges_of}

-- A term with a type has a value wherever the positions' values and those of the variables are of their types, each position has a
-- value exactly where it has a shape, the shapes are those of the values, of the variables too, and the facts hold.
unfoldable pub IsDefinedAt : Ranges → Context → Term → Type 0
IsDefinedAt gs c t =
    (given : List Ty) (V : Outcomes) (env : List Ty) (vals : List Datum) (T : Ty) →
    OutcomesHave (instances given) V → HaveTypes env vals → Tells gs.positions V → PlaceHolds V gs c vals → ctyped (instances given) env t T → Valued (cden V vals t)

-- the same in a context
abbrev pub IsDefinedIn : Ctx → Term → Type 0
IsDefinedIn c t = IsDefinedAt (ranges_of c) (context_of c) t
