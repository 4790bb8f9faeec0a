-- What contracts see of a `Shape`; the values that a context allows; and what is claimed of the values of terms there.
use Rattle.std.proofs.Common.{◌≡◌, ℕ, Bool, List, [], ◌∷◌, ◌++◌, map, Option, Some}
use Rattle.std.specs.Option.{option_map}
use Rattle.aql_value.specs.Datum.{Datum, Data, natural, set, list_of}
use Rattle.aql_value.specs.Lists.{Every}
use Rattle.nrca_term.specs.declared.term.Core.{Core}
use Rattle.nrca_term.specs.declared.form.Form as code
use Rattle.nrca_term.specs.declared.form.Strict as code_strict
use Rattle.nrca_term.specs.View.{term_of, pure_form, pure_strict}
use Rattle.nrca_term.specs.Places.{entered_in}
use Rattle.nrca_term.specs.Term.{Term}
use Rattle.nrca_term.specs.Meaning.{Outcomes, outcome, cden, at_position}
use Rattle.nrca_term.specs.Facts.{Context, FactsHold}
use Rattle.nrca_term.specs.Firm.{Span, is_defined, span, firm}
use Rattle.nrca_ranges.specs.declared.interval.Interval.{Interval}
use Rattle.nrca_ranges.specs.declared.shape.Shape.{Shape}
use Rattle.nrca_ranges.specs.declared.shape.Shapes.{Shapes}
use Rattle.nrca_ranges.specs.declared.shape.Shape.TheOpen.{Shape-F, Shapes-F}
use Rattle.nrca_ranges.specs.declared.shape.Shape.TheFolds.{fold-Shape}
use Rattle.nrca_ranges.specs.declared.positions.GlobalShapes.{GlobalShapes}
use Rattle.nrca_ranges.specs.declared.context.Ctx.{Ctx}
use Rattle.nrca_ranges.specs.Bounds as bounds
use Rattle.nrca_ranges.specs.Bounds.{Bounds, unknown, number, row_of, IsIn, IsCount, HasShape, Ranges, with_own, VariablesFit}
use Rattle.nrca_ranges.specs.Certain as certainty
use Rattle.nrca_ranges.specs.Certain.{certain}
use Rattle.nrca_ranges.specs.Context.{context_of, IsSmallTerm}
use Rattle.nrca_ranges.specs.Entered.{is_shaped}
use Rattle.nrca_ranges.specs.Intervals.{between}
use Rattle.nrca_ranges.specs.Transfer as transfer

-- one node of a shape, with what is known of each part in its place
abbrev pub node_bounds : Shape-F Bounds (List Bounds) → Bounds
node_bounds Shape-F.Unknown = unknown
node_bounds (Shape-F.Number i) = number i
node_bounds (Shape-F.Row bs) = bounds.row (row_of bs)
node_bounds (Shape-F.Members i b) = bounds.members i b.value
node_bounds (Shape-F.Grid is b) = bounds.grid is b.value

-- the list that a node of the code holds
abbrev pub list_bounds : Shapes-F Bounds (List Bounds) → List Bounds
list_bounds bs = bs.0.items

-- what a `Shape` says
abbrev pub bounds_of : Shape → Bounds
bounds_of = fold-Shape Bounds (List Bounds) node_bounds list_bounds

-- what the shapes of a list say
abbrev pub bounds_each : List Shape → List Bounds
bounds_each = map bounds_of

-- the second list says what the first says, but for entry i
abbrev pub KeepsOthers : ℕ → List Shape → List Shape → Type 0
KeepsOthers i xs ys = transfer.SameOthers i (bounds_each xs) (bounds_each ys)

-- what a list of the code says
abbrev pub shapes_of : Shapes → List Bounds
shapes_of s = bounds_each s.0.items

-- what a shape says that may be there or not
abbrev pub bounds_there : Option Shape → Option Bounds
bounds_there = option_map bounds_of

-- what is known of the positions' values
abbrev pub shapes_in : GlobalShapes → List (Option Bounds)
shapes_in g = map bounds_there g.shapes.items

-- the same in a context
abbrev pub known_shapes : Ctx → List (Option Bounds)
known_shapes c = shapes_in c.globals

-- what is known of the values of a context's place
abbrev pub ranges_of : Ctx → Ranges
ranges_of c = record { positions = known_shapes c; variables = bounds_each c.variables.items }

-- the same inside of a term that stands there, with these shapes of further variables
abbrev pub ranges_below : Ctx → List Shape → Ranges
ranges_below c own = with_own (ranges_of c) (bounds_each own)

-- what is known of values inside of part i of the term that stands at the context
abbrev pub EntersRanges : Ctx → Core → ℕ → Ctx → Type 0
EntersRanges c t i r = ranges_of r ≡ transfer.enter_ranges (ranges_of c) (context_of c) (term_of t) i

-- the positions that have a value are those that have a shape, and each value has its position's
abbrev pub Tells : List (Option Bounds) → Outcomes → Type 0
Tells gs V = ((n : ℕ) (b : Bounds) (v : Datum) → at_position gs n ≡ Some (Some b) → outcome V n ≡ Some v → HasShape b v) × ((n : ℕ) → is_shaped gs n ≡ is_defined V n)

-- the values of positions and variables that a context allows: the shapes are theirs, and the facts hold
abbrev pub Allows : Outcomes → Ctx → List Datum → Type 0
Allows V c vals = Tells (known_shapes c) V × FactsHold V (context_of c) vals × VariablesFit (ranges_of c) vals

-- the facts of a place hold at values of its variables, and each value has the shape of its variable
abbrev pub PlaceHolds : Outcomes → Ranges → Context → List Datum → Type 0
PlaceHolds V gs c vals = FactsHold V c vals × VariablesFit gs vals

-- each value that the term has at values that the context allows has the shape
unfoldable pub IsShapeIn : Ctx → Term → Bounds → Type 0
IsShapeIn c t b = (V : Outcomes) (vals : List Datum) (v : Datum) → Allows V c vals → cden V vals t ≡ Some v → HasShape b v

-- where the term has a span, the shape is that interval
abbrev pub IsTight : Context → Term → Bounds → Type 0
IsTight c t b = (x : ℕ × ℕ) → span c t ≡ Some x → b ≡ number (between x.0 x.1)

-- each number that the term has as its value, at values that the context allows, is in the interval
abbrev pub IsNumberIn : Ctx → Term → Interval → Type 0
IsNumberIn c t i = (V : Outcomes) (vals : List Datum) (n : ℕ) → Allows V c vals → cden V vals t ≡ Some (natural n) → IsIn i n

-- the members of each set that the term has as its value are as many as the interval says
abbrev pub IsCountIn : Ctx → Term → Interval → Type 0
IsCountIn c t i = (V : Outcomes) (vals : List Datum) (ms : Data) → Allows V c vals → cden V vals t ≡ Some (set ms) → IsCount i (list_of ms)

-- of terms, each with its interval: it holds the numbers that the term has as values
abbrev pub AreNumbersIn : Ctx → List Term → List Interval → Type 0
AreNumbersIn c [] [] = Unit {0}
AreNumbersIn c [] (i ∷ is) = ⊥
AreNumbersIn c (t ∷ ts) [] = ⊥
AreNumbersIn c (t ∷ ts) (i ∷ is) = IsNumberIn c t i × AreNumbersIn c ts is

-- what is known of the term's value at the place of the context
abbrev pub shape_at : Ctx → Term → Bounds
shape_at c t = transfer.bounds (ranges_of c) (context_of c) t

-- whether the term is firm there
abbrev pub firm_at : Ctx → Term → Bool
firm_at c t = firm (is_shaped (known_shapes c)) (context_of c) t

-- whether it is certain to have a value there
abbrev pub certain_at : Ctx → Term → Bool
certain_at c t = certain (ranges_of c) (context_of c) t

-- its span there
abbrev pub span_at : Ctx → Term → Span
span_at c t = span (context_of c) t

-- where the term has a span there, the shape is that interval
abbrev pub IsTightIn : Ctx → Term → Bounds → Type 0
IsTightIn c t b = IsTight (context_of c) t b

-- of a small term the shape is what is known of its value, the interval that of this shape, and the count likewise
abbrev pub IsExactShape : Ctx → Term → Bounds → Type 0
IsExactShape c t b = IsSmallTerm c.depth t → b ≡ shape_at c t

-- the same of the interval of a number
abbrev pub IsExactNumber : Ctx → Term → Interval → Type 0
IsExactNumber c t i = IsSmallTerm c.depth t → i ≡ transfer.interval_of (shape_at c t)

-- the same of the number of a set's members
abbrev pub IsExactCount : Ctx → Term → Interval → Type 0
IsExactCount c t i = IsSmallTerm c.depth t → i ≡ transfer.count_of (shape_at c t)

-- the second list is the first with a shape, or none, behind the others
abbrev pub PushesShape : GlobalShapes → Option Shape → GlobalShapes → Type 0
PushesShape old s new = shapes_in new ≡ shapes_in old ++ bounds_there s ∷ []

-- what is known of the value of a strict form of the code, by the shapes of its parts
abbrev pub bounds_by_strict : code_strict.Strict → List Shape → Bounds
bounds_by_strict f ss = transfer.strict_bounds (pure_strict f) (bounds_each ss)

-- the same of every form
abbrev pub bounds_by_form : Ctx → List Shape → code.Form → List Shape → Bounds
bounds_by_form c own f ss = transfer.form_bounds (ranges_below c own) (pure_form f) (bounds_each ss)

-- whether a node of the form has a value wherever its parts have
abbrev pub certain_by_form : GlobalShapes → code.Form → List Shape → Bool
certain_by_form g f ss = certainty.form_certain (is_shaped (shapes_in g)) (pure_form f) (bounds_each ss)

-- what the first context allows, the second allows at each list of values with which an evaluation comes to part i of the term
abbrev pub AllowsInside : Ctx → Core → ℕ → Ctx → Type 0
AllowsInside c t i r = (V : Outcomes) (vals : List Datum) → Allows V c vals → Every (λ new. Allows V r (new ++ vals)) (entered_in V vals (term_of t) i)
