-- When a rule may be applied at a place, and what the code tells of that.
use Rattle.std.proofs.Common.{◌≡◌, ◌≢◌, ℕ, ◌<◌, ◌⊎◌, Bool, true, false, List, [], ◌∷◌, Option, Some, None}
use Rattle.aql_value.specs.declared.ops.CompareOp.{CompareOp}
use Rattle.aql_value.specs.Datum.{Datum}
use Rattle.aql_value.specs.Lists.{Every}
use Rattle.aql_ty.specs.Types.{Ty}
use Rattle.aql_ty.specs.ValueTypes.{HaveTypes}
use Rattle.nrca_term.specs.declared.trace.Rule.{Rule}
use Rattle.nrca_term.specs.declared.trace.Rule.TheVariants.{C4}
use Rattle.nrca_term.specs.Term.{Term}
use Rattle.nrca_term.specs.Nodes.{truth_term, compare_term}
use Rattle.nrca_term.specs.Meaning.{Outcomes}
use Rattle.nrca_term.specs.Typing.{ctyped, instances, OutcomesHave}
use Rattle.nrca_term.specs.Places.{place_of}
use Rattle.nrca_term.specs.Facts.{Context, enter_facts, context_at, Literally}
use Rattle.nrca_term.specs.Firm.{span}
use Rattle.nrca_term.specs.Rules.{Way, Redex, Side, KnownAt, IsComparison}
use Rattle.nrca_term.specs.Normal.{FirmAt, IsNormalAt}
use Rattle.nrca_rule_laws.specs.Fitting.{RuleFits, IsRight}
use Rattle.nrca_ranges.specs.declared.context.Ctx.{Ctx}
use Rattle.nrca_ranges.specs.Bounds.{Ranges}
use Rattle.nrca_ranges.specs.Context.{context_of}
use Rattle.nrca_ranges.specs.Entered.{is_shaped}
use Rattle.nrca_ranges.specs.Shapes.{Tells, PlaceHolds, ranges_of}
use Rattle.nrca_ranges.specs.Transfer.{ranges_at}
use Rattle.nrca_defined.specs.Defined.{IsDefinedAt}
use Rattle.nrca_normal.specs.declared.firing.Firing.{Firing}
use Rattle.nrca_normal.specs.declared.firing.Firing.TheVariants.{Plain, Decided}

-- the term at the end of the way is sure to have a value at its place
abbrev pub IsDefinedAlong : Ranges → Context → Term → Way → Type 0
IsDefinedAlong gs c t w = (s : Term) → place_of t w ≡ Some s → IsDefinedAt (ranges_at gs c t w) (context_at enter_facts c t w) s

-- the answer is true only where the term at the end of the way is sure to have a value, and wherever it is firm
unfoldable pub TellsAt : Ranges → Context → Term → Way → Bool → Type 0
TellsAt gs c t w b = (b ≡ true → IsDefinedAlong gs c t w) × (FirmAt (is_shaped gs.positions) c t w → b ≡ true)

-- the same of the terms at the ends of all ways
unfoldable pub TellsAll : Ranges → Context → Term → List Way → Bool → Type 0
TellsAll gs c t ws b = (b ≡ true → Every (IsDefinedAlong gs c t) ws) × (Every (FirmAt (is_shaped gs.positions) c t) ws → b ≡ true)

-- the same in a context: of one way
abbrev pub TellsWay : Ctx → Term → Way → Bool → Type 0
TellsWay c t w b = TellsAt (ranges_of c) (context_of c) t w b

-- of all ways
abbrev pub TellsWays : Ctx → Term → List Way → Bool → Type 0
TellsWays c t ws b = TellsAll (ranges_of c) (context_of c) t ws b

-- the rule that is applied
abbrev pub name_of : Firing → Rule
name_of (Plain R) = R
name_of (Decided b) = C4

-- the right side has the truth value that ranges give
abbrev pub Chooses : Firing → Term → Type 0
Chooses (Plain R) r = Unit {0}
Chooses (Decided b) r = r ≡ truth_term b

-- the rule fits, and its right side is fixed
abbrev pub IsApplicable : Firing → Term → Type 0
IsApplicable (Plain R) t = (R ≢ C4) × RuleFits R true t
IsApplicable (Decided b) t = IsComparison t

-- the right side that is made
abbrev pub IsMade : Firing → Term → Term → Type 0
IsMade f t r = IsRight (name_of f) t r × Chooses f r

-- The condition of a rule holds with a right side wherever the term is typed, the shapes tell of the outcomes and of the variables, and the facts hold.
unfoldable pub HasCondition : Ranges → Context → Rule → Term → Term → List Way → Type 0
HasCondition gs c R t r ws =
    (given : List Ty) (V : Outcomes) (env : List Ty) (vals : List Datum) (T : Ty) →
    OutcomesHave (instances given) V → HaveTypes env vals → Tells gs.positions V → PlaceHolds V gs c vals → ctyped (instances given) env t T → Side V R vals t r ws

-- A rewriting may be done at a node: its rule fits, knows what it must know of the place, and its condition holds.
pub record MayFire (gs : Ranges) (c : Context) (t : Term) (f : Firing) : Type 0 where
  pub applicable : IsApplicable f t
  pub known : KnownAt (name_of f) c t
  pub condition : (r : Term) (ws : List Way) → Redex (name_of f) t r ws → Chooses f r → HasCondition gs c (name_of f) t r ws

-- The rule does not fit, or one of the terms that it wants defined is not firm.
unfoldable pub IsRefused : Ranges → Context → Rule → Term → Type 0
IsRefused gs c R t = (r : Term) (ws : List Way) → Redex R t r ws → Every (FirmAt (is_shaped gs.positions) c t) ws → ⊥

-- whether a rule may be applied
abbrev pub TellsRule : Ctx → Rule → Term → Bool → Type 0
TellsRule c R t true = MayFire (ranges_of c) (context_of c) t (Plain R)
TellsRule c R t false = IsRefused (ranges_of c) (context_of c) R t

-- the same in a context, as a property of rules
abbrev pub IsRefusedAt : Ctx → Term → Rule → Type 0
IsRefusedAt c t R = IsRefused (ranges_of c) (context_of c) R t

-- the comparison is no fact of the place, whatever its truth value
unfoldable pub IsUnknown : Context → Term → Type 0
IsUnknown c t = (b : Bool) → IsComparison t → Literally c b t → ⊥

-- the term is no comparison of two firm sides with spans of which one lies wholly below the other
unfoldable pub IsUndecided : Ranges → Context → Term → Type 0
IsUndecided gs c t =
    (op : CompareOp) (a b : Term) (x y : ℕ × ℕ) → t ≡ compare_term op a b → Every (FirmAt (is_shaped gs.positions) c t) ((0 ∷ []) ∷ (1 ∷ []) ∷ []) →
    span c a ≡ Some x → span c b ≡ Some y → (x.1 < y.0) ⊎ (y.1 < x.0) → ⊥

-- which check of a comparison may be applied
abbrev pub TellsChecks : Ctx → Term → Option Firing → Type 0
TellsChecks c t (Some f) = MayFire (ranges_of c) (context_of c) t f
TellsChecks c t None = IsUnknown (context_of c) t × IsUndecided (ranges_of c) (context_of c) t

-- the same of a context
abbrev pub IsUnknownAt : Ctx → Term → Type 0
IsUnknownAt c t = IsUnknown (context_of c) t

-- normal at a place, by the positions that have a shape
abbrev pub IsQuietAt : Ranges → Context → Term → Type 0
IsQuietAt gs c t = IsNormalAt (is_shaped gs.positions) c t

-- which rewriting may be done at a node
abbrev pub TellsNode : Ctx → Term → Option Firing → Type 0
TellsNode c t (Some f) = MayFire (ranges_of c) (context_of c) t f
TellsNode c t None = IsQuietAt (ranges_of c) (context_of c) t
