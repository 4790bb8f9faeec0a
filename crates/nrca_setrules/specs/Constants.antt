-- Constants beside one another, and dimensions that are written as numbers.
use Rattle.std.specs.Prelude.{◌≡◌, ℕ, ◌⊎◌, Bool, List, length, map, Option, Some, None}
use Rattle.aql_value.specs.declared.ops.ArithOp.{ArithOp}
use Rattle.aql_value.specs.declared.ops.CompareOp.{CompareOp}
use Rattle.aql_value.specs.Datum as datum
use Rattle.aql_value.specs.Datum.{Datum}
use Rattle.aql_value.specs.Indices.{product}
use Rattle.aql_value.specs.Ops.{arith_by, compare_by}
use Rattle.aql_value.specs.Order.{datum_cmp}
use Rattle.aql_value.specs.Strict.{Strict}
use Rattle.nrca_term.specs.Term.{Term, node, none, Form}
use Rattle.nrca_term.specs.Nodes.{number, truth_term, text_term}
use Rattle.nrca_term.specs.Rules.{number_or_bottom}

-- two numbers
abbrev pub AreNumbers : Term → Term → Type 0
AreNumbers x y = (m n : ℕ) × (x ≡ number m) × (y ≡ number n)

-- two truth values
abbrev pub AreTruths : Term → Term → Type 0
AreTruths x y = (a b : Bool) × (x ≡ truth_term a) × (y ≡ truth_term b)

-- two strings
abbrev pub AreTexts : Term → Term → Type 0
AreTexts x y = (s t : List ℕ) × (x ≡ text_term s) × (y ≡ text_term t)

-- two numbers, two truth values or two strings
abbrev pub AreAlike : Term → Term → Type 0
AreAlike x y = AreNumbers x y ⊎ (AreTruths x y ⊎ AreTexts x y)

-- the value of a number, a truth value or a string; none of another term
abbrev pub constant_of : Term → Option Datum
constant_of (node (Form.strict (Strict.nat n)) none) = Some (datum.natural n)
constant_of (node (Form.strict (Strict.bool b)) none) = Some (datum.truth b)
constant_of (node (Form.strict (Strict.text s)) none) = Some (datum.text s)
constant_of _ = None

-- the third term is what the operation makes of the first two, where they are numbers
abbrev pub Computes : ArithOp → (x y r : Term) → Type 0
Computes op x y r =
    (m n : ℕ) → x ≡ number m → y ≡ number n → r ≡ number_or_bottom (arith_by op m n)

-- the third term is whether the comparison holds of the first two, where they are constants
abbrev pub Compares : CompareOp → (x y r : Term) → Type 0
Compares op x y r =
    (u v : Datum) → constant_of x ≡ Some u → constant_of y ≡ Some v →
    r ≡ truth_term (compare_by op (datum_cmp u v))

-- the dimensions are numbers, and the cells not as many as their product
abbrev pub IsMisshapen : List Term → List Term → Type 0
IsMisshapen ds cs = (ns : List ℕ) × (ds ≡ map number ns) × (product ns ≡ length cs → ⊥)
