-- Comparisons that the spans of their sides decide.
use Rattle.std.specs.Prelude.{◌≡◌, ℕ, zero, ◌<◌, ◌⊎◌, Bool, nat_lt, List, Option, Some, None, if◌then◌else◌}
use Rattle.aql_value.specs.Datum.{Datum, truth}
use Rattle.std.specs.declared.cmp.Ordering.TheVariants.{Less, Greater}
use Rattle.aql_value.specs.declared.ops.CompareOp.{CompareOp}
use Rattle.aql_value.specs.Ops.{compare_by}
use Rattle.aql_value.specs.Partial.{◌>>=◌}
use Rattle.aql_value.specs.Strict.{Strict}
use Rattle.nrca_term.specs.Term.{Term, node, none, part, Form}
use Rattle.nrca_term.specs.Facts.{Context, FactsHold}
use Rattle.nrca_term.specs.Meaning.{Outcomes, cden}
use Rattle.nrca_term.specs.Nodes.{compare_term}
use Rattle.nrca_term.specs.Firm.{Span, span}

-- by intervals of which one lies wholly below the other
abbrev pub decided_by : CompareOp → ℕ × ℕ → ℕ × ℕ → Option Bool
decided_by op x y = if nat_lt x.1 y.0 then Some (compare_by op Less) else (if nat_lt y.1 x.0 then Some (compare_by op Greater) else None)

-- by the spans of both sides
abbrev pub decision : CompareOp → Span → Span → Option Bool
decision op a b = a >>= λ x. b >>= decided_by op x

-- the truth value of a comparison that the spans of its sides decide
abbrev pub decided_of : Context → Term → Option Bool
decided_of c (node (Form.strict (Strict.compare op)) (part zero a (part zero b none))) = decision op (span c a) (span c b)
decided_of c _ = None

-- the comparison has that truth value, wherever the facts hold and both sides have values
abbrev pub DecidesTruth : Context → Term → Option Bool → Type 0
DecidesTruth c t o = (V : Outcomes) (vals : List Datum) → FactsHold V c vals → (op : CompareOp) (a b : Term) (v w : Datum) (k : Bool) →
    t ≡ compare_term op a b → o ≡ Some k → cden V vals a ≡ Some v → cden V vals b ≡ Some w → cden V vals t ≡ Some (truth k)

-- the comparison is decided, wherever its sides have spans of which one lies wholly below the other
abbrev pub DecidesApart : Context → Term → Option Bool → Type 0
DecidesApart c t o = (op : CompareOp) (a b : Term) (x y : ℕ × ℕ) → t ≡ compare_term op a b → span c a ≡ Some x → span c b ≡ Some y →
    (x.1 < y.0) ⊎ (y.1 < x.0) → (k : Bool) × (o ≡ Some k)
