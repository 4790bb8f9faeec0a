-- Intervals as spans.
use Rattle.std.specs.Prelude.{◌≡◌, ℕ, ◌≤◌, Option, Some, None}
use Rattle.nrca_term.specs.Firm.{Span, variable_span}
use Rattle.nrca_ranges.specs.Context.{facts_in}
use Rattle.nrca_ranges.specs.declared.context.Ctx.{Ctx}
use Rattle.nrca_ranges.specs.declared.interval.Interval.{Interval}

-- the least and the greatest number of an interval, where there is one
abbrev pub span_of : Option Interval → Span
span_of None = None
span_of (Some i) = Some (i.low, i.high)

-- the least number is not above the greatest
abbrev pub IsOrdered : Option Interval → Type 0
IsOrdered None = Unit {0}
IsOrdered (Some i) = i.low ≤ i.high

-- the same of a span
abbrev pub InOrder : Span → Type 0
InOrder s = (x : ℕ × ℕ) → s ≡ Some x → x.0 ≤ x.1

-- the span of variable i at the place of the context
abbrev pub span_of_variable : Ctx → ℕ → Span
span_of_variable c i = variable_span c.depth i (facts_in c.facts.items)
