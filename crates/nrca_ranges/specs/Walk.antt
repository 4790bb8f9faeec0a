-- The walk over a term: the facts of a place inside of it, and what is gathered of the parts of a node.
use Rattle.std.proofs.Common.{◌≡◌, ℕ, suc, ◌≤◌, ◌++◌, Bool, true, false, ◌&&◌, ◌||◌, List, [], ◌∷◌, length, map, take, drop, Option, Some, None, if◌then◌else◌}
use Rattle.aql_value.specs.declared.ops.ArithOp.{ArithOp}
use Rattle.aql_value.specs.Strict.{Strict}
use Rattle.nrca_term.specs.declared.term.Core.{Core}
use Rattle.nrca_term.specs.declared.form.Form as code
use Rattle.nrca_term.specs.View.{term_of, pure_form}
use Rattle.nrca_term.specs.Term.{Term, Parts, none, part, Form, form_of, parts_of, child_of}
use Rattle.nrca_term.specs.Facts.{Context, enter_facts}
use Rattle.nrca_term.specs.Firm as pure
use Rattle.nrca_ranges.specs.declared.context.Ctx.{Ctx}
use Rattle.nrca_ranges.specs.declared.context.Fact.{Fact}
use Rattle.nrca_ranges.specs.declared.interval.Interval.{Interval}
use Rattle.nrca_ranges.specs.declared.shape.Shape.{Shape}
use Rattle.nrca_ranges.specs.declared.walk.Gathered.{Gathered}
use Rattle.nrca_ranges.specs.declared.walk.Progress.{Progress}
use Rattle.nrca_ranges.specs.declared.walk.Told.{Told}
use Rattle.nrca_ranges.specs.Bounds.{Bounds, number, Ranges}
use Rattle.nrca_ranges.specs.Certain as certainty
use Rattle.nrca_ranges.specs.Context.{facts_in, context_of}
use Rattle.nrca_ranges.specs.Entered.{is_shaped}
use Rattle.nrca_ranges.specs.Shapes.{bounds_of, bounds_each, ranges_of, ranges_below}
use Rattle.nrca_ranges.specs.Spans.{span_of, IsOrdered}
use Rattle.nrca_ranges.specs.Intervals as intervals
use Rattle.nrca_ranges.specs.Transfer as transfer

-- the facts of a place inside of a term that stands at the context: its own behind the context's
abbrev pub facts_below : Ctx → List Fact → ℕ → Context
facts_below c own d = record { facts = facts_in c.facts.items ++ facts_in own; depth = d }

-- the span of a term of the code there
abbrev pub span_with : Ctx → List Fact → ℕ → Core → pure.Span
span_with c own d t = pure.span (facts_below c own d) (term_of t)

-- the span of variable i there
abbrev pub span_below : Ctx → List Fact → ℕ → ℕ → pure.Span
span_below c own d i = pure.variable_span d i (facts_in c.facts.items ++ facts_in own)

-- a form that is not arithmetic
abbrev pub IsOther : Form → Type 0
IsOther (Form.strict (Strict.arith op)) = ⊥
IsOther _ = Unit {0}

-- a truth value of a term at a place
abbrev pub Test : Type 0
Test = Ranges → Context → Term → Bool

-- whether the test holds of all parts from part i of a term on, each at its own place
abbrev pub all_true : Test → Ranges → Context → Term → ℕ → Parts → Bool
all_true T gs c t i none = true
all_true T gs c t i (part k u ps) = T (transfer.enter_ranges gs c t i) (enter_facts c t i) u && all_true T gs c t (suc i) ps

-- whether it holds of one of them
abbrev pub some_true : Test → Ranges → Context → Term → ℕ → Parts → Bool
some_true T gs c t i none = false
some_true T gs c t i (part k u ps) = T (transfer.enter_ranges gs c t i) (enter_facts c t i) u || some_true T gs c t (suc i) ps

-- whether it holds of all, or else of one of them
abbrev pub rest_true : Test → Ranges → Context → Term → Bool → ℕ → Parts → Bool
rest_true T gs c t all i ps = if all then all_true T gs c t i ps else some_true T gs c t i ps

-- whether it holds of the parts as the form of the term wants it
abbrev pub parts_true : Test → Ranges → Context → Term → Bool
parts_true T gs c t = rest_true T gs c t (pure.wants_all (form_of t)) 0 (parts_of t)

-- whether a term is firm, by the positions that have a shape
abbrev pub firm_in : Test
firm_in gs c t = pure.firm (is_shaped gs.positions) c t

-- both, or else one of them
abbrev pub gather_flags : Bool → Bool → Bool → Bool
gather_flags all a b = if all then a && b else a || b

-- what is told of a term at a place is true of it
pub record IsTold (gs : Ranges) (c : Context) (t : Term) (x : Told) : Type 0 where
  pub firm : x.firm ≡ firm_in gs c t
  pub certain : x.certain ≡ certainty.certain gs c t
  pub span : span_of x.span ≡ pure.span c t
  pub ordered : IsOrdered x.span
  pub shape : bounds_of x.shape ≡ transfer.bounds gs c t

-- the same in a context
abbrev pub IsToldIn : Ctx → Term → Told → Type 0
IsToldIn c t x = IsTold (ranges_of c) (context_of c) t x

-- what is told of a term, as data: whether it is firm, whether it is certain to have a value, its span, its shape
pub record Summary : Type 0 where
  pub firm : Bool
  pub certain : Bool
  pub span : pure.Span
  pub shape : Bounds

-- the four together
abbrev pub summary_with : Bool → Bool → pure.Span → Bounds → Summary
summary_with f c s b = record { firm = f; certain = c; span = s; shape = b }

-- what is told, as data
unfoldable pub summary_of : Told → Summary
summary_of x = summary_with x.firm x.certain (span_of x.span) (bounds_of x.shape)

-- what is to be told of a term at a place
unfoldable pub summary : Ranges → Context → Term → Summary
summary gs c t = summary_with (firm_in gs c t) (certainty.certain gs c t) (pure.span c t) (transfer.bounds gs c t)

-- the same of a part that is there, at its own place
abbrev pub part_summary : Ranges → Context → Term → ℕ → Option Term → List Summary
part_summary gs c t i None = []
part_summary gs c t i (Some u) = summary (transfer.enter_ranges gs c t i) (enter_facts c t i) u ∷ []

-- the same of the parts from part i of a term on
abbrev pub summaries : Ranges → Context → Term → ℕ → Parts → List Summary
summaries gs c t i none = []
summaries gs c t i (part k u ps) = summary (transfer.enter_ranges gs c t i) (enter_facts c t i) u ∷ summaries gs c t (suc i) ps

-- the data of a list
abbrev pub told_each : List Told → List Summary
told_each = map summary_of

-- whether the test holds of all of a list, or else of one of them
abbrev pub rest_of : Bool → (Summary → Bool) → List Summary → Bool
rest_of all T [] = all
rest_of all T (s ∷ ss) = gather_flags all (T s) (rest_of all T ss)

-- what is to be told of a term of the code inside of one that stands at the context, with these facts and shapes of its own
abbrev pub summary_below : Ctx → List Fact → List Shape → ℕ → Core → Summary
summary_below c own ss d t = summary (ranges_below c ss) (facts_below c own d) (term_of t)

-- the same of all its parts
abbrev pub summaries_below : Ctx → List Fact → List Shape → ℕ → Core → List Summary
summaries_below c own ss d t = summaries (ranges_below c ss) (facts_below c own d) (term_of t) 0 (parts_of (term_of t))

-- what is told of such a term
abbrev pub IsSummary : Ctx → List Fact → List Shape → ℕ → Core → Told → Type 0
IsSummary c own ss d t x = summary_of x ≡ summary_below c own ss d t

-- the shapes of variables that a walk has of its own
abbrev pub own_shapes : Progress → List Bounds
own_shapes p = bounds_each p.variables.items

-- a walk has the same facts and shapes of its own as before
abbrev pub KeepsFacts : Progress → Progress → Type 0
KeepsFacts p q = (facts_in q.facts.items ≡ facts_in p.facts.items) × (own_shapes q ≡ own_shapes p)

-- what is to be told of the parts of a term where a walk is
abbrev pub summaries_there : Ctx → ℕ → Core → Progress → List Summary
summaries_there c d t p = summaries_below c p.facts.items p.variables.items d t

-- what is told of the term stands behind what was told before
abbrev pub TellsOf : Ctx → ℕ → Core → Progress → Progress → Type 0
TellsOf c d t p q = told_each q.told.items ≡ told_each p.told.items ++ summary_below c p.facts.items p.variables.items d t ∷ []

-- the same of part i, where it is there
abbrev pub TellsOfPart : Ctx → ℕ → Core → ℕ → Progress → Progress → Type 0
TellsOfPart c d t i p q =
    told_each q.told.items
    ≡ told_each p.told.items ++ part_summary (ranges_below c p.variables.items) (facts_below c p.facts.items d) (term_of t) i (child_of (parts_of (term_of t)) i)

-- behind the first n of what was told stands what is told of the parts of the term
abbrev pub HoldsParts : Ctx → ℕ → Core → ℕ → Progress → Type 0
HoldsParts c d t n p = (n ≤ length p.told.items) × (drop n (told_each p.told.items) ≡ summaries_there c d t p)

-- so of its first i parts
abbrev pub HoldsFirst : Ctx → ℕ → Core → ℕ → ℕ → Progress → Type 0
HoldsFirst c d t n i p = (n ≤ length p.told.items) × (drop n (told_each p.told.items) ≡ take i (summaries_there c d t p))

-- what is told of the term has taken their place
abbrev pub ClosesNode : Ctx → ℕ → Core → ℕ → Progress → Progress → Type 0
ClosesNode c d t n p q = told_each q.told.items ≡ take n (told_each p.told.items) ++ summary_below c p.facts.items p.variables.items d t ∷ []

-- the interval of the number that is told of
abbrev pub number_told : Told → Interval
number_told x = transfer.interval_of (bounds_of x.shape)

-- what is told of an arithmetic node, from what is told of its sides and the number that the second one is
pub record IsArithTold (op : ArithOp) (a b : Told) (n : Option ℕ) (x : Told) : Type 0 where
  pub firm : x.firm ≡ (pure.arith_firm op (span_of x.span) n && (a.firm && (b.firm && true)))
  pub certain : x.certain ≡ (x.firm || (intervals.always_fits op (number_told a) (number_told b) && (a.certain && (b.certain && true))))
  pub span : span_of x.span ≡ pure.arith_span op (span_of a.span) (span_of b.span) n
  pub ordered : IsOrdered x.span
  pub shape : bounds_of x.shape ≡ transfer.by_span (span_of x.span) (number (intervals.arith_interval op (number_told a) (number_told b)))

-- what is told of all parts of a term, and their shapes, is true of them
pub record AreTold (gs : Ranges) (c : Context) (t : Term) (x : Gathered) (ss : List Shape) : Type 0 where
  pub firm : x.firm ≡ parts_true firm_in gs c t
  pub certain : x.certain ≡ parts_true certainty.certain gs c t
  pub shapes : bounds_each ss ≡ transfer.parts_bounds gs c t

-- the parts gathered: whether all, or else one of them, are so
pub record IsGathered (all : Bool) (ss : List Summary) (x : Gathered) : Type 0 where
  pub firm : x.firm ≡ rest_of all (λ s. s.firm) ss
  pub certain : x.certain ≡ rest_of all (λ s. s.certain) ss

-- the first list with these shapes behind it
abbrev pub AddsBounds : List Shape → List Bounds → List Shape → Type 0
AddsBounds old bs new = bounds_each new ≡ bounds_each old ++ bs

-- what is known of the variables that a node of the form binds in part i, by what is told of the parts before it
abbrev pub own_told : code.Form → ℕ → List Told → List Bounds
own_told f i xs = transfer.own_bounds (pure_form f) i (map (λ s. s.shape) (told_each xs))

-- the same of a node of the code
abbrev pub entered_bounds : Core → ℕ → List Told → List Bounds
entered_bounds t i xs = transfer.own_bounds (form_of (term_of t)) i (map (λ s. s.shape) (told_each xs))

-- with that shape behind it
abbrev pub AddsShape : List Shape → Bounds → List Shape → Type 0
AddsShape old b new = bounds_each new ≡ bounds_each old ++ b ∷ []

-- the shape of the first of which something is told
abbrev pub first_shape : List Told → Bounds
first_shape xs = transfer.entry_at (map (λ s. s.shape) (told_each xs)) 0

-- the shapes of the indices below the first numbers of which something is told
abbrev pub indices_told : ℕ → List Told → List Bounds
indices_told rank xs = map transfer.index_below (transfer.first_intervals rank (map (λ s. s.shape) (told_each xs)))

-- of the indices below all of them
abbrev pub each_index : List Told → List Bounds
each_index xs = map transfer.index_below (map transfer.interval_of (map (λ s. s.shape) (told_each xs)))

-- what is told before part i of a node that stands at the context is what the variables that the node binds there need
abbrev pub HasFirst : Ctx → Core → ℕ → List Told → Type 0
HasFirst c t i xs = entered_bounds t i xs ≡ transfer.own_bounds (form_of (term_of t)) i (take i (transfer.parts_bounds (ranges_of c) (context_of c) (term_of t)))
