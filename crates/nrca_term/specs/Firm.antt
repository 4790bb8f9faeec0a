-- Spans of terms, and the terms that are sure or firm to have a value.
use Rattle.std.specs.Prelude.{ℕ, zero, suc, ◌+◌, ◌*◌, ◌-◌, ◌^◌, Bool, true, false, ◌&&◌, ◌||◌, nat_lt, nat_eq, is_some, List, [], ◌∷◌, Option, Some, None, if◌then◌else◌}
use Rattle.aql_value.specs.declared.ops.ArithOp.{ArithOp}
use Rattle.aql_value.specs.declared.ops.ArithOp.TheVariants.{Add, Monus, Mul, Quotient, Remainder}
use Rattle.aql_value.specs.declared.ops.CompareOp.TheVariants as compare_op
use Rattle.aql_value.specs.Partial.{◌>>=◌}
use Rattle.aql_value.specs.Strict.{Strict}
use Rattle.nrca_term.specs.Term.{Term, Parts, node, none, part, Form}
use Rattle.nrca_term.specs.Meaning.{Outcomes, outcome}
use Rattle.nrca_term.specs.Facts.{Known, domain, test, denied, Fact, Context, enter_facts}

-- the least and the greatest number that a term may be, where they are told
abbrev pub Span : Type 0
Span = Option (ℕ × ℕ)

-- the number that a term is
abbrev pub number_of : Term → Option ℕ
number_of (node (Form.strict (Strict.nat n)) none) = Some n
number_of _ = None

-- the number of the variable that a term is
abbrev pub as_variable : Term → Option ℕ
as_variable (node (Form.var j) none) = Some j
as_variable _ = None

-- the sides of a comparison by <
abbrev pub as_less : Term → Option (Term × Term)
as_less (node (Form.strict (Strict.compare compare_op.Less)) (part zero a (part zero b none))) = Some (a, b)
as_less _ = None

-- the interval, where its greatest stays below 2^128
abbrev pub within_range : ℕ → ℕ → Span
within_range low high = if nat_lt high (2 ^ 128) then Some (low, high) else None

-- a span of two spans, none where one is wanting
abbrev pub both : Span → Span → (ℕ × ℕ → ℕ × ℕ → Span) → Span
both a b f = a >>= λ x. b >>= f x

-- by a number other than 0
abbrev pub by_number : Option ℕ → (ℕ → Span) → Span
by_number None f = None
by_number (Some zero) f = None
by_number (Some (suc n)) f = f (suc n)

-- by the sides' spans and the number that the second side is
abbrev pub arith_span : ArithOp → Span → Span → Option ℕ → Span
arith_span Add a b n = both a b (λ x y. within_range (x.0 + y.0) (x.1 + y.1))
arith_span Mul a b n = both a b (λ x y. within_range (x.0 * y.0) (x.1 * y.1))
arith_span Monus a b n = a >>= λ x. Some (0, x.1)
arith_span Quotient a b n = by_number n (λ m. a >>= λ x. Some (0, x.1))
arith_span Remainder a b n = by_number n (λ m. Some (0, m - 1))

-- whether the fact comes from a tabulation's or a loop's bound
abbrev pub is_domain : Known → Bool
is_domain domain = true
is_domain test = false
is_domain denied = false

-- variable i, where k variables more stand around the comparison of the two sides
abbrev pub bounded_variable : ℕ → ℕ → Term × Term → Span
bounded_variable i k p = as_variable p.0 >>= λ j. number_of p.1 >>= λ n. if nat_eq i (j + k) then Some (0, n - 1) else None

-- what a fact among d variables says of variable i: below the number n it is 0 to n-1, and 0 for n = 0
abbrev pub fact_span : ℕ → ℕ → Fact → Span
fact_span d i f = if is_domain f.known then (as_less f.comparison >>= bounded_variable i (d - f.depth)) else None

-- the first span, or the second where there is none
abbrev pub or_span : Span → Span → Span
or_span (Some x) s = Some x
or_span None s = s

-- the span of a variable, by the first of the facts that gives it one
abbrev pub variable_span : ℕ → ℕ → List Fact → Span
variable_span d i [] = None
variable_span d i (f ∷ F) = or_span (fact_span d i f) (variable_span d i F)

-- the span of a term at a place with these facts
abbrev pub span : Context → Term → Span
span c (node (Form.var i) none) = variable_span c.depth i c.facts
span c (node (Form.strict (Strict.nat n)) none) = Some (n, n)
span c (node (Form.strict (Strict.arith op)) (part zero a (part zero b none))) = arith_span op (span c a) (span c b) (number_of b)
span c _ = None

-- whether the position has a value
abbrev pub is_defined : Outcomes → ℕ → Bool
is_defined V n = is_some (outcome V n)

-- the strict forms of which a sure term is built
abbrev pub strict_sure : Strict → Bool
strict_sure (Strict.nat n) = true
strict_sure (Strict.bool b) = true
strict_sure (Strict.text s) = true
strict_sure Strict.bottom = false
strict_sure Strict.tuple = true
strict_sure (Strict.proj at of) = true
strict_sure (Strict.arith Add) = false
strict_sure (Strict.arith Monus) = true
strict_sure (Strict.arith Mul) = false
strict_sure (Strict.arith Quotient) = false
strict_sure (Strict.arith Remainder) = false
strict_sure (Strict.compare op) = true
strict_sure Strict.empty = true
strict_sure Strict.single = true
strict_sure Strict.union = true
strict_sure Strict.gen = true
strict_sure Strict.get = false
strict_sure Strict.sub = false
strict_sure (Strict.dim rank) = true
strict_sure (Strict.index rank) = false
strict_sure (Strict.literal rank) = false

-- the forms of which a sure term is built, D telling which positions are defined
abbrev pub form_sure : (ℕ → Bool) → Form → Bool
form_sure D (Form.var i) = true
form_sure D (Form.global n) = D n
form_sure D Form.bind = true
form_sure D Form.choose = true
form_sure D Form.default = true
form_sure D Form.big_union = true
form_sure D Form.sum = false
form_sure D (Form.tab rank) = true
form_sure D (Form.strict s) = strict_sure s

-- a default wants one of its parts, every other form all
abbrev pub wants_all : Form → Bool
wants_all (Form.var i) = true
wants_all (Form.global n) = true
wants_all Form.bind = true
wants_all Form.choose = true
wants_all Form.default = false
wants_all Form.big_union = true
wants_all Form.sum = true
wants_all (Form.tab rank) = true
wants_all (Form.strict s) = true

abbrev mutual
  -- a term that is sure to have a value, by its forms alone
  pub sure : (ℕ → Bool) → Term → Bool
  sure D (node f ps) = form_sure D f && (if wants_all f then all_sure D ps else some_sure D ps)

  -- whether every part is sure to have a value, facts aside
  pub all_sure : (ℕ → Bool) → Parts → Bool
  all_sure D none = true
  all_sure D (part k t ps) = sure D t && all_sure D ps

  -- whether some part is sure to have a value, facts aside
  pub some_sure : (ℕ → Bool) → Parts → Bool
  some_sure D none = false
  some_sure D (part k t ps) = sure D t || some_sure D ps

-- an arithmetic node that has a value where its parts have: a sum or product with a span, a monus, a quotient or remainder by a number other than 0
abbrev pub arith_firm : ArithOp → Span → Option ℕ → Bool
arith_firm Add s n = is_some s
arith_firm Monus s n = true
arith_firm Mul s n = is_some s
arith_firm Quotient s n = is_some (by_number n (λ m. Some (0, m)))
arith_firm Remainder s n = is_some (by_number n (λ m. Some (0, m)))

-- the number that a node's second part is
abbrev pub second_number : Parts → Option ℕ
second_number (part k a (part l b none)) = number_of b
second_number _ = None

-- whether an operation whose parts are firm has a value: arithmetic by the spans, the others by their form
abbrev pub strict_firm : Strict → Span → Parts → Bool
strict_firm (Strict.arith op) s ps = arith_firm op s (second_number ps)
strict_firm c s ps = strict_sure c

-- the forms of which a firm term is built: the sure ones, and arithmetic by its span
abbrev pub form_firm : (ℕ → Bool) → Form → Span → Parts → Bool
form_firm D (Form.strict c) s ps = strict_firm c s ps
form_firm D f s ps = form_sure D f

abbrev mutual
  -- a term that is firm to have a value at a place with these facts; each part at its own place
  pub firm : (ℕ → Bool) → Context → Term → Bool
  firm D c (node f ps) =
      form_firm D f (span c (node f ps)) ps && (if wants_all f then all_firm D c (node f ps) 0 ps else some_firm D c (node f ps) 0 ps)

  -- all of the parts from part i of a term on
  pub all_firm : (ℕ → Bool) → Context → Term → ℕ → Parts → Bool
  all_firm D c t i none = true
  all_firm D c t i (part k u ps) = firm D (enter_facts c t i) u && all_firm D c t (suc i) ps

  -- one of the parts from part i of a term on
  pub some_firm : (ℕ → Bool) → Context → Term → ℕ → Parts → Bool
  some_firm D c t i none = false
  some_firm D c t i (part k u ps) = firm D (enter_facts c t i) u || some_firm D c t (suc i) ps
