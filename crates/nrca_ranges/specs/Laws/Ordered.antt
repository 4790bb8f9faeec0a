-- Spans have their least number not above the greatest.
use Rattle.std.proofs.Common.{◌≡◌, ℕ, zero, suc, ◌+◌, ◌*◌, ◌-◌, ◌≤◌, Bool, true, false, nat_eq, List, [], ◌∷◌, Option, Some, None, sym, ap, arith, if◌then◌else◌}
use Rattle.std.proofs.lemmas.Nat.{mul-le}
use Rattle.std.proofs.lemmas.Option.{same_Some}
use Rattle.aql_value.specs.declared.ops.ArithOp.{ArithOp}
use Rattle.aql_value.specs.declared.ops.ArithOp.TheVariants.{Add, Monus, Mul, Quotient, Remainder}
use Rattle.aql_value.specs.Partial.{◌>>=◌}
use Rattle.aql_value.specs.Laws.Partial.{then-is}
use Rattle.aql_value.specs.Strict.{Strict}
use Rattle.nrca_term.specs.Term.{Term, node, none, part, Form}
use Rattle.nrca_term.specs.Facts.{Known, domain, test, denied, Fact, Context}
use Rattle.nrca_term.specs.Firm.{Span, number_of, as_variable, as_less, within_range, arith_span, is_domain, bounded_variable, fact_span, or_span, variable_span, span}
use Rattle.nrca_rule_laws.specs.Laws.Spans.{range-is}
use Rattle.nrca_ranges.specs.declared.interval.Interval.{Interval}
use Rattle.nrca_ranges.specs.Spans.{span_of, IsOrdered, InOrder}

-- what arithmetic makes of spans
arith-order : (op : ArithOp) (a b : Span) (n : Option ℕ) → InOrder a → InOrder b → InOrder (arith_span op a b n)
arith-order Add a b n h k x e =
    let p = then-is a (λ x. b >>= λ y. within_range (x.0 + y.0) (x.1 + y.1)) x e in
    let q = then-is b (λ y. within_range (p.0.0 + y.0) (p.0.1 + y.1)) x p.2 in
    let r = range-is (p.0.0 + q.0.0) (p.0.1 + q.0.1) x q.2 in
    omega (arith, ap (λ y. y.0) r, ap (λ y. y.1) r, h p.0 p.1, k q.0 q.1)
arith-order Mul a b n h k x e =
    let p = then-is a (λ x. b >>= λ y. within_range (x.0 * y.0) (x.1 * y.1)) x e in
    let q = then-is b (λ y. within_range (p.0.0 * y.0) (p.0.1 * y.1)) x p.2 in
    let r = range-is (p.0.0 * q.0.0) (p.0.1 * q.0.1) x q.2 in
    omega (arith, ap (λ y. y.0) r, ap (λ y. y.1) r, mul-le p.0.0 q.0.0 p.0.1 q.0.1 (h p.0 p.1) (k q.0 q.1))
arith-order Monus a b n h k x e =
    let p = then-is a (λ x. Some (0, x.1)) x e in
    omega (arith, ap (λ y. y.0) (same_Some (0, p.0.1) x p.2))
arith-order Quotient a b None h k x e = cc
arith-order Quotient a b (Some zero) h k x e = cc
arith-order Quotient a b (Some (suc m)) h k x e =
    let p = then-is a (λ x. Some (0, x.1)) x e in
    omega (arith, ap (λ y. y.0) (same_Some (0, p.0.1) x p.2))
arith-order Remainder a b None h k x e = cc
arith-order Remainder a b (Some zero) h k x e = cc
arith-order Remainder a b (Some (suc m)) h k x e = omega (arith, ap (λ y. y.0) (same_Some (0, suc m - 1) x e))

-- the interval below a number
below-order : (n : ℕ) (x : ℕ × ℕ) (b : Bool) → (if b then Some (0, n - 1) else None) ≡ Some x → x.0 ≤ x.1
below-order n x true e = omega (arith, ap (λ q. q.0) (same_Some (0, n - 1) x e))
below-order n x false e = cc

-- what one fact says of a variable
fact-order : (d i : ℕ) (f : Fact) → InOrder (fact_span d i f)
fact-order d i f x e = at f.known e
  where
    found : (as_less f.comparison >>= bounded_variable i (d - f.depth)) ≡ Some x → x.0 ≤ x.1
    found q =
        let k : ℕ = d - f.depth in
        let p = then-is (as_less f.comparison) (bounded_variable i k) x q in
        let j = then-is (as_variable p.0.0) (λ j. number_of p.0.1 >>= λ n. if nat_eq i (j + k) then Some (0, n - 1) else None) x p.2 in
        let n = then-is (number_of p.0.1) (λ n. if nat_eq i (j.0 + k) then Some (0, n - 1) else None) x j.2 in
        below-order n.0 x (nat_eq i (j.0 + k)) n.2

    at : (w : Known) → (if is_domain w then (as_less f.comparison >>= bounded_variable i (d - f.depth)) else None) ≡ Some x → x.0 ≤ x.1
    at domain q = found q
    at test q = cc
    at denied q = cc

-- what the first fact with a bound says
variable-order : (d i : ℕ) (F : List Fact) → InOrder (variable_span d i F)
variable-order d i [] x e = cc
variable-order d i (f ∷ F) x e = at (λ l. variable-order d i F x l) (fact_span d i f) (fact-order d i f x) e
  where
    at : (variable_span d i F ≡ Some x → x.0 ≤ x.1) → (o : Span) → (o ≡ Some x → x.0 ≤ x.1) → or_span o (variable_span d i F) ≡ Some x → x.0 ≤ x.1
    at later (Some y) h l = h l
    at later None h l = later l

-- the span of a term
pub span-order : (c : Context) (t : Term) → InOrder (span c t)
span-order c (node (Form.var i) none) x e = variable-order c.depth i c.facts x e
span-order c (node (Form.strict (Strict.nat n)) none) x e = let r = same_Some (n, n) x e in omega (arith, ap (λ q. q.0) r, ap (λ q. q.1) r)
span-order c (node (Form.strict (Strict.arith op)) (part zero a (part zero b none))) x e = arith-order op (span c a) (span c b) (number_of b) (span-order c a) (span-order c b) x e
span-order c _ x e = cc

-- so an interval that is a term's span is ordered
pub ordered-is : (o : Option Interval) (s : Span) → span_of o ≡ s → InOrder s → IsOrdered o
ordered-is None s e h = tt
ordered-is (Some i) s e h = h (i.low, i.high) (sym e)
