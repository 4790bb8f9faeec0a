-- What follows from the definitions of `Spans`.
use Rattle.std.proofs.Common.{◌≡◌, ℕ, zero, suc, ◌+◌, ◌*◌, ◌-◌, ◌<◌, ◌≤◌, ◌/◌, ◌%◌, ◌^◌, Bool, true, false, cond, nat_lt, nat_eq, List, [], ◌∷◌, drop, Option, Some, None, refl, sym, ap, ◌∙◌, arith, if◌then◌else◌}
use Rattle.std.specs.List.{slice_get}
use Rattle.std.proofs.lemmas.Bool.{eqb-true, ltb-true}
use Rattle.std.proofs.lemmas.Nat.{mul-le}
use Rattle.std.proofs.lemmas.Option.{cond_some, same_Some}
use Rattle.std.proofs.Math.Nat.{div-le_self}
use Rattle.aql_value.specs.declared.ops.ArithOp.{ArithOp}
use Rattle.aql_value.specs.declared.ops.ArithOp.TheVariants.{Add, Monus, Mul, Quotient, Remainder}
use Rattle.aql_value.specs.declared.ops.CompareOp.TheVariants.{Less}
use Rattle.aql_value.specs.Datum as datum
use Rattle.aql_value.specs.Datum.{Datum, natural, truth}
use Rattle.aql_value.specs.Arith.{if_fits}
use Rattle.aql_value.specs.Ops.{arith_by, compare_by}
use Rattle.aql_value.specs.Operations.{as_natural, arith_of}
use Rattle.aql_value.specs.Laws.Operations as operations
use Rattle.aql_value.specs.Order.{datum_cmp}
use Rattle.aql_value.specs.Partial.{◌>>=◌}
use Rattle.aql_value.specs.Laws.Partial.{then-is}
use Rattle.aql_value.specs.Strict.{Strict, strict_value}
use Rattle.aql_value.specs.Lists.{Every}
use Rattle.nrca_term.specs.Term.{Term, node, none, part, Form}
use Rattle.nrca_term.specs.Nodes.{number, variable, less_term}
use Rattle.nrca_term.specs.Meaning.{Outcomes, cden}
use Rattle.nrca_term.specs.Facts.{Known, domain, test, denied, truth_of, Fact, Context, Holds, FactsHold}
use Rattle.nrca_term.specs.Laws.Facts.{natural-is}
use Rattle.nrca_term.specs.Firm.{Span, number_of, as_variable, as_less, within_range, arith_span, is_domain, bounded_variable, fact_span, or_span, variable_span, span}
use Rattle.nrca_term.specs.Laws.Variants.{cden-strict}
use Rattle.nrca_rule_laws.specs.Spans.{IsInSpan, Between}

-- the values of two parts, and what is made of them
pub two-values : (V : Outcomes) (vals : List Datum) (s : Strict) (a b : Term) (v : Datum) → cden V vals (node (Form.strict s) (part 0 a (part 0 b none))) ≡ Some v →
    (w : Datum) × (x : Datum) × (cden V vals a ≡ Some w) × (cden V vals b ≡ Some x) × (strict_value s (w ∷ x ∷ []) ≡ Some v)
two-values V vals s a b v e = go (cden V vals a) (cden V vals b) refl refl (sym (cden-strict V vals s (a ∷ b ∷ [])) ∙ e)
  where
    go : (o p : Option Datum) → cden V vals a ≡ o → cden V vals b ≡ p → ((o >>= λ y. (p >>= λ z. Some (z ∷ [])) >>= λ ys. Some (y ∷ ys)) >>= strict_value s) ≡ Some v →
        (w : Datum) × (x : Datum) × (cden V vals a ≡ Some w) × (cden V vals b ≡ Some x) × (strict_value s (w ∷ x ∷ []) ≡ Some v)
    go None p i j k = cc
    go (Some w) None i j k = cc
    go (Some w) (Some x) i j k = (w, x, i, j, k)

-- arithmetic has a value where both sides are numbers and its result is
pub two-numbers : (op : ArithOp) (w x v : Datum) → arith_of op w x ≡ Some v → (m : ℕ) × (n : ℕ) × (k : ℕ) × (w ≡ natural m) × (x ≡ natural n) × (arith_by op m n ≡ Some k) × (v ≡ natural k)
two-numbers op w x v e =
    let p = then-is (as_natural w) (λ m. as_natural x >>= λ n. arith_by op m n >>= λ k. Some (natural k)) v e in
    let q = then-is (as_natural x) (λ n. arith_by op p.0 n >>= λ k. Some (natural k)) v p.2 in
    let r = then-is (arith_by op p.0 q.0) (λ k. Some (natural k)) v q.2 in
    (p.0, q.0, r.0, natural-is w p.0 p.1, natural-is x q.0 q.1, r.1, sym (same_Some (natural r.0) v r.2))

-- a number in an interval is between its ends
pub number-is : (m : ℕ) (x : ℕ × ℕ) → IsInSpan x (natural m) → (x.0 ≤ m) × (m ≤ x.1)
number-is m x h = let y : m ≡ h.0 = same_Some m h.0 (ap as_natural h.1) in (omega (arith, h.2, y), omega (arith, h.3, y))

-- an interval that stays below 2^128
pub range-is : (low high : ℕ) (x : ℕ × ℕ) → within_range low high ≡ Some x → (low, high) ≡ x
range-is low high x e = at (nat_lt high (2 ^ 128)) e
  where
    at : (b : Bool) → (if b then Some (low, high) else None) ≡ Some x → (low, high) ≡ x
    at true k = same_Some (low, high) x k
    at false k = cc

-- the value of a number written as a term
pub numeral-value : (V : Outcomes) (vals : List Datum) (t : Term) (n : ℕ) (v : Datum) → number_of t ≡ Some n → cden V vals t ≡ Some v → v ≡ natural n
numeral-value V vals (node (Form.strict (Strict.nat m)) none) n v e h = let z : m ≡ n = cc in sym (same_Some (natural m) v h) ∙ ap natural z
numeral-value V vals _ n v e h = cc

-- a sum or product in range, a quotient or remainder by a number other than 0
pub fits-is : (n k : ℕ) → if_fits n ≡ Some k → k ≡ n
fits-is n k e = sym ((cond_some (nat_lt n (2 ^ 128)) n k e).1)

divides-is : (n q k : ℕ) → cond (nat_eq n 0) None (Some q) ≡ Some k → k ≡ q
divides-is n q k e = at (nat_eq n 0) e
  where
    at : (b : Bool) → cond b None (Some q) ≡ Some k → k ≡ q
    at true h = cc
    at false h = sym (same_Some q k h)

-- an arithmetic result is within the span computed from the spans of its sides
arith-within : (op : ArithOp) (a b : Span) (c : Option ℕ) (x : ℕ × ℕ) (m n k : ℕ) → arith_span op a b c ≡ Some x → Between m a → Between n b → ((j : ℕ) → c ≡ Some j → j ≡ n) →
    arith_by op m n ≡ Some k → (x.0 ≤ k) × (k ≤ x.1)
arith-within Add a b c x m n k e ha hb hc h =
    let p = then-is a (λ x. b >>= λ y. within_range (x.0 + y.0) (x.1 + y.1)) x e in
    let q = then-is b (λ y. within_range (p.0.0 + y.0) (p.0.1 + y.1)) x p.2 in
    let r = range-is (p.0.0 + q.0.0) (p.0.1 + q.0.1) x q.2 in
    let s = ha p.0 p.1 in let t = hb q.0 q.1 in let z = fits-is (m + n) k h in
    (omega (arith, ap (λ y. y.0) r, s.0, t.0, z), omega (arith, ap (λ y. y.1) r, s.1, t.1, z))
arith-within Mul a b c x m n k e ha hb hc h =
    let p = then-is a (λ x. b >>= λ y. within_range (x.0 * y.0) (x.1 * y.1)) x e in
    let q = then-is b (λ y. within_range (p.0.0 * y.0) (p.0.1 * y.1)) x p.2 in
    let r = range-is (p.0.0 * q.0.0) (p.0.1 * q.0.1) x q.2 in
    let s = ha p.0 p.1 in let t = hb q.0 q.1 in let z = fits-is (m * n) k h in
    (omega (arith, ap (λ y. y.0) r, mul-le p.0.0 q.0.0 m n s.0 t.0, z), omega (arith, ap (λ y. y.1) r, mul-le m n p.0.1 q.0.1 s.1 t.1, z))
arith-within Monus a b c x m n k e ha hb hc h =
    let p = then-is a (λ x. Some (0, x.1)) x e in
    let r = same_Some (0, p.0.1) x p.2 in let z = same_Some (m - n) k h in
    (omega (arith, ap (λ y. y.0) r), omega (arith, ap (λ y. y.1) r, (ha p.0 p.1).1, z))
arith-within Quotient a b None x m n k e ha hb hc h = cc
arith-within Quotient a b (Some zero) x m n k e ha hb hc h = cc
arith-within Quotient a b (Some (suc j)) x m n k e ha hb hc h =
    let p = then-is a (λ x. Some (0, x.1)) x e in
    let r = same_Some (0, p.0.1) x p.2 in let z = divides-is n (m / n) k h in
    (omega (arith, ap (λ y. y.0) r), omega (arith, ap (λ y. y.1) r, (ha p.0 p.1).1, div-le_self m n, z))
arith-within Remainder a b None x m n k e ha hb hc h = cc
arith-within Remainder a b (Some zero) x m n k e ha hb hc h = cc
arith-within Remainder a b (Some (suc j)) x m n k e ha hb hc h =
    let r = same_Some (0, suc j - 1) x e in let y = hc (suc j) refl in let z = divides-is n (m % n) k h in
    (omega (arith, ap (λ y. y.0) r), omega (arith, ap (λ y. y.1) r, z, ap (λ d. m % d) y, mod-lt m j))
  where
    mod-lt : (m n : ℕ) → m % suc n < suc n
    mod-lt m n = omega arith

-- the terms that a fact on a variable is read from
as_less-is : (t : Term) (p : Term × Term) → as_less t ≡ Some p → t ≡ less_term p.0 p.1
as_less-is (node (Form.strict (Strict.compare Less)) (part zero a (part zero b none))) p e = ap (λ q. less_term q.0 q.1) (same_Some (a, b) p e)
as_less-is _ p e = cc

as_variable-is : (t : Term) (j : ℕ) → as_variable t ≡ Some j → t ≡ variable j
as_variable-is (node (Form.var i) none) j e = ap variable (same_Some i j e)
as_variable-is _ j e = cc

-- an element past those that are dropped
get-drop : (k : ℕ) (xs : List Datum) (j : ℕ) → slice_get (drop k xs) j ≡ slice_get xs (j + k)
get-drop zero xs j = let z : j ≡ j + 0 = omega arith in ap (slice_get xs) z
get-drop (suc k) [] j = refl
get-drop (suc k) (x ∷ xs) j = let z : suc (j + k) ≡ j + suc k = omega arith in get-drop k xs j ∙ ap (slice_get (x ∷ xs)) z

-- equal truth values
truth-same : (a b : Bool) → Some (truth a) ≡ Some (truth b) → a ≡ b
truth-same a b e = cc

-- what is less than a number is a number
less-is : (v : Datum) (n : ℕ) → compare_by Less (datum_cmp v (natural n)) ≡ true → (m : ℕ) × (v ≡ natural m) × (m < n)
less-is (natural m) n e = (m, refl, ltb-true m n (sym (operations.less-naturals m n) ∙ e))
less-is (datum.truth b) n e = cc
less-is (datum.text s) n e = cc
less-is (datum.tuple vs) n e = cc
less-is (datum.set vs) n e = cc
less-is (datum.array ds vs) n e = cc

-- a comparison by < that is true, where its second side is a number
sides-less : (V : Outcomes) (vals : List Datum) (a b : Term) (n : ℕ) → cden V vals (less_term a b) ≡ Some (truth true) → number_of b ≡ Some n → (m : ℕ) × (cden V vals a ≡ Some (natural m)) × (m < n)
sides-less V vals a b n e k =
    let r = two-values V vals (Strict.compare Less) a b (truth true) e in
    let z = numeral-value V vals b n r.1 k r.3 in
    let y = truth-same (compare_by Less (datum_cmp r.0 r.1)) true r.4 in
    let l = less-is r.0 n (ap (λ u. compare_by Less (datum_cmp r.0 u)) (sym z) ∙ y) in
    (l.0, r.2 ∙ ap Some l.1, l.2)

-- the interval below a number
ended : (i j k n m : ℕ) (x : ℕ × ℕ) (b : Bool) → m < n → (if b then Some (0, n - 1) else None) ≡ Some x → (b ≡ true) × (x.0 ≤ m) × (m ≤ x.1)
ended i j k n m x true l e = let r = same_Some (0, n - 1) x e in (refl, omega (arith, ap (λ q. q.0) r), omega (arith, ap (λ q. q.1) r, l))
ended i j k n m x false l e = cc

-- what one fact says of a variable
fact-within : (V : Outcomes) (vals : List Datum) (d i : ℕ) (f : Fact) (x : ℕ × ℕ) (v : Datum) → Holds V vals d f → fact_span d i f ≡ Some x → slice_get vals i ≡ Some v → IsInSpan x v
fact-within V vals d i f x v h e g = at f.known refl e
  where
    found : cden V (drop (d - f.depth) vals) f.comparison ≡ Some (truth true) → (as_less f.comparison >>= bounded_variable i (d - f.depth)) ≡ Some x → IsInSpan x v
    found c q =
        let k : ℕ = d - f.depth in
        let p = then-is (as_less f.comparison) (bounded_variable i k) x q in
        let j = then-is (as_variable p.0.0) (λ j. number_of p.0.1 >>= λ n. if nat_eq i (j + k) then Some (0, n - 1) else None) x p.2 in
        let n = then-is (number_of p.0.1) (λ n. if nat_eq i (j.0 + k) then Some (0, n - 1) else None) x j.2 in
        let l = sides-less V (drop k vals) p.0.0 p.0.1 n.0 (sym (ap (cden V (drop k vals)) (as_less-is f.comparison p.0 p.1)) ∙ c) n.1 in
        let r = ended i j.0 k n.0 l.0 x (nat_eq i (j.0 + k)) l.2 n.2 in
        let y : slice_get vals (j.0 + k) ≡ Some (natural l.0) = sym (get-drop k vals j.0) ∙ sym (ap (cden V (drop k vals)) (as_variable-is p.0.0 j.0 j.1)) ∙ l.1 in
        let z : v ≡ natural l.0 = same_Some v (natural l.0) (sym g ∙ ap (slice_get vals) (eqb-true i (j.0 + k) r.0) ∙ y) in
        (l.0, z, r.1, r.2)

    at : (w : Known) → f.known ≡ w → (if is_domain w then (as_less f.comparison >>= bounded_variable i (d - f.depth)) else None) ≡ Some x → IsInSpan x v
    at domain z q = found (h.1 ∙ ap (λ w. Some (truth (truth_of w))) z) q
    at test z q = cc
    at denied z q = cc

-- what the first fact with a bound says
variable-within : (V : Outcomes) (vals : List Datum) (d i : ℕ) (F : List Fact) (x : ℕ × ℕ) (v : Datum) → Every (Holds V vals d) F → variable_span d i F ≡ Some x → slice_get vals i ≡ Some v → IsInSpan x v
variable-within V vals d i [] x v h e g = cc
variable-within V vals d i (f ∷ F) x v h e g = at (λ k. variable-within V vals d i F x v h.1 k g) (fact_span d i f) refl e
  where
    at : (variable_span d i F ≡ Some x → IsInSpan x v) → (o : Span) → fact_span d i f ≡ o → or_span o (variable_span d i F) ≡ Some x → IsInSpan x v
    at later (Some y) k l = fact-within V vals d i f x v h.0 (k ∙ l) g
    at later None k l = later l

-- the value of a term lies within its span
pub span-sound : (V : Outcomes) (vals : List Datum) (c : Context) → FactsHold V c vals → (t : Term) (x : ℕ × ℕ) (v : Datum) → span c t ≡ Some x → cden V vals t ≡ Some v → IsInSpan x v
span-sound V vals c h (node (Form.var i) none) x v e k = variable-within V vals c.depth i c.facts x v h.1 e k
span-sound V vals c h (node (Form.strict (Strict.nat n)) none) x v e k =
    let r = same_Some (n, n) x e in
    (n, numeral-value V vals (number n) n v refl k, omega (arith, ap (λ q. q.0) r), omega (arith, ap (λ q. q.1) r))
span-sound V vals c h (node (Form.strict (Strict.arith op)) (part zero a (part zero b none))) x v e k =
    let r = two-values V vals (Strict.arith op) a b v k in
    let s = two-numbers op r.0 r.1 v r.4 in
    let w = arith-within op (span c a) (span c b) (number_of b) x s.0 s.1 s.2 e
    (λ y q. number-is s.0 y (span-sound V vals c h a y (natural s.0) q (r.2 ∙ ap Some s.3)))
    (λ y q. number-is s.1 y (span-sound V vals c h b y (natural s.1) q (r.3 ∙ ap Some s.4)))
    (λ j q. same_Some j s.1 (ap as_natural (sym (numeral-value V vals b j r.1 q r.3) ∙ s.4))) s.5 in
    (s.2, s.6, w.0, w.1)
span-sound V vals c h _ x v e k = cc
