-- Steps of the evaluation: weights, parts and runs over plain variables.
use Rattle.std.proofs.Common.{◌≡◌, ℕ, ◌+◌, ◌-◌, ◌*◌, ◌<◌, ◌≤◌, true, List, ◌++◌, length, map, take, get_or, Some, refl, sym, ◌∙◌, ap, arith}
use Rattle.std.specs.Prelude.{slice_get, Result, Ok, Err, IsOkAnd, IsErrAnd}
use Rattle.std.specs.List.{slice_range}
use Rattle.std.proofs.Math.Seq.{take-append_seam}
use Rattle.aql_value.specs.Partial.{total}
use Rattle.nrca_term.specs.Term.{Term, none, part, Form, weight_of, list_weight}
use Rattle.nrca_term.specs.Nodes.{sub_term, tab_term}
use Rattle.nrca_term.specs.Laws.Measure.{list_weight-get}
use Rattle.nrca_term.specs.Laws.Variants.{parts_weight-plain}
use Rattle.nrca_term.specs.View.{term_of}
use Rattle.nrca_term.specs.declared.term.Core.{Core}
use Rattle.nrca_par.specs.declared.fault.EvalFault.{EvalFault}
use Rattle.nrca_par.specs.declared.fault.EvalFault.TheVariants.{Spent}
use Rattle.nrca_loops.specs.declared.done.Counted.{Counted}
use Rattle.nrca_loops.specs.Parts.{strict_of}
use Rattle.nrca_loops.specs.Within.{Within}
use Rattle.nrca_loops.specs.Laws.Run.{range_whole, total-range_within}
use Rattle.nrca_numbers.specs.Laws.Lent.{term_at}
use Rattle.nrca_eval.specs.Parts.{is_strict_form}

pub member_weight : (cs ds : List Core) (i : ℕ) (x : Core) → cs ≡ ds → i < length cs → x ≡ get_or cs i x → weight_of (term_of x) ≤ list_weight (map term_of ds)
member_weight cs ds i x s h e = list_weight-get (map term_of ds) i (term_of x) (term_at cs ds i x s h e)

pub sub_weight : (a : Term) (ts : List Term) → weight_of (sub_term a ts) ≡ 1 + (weight_of a + list_weight ts)
sub_weight a ts = omega (arith, parts_weight-plain ts none)

pub tab_weight : (ds : List Term) (b : Term) → weight_of (tab_term ds b) ≡ 6 * length ds + 6 + (list_weight ds + weight_of b)
tab_weight ds b = omega (arith, parts_weight-plain ds (part (length ds) b none))

-- a form that evaluates all its parts and binds nothing
pub strict_form : (f : Form) → is_strict_form f ≡ true → f ≡ Form.strict (strict_of f)
strict_form (Form.var i) h = cc
strict_form (Form.global n) h = cc
strict_form Form.bind h = cc
strict_form Form.choose h = cc
strict_form Form.default h = cc
strict_form Form.big_union h = cc
strict_form Form.sum h = cc
strict_form (Form.tab rank) h = cc
strict_form (Form.strict s) h = refl

-- the turns up to an element and at it pass the budget, so those of the whole run do
pub spent_within : {X : Type 0} (g : X → ℕ) (xs : List X) (a i b : ℕ) (x : X) (budget turns : ℕ) → a ≤ i → i < b → slice_get xs i ≡ Some x →
    turns ≡ total g (slice_range xs a i) → turns ≤ budget → budget - turns < g x → budget < total g (slice_range xs a b)
spent_within g xs a i b x budget turns low high e t w s = omega (arith, total-range_within g xs a i b x low high e, t, w, s)

pub spent_whole : {X : Type 0} (g : X → ℕ) (xs : List X) (i : ℕ) (x : X) (budget turns : ℕ) → i < length xs → slice_get xs i ≡ Some x →
    turns ≡ total g (slice_range xs 0 i) → turns ≤ budget → budget - turns < g x → budget < total g xs
spent_whole g xs i x budget turns high e t w s =
    omega (arith, spent_within g xs 0 i (length xs) x budget turns (omega arith) high e t w s, ap (total g) (range_whole xs (length xs) refl))

-- what is said of an evaluation, at its answer and at its fault
pub at_answer : {T X : Type 0} (view : T → X) (r : Result (Counted T) EvalFault) (budget : ℕ) (x : X) (turns : ℕ) (d : Counted T) → Within view budget x turns r → IsOkAnd r (λ e. e ≡ d) → (view d.answer ≡ x) × (d.turns ≡ turns) × (turns ≤ budget)
at_answer view (Ok e) budget x turns d w is = (ap (λ c. view c.answer) (sym is) ∙ w.0, ap (λ c. c.turns) (sym is) ∙ w.1, w.2)
at_answer view (Err e) budget x turns d w is = absurd is

pub at_fault : {T X : Type 0} (view : T → X) (r : Result (Counted T) EvalFault) (budget : ℕ) (x : X) (turns : ℕ) (f : EvalFault) → Within view budget x turns r → IsErrAnd r (λ e. e ≡ f) → f ≡ Spent → budget < turns
at_fault view (Ok e) budget x turns f w is s = absurd is
at_fault view (Err e) budget x turns f w is s = w (is ∙ s)

-- what a write over all of a list leaves
pub written : {X : Type 0} (n : ℕ) (xs ys : List X) → length xs ≡ n → take n (xs ++ ys) ≡ xs
written n xs ys e = ap (λ k. take k (xs ++ ys)) (sym e) ∙ take-append_seam xs ys
