-- A move of a test out of a loop, computed; a term that is still and one that is not; why a loop's operand has to be defined; and turns
-- that rise.
use Rattle.std.specs.Prelude.{◌≡◌, false, ℕ, zero, suc, [], ◌∷◌, List, Some, None, refl}
use Rattle.std.proofs.lemmas.Option.{same_Some}
use Rattle.aql_value.specs.Datum as datum
use Rattle.aql_value.specs.Datum.{nil}
use Rattle.std.proofs.Common.{ap, sym, subst}
use Rattle.aql_value.specs.Strict.{Strict}
use Rattle.nrca_term.specs.Term.{Term, Parts, Form, node, form_of, parts_of, child_of, binders_of}
use Rattle.nrca_term.specs.Rules.{LoopOf}
use Rattle.nrca_motion.specs.declared.moves.MoveRule.{MoveRule}
use Rattle.nrca_term.specs.Nodes.{variable, number, truth_term, bottom_term, empty_term, single_term, big_union_term, sum_term, gen_term, if_term, let_term, less_term}
use Rattle.nrca_term.specs.Meaning.{Outcomes, cden}
use Rattle.nrca_term.specs.Turns.{settle}
use Rattle.nrca_term.specs.Subst.{shift_term}
use Rattle.nrca_motion.specs.declared.moves.MoveRule.TheVariants.{M1, M2, M3, M4}
use Rattle.nrca_motion.specs.Moves.{MoveRedex, MoveStep, MoveChain, IsStill}

-- `{x | \x <- gen!3, \y <- gen!3, x < 2}`
abbrev filtered : Term
filtered = big_union_term (gen_term (number 3)) (big_union_term (gen_term (number 3)) (if_term (less_term (variable 1) (number 2)) (single_term (variable 1)) empty_term))

-- the same with the test outside of the inner loop
abbrev moved : Term
moved = big_union_term (gen_term (number 3)) (if_term (less_term (variable 0) (number 2)) (big_union_term (gen_term (number 3)) (single_term (variable 1))) empty_term)

-- the test does not use y, so it goes out of the inner loop
test_goes_out : (V : Outcomes) → MoveStep V M1 (1 ∷ []) filtered moved
test_goes_out V = record {
  from = big_union_term (gen_term (number 3)) (if_term (less_term (variable 1) (number 2)) (single_term (variable 1)) empty_term);
  to = if_term (less_term (variable 0) (number 2)) (big_union_term (gen_term (number 3)) (single_term (variable 1))) empty_term;
  needs = gen_term (number 3) ∷ less_term (variable 0) (number 2) ∷ [];
  found = refl;
  put = refl;
  moved = (Form.big_union, empty_term, gen_term (number 3), less_term (variable 0) (number 2), single_term (variable 1), refl, refl, refl, refl);
  defined = (((_, refl), ((_, refl), tt)), (((_, refl), ((_, refl), tt)), (((_, refl), ((_, refl), tt)), tt)));
}

-- the chain `M1`
chained : (V : Outcomes) → MoveChain V (record { rule = M1; path = 1 ∷ [] } ∷ []) filtered moved
chained V = (moved, test_goes_out V, refl)

-- before the move the term is not still: its terms are firm
not_still : (V : Outcomes) → IsStill V filtered → ⊥
not_still V h =
    h (1 ∷ []) (big_union_term (gen_term (number 3)) (if_term (less_term (variable 1) (number 2)) (single_term (variable 1)) empty_term)) refl M1
    (if_term (less_term (variable 0) (number 2)) (big_union_term (gen_term (number 3)) (single_term (variable 1))) empty_term)
    (gen_term (number 3) ∷ less_term (variable 0) (number 2) ∷ [])
    (Form.big_union, empty_term, gen_term (number 3), less_term (variable 0) (number 2), single_term (variable 1), refl, refl, refl, refl)
    (refl, (refl, tt))

-- no move fits the node
abbrev pub FitsNone : Term → Type 0
FitsNone t = (R : MoveRule) (r : Term) (needs : List Term) → MoveRedex R t r needs → ⊥

-- a strict form no part of which is a let
strict-none : (s : Strict) (ps : Parts) → ((i : ℕ) (a b : Term) → child_of ps i ≡ Some (let_term a b) → ⊥) → FitsNone (node (Form.strict s) ps)
strict-none s ps h M1 r needs m = subst (λ f. LoopOf f m.1) (sym (ap form_of m.6)) m.5
strict-none s ps h M2 r needs m = m.3
strict-none s ps h M3 r needs m = m.3
strict-none s ps h M4 r needs m = h m.0 m.1 m.2 m.5

-- a variable
variable-none : (i : ℕ) → FitsNone (variable i)
variable-none i M1 r needs m = subst (λ f. LoopOf f m.1) (sym (ap form_of m.6)) m.5
variable-none i M2 r needs m = m.3
variable-none i M3 r needs m = m.3
variable-none i M4 r needs m = let e : None ≡ Some (let_term m.1 m.2) = m.5 in cc

-- `{x | \x <- gen!3}`
abbrev members : Term
members = big_union_term (gen_term (number 3)) (single_term (variable 0))

-- its loop has no test and no let, and its operand is none
members-none : FitsNone members
members-none M1 r needs m = let e = m.6 in cc
members-none M2 r needs m = at m.0 m.4
  where
    at : (i : ℕ) → (child_of (parts_of members) i ≡ Some (let_term (shift_term 0 (binders_of (parts_of members) i) m.1) m.2)) → ⊥
    at zero e = cc
    at (suc zero) e = cc
    at (suc (suc i)) e = cc
members-none M3 r needs m = m.3
members-none M4 r needs m = at m.0 m.5
  where
    at : (i : ℕ) → child_of (parts_of members) i ≡ Some (let_term m.1 m.2) → ⊥
    at zero e = cc
    at (suc zero) e = cc
    at (suc (suc i)) e = cc

-- its operand
gen-none : FitsNone (gen_term (number 3))
gen-none = strict-none _ _ no
  where
    no : (i : ℕ) (a b : Term) → child_of (parts_of (gen_term (number 3))) i ≡ Some (let_term a b) → ⊥
    no zero a b e = cc
    no (suc i) a b e = cc

-- its body
single-none : FitsNone (single_term (variable 0))
single-none = strict-none _ _ no
  where
    no : (i : ℕ) (a b : Term) → child_of (parts_of (single_term (variable 0))) i ≡ Some (let_term a b) → ⊥
    no zero a b e = cc
    no (suc i) a b e = cc

-- its bound
number-none : FitsNone (number 3)
number-none = strict-none _ _ (λ i a b e. cc)

-- so the term is still
still : (V : Outcomes) → IsStill V members
still V [] s e R r needs m f = members-none R r needs (subst (λ t. MoveRedex R t r needs) (sym (same_Some members s e)) m)
still V (zero ∷ []) s e R r needs m f = gen-none R r needs (subst (λ t. MoveRedex R t r needs) (sym (same_Some (gen_term (number 3)) s e)) m)
still V (zero ∷ zero ∷ []) s e R r needs m f = number-none R r needs (subst (λ t. MoveRedex R t r needs) (sym (same_Some (number 3) s e)) m)
still V (zero ∷ zero ∷ i ∷ path) s e R r needs m f = cc
still V (zero ∷ suc i ∷ path) s e R r needs m f = cc
still V (suc zero ∷ []) s e R r needs m f = single-none R r needs (subst (λ t. MoveRedex R t r needs) (sym (same_Some (single_term (variable 0)) s e)) m)
still V (suc zero ∷ zero ∷ []) s e R r needs m f = variable-none 0 R r needs (subst (λ t. MoveRedex R t r needs) (sym (same_Some (variable 0) s e)) m)
still V (suc zero ∷ zero ∷ i ∷ path) s e R r needs m f = cc
still V (suc zero ∷ suc i ∷ path) s e R r needs m f = cc
still V (suc (suc i) ∷ path) s e R r needs m f = cc

-- why the operand has to be defined: a loop over an undefined one has no value, and where the test is false the right side of M1 has
undefined_operand : (V : Outcomes) → cden V [] (big_union_term bottom_term (if_term (truth_term false) (single_term (variable 0)) empty_term)) ≡ None
undefined_operand V = refl

-- the right side of M1 at the false test
false_test : (V : Outcomes) → cden V [] (if_term (truth_term false) (big_union_term bottom_term (single_term (variable 0))) empty_term) ≡ Some (datum.set nil)
false_test V = refl

-- over nothing the test is never evaluated
no_turns : (V : Outcomes) → settle V [] (big_union_term empty_term (if_term (less_term (sum_term (gen_term (number 3)) (number 0)) (number 1)) (single_term (variable 0)) empty_term)) ≡ 0
no_turns V = refl

-- gone out, it takes six turns
more_turns : (V : Outcomes) → settle V [] (if_term (less_term (sum_term (gen_term (number 3)) (number 0)) (number 1)) (big_union_term empty_term (single_term (variable 0))) empty_term) ≡ 6
more_turns V = refl
