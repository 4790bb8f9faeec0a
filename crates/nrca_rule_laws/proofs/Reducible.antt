-- Terms that are not normal, each by one rule; facts of places; and a firm term at the end of a way.
use Rattle.std.specs.Prelude.{◌≡◌, ℕ, zero, suc, Bool, true, false, [], ◌∷◌, Some, refl}
use Rattle.std.specs.List.{slice_get}
use Rattle.std.proofs.Common.{subst, inl, inr}
use Rattle.std.proofs.lemmas.Option.{same_Some}
use Rattle.aql_value.specs.declared.ops.ArithOp.TheVariants.{Add}
use Rattle.aql_value.specs.declared.ops.CompareOp.TheVariants as compare_op
use Rattle.aql_value.specs.Datum.{natural}
use Rattle.aql_value.specs.Indices.{indices}
use Rattle.nrca_term.specs.declared.trace.Rule.TheVariants.{L1, A3, A5, A6, N2}
use Rattle.nrca_term.specs.Term.{Term}
use Rattle.nrca_term.specs.Nodes.{variable, position, number, bottom_term, let_term, if_term, default_term, arith_term, less_term, tab_term, sub_term, dim_term, literal_term}
use Rattle.nrca_term.specs.Subst.{subst_term}
use Rattle.nrca_term.specs.Meaning.{Outcomes}
use Rattle.nrca_term.specs.Facts.{no_facts, facts_at, fact, domain, test, denied, LiterallyKnown}
use Rattle.nrca_term.specs.Firm.{firm, is_defined}
use Rattle.nrca_term.specs.Rules.{outside}
use Rattle.nrca_term.specs.Normal.{FirmAt, IsNormal}

-- a subscript out of range, `[[2; 5, 6]][2]`, is bottom
abbrev out_of_range : Term
out_of_range = sub_term (literal_term (number 2 ∷ []) (number 5 ∷ number 6 ∷ [])) (number 2 ∷ [])

subscript-reducible : (V : Outcomes) → IsNormal V out_of_range → ⊥
unfolding indices
subscript-reducible V n =
    (n [] out_of_range refl).unfit A5 bottom_term [] refl (outside (2 ∷ []) (number 5 ∷ number 6 ∷ []) (2 ∷ []) refl refl refl past refl refl) tt
  where
    past : (p : ℕ) → slice_get (indices (2 ∷ [])) p ≡ Some (2 ∷ []) → ⊥
    past zero e = cc
    past (suc zero) e = cc
    past (suc (suc p)) e = cc

-- the dimensions of a literal without cells, `[[0; ]]`
abbrev without_cells : Term
without_cells = dim_term 1 (literal_term (number 0 ∷ []) [])

dimension-reducible : (V : Outcomes) → IsNormal V without_cells → ⊥
dimension-reducible V n = (n [] without_cells refl).unfit A6 (number 0) [] refl (0 ∷ [], [], refl, refl, refl, refl) tt

-- a let of a position that is defined, `let x = @1 in (x + x)`
abbrev used_twice : Term
used_twice = let_term (position 1) (arith_term Add (variable 0) (variable 0))

position-reducible : IsNormal (Some (natural 7) ∷ []) used_twice → ⊥
position-reducible n =
    (n [] used_twice refl).unfit L1 (subst_term 0 (position 1) (arith_term Add (variable 0) (variable 0))) ((0 ∷ []) ∷ []) refl
    (position 1, arith_term Add (variable 0) (variable 0), (refl, refl), refl, refl) ((λ s e. subst (λ t. firm (is_defined (Some (natural 7) ∷ [])) no_facts t ≡ true) (same_Some (position 1) s e) refl), tt)

-- a default whose first part is firm
abbrev defaulted : Term
defaulted = default_term (number 1) (position 1)

default-reducible : (V : Outcomes) → IsNormal V defaulted → ⊥
default-reducible V n =
    (n [] defaulted refl).unfit N2 (number 1) ((0 ∷ []) ∷ []) refl (position 1, refl, refl) ((λ s e. subst (λ t. firm (is_defined V) no_facts t ≡ true) (same_Some (number 1) s e) refl), tt)

-- below an index the sum of two is in range: so `dim_1([[i+i | \i<3]])` asks for nothing that is not firm
abbrev doubles : Term
doubles = dim_term 1 (tab_term (number 3 ∷ []) (arith_term Add (variable 0) (variable 0)))

sum_firm_at : (D : ℕ → Bool) → FirmAt D no_facts doubles (0 ∷ 1 ∷ [])
sum_firm_at D s e = subst (λ t. firm D (facts_at doubles (0 ∷ 1 ∷ [])) t ≡ true) (same_Some (arith_term Add (variable 0) (variable 0)) s e) refl

tabulation-reducible : (V : Outcomes) → IsNormal V doubles → ⊥
tabulation-reducible V n =
    (n [] doubles refl).unfit A3 (number 3) ((0 ∷ 1 ∷ []) ∷ []) refl (number 3 ∷ [], arith_term Add (variable 0) (variable 0), refl, refl, refl) (sum_firm_at (is_defined V), tt)

-- `[[if i < @1 then (let y = @2 in (i < @1)) else (i < @1) | \i<3]]`: the test is known in both branches, and below the let
abbrev tested : Term
tested = tab_term (number 3 ∷ []) (if_term (less_term (variable 0) (position 1)) (let_term (position 2) (less_term (variable 1) (position 1))) (less_term (variable 0) (position 1)))

first_branch_facts : facts_at tested (1 ∷ 1 ∷ []) ≡ record { facts = fact (less_term (variable 0) (number 3)) domain 1 ∷ fact (less_term (variable 0) (position 1)) test 1 ∷ []; depth = 1 }
first_branch_facts = refl

below_let_facts : facts_at tested (1 ∷ 1 ∷ 1 ∷ []) ≡ record { facts = fact (less_term (variable 0) (number 3)) domain 1 ∷ fact (less_term (variable 0) (position 1)) test 1 ∷ []; depth = 2 }
below_let_facts = refl

second_branch_facts : facts_at tested (1 ∷ 2 ∷ []) ≡ record { facts = fact (less_term (variable 0) (number 3)) domain 1 ∷ fact (less_term (variable 0) (position 1)) denied 1 ∷ []; depth = 1 }
second_branch_facts = refl

test_known : LiterallyKnown test (facts_at tested (1 ∷ 1 ∷ 1 ∷ [])) (less_term (variable 1) (position 1))
test_known = inr (inl (refl, refl))

denied_known : LiterallyKnown denied (facts_at tested (1 ∷ 2 ∷ [])) (less_term (variable 0) (position 1))
denied_known = inr (inl (refl, refl))

first_branch-reducible : (V : Outcomes) → IsNormal V tested → ⊥
first_branch-reducible V n = (n (1 ∷ 1 ∷ 1 ∷ []) (less_term (variable 1) (position 1)) refl).unknown true (compare_op.Less, variable 1, position 1, refl) (inr (inl (refl, refl)))

second_branch-reducible : (V : Outcomes) → IsNormal V tested → ⊥
second_branch-reducible V n = (n (1 ∷ 2 ∷ []) (less_term (variable 0) (position 1)) refl).unknown false (compare_op.Less, variable 0, position 1, refl) (inr (inl (refl, refl)))
