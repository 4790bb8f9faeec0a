-- Steps of the loops that make the terms of a literal.
use Rattle.std.proofs.Common.{◌≡◌, ℕ, zero, suc, ◌+◌, ◌-◌, ◌<◌, ◌≤◌, List, [], ◌∷◌, ◌++◌, length, refl, sym, ap, ◌∙◌, arith, append_assoc}
use Rattle.aql_value.specs.declared.ops.ArithOp.TheVariants.{Mul, Quotient}
use Rattle.nrca_term.specs.Term.{Term}
use Rattle.nrca_term.specs.Nodes.{variable, number, arith_term, empty_term}
use Rattle.nrca_term.specs.Rules.{index_variables}
use Rattle.nrca_graph.specs.ArrayFree.{times, product_term, over_rest, further_numbers, cell_pairs, united_neighbours, union_tree}
use Rattle.nrca_graph.specs.Made.{further_number}

-- one factor more
pub product_next : (rank j : ℕ) (p all : Term) → j < rank → times p (index_variables (rank - j)) ≡ all →
    times (arith_term Mul p (variable (rank - 1 - j))) (index_variables (rank - (j + 1))) ≡ all
product_next rank j p all h k =
    let z : rank - j ≡ suc (rank - 1 - j) = omega (arith, h) in
    let y : rank - (j + 1) ≡ rank - 1 - j = omega (arith, h) in
    ap (λ n. times (arith_term Mul p (variable (rank - 1 - j))) (index_variables n)) y ∙ ap (λ n. times p (index_variables n)) (sym z) ∙ k

-- a cell's number over the product of some dimensions
pub over_some : (m last : ℕ) → (last ≡ 0 → ⊥) → over_rest m (index_variables last) ≡ arith_term Quotient (number m) (product_term (index_variables last))
over_some m zero h = absurd (h refl)
over_some m (suc n) h = refl

-- one number more
pub number_next : (m rank i : ℕ) (ts all : List Term) (q : Term) → i < rank → q ≡ further_number m (rank - 1 - i) → ts ++ further_numbers m (index_variables (rank - i)) ≡ all →
    (ts ++ q ∷ []) ++ further_numbers m (index_variables (rank - (i + 1))) ≡ all
number_next m rank i ts all q h e k =
    let z : rank - i ≡ suc (rank - 1 - i) = omega (arith, h) in
    let y : rank - (i + 1) ≡ rank - 1 - i = omega (arith, h) in
    append_assoc ts (q ∷ []) (further_numbers m (index_variables (rank - (i + 1))))
    ∙ ap (λ n. ts ++ q ∷ further_numbers m (index_variables n)) y
    ∙ ap (λ x. ts ++ x ∷ further_numbers m (index_variables (rank - 1 - i))) e
    ∙ ap (λ n. ts ++ further_numbers m (index_variables n)) (sym z)
    ∙ k

-- as many pairs as cells
pub pairs_count : (m : ℕ) (ds cs : List Term) → length (cell_pairs m ds cs) ≡ length cs
pairs_count m ds [] = refl
pairs_count m ds (c ∷ cs) = ap suc (pairs_count (suc m) ds cs)

-- a round leaves no more sets
neighbours_few : (ts : List Term) → length (united_neighbours ts) ≤ length ts
neighbours_few [] = omega arith
neighbours_few (s ∷ []) = omega arith
neighbours_few (s ∷ t ∷ ts) = omega (arith, neighbours_few ts)

-- a round of two or more leaves fewer
pub neighbours_fewer : (ts : List Term) → 1 < length ts → length (united_neighbours ts) < length ts
neighbours_fewer [] h = omega (arith, h)
neighbours_fewer (s ∷ []) h = omega (arith, h)
neighbours_fewer (s ∷ t ∷ ts) h = omega (arith, neighbours_few ts)

-- the rounds that are left come to the same set
abbrev pub RoundsLeft : List Term → Term → Type 0
RoundsLeft ts all = (n : ℕ) × (length ts ≤ n) × (union_tree n ts ≡ all)

-- one round less
pub rounds_next : (ts us : List Term) (all : Term) → 1 < length ts → us ≡ united_neighbours ts → RoundsLeft ts all → RoundsLeft us all
rounds_next ts us all h e k =
    let z : k.0 ≡ suc (k.0 - 1) = omega (arith, h, k.1) in
    (k.0 - 1, omega (arith, h, k.1, ap length e, neighbours_fewer ts h), ap (union_tree (k.0 - 1)) e ∙ ap (λ n. union_tree n ts) (sym z) ∙ k.2)

-- rounds leave one set as it is, and no set
one_round : (n : ℕ) (s : Term) → union_tree n (s ∷ []) ≡ s
one_round zero s = refl
one_round (suc n) s = one_round n s

no_round : (n : ℕ) → union_tree n [] ≡ empty_term
no_round zero = refl
no_round (suc n) = no_round n

pub rounds_done : (ts : List Term) (s all : Term) → ts ≡ s ∷ [] → RoundsLeft ts all → s ≡ all
rounds_done ts s all e k = sym (one_round k.0 s) ∙ ap (union_tree k.0) (sym e) ∙ k.2

pub rounds_none : (ts : List Term) (all : Term) → ts ≡ [] → RoundsLeft ts all → empty_term ≡ all
rounds_none ts all e k = sym (no_round k.0) ∙ ap (union_tree k.0) (sym e) ∙ k.2
