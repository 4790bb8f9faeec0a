-- Steps of the loops that make the terms of one node.
use Rattle.std.proofs.Common.{◌≡◌, ℕ, zero, suc, ◌+◌, ◌-◌, ◌<◌, ◌≤◌, ◌^◌, false, nat_eq, nat_le, List, [], ◌∷◌, ◌++◌, length, map, Result, refl, sym, ap, subst, ◌∙◌, arith, append_assoc}
use Rattle.std.proofs.lemmas.List.{length-map, map_push}
use Rattle.aql_value.specs.declared.memory.Memory.{Memory}
use Rattle.aql_value.specs.Lists.{Every, below}
use Rattle.aql_value.specs.Laws.Lists.{below-last, length-below}
use Rattle.nrca_term.specs.declared.term.Core.{Core}
use Rattle.nrca_term.specs.Term.{Term}
use Rattle.nrca_term.specs.Nodes.{variable, let_term, proj_term}
use Rattle.nrca_term.specs.Rules.{lets, index_variables}
use Rattle.nrca_term.specs.Subst.{shift_term, top_var, list_top}
use Rattle.nrca_graph.specs.ArrayFree.{number_at, dimension_above}
use Rattle.nrca_graph.specs.Made.{Makes, MayShift, dimensions_above}
use Rattle.nrca_graph.specs.Laws.Tops.{TopAtMost, tops-dimensions}

-- a number of an index of a rank other than 1
pub number_many : (rank j : ℕ) (p : Term) → (rank ≡ 1 → ⊥) → number_at rank j p ≡ proj_term j rank (proj_term 1 2 p)
number_many zero j p h = refl
number_many (suc zero) j p h = absurd (h refl)
number_many (suc (suc rank)) j p h = refl

-- one dimension more
pub dimensions_next : (rank j : ℕ) (ts : List Term) (d : Term) → ts ≡ map (λ i. dimension_above rank (suc i)) (below j) → d ≡ dimension_above rank (j + 1) →
    ts ++ d ∷ [] ≡ map (λ i. dimension_above rank (suc i)) (below (j + 1))
dimensions_next rank j ts d e h =
    let z : j + 1 ≡ suc j = omega arith in
    ap (λ l. l ++ d ∷ []) e ∙ ap (λ x. map (λ i. dimension_above rank (suc i)) (below j) ++ x ∷ []) (h ∙ ap (dimension_above rank) z)
    ∙ sym (map_push (λ i. dimension_above rank (suc i)) (below j) j)
    ∙ ap (map (λ i. dimension_above rank (suc i))) (sym (below-last j) ∙ ap below (sym z))

-- one variable more
pub variables_next : (rank i : ℕ) (ts : List Term) (v : Term) → i < rank → v ≡ variable (rank - 1 - i) → ts ++ index_variables (rank - i) ≡ index_variables rank →
    (ts ++ v ∷ []) ++ index_variables (rank - (i + 1)) ≡ index_variables rank
variables_next rank i ts v h e k =
    let z : rank - i ≡ suc (rank - 1 - i) = omega (arith, h) in
    let y : rank - (i + 1) ≡ rank - 1 - i = omega (arith, h) in
    append_assoc ts (v ∷ []) (index_variables (rank - (i + 1)))
    ∙ ap (λ n. ts ++ v ∷ index_variables n) y
    ∙ ap (λ x. ts ++ x ∷ index_variables (rank - 1 - i)) e
    ∙ ap (λ n. ts ++ index_variables n) (sym z)
    ∙ k

-- the last of the first terms goes to the rest
pub moved : (ts front rest : List Term) (d : Term) (all : List Term) → all ≡ ts ++ rest → ts ≡ front ++ d ∷ [] → all ≡ front ++ (d ∷ rest)
moved ts front rest d all e h = e ∙ ap (λ xs. xs ++ rest) h ∙ append_assoc front (d ∷ []) rest

-- one let more
pub lets_next : (r : Result Core Memory) (n m k : ℕ) (t : Term) (rest : List Term) (b : Term) → n ≡ k → m ≡ suc k → Makes r (let_term (shift_term 0 n t) (lets m rest b)) → Makes r (lets k (t ∷ rest) b)
lets_next r n m k t rest b e h w =
    subst (λ y. Makes r (let_term (shift_term 0 k t) (lets y rest b))) h (subst (λ x. Makes r (let_term (shift_term 0 x t) (lets m rest b))) e w)

-- a term of a list is no higher than the list
top-item : (front rest : List Term) (d : Term) → top_var d ≤ list_top (front ++ d ∷ rest)
top-item [] rest d = omega arith
top-item (x ∷ front) rest d = omega (arith, top-item front rest d)

-- each term may be shifted
pub item_room : (ts front rest : List Term) (d : Term) (n : ℕ) → ts ≡ front ++ d ∷ rest → n ≤ length ts → MayShift ts → top_var d + n < 2 ^ 64
item_room ts front rest d n e l h = omega (arith, h, l, ap list_top e, top-item front rest d)

-- terms of which none is high
list_low : (n : ℕ) (ts : List Term) → Every (TopAtMost n) ts → list_top ts ≤ n
list_low n [] h = omega arith
list_low n (t ∷ ts) h = omega (arith, h.0, list_low n ts h.1)

-- there is room for the dimensions of an index
pub dimensions_room : (rank : ℕ) (ts : List Term) → rank ≤ 8 → ts ≡ dimensions_above rank → MayShift ts
dimensions_room rank ts h e =
    omega (arith, h, ap list_top e, ap length e, list_low 1 _ (tops-dimensions rank), length-map (below rank) (λ j. dimension_above rank (suc j)), length-below rank)

-- no cells
pub no_cells : (n : ℕ) → nat_eq n 0 ≡ nat_le n 0
no_cells zero = refl
no_cells (suc n) = let z : nat_le (suc n) 0 ≡ false = grind (arith) in let y : nat_eq (suc n) 0 ≡ false = grind (arith) in y ∙ sym z
