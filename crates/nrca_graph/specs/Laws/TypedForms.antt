-- The types of the array-free forms of indices and literals.
use Rattle.std.proofs.Common.{◌≡◌, ℕ, zero, suc, ◌+◌, ◌*◌, ◌<◌, ◌≤◌, Bool, true, false, nat_le, List, [], ◌∷◌, ◌++◌, length, map, Some, refl, sym, ap, subst, ◌∙◌, if◌then◌else◌, arith, append-nil}
use Rattle.std.proofs.lemmas.List.{length-replicate}
use Rattle.std.specs.List.{slice_get}
use Rattle.aql_value.specs.declared.ops.ArithOp.TheVariants.{Add, Mul, Quotient, Remainder}
use Rattle.aql_value.specs.declared.ops.CompareOp.TheVariants as compare_op
use Rattle.aql_value.specs.Lists.{Every, below}
use Rattle.aql_value.specs.Laws.Lists.{Every-below, length-below}
use Rattle.aql_value.specs.Operations.{is_rank}
use Rattle.aql_value.specs.Strict.{Strict}
use Rattle.aql_ty.specs.Types as types
use Rattle.aql_ty.specs.Types.{Ty, IsType, index_type}
use Rattle.nrca_term.specs.Term.{Term}
use Rattle.nrca_term.specs.Nodes.{variable, number, truth_term, bottom_term, if_term, tuple_term, proj_term, arith_term, less_term, empty_term, single_term, get_term}
use Rattle.nrca_term.specs.Rules.{lets, sizes_term, index_variables}
use Rattle.nrca_term.specs.Subst.{shift_term}
use Rattle.nrca_term.specs.Typing.{ctyped}
use Rattle.nrca_term.specs.Laws.TypingShift.{ctyped-shift_term}
use Rattle.nrca_term.specs.Laws.TypedLists.{TermsTyped}
use Rattle.nrca_graph.specs.Encoding.{pair_type, array_type}
use Rattle.nrca_graph.specs.Tabulation.{table_term, tabulation_graph}
use Rattle.nrca_graph.specs.ArrayFree.{equal_term, paired_with, subscript_graph, number_at, greater, greatest, dimension_above, index_graph, times, product_term, where_zero, is_filled, over_rest, further_numbers, index_of_cell, cell_pairs, united_neighbours, union_tree, literal_graph}
use Rattle.nrca_graph.specs.Laws.EncodedTypes.{index-is}
use Rattle.nrca_graph.specs.Laws.TypedTerms.{strict-typed, variable-typed, let-typed, if-typed, union-typed, number-typed, bottom-typed, empty-typed, arith-typed, compare-typed, single-typed, both-typed, get-typed, pair-is, pair-term-typed, first-typed, second-typed, lets-typed, naturals, onto-numbers, variables-typed, sizes-typed, table-typed, paired-typed, past-numbers}

-- one of so many numbers
in-numbers : (n i : ℕ) → i < n → slice_get (naturals n) i ≡ Some types.natural
in-numbers zero i h = absurd (omega (arith, h))
in-numbers (suc n) zero h = refl
in-numbers (suc n) (suc i) h = in-numbers n i (omega (arith, h))

-- a number of the index of a pair
number_at-typed : (G : ℕ → Ty → Type 0) (env : List Ty) (rank j i : ℕ) (A : Ty) → IsType A → j < rank → slice_get env i ≡ Some (pair_type (index_type rank) A) → ctyped G env (number_at rank (suc j) (variable i)) types.natural
number_at-typed G env zero j i A a h e = absurd (omega (arith, h))
number_at-typed G env (suc zero) j i A a h e = first-typed G env (variable i) types.natural A tt (variable-typed G env i (pair_type types.natural A) (pair-is types.natural A tt a) e)
number_at-typed G env (suc (suc rank)) j i A a h e =
    let I : Ty = index_type (suc (suc rank)) in
    let k : IsType I = index-is (suc (suc rank)) (omega arith) in
    strict-typed G env (Strict.proj (suc j) (suc (suc rank))) (proj_term 1 2 (variable i) ∷ []) (I ∷ []) types.natural tt
    (naturals (suc (suc rank)), j, refl, length-replicate (suc (suc rank)) types.natural, refl, in-numbers (suc (suc rank)) j h)
    (first-typed G env (variable i) I A k (variable-typed G env i (pair_type I A) (pair-is I A k a) e), tt)

-- the numbers that are greater
greater-typed : (G : ℕ → Ty → Type 0) (env : List Ty) (rank j : ℕ) (A : Ty) → IsType A → j < rank →
    ctyped G (pair_type (index_type rank) A ∷ types.set_of (pair_type (index_type rank) A) ∷ env) (greater rank (suc j)) (types.set_of types.natural)
greater-typed G env rank j A a h =
    let M : Ty = pair_type (index_type rank) A in
    let m : IsType M = pair-is (index_type rank) A (index-is rank (omega (arith, h))) a in
    let E : List Ty = M ∷ M ∷ types.set_of M ∷ env in
    let n : ctyped G E (number_at rank (suc j) (variable 0)) types.natural = number_at-typed G E rank j 0 A a h refl in
    let c : Term = less_term (number_at rank (suc j) (variable 1)) (number_at rank (suc j) (variable 0)) in
    union-typed G (M ∷ types.set_of M ∷ env) (variable 1) (if_term c (single_term (number_at rank (suc j) (variable 0))) empty_term) M types.natural tt
    (variable-typed G (M ∷ types.set_of M ∷ env) 1 (types.set_of M) m refl)
    (if-typed G E c (single_term (number_at rank (suc j) (variable 0))) empty_term (types.set_of types.natural) tt
    (compare-typed G E compare_op.Less (number_at rank (suc j) (variable 1)) (number_at rank (suc j) (variable 0)) types.natural (number_at-typed G E rank j 1 A a h refl) n)
    (single-typed G E (number_at rank (suc j) (variable 0)) types.natural tt n) (empty-typed G E types.natural tt))

-- a dimension of an index
dimension-typed : (G : ℕ → Ty → Type 0) (env : List Ty) (rank j : ℕ) (A : Ty) → IsType A → j < rank →
    ctyped G (types.set_of (pair_type (index_type rank) A) ∷ env) (dimension_above rank (suc j)) types.natural
dimension-typed G env rank j A a h =
    let M : Ty = pair_type (index_type rank) A in
    let m : IsType M = pair-is (index_type rank) A (index-is rank (omega (arith, h))) a in
    let E : List Ty = types.set_of M ∷ env in
    let s : ctyped G E (variable 0) (types.set_of M) = variable-typed G E 0 (types.set_of M) m refl in
    let n : ctyped G (M ∷ E) (number_at rank (suc j) (variable 0)) types.natural = number_at-typed G (M ∷ E) rank j 0 A a h refl in
    let c : Term = equal_term (greater rank (suc j)) empty_term in
    let g : ctyped G E (greatest rank (suc j)) (types.set_of types.natural) =
    union-typed G E (variable 0) (if_term c (single_term (number_at rank (suc j) (variable 0))) empty_term) M types.natural tt s
    (if-typed G (M ∷ E) c (single_term (number_at rank (suc j) (variable 0))) empty_term (types.set_of types.natural) tt
    (compare-typed G (M ∷ E) compare_op.Equal (greater rank (suc j)) empty_term (types.set_of types.natural) (greater-typed G env rank j A a h) (empty-typed G (M ∷ E) types.natural tt))
    (single-typed G (M ∷ E) (number_at rank (suc j) (variable 0)) types.natural tt n) (empty-typed G (M ∷ E) types.natural tt)) in
    if-typed G E (equal_term (variable 0) empty_term) (number 0) (arith_term Add (number 1) (get_term (greatest rank (suc j)))) types.natural tt
    (compare-typed G E compare_op.Equal (variable 0) empty_term (types.set_of M) s (empty-typed G E M m)) (number-typed G E 0)
    (arith-typed G E Add (number 1) (get_term (greatest rank (suc j))) (number-typed G E 1) (get-typed G E (greatest rank (suc j)) types.natural tt g))

-- all of them
dimensions-typed : (G : ℕ → Ty → Type 0) (env : List Ty) (rank : ℕ) (A : Ty) (js : List ℕ) → IsType A → Every (λ j. j < rank) js →
    TermsTyped G (types.set_of (pair_type (index_type rank) A) ∷ env) (map (λ j. dimension_above rank (suc j)) js) (naturals (length js))
dimensions-typed G env rank A [] a h = tt
dimensions-typed G env rank A (j ∷ js) a h = (dimension-typed G env rank j A a h.0, dimensions-typed G env rank A js a h.1)

-- lets of numbers
pub lets-of-numbers : (G : ℕ → Ty → Type 0) (env : List Ty) (n : ℕ) (ts : List Term) (b : Term) (T : Ty) → IsType T → TermsTyped G env ts (naturals n) → ctyped G (naturals n ++ env) b T → ctyped G env (lets 0 ts b) T
lets-of-numbers G env n ts b T i h k =
    lets-typed G [] env ts (naturals n) b T i h (subst (λ l. ctyped G (l ++ env) b T) (sym (onto-numbers n [] ∙ append-nil (naturals n))) k)

-- an array without arrays is a type
pub array-is : (rank : ℕ) (A : Ty) → 1 ≤ rank → IsType A → IsType (array_type rank A)
array-is rank A l a = pair-is (index_type rank) (types.set_of (pair_type (index_type rank) A)) (index-is rank l) (pair-is (index_type rank) A (index-is rank l) a)

-- an index
pub index-graph-typed : (G : ℕ → Ty → Type 0) (env : List Ty) (rank : ℕ) (A : Ty) (s : Term) → 1 ≤ rank → IsType A → ctyped G env s (types.set_of (pair_type (index_type rank) A)) →
    ctyped G env (index_graph rank s) (array_type rank (types.set_of A))
index-graph-typed G env rank A s l a h = let-typed G env s (if is_rank rank then table else bottom_term) S (array_type rank (types.set_of A)) t h (of (is_rank rank))
  where
    S : Ty
    S = types.set_of (pair_type (index_type rank) A)

    E : List Ty
    E = S ∷ env

    t : IsType (array_type rank (types.set_of A))
    t = array-is rank (types.set_of A) l a

    inner : Term
    inner = paired_with (variable (2 * rank)) (sizes_term (index_variables rank))

    table : Term
    table = lets 0 (map (λ j. dimension_above rank (suc j)) (below rank)) (table_term rank inner)

    sizes : TermsTyped G E (map (λ j. dimension_above rank (suc j)) (below rank)) (naturals rank)
    sizes = subst (λ n. TermsTyped G E (map (λ j. dimension_above rank (suc j)) (below rank)) (naturals n)) (length-below rank)
        (dimensions-typed G env rank A (below rank) a (Every-below (λ j. j < rank) rank (λ j k. k)))

    typed : ctyped G E table (array_type rank (types.set_of A))
    typed =
        lets-of-numbers G E rank (map (λ j. dimension_above rank (suc j)) (below rank)) (table_term rank inner) (array_type rank (types.set_of A)) t sizes
        (table-typed G rank E inner (types.set_of A) l a
        (paired-typed G (naturals rank ++ (naturals rank ++ E)) (variable (2 * rank)) (sizes_term (index_variables rank)) (index_type rank) A (index-is rank l) a
        (variable-typed G (naturals rank ++ (naturals rank ++ E)) (2 * rank) S (pair-is (index_type rank) A (index-is rank l) a)
        ((let z : 2 * rank ≡ rank + (rank + 0) = omega arith in ap (slice_get (naturals rank ++ (naturals rank ++ E))) z) ∙ past-numbers rank (rank + 0) (naturals rank ++ E) ∙ past-numbers rank 0 E))
        (sizes-typed G (naturals rank ++ (naturals rank ++ E)) rank (index_variables rank) l (variables-typed G rank rank (naturals rank ++ E) (omega arith)))))

    of : (b : Bool) → ctyped G E (if b then table else bottom_term) (array_type rank (types.set_of A))
    of true = typed
    of false = bottom-typed G E (array_type rank (types.set_of A)) t

-- a subscript
pub subscript-graph-typed : (G : ℕ → Ty → Type 0) (env : List Ty) (rank : ℕ) (A : Ty) (ts : List Term) → 1 ≤ rank → IsType A → TermsTyped G env ts (array_type rank A ∷ naturals rank) → ctyped G env (subscript_graph ts) A
subscript-graph-typed G env rank A [] l a h = absurd h
subscript-graph-typed G env rank A (t ∷ ts) l a h =
    let I : Ty = index_type rank in
    let M : Ty = pair_type I A in
    let E : List Ty = I ∷ array_type rank A ∷ env in
    lets-typed G [] env (t ∷ sizes_term ts ∷ []) (array_type rank A ∷ I ∷ []) (get_term (paired_with (proj_term 2 2 (variable 1)) (variable 0))) A a (h.0, (sizes-typed G env rank ts l h.1, tt))
    (get-typed G E (paired_with (proj_term 2 2 (variable 1)) (variable 0)) A a
    (paired-typed G E (proj_term 2 2 (variable 1)) (variable 0) I A (index-is rank l) a
    (second-typed G E (variable 1) I (types.set_of M) (pair-is I A (index-is rank l) a) (variable-typed G E 1 (array_type rank A) (array-is rank A l a) refl))
    (variable-typed G E 0 I (index-is rank l) refl)))

-- a product of factors
times-typed : (G : ℕ → Ty → Type 0) (env : List Ty) (n : ℕ) (p : Term) (ts : List Term) → ctyped G env p types.natural → TermsTyped G env ts (naturals n) → ctyped G env (times p ts) types.natural
times-typed G env n p [] h k = h
times-typed G env zero p (t ∷ ts) h k = absurd k
times-typed G env (suc n) p (t ∷ ts) h k = times-typed G env n (arith_term Mul p t) ts (arith-typed G env Mul p t h k.0) k.1

-- the product of all
product-typed : (G : ℕ → Ty → Type 0) (env : List Ty) (n : ℕ) (ts : List Term) → TermsTyped G env ts (naturals n) → ctyped G env (product_term ts) types.natural
product-typed G env n [] h = number-typed G env 1
product-typed G env zero (t ∷ ts) h = absurd h
product-typed G env (suc n) (t ∷ ts) h = times-typed G env n t ts h.0 h.1

-- the test of a literal
where_zero-typed : (G : ℕ → Ty → Type 0) (env : List Ty) (n : ℕ) (ts : List Term) (z t : Term) → TermsTyped G env ts (naturals n) → ctyped G env z types.truth → ctyped G env t types.truth → ctyped G env (where_zero ts z t) types.truth
where_zero-typed G env n [] z t h k l = l
where_zero-typed G env zero (d ∷ ts) z t h k l = absurd h
where_zero-typed G env (suc n) (d ∷ ts) z t h k l =
    if-typed G env (equal_term d (number 0)) z (where_zero ts z t) types.truth tt (compare-typed G env compare_op.Equal d (number 0) types.natural h.0 (number-typed G env 0)) k (where_zero-typed G env n ts z t h.1 k l)

-- the first number of the index of a cell
over-typed : (G : ℕ → Ty → Type 0) (env : List Ty) (n m : ℕ) (ts : List Term) → TermsTyped G env ts (naturals n) → ctyped G env (over_rest m ts) types.natural
over-typed G env n m [] h = number-typed G env m
over-typed G env n m (t ∷ ts) h = arith-typed G env Quotient (number m) (product_term (t ∷ ts)) (number-typed G env m) (product-typed G env n (t ∷ ts) h)

-- its further numbers
further-typed : (G : ℕ → Ty → Type 0) (env : List Ty) (n m : ℕ) (ts : List Term) → TermsTyped G env ts (naturals n) → TermsTyped G env (further_numbers m ts) (naturals n)
further-typed G env zero m [] h = tt
further-typed G env (suc n) m [] h = absurd h
further-typed G env zero m (t ∷ ts) h = absurd h
further-typed G env (suc n) m (t ∷ ts) h = (arith-typed G env Remainder (over_rest m ts) t (over-typed G env n m ts h.1) h.0, further-typed G env n m ts h.1)

-- all its numbers
index_of_cell-typed : (G : ℕ → Ty → Type 0) (env : List Ty) (n m : ℕ) (ts : List Term) → TermsTyped G env ts (naturals n) → TermsTyped G env (index_of_cell m ts) (naturals n)
index_of_cell-typed G env zero m [] h = tt
index_of_cell-typed G env (suc n) m [] h = absurd h
index_of_cell-typed G env zero m (t ∷ ts) h = absurd h
index_of_cell-typed G env (suc n) m (t ∷ ts) h = (over-typed G env n m ts h.1, further-typed G env n m ts h.1)

-- the pairs of a literal
pairs-typed : (G : ℕ → Ty → Type 0) (env : List Ty) (rank m : ℕ) (A : Ty) (ts cs : List Term) → 1 ≤ rank → IsType A → TermsTyped G env ts (naturals rank) → Every (λ c. ctyped G env c A) cs →
    Every (λ s. ctyped G env s (types.set_of (pair_type (index_type rank) A))) (cell_pairs m ts cs)
pairs-typed G env rank m A ts [] l a h k = tt
pairs-typed G env rank m A ts (c ∷ cs) l a h k = (
  single-typed G env (tuple_term (sizes_term (index_of_cell m ts) ∷ c ∷ [])) (pair_type (index_type rank) A) (pair-is (index_type rank) A (index-is rank l) a)
      (pair-term-typed G env (sizes_term (index_of_cell m ts)) c (index_type rank) A (index-is rank l) a (sizes-typed G env rank (index_of_cell m ts) l (index_of_cell-typed G env rank m ts h)) k.0),
  pairs-typed G env rank (suc m) A ts cs l a h k.1,
)

-- a round of unions
neighbours-typed : (G : ℕ → Ty → Type 0) (env : List Ty) (M : Ty) (ts : List Term) → IsType M → Every (λ s. ctyped G env s (types.set_of M)) ts → Every (λ s. ctyped G env s (types.set_of M)) (united_neighbours ts)
neighbours-typed G env M [] m h = tt
neighbours-typed G env M (t ∷ []) m h = h
neighbours-typed G env M (t ∷ u ∷ ts) m h = (both-typed G env t u M m h.0 h.1.0, neighbours-typed G env M ts m h.1.1)

-- all rounds
united-typed : (G : ℕ → Ty → Type 0) (env : List Ty) (M : Ty) (n : ℕ) (ts : List Term) → IsType M → Every (λ s. ctyped G env s (types.set_of M)) ts → ctyped G env (union_tree n ts) (types.set_of M)
united-typed G env M zero [] m h = empty-typed G env M m
united-typed G env M zero (t ∷ ts) m h = h.0
united-typed G env M (suc n) ts m h = united-typed G env M n (united_neighbours ts) m (neighbours-typed G env M ts m h)

-- a literal
pub literal-graph-typed : (G : ℕ → Ty → Type 0) (env : List Ty) (rank : ℕ) (A : Ty) (ds cs : List Term) → 1 ≤ rank → IsType A → length ds ≡ rank → TermsTyped G env ds (naturals rank) → Every (λ c. ctyped G env c A) cs →
    ctyped G env (literal_graph ds cs) (array_type rank A)
literal-graph-typed G env rank A ds cs l a e h k =
    lets-of-numbers G env rank ds (body (length ds)) (array_type rank A) (array-is rank A l a) h (subst (λ n. ctyped G (naturals rank ++ env) (body n) (array_type rank A)) (sym e) typed)
  where
    body : ℕ → Term
    body n = if_term (is_filled (index_variables n) (length cs)) (tuple_term (sizes_term (index_variables n) ∷ union_tree (length cs) (cell_pairs 0 (index_variables n) (map (shift_term 0 n) cs)) ∷ [])) bottom_term

    E : List Ty
    E = naturals rank ++ env

    M : Ty
    M = pair_type (index_type rank) A

    m : IsType M
    m = pair-is (index_type rank) A (index-is rank l) a

    vs : TermsTyped G E (index_variables rank) (naturals rank)
    vs = variables-typed G rank rank env (omega arith)

    shifted : (us : List Term) → Every (λ c. ctyped G env c A) us → Every (λ c. ctyped G E c A) (map (shift_term 0 rank) us)
    shifted [] f = tt
    shifted (u ∷ us) f = (subst (λ n. ctyped G E (shift_term 0 n u) A) (length-replicate rank types.natural) (ctyped-shift_term G [] (naturals rank) env u A f.0), shifted us f.1)

    test : ctyped G E (is_filled (index_variables rank) (length cs)) types.truth
    test = where_zero-typed G E rank (index_variables rank) (truth_term (nat_le (length cs) 0)) (equal_term (product_term (index_variables rank)) (number (length cs))) vs
        (strict-typed G E (Strict.bool (nat_le (length cs) 0)) [] [] types.truth tt (refl, refl) tt)
        (compare-typed G E compare_op.Equal (product_term (index_variables rank)) (number (length cs)) types.natural (product-typed G E rank (index_variables rank) vs) (number-typed G E (length cs)))

    typed : ctyped G E (body rank) (array_type rank A)
    typed =
        if-typed G E (is_filled (index_variables rank) (length cs)) (tuple_term (sizes_term (index_variables rank) ∷ union_tree (length cs) (cell_pairs 0 (index_variables rank) (map (shift_term 0 rank) cs)) ∷ [])) bottom_term
        (array_type rank A) (array-is rank A l a) test
        (pair-term-typed G E (sizes_term (index_variables rank)) (union_tree (length cs) (cell_pairs 0 (index_variables rank) (map (shift_term 0 rank) cs))) (index_type rank) (types.set_of M) (index-is rank l) m
        (sizes-typed G E rank (index_variables rank) l vs)
        (united-typed G E M (length cs) (cell_pairs 0 (index_variables rank) (map (shift_term 0 rank) cs)) m (pairs-typed G E rank 0 A (index_variables rank) (map (shift_term 0 rank) cs) l a vs (shifted cs k))))
        (bottom-typed G E (array_type rank A) (array-is rank A l a))

-- a tabulation
pub tabulation-graph-typed : (G : ℕ → Ty → Type 0) (env : List Ty) (rank : ℕ) (A : Ty) (ds : List Term) (b : Term) → 1 ≤ rank → IsType A → length ds ≡ rank → TermsTyped G env ds (naturals rank) → ctyped G (naturals rank ++ env) b A →
    ctyped G env (tabulation_graph ds b) (array_type rank A)
tabulation-graph-typed G env rank A ds b l a e h k =
    lets-of-numbers G env rank ds (table_term (length ds) (shift_term (length ds) (length ds) b)) (array_type rank A) (array-is rank A l a) h
    (subst (λ n. ctyped G (naturals rank ++ env) (table_term n (shift_term n n b)) (array_type rank A)) (sym e)
    (table-typed G rank env (shift_term rank rank b) A l a
    (let z : length (naturals rank) ≡ rank = length-replicate rank types.natural in
    subst (λ n. ctyped G (naturals rank ++ (naturals rank ++ env)) (shift_term n rank b) A) z
    (subst (λ n. ctyped G (naturals rank ++ (naturals rank ++ env)) (shift_term (length (naturals rank)) n b) A) z (ctyped-shift_term G (naturals rank) (naturals rank) env b A k)))))
