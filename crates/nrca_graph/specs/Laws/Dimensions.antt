-- What the dimensions of an index are worth: 1 plus the greatest number of a column, and 0 where there is no index.
use Rattle.std.proofs.Common.{◌≡◌, ℕ, zero, suc, ◌+◌, ◌<◌, Bool, true, false, nat_lt, cond, List, [], ◌∷◌, ◌++◌, length, map, Some, None, get_or, refl, sym, ap, ◌∙◌, if◌then◌else◌, arith, ◌^◌}
use Rattle.std.proofs.lemmas.List.{length-map}
use Rattle.std.proofs.lemmas.List as lists
use Rattle.std.proofs.lemmas.Option.{slice_get-get_or}
use Rattle.std.specs.List.{slice_get}
use Rattle.aql_value.specs.declared.ops.ArithOp.TheVariants.{Add}
use Rattle.aql_value.specs.declared.ops.CompareOp.TheVariants as compare_op
use Rattle.aql_value.specs.Canon.{canon}
use Rattle.aql_value.specs.Datum.{Datum, natural, truth, set, nil, data_of}
use Rattle.aql_value.specs.Laws.Datum.{list_of-data_of}
use Rattle.aql_value.specs.Lists.{Every}
use Rattle.aql_value.specs.Laws.Lists.{Every-impl}
use Rattle.aql_value.specs.Operations.{as_set, as_truth, index_value, set_of, union_all, only, in_range, part_of}
use Rattle.aql_value.specs.Laws.Operations.{union_all-sets, part_of-tuple, less-naturals}
use Rattle.aql_value.specs.Partial.{◌>>=◌, each, concat}
use Rattle.aql_value.specs.Laws.Partial.{each-map, each-ext, each-defined}
use Rattle.aql_value.specs.Strict.{Strict, strict_value}
use Rattle.nrca_term.specs.Term.{Term}
use Rattle.nrca_term.specs.Nodes.{variable, single_term, empty_term, if_term, less_term, big_union_term}
use Rattle.nrca_term.specs.Meaning.{Outcomes, cden}
use Rattle.nrca_graph.specs.Encoding.{pair}
use Rattle.nrca_graph.specs.ArrayFree.{equal_term, number_at, greater, greatest, dimension_above}
use Rattle.nrca_graph.specs.Laws.Greatest.{above, is_nil, larger, greatest_of, greatest-is, empty-test, column}

-- a big union whose body is a set at each member
pub union-value : {A : Type 0} (W : Outcomes) (env : List Datum) (s b : Term) (to : A → Datum) (f : A → List Datum) (ps : List A) → cden W env s ≡ Some (set (data_of (map to ps))) →
    Every (λ p. cden W (to p ∷ env) b ≡ Some (set_of (f p))) ps → cden W env (big_union_term s b) ≡ Some (set_of (concat (map f ps)))
union-value {A = A} W env s b to f ps e h =
    ap (λ o. (o >>= as_set >>= each (λ m. cden W (m ∷ env) b)) >>= union_all) e
    ∙ ap (λ ms. each (λ m. cden W (m ∷ env) b) ms >>= union_all) (list_of-data_of (map to ps))
    ∙ ap (λ o. o >>= union_all) (each-map (λ m. cden W (m ∷ env) b) to ps ∙ each-ext (λ p. cden W (to p ∷ env) b) (λ p. Some (set_of (f p))) ps h ∙ each-defined (λ p. set_of (f p)) ps)
    ∙ ap union_all (sym (map-twice ps))
    ∙ union_all-sets (map f ps)
  where
    map-twice : (qs : List A) → map set_of (map f qs) ≡ map (λ p. set_of (f p)) qs
    map-twice [] = refl
    map-twice (q ∷ qs) = ap (λ l. set_of (f q) ∷ l) (map-twice qs)

-- a set of one value where a test holds, and else the empty set
pub condition-value : (W : Outcomes) (env : List Datum) (c a : Term) (b : Bool) (x : Datum) → cden W env c ≡ Some (truth b) → cden W env a ≡ Some x →
    cden W env (if_term c (single_term a) empty_term) ≡ Some (set_of (if b then x ∷ [] else []))
condition-value W env c a b x e h =
    ap (λ o. o >>= as_truth >>= λ t. if t then ((cden W env a >>= λ y. Some (y ∷ [])) >>= strict_value Strict.single) else Some (set nil)) e ∙ of b
  where
    of : (t : Bool) → (Some (truth t) >>= as_truth >>= λ u. if u then ((cden W env a >>= λ y. Some (y ∷ [])) >>= strict_value Strict.single) else Some (set nil)) ≡ Some (set_of (if t then x ∷ [] else []))
    of true = ap (λ o. (o >>= λ y. Some (y ∷ [])) >>= strict_value Strict.single) h
    of false = refl

-- an index and a value as a pair
abbrev pub entry : List ℕ × Datum → Datum
entry q = pair (index_value q.0) q.1

-- the number of the index of a pair that is a variable
pub number-value : (W : Outcomes) (env : List Datum) (rank j i : ℕ) (q : List ℕ × Datum) → slice_get env i ≡ Some (entry q) → length q.0 ≡ rank → j < rank →
    cden W env (number_at rank (suc j) (variable i)) ≡ Some (natural (get_or q.0 j 0))
number-value W env zero j i q e l h = absurd (omega (arith, h))
number-value W env (suc zero) j i q e l h =
    ap (λ o. (o >>= λ y. Some (y ∷ [])) >>= strict_value (Strict.proj 1 2)) e ∙ of q.0 l j h
  where
    of : (at : List ℕ) → length at ≡ 1 → (j : ℕ) → j < 1 → Some (index_value at) ≡ Some (natural (get_or at j 0))
    of [] k j g = absurd (omega (arith, k))
    of (n ∷ []) k zero g = refl
    of (n ∷ []) k (suc j) g = absurd (omega (arith, g))
    of (n ∷ m ∷ at) k j g = absurd (omega (arith, k))
number-value W env (suc (suc rank)) j i q e l h =
    ap (λ o. (((o >>= λ y. Some (y ∷ [])) >>= strict_value (Strict.proj 1 2)) >>= λ y. Some (y ∷ [])) >>= strict_value (Strict.proj (suc j) (suc (suc rank)))) e
    ∙ of q.0 l
  where
    of : (at : List ℕ) → length at ≡ suc (suc rank) → part_of (suc j) (suc (suc rank)) (index_value at) ≡ Some (natural (get_or at j 0))
    of [] k = absurd (omega (arith, k))
    of (n ∷ []) k = absurd (omega (arith, k))
    of (n ∷ m ∷ at) k =
        part_of-tuple j (suc (suc rank)) (map natural (n ∷ m ∷ at)) (length-map (n ∷ m ∷ at) natural ∙ k)
        ∙ slice_get-get_or (map natural (n ∷ m ∷ at)) j (natural 0) (omega (arith, length-map (n ∷ m ∷ at) natural, k, h))
        ∙ ap Some (lists.get_or-map natural (n ∷ m ∷ at) j 0 (natural 0) (omega (arith, k, h)))

-- the indices of entries
abbrev pub indices_in : List (List ℕ × Datum) → List (List ℕ)
indices_in qs = map (λ q. q.0) qs

-- what is collected over entries by their j-th numbers is collected over the column
collected-column : (j : ℕ) (f : ℕ → List Datum) (qs : List (List ℕ × Datum)) → concat (map (λ q. f (get_or q.0 j 0)) qs) ≡ concat (map f (column j (indices_in qs)))
collected-column j f [] = refl
collected-column j f (q ∷ qs) = ap (λ l. f (get_or q.0 j 0) ++ l) (collected-column j f qs)

-- the numbers that exceed that of an entry
greater-value : (W : Outcomes) (env : List Datum) (rank j : ℕ) (q : List ℕ × Datum) (qs : List (List ℕ × Datum)) → length q.0 ≡ rank → Every (λ p. length p.0 ≡ rank) qs → j < rank →
    cden W (entry q ∷ set (data_of (map entry qs)) ∷ env) (greater rank (suc j)) ≡ Some (set_of (larger (get_or q.0 j 0) (column j (indices_in qs))))
greater-value W env rank j q qs l ls h =
    union-value W (entry q ∷ set (data_of (map entry qs)) ∷ env) (variable 1)
    (if_term (less_term (number_at rank (suc j) (variable 1)) (number_at rank (suc j) (variable 0))) (single_term (number_at rank (suc j) (variable 0))) empty_term)
    entry (λ p. exceeding (get_or p.0 j 0)) qs refl
    (Every-impl (λ p. length p.0 ≡ rank) (λ p. cden W (entry p ∷ entry q ∷ set (data_of (map entry qs)) ∷ env) (if_term (less_term (number_at rank (suc j) (variable 1)) (number_at rank (suc j) (variable 0))) (single_term (number_at rank (suc j) (variable 0))) empty_term) ≡ Some (set_of (exceeding (get_or p.0 j 0)))) (λ p k. at_entry p k) qs ls)
    ∙ ap (λ l. Some (set_of l)) (collected-column j exceeding qs)
  where
    exceeding : ℕ → List Datum
    exceeding m = if nat_lt (get_or q.0 j 0) m then natural m ∷ [] else []

    at_entry : (p : List ℕ × Datum) → length p.0 ≡ rank →
        cden W (entry p ∷ entry q ∷ set (data_of (map entry qs)) ∷ env) (if_term (less_term (number_at rank (suc j) (variable 1)) (number_at rank (suc j) (variable 0))) (single_term (number_at rank (suc j) (variable 0))) empty_term)
        ≡ Some (set_of (exceeding (get_or p.0 j 0)))
    at_entry p k =
        let E : List Datum = entry p ∷ entry q ∷ set (data_of (map entry qs)) ∷ env in
        condition-value W E (less_term (number_at rank (suc j) (variable 1)) (number_at rank (suc j) (variable 0))) (number_at rank (suc j) (variable 0)) (nat_lt (get_or q.0 j 0) (get_or p.0 j 0)) (natural (get_or p.0 j 0))
        (ap (λ o. (o >>= λ y. (cden W E (number_at rank (suc j) (variable 0)) >>= λ z. Some (z ∷ [])) >>= λ ys. Some (y ∷ ys)) >>= strict_value (Strict.compare compare_op.Less)) (number-value W E rank j 1 q refl l h)
        ∙ ap (λ o. ((o >>= λ z. Some (z ∷ [])) >>= λ ys. Some (natural (get_or q.0 j 0) ∷ ys)) >>= strict_value (Strict.compare compare_op.Less)) (number-value W E rank j 0 p refl k h)
        ∙ ap (λ b. Some (truth b)) (less-naturals (get_or q.0 j 0) (get_or p.0 j 0)))
        (number-value W E rank j 0 p refl k h)

-- the numbers that none exceeds
greatest-value : (W : Outcomes) (env : List Datum) (rank j : ℕ) (qs : List (List ℕ × Datum)) → Every (λ p. length p.0 ≡ rank) qs → j < rank →
    cden W (set (data_of (map entry qs)) ∷ env) (greatest rank (suc j)) ≡ Some (set_of (greatest_of (column j (indices_in qs)) (column j (indices_in qs))))
greatest-value W env rank j qs ls h =
    union-value W (set (data_of (map entry qs)) ∷ env) (variable 0)
    (if_term (equal_term (greater rank (suc j)) empty_term) (single_term (number_at rank (suc j) (variable 0))) empty_term)
    entry (λ p. unexceeded (get_or p.0 j 0)) qs refl
    (Every-impl (λ p. length p.0 ≡ rank) (λ p. cden W (entry p ∷ set (data_of (map entry qs)) ∷ env) (if_term (equal_term (greater rank (suc j)) empty_term) (single_term (number_at rank (suc j) (variable 0))) empty_term) ≡ Some (set_of (unexceeded (get_or p.0 j 0)))) (λ p k. at_entry p k) qs ls)
    ∙ ap (λ l. Some (set_of l)) (collected-column j unexceeded qs)
  where
    unexceeded : ℕ → List Datum
    unexceeded n = if is_nil (larger n (column j (indices_in qs))) then natural n ∷ [] else []

    at_entry : (p : List ℕ × Datum) → length p.0 ≡ rank →
        cden W (entry p ∷ set (data_of (map entry qs)) ∷ env) (if_term (equal_term (greater rank (suc j)) empty_term) (single_term (number_at rank (suc j) (variable 0))) empty_term)
        ≡ Some (set_of (unexceeded (get_or p.0 j 0)))
    at_entry p k =
        let E : List Datum = entry p ∷ set (data_of (map entry qs)) ∷ env in
        condition-value W E (equal_term (greater rank (suc j)) empty_term) (number_at rank (suc j) (variable 0)) (is_nil (larger (get_or p.0 j 0) (column j (indices_in qs)))) (natural (get_or p.0 j 0))
        (ap (λ o. (o >>= λ y. Some (y ∷ set nil ∷ [])) >>= strict_value (Strict.compare compare_op.Equal)) (greater-value W env rank j p qs k ls h)
        ∙ ap (λ b. Some (truth b)) (empty-test (larger (get_or p.0 j 0) (column j (indices_in qs)))))
        (number-value W E rank j 0 p refl k h)

-- dimension j: the number behind the j-th column, where it is in range
pub dimension-value : (W : Outcomes) (env : List Datum) (rank j : ℕ) (qs : List (List ℕ × Datum)) → Every (λ p. length p.0 ≡ rank) qs → j < rank →
    cden W (set (data_of (map entry qs)) ∷ env) (dimension_above rank (suc j)) ≡ in_range (above (column j (indices_in qs)))
dimension-value W env rank j [] ls h = refl
dimension-value W env rank j (q ∷ qs) ls h =
    let g = greatest-is (get_or q.0 j 0) (column j (indices_in qs)) in
    ap (λ o. (Some (natural 1) >>= λ y. (((o >>= λ z. Some (z ∷ [])) >>= strict_value Strict.get) >>= λ z. Some (z ∷ [])) >>= λ ys. Some (y ∷ ys)) >>= strict_value (Strict.arith Add)) (greatest-value W env rank j (q ∷ qs) ls h)
    ∙ ap (λ l. ((only l >>= λ z. Some (z ∷ [])) >>= λ ys. Some (natural 1 ∷ ys)) >>= strict_value (Strict.arith Add))
    (list_of-data_of (canon (greatest_of (column j (indices_in (q ∷ qs))) (column j (indices_in (q ∷ qs))))) ∙ g.2)
    ∙ (let z : 1 + g.0 ≡ suc g.0 = omega arith in ap (λ n. cond (nat_lt n (2 ^ 128)) (Some n) None >>= λ k. Some (natural k)) z)
    ∙ of (nat_lt (suc g.0) (2 ^ 128)) (suc g.0)
    ∙ sym (ap in_range g.1)
  where
    of : (b : Bool) (n : ℕ) → (cond b (Some n) None >>= λ k. Some (natural k)) ≡ (if b then Some (natural n) else None)
    of true n = refl
    of false n = refl
