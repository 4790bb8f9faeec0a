-- The turns of nested loops, and of the array-free form of a tabulation.
use Rattle.std.proofs.Common.{◌≡◌, ℕ, zero, suc, ◌+◌, ◌-◌, ◌*◌, List, [], ◌∷◌, ◌++◌, length, map, Some, unwrap_or, refl, sym, ap, subst, ◌∙◌, arith, append_assoc, append-nil, length-append}
use Rattle.std.proofs.Math.Nat.{mul-add, mul_comm}
use Rattle.std.specs.List.{slice_get}
use Rattle.aql_value.specs.Datum.{Datum, natural}
use Rattle.aql_value.specs.Laws.Datum.{list_of-data_of}
use Rattle.aql_value.specs.Indices.{indices, prefix_products}
use Rattle.aql_value.specs.Lists.{below}
use Rattle.aql_value.specs.Laws.Lists.{Every-all, length-below}
use Rattle.aql_value.specs.Operations.{as_set, push_index}
use Rattle.aql_value.specs.Partial.{◌>>=◌, concat, total, if_some}
use Rattle.aql_value.specs.Laws.Partial.{total-ext, total-map, total-append}
use Rattle.aql_value.specs.Laws.RowMajor.{indices-cons}
use Rattle.aql_value.specs.Strict.{Strict, strict_value, strict_turns}
use Rattle.nrca_term.specs.Term.{Term, Form, plain, none}
use Rattle.nrca_term.specs.Nodes.{variable, tuple_term, single_term, gen_term, big_union_term}
use Rattle.nrca_term.specs.Meaning.{Outcomes, cden, part_values}
use Rattle.nrca_term.specs.Turns.{settle, parts_settle}
use Rattle.nrca_term.specs.Rules.{sizes_term, index_variables}
use Rattle.nrca_graph.specs.Tabulation.{nest}
use Rattle.nrca_graph.specs.Laws.Nests.{no_indices}
use Rattle.nrca_term.specs.Laws.Lets.{walked-snoc, walked-past}
use Rattle.std.proofs.lemmas.List.{map-append}

-- a loop over the set of the numbers below n: its members, those of the generated set, and the body at each
gen-loop-turns : (V : Outcomes) (env : List Datum) (e b : Term) (n : ℕ) → cden V env e ≡ Some (natural n) → settle V env e ≡ 0 →
    settle V env (big_union_term (gen_term e) b) ≡ 2 * n + total (λ i. settle V (natural i ∷ env) b) (below n)
gen-loop-turns V env e b n v z =
    ap (λ o. if_some (((o >>= λ y. Some (y ∷ [])) >>= strict_value Strict.gen) >>= as_set) length
    + (((strict_turns Strict.gen (o >>= λ y. Some (y ∷ [])) + ((settle V env e + 0) + 0)) + 0)
    + (total (λ new. settle V (new ++ env) b) (map (λ m. m ∷ []) (unwrap_or (((o >>= λ y. Some (y ∷ [])) >>= strict_value Strict.gen) >>= as_set) [])) + 0))) v
    ∙ ap (λ ms. length ms + (((n + ((settle V env e + 0) + 0)) + 0) + (total (λ new. settle V (new ++ env) b) (map (λ m. m ∷ []) ms) + 0))) (list_of-data_of (map natural (below n)))
    ∙ (let a = total-map (λ new. settle V (new ++ env) b) (λ m. m ∷ []) (map natural (below n)) in
    let c = total-map (λ m. settle V (m ∷ env) b) natural (below n) in
    let d = length-naturals (below n) in
    omega (arith, a, c, d, length-below n, z))
  where
    length-naturals : (xs : List ℕ) → length (map natural xs) ≡ length xs
    length-naturals [] = refl
    length-naturals (x ∷ xs) = ap suc (length-naturals xs)

-- index variables take no turns
variables-free : (V : Outcomes) (env : List Datum) (k : ℕ) → settle V env (sizes_term (index_variables k)) ≡ 0
variables-free V env zero = refl
variables-free V env (suc zero) = refl
variables-free V env (suc (suc k)) = omega (arith, parts-free (Form.strict Strict.tuple) 0 (suc (suc k)))
  where
    parts-free : (f : Form) (i n : ℕ) → parts_settle V env (Form.strict Strict.tuple) (part_values V env (plain (index_variables (suc (suc k))) none)) i (plain (index_variables n) none) ≡ 0
    parts-free f i zero = refl
    parts-free f i (suc n) = omega (arith, parts-free f (suc i) n)

-- the set of one pair takes the turns of its second part
single-turns : (V : Outcomes) (env : List Datum) (k : ℕ) (b : Term) → settle V env (single_term (tuple_term (sizes_term (index_variables k) ∷ b ∷ []))) ≡ settle V env b
single-turns V env k b = omega (arith, variables-free V env k)

-- a number of steps at each, twice
total-steps : (n : ℕ) (g : ℕ → ℕ) (xs : List ℕ) → total (λ i. 2 * n + g i) xs ≡ 2 * (n * length xs) + total g xs
total-steps n g [] = omega (arith, mul_comm n 0)
total-steps n g (x ∷ xs) = omega (arith, total-steps n g xs, mul-add n (length xs) 1)

-- a total over lists, list by list
total-rows : (g : List ℕ → ℕ) (L : ℕ → List (List ℕ)) (xs : List ℕ) → total (λ i. total g (L i)) xs ≡ total g (concat (map L xs))
total-rows g L [] = refl
total-rows g L (x ∷ xs) = omega (arith, total-rows g L xs, total-append g (L x) (concat (map L xs)))

-- Twice the prefix products, and the body's turns at each index that begins with those so far.
pub nest-turns : (V : Outcomes) (b : Term) (l : List Datum) (done before rest : List ℕ) → length done ≡ length before →
    settle V (push_index done (push_index (before ++ rest) l))
    (nest (length rest) (gen_term (variable (length (before ++ rest) - 1))) (single_term (tuple_term (sizes_term (index_variables (length (before ++ rest))) ∷ b ∷ []))))
    ≡ 2 * prefix_products rest + total (λ at. settle V (push_index at (push_index (before ++ rest) l)) b) (map (λ at. done ++ at) (indices rest))
nest-turns V b l done before [] e =
    single-turns V (push_index done (push_index (before ++ []) l)) (length (before ++ [])) b
    ∙ ap (λ at. settle V (push_index at (push_index (before ++ []) l)) b) (sym (append-nil done))
    ∙ (let z = ap (λ ats. total (λ at. settle V (push_index at (push_index (before ++ []) l)) b) (map (λ at. done ++ at) ats)) no_indices in omega (arith, z))
nest-turns V b l done before (d ∷ rest) e =
    gen-loop-turns V env (variable (length ns - 1)) inner d bound refl
    ∙ (let a = total-ext (λ i. settle V (natural i ∷ env) inner) (λ i. 2 * prefix_products rest + total T (map (λ at. (done ++ i ∷ []) ++ at) (indices rest))) (below d)
    (Every-all _ (λ i. further i (nest-turns V b l (done ++ i ∷ []) (before ++ d ∷ []) rest (omega (arith, e, length-append done (i ∷ []), length-append before (d ∷ []))))) (below d)) in
    let c = total-steps (prefix_products rest) (λ i. total T (map (λ at. (done ++ i ∷ []) ++ at) (indices rest))) (below d) in
    let f = total-rows T (λ i. map (λ at. (done ++ i ∷ []) ++ at) (indices rest)) (below d) in
    let g = ap (total T) (rows (below d)) in
    let h = ap (λ ats. total T (map (λ at. done ++ at) ats)) (indices-cons d rest) in
    let k = ap (λ n. prefix_products rest * n) (length-below d) in
    omega (arith, a, c, f, g, h, k, mul_comm (prefix_products rest) d))
  where
    ns : List ℕ
    ns = before ++ d ∷ rest

    env : List Datum
    env = push_index done (push_index ns l)

    inner : Term
    inner = nest (length rest) (gen_term (variable (length ns - 1))) (single_term (tuple_term (sizes_term (index_variables (length ns)) ∷ b ∷ [])))

    T : List ℕ → ℕ
    T at = settle V (push_index at (push_index ns l)) b

    found : (xs ys : List ℕ) (k : List Datum) → slice_get (push_index (xs ++ d ∷ ys) k) (length ys) ≡ Some (natural d)
    found [] ys k = (let z : length ys ≡ length ys + 0 = omega arith in ap (slice_get (push_index ys (natural d ∷ k))) z) ∙ walked-past ys (natural d ∷ k) 0
    found (x ∷ xs) ys k = found xs ys (natural x ∷ k)

    bound : cden V env (variable (length ns - 1)) ≡ Some (natural d)
    bound = (let z : length ns - 1 ≡ length done + length rest = omega (arith, e, length-append before (d ∷ rest)) in ap (slice_get env) z)
        ∙ walked-past done (push_index ns l) (length rest) ∙ found before rest l

    regroup : before ++ d ∷ rest ≡ (before ++ d ∷ []) ++ rest
    regroup = sym (append_assoc before (d ∷ []) rest)

    further : (i : ℕ) →
        settle V (push_index (done ++ i ∷ []) (push_index ((before ++ d ∷ []) ++ rest) l)) (nest (length rest) (gen_term (variable (length ((before ++ d ∷ []) ++ rest) - 1))) (single_term (tuple_term (sizes_term (index_variables (length ((before ++ d ∷ []) ++ rest))) ∷ b ∷ []))))
        ≡ 2 * prefix_products rest + total (λ at. settle V (push_index at (push_index ((before ++ d ∷ []) ++ rest) l)) b) (map (λ at. (done ++ i ∷ []) ++ at) (indices rest)) →
        settle V (natural i ∷ env) inner ≡ 2 * prefix_products rest + total T (map (λ at. (done ++ i ∷ []) ++ at) (indices rest))
    further i ih =
        ap (λ x. settle V x inner) (walked-snoc done i (push_index ns l))
        ∙ subst (λ ms. settle V (push_index (done ++ i ∷ []) (push_index ms l)) (nest (length rest) (gen_term (variable (length ms - 1))) (single_term (tuple_term (sizes_term (index_variables (length ms)) ∷ b ∷ []))))
        ≡ 2 * prefix_products rest + total (λ at. settle V (push_index at (push_index ms l)) b) (map (λ at. (done ++ i ∷ []) ++ at) (indices rest))) (sym regroup) ih

    map-twice : (i : ℕ) (ats : List (List ℕ)) → map (λ at. done ++ at) (map (λ at. i ∷ at) ats) ≡ map (λ at. (done ++ i ∷ []) ++ at) ats
    map-twice i [] = refl
    map-twice i (at ∷ ats) = ap (λ x. x ∷ map (λ at. done ++ at) (map (λ at. i ∷ at) ats)) (sym (append_assoc done (i ∷ []) at)) ∙ ap (λ xs. ((done ++ i ∷ []) ++ at) ∷ xs) (map-twice i ats)

    rows : (is : List ℕ) → map (λ at. done ++ at) (concat (map (λ i. map (λ at. i ∷ at) (indices rest)) is)) ≡ concat (map (λ i. map (λ at. (done ++ i ∷ []) ++ at) (indices rest)) is)
    rows [] = refl
    rows (i ∷ is) = map-append (λ at. done ++ at) (map (λ at. i ∷ at) (indices rest)) (concat (map (λ i. map (λ at. i ∷ at) (indices rest)) is))
        ∙ ap (λ x. x ++ map (λ at. done ++ at) (concat (map (λ i. map (λ at. i ∷ at) (indices rest)) is))) (map-twice i (indices rest))
        ∙ ap (λ x. map (λ at. (done ++ i ∷ []) ++ at) (indices rest) ++ x) (rows is)
