-- What nested loops over dimensions are worth: the set of the pairs of all indices.
use Rattle.std.proofs.Common.{◌≡◌, ℕ, ◌+◌, ◌-◌, ◌≤◌, List, [], ◌∷◌, ◌++◌, length, map, Option, Some, None, refl, sym, ap, subst, ◌∙◌, arith, append_assoc, append-nil, length-append}
use Rattle.std.proofs.lemmas.List.{map-append}
use Rattle.std.specs.List.{slice_get}
use Rattle.aql_value.specs.Datum.{Datum, natural}
use Rattle.aql_value.specs.Laws.Datum.{list_of-data_of}
use Rattle.aql_value.specs.Indices.{indices}
use Rattle.aql_value.specs.Lists.{below}
use Rattle.aql_value.specs.Laws.Lists.{Every-all}
use Rattle.aql_value.specs.Operations.{as_set, tuple_of, index_value, set_of, union_all, push_index}
use Rattle.aql_value.specs.Laws.Operations.{union_all-sets}
use Rattle.aql_value.specs.Partial.{◌>>=◌, each, concat}
use Rattle.aql_value.specs.Laws.Partial.{each-ext, each-map, each-append, then-assoc, then-ext}
use Rattle.aql_value.specs.Laws.RowMajor.{indices-cons}
use Rattle.aql_value.specs.Strict.{Strict, strict_value}
use Rattle.nrca_term.specs.Term.{Term}
use Rattle.nrca_term.specs.Nodes.{variable, tuple_term, single_term, gen_term}
use Rattle.nrca_term.specs.Meaning.{Outcomes, cden}
use Rattle.nrca_term.specs.Rules.{sizes_term, index_variables}
use Rattle.nrca_graph.specs.Encoding.{pair}
use Rattle.nrca_graph.specs.Tabulation.{nest}
use Rattle.nrca_term.specs.Laws.Lets.{walked-snoc, walked-past, index-value}

-- a pair of two terms
pub pair-value : (V : Outcomes) (vals : List Datum) (i b : Term) (x : Datum) → cden V vals i ≡ Some x →
    cden V vals (tuple_term (i ∷ b ∷ [])) ≡ (cden V vals b >>= λ w. Some (pair x w))
pair-value V vals i b x e =
    ap (λ p. (p >>= λ y. (cden V vals b >>= λ z. Some (z ∷ [])) >>= λ ys. Some (y ∷ ys)) >>= tuple_of) e ∙ of (cden V vals b)
  where
    of : (q : Option Datum) → ((Some x >>= λ y. (q >>= λ z. Some (z ∷ [])) >>= λ ys. Some (y ∷ ys)) >>= tuple_of) ≡ (q >>= λ w. Some (pair x w))
    of None = refl
    of (Some w) = refl

-- the set of one pair
pub single-value : (V : Outcomes) (vals : List Datum) (i b : Term) (x : Datum) → cden V vals i ≡ Some x →
    cden V vals (single_term (tuple_term (i ∷ b ∷ []))) ≡ (cden V vals b >>= λ w. Some (set_of (pair x w ∷ [])))
single-value V vals i b x e =
    ap (λ p. (((p >>= λ y. (cden V vals b >>= λ z. Some (z ∷ [])) >>= λ ys. Some (y ∷ ys)) >>= tuple_of) >>= λ v. Some (v ∷ [])) >>= strict_value Strict.single) e
    ∙ of (cden V vals b)
  where
    of : (q : Option Datum) → (((Some x >>= λ y. (q >>= λ z. Some (z ∷ [])) >>= λ ys. Some (y ∷ ys)) >>= tuple_of) >>= λ v. Some (v ∷ [])) >>= strict_value Strict.single
        ≡ (q >>= λ w. Some (set_of (pair x w ∷ [])))
    of None = refl
    of (Some w) = refl

-- rank 0 has one index
pub no_indices : indices [] ≡ [] ∷ []
unfolding indices
no_indices = refl

-- sets made of lists, after the lists
collected : {A : Type 0} (F : List ℕ → Option Datum) (L : A → List (List ℕ)) (xs : List A) →
    each (λ x. each F (L x) >>= λ ms. Some (set_of ms)) xs ≡ (each (λ x. each F (L x)) xs >>= λ mss. Some (map set_of mss))
collected F L [] = refl
collected {A = A} F L (x ∷ xs) = first (each F (L x)) (collected F L xs)
  where
    first : (o : Option (List Datum)) → each (λ x. each F (L x) >>= λ ms. Some (set_of ms)) xs ≡ (each (λ x. each F (L x)) xs >>= λ mss. Some (map set_of mss)) →
        ((o >>= λ ms. Some (set_of ms)) >>= λ y. each (λ x. each F (L x) >>= λ ms. Some (set_of ms)) xs >>= λ ys. Some (y ∷ ys))
        ≡ ((o >>= λ y. each (λ x. each F (L x)) xs >>= λ ys. Some (y ∷ ys)) >>= λ mss. Some (map set_of mss))
    first None e = refl
    first (Some ms) e = ap (λ p. p >>= λ ys. Some (set_of ms ∷ ys)) e ∙ then-assoc (each (λ x. each F (L x)) xs) (λ mss. Some (map set_of mss)) (λ ys. Some (set_of ms ∷ ys))
        ∙ sym (then-assoc (each (λ x. each F (L x)) xs) (λ ys. Some (ms ∷ ys)) (λ mss. Some (map set_of mss)))

-- a function at the members of lists, list by list
joined : {A : Type 0} (F : List ℕ → Option Datum) (L : A → List (List ℕ)) (xs : List A) →
    each F (concat (map L xs)) ≡ (each (λ x. each F (L x)) xs >>= λ mss. Some (concat mss))
joined F L [] = refl
joined {A = A} F L (x ∷ xs) = each-append F (L x) (concat (map L xs)) ∙ first (each F (L x)) (joined F L xs)
  where
    first : (o : Option (List Datum)) → each F (concat (map L xs)) ≡ (each (λ x. each F (L x)) xs >>= λ mss. Some (concat mss)) →
        (o >>= λ ys. each F (concat (map L xs)) >>= λ zs. Some (ys ++ zs))
        ≡ ((o >>= λ y. each (λ x. each F (L x)) xs >>= λ ys. Some (y ∷ ys)) >>= λ mss. Some (concat mss))
    first None e = refl
    first (Some ms) e = ap (λ p. p >>= λ zs. Some (ms ++ zs)) e ∙ then-assoc (each (λ x. each F (L x)) xs) (λ mss. Some (concat mss)) (λ zs. Some (ms ++ zs))
        ∙ sym (then-assoc (each (λ x. each F (L x)) xs) (λ ys. Some (ms ∷ ys)) (λ mss. Some (concat mss)))

-- one set of all values of lists, from the sets of each list
sets-together : {A : Type 0} (F : List ℕ → Option Datum) (L : A → List (List ℕ)) (xs : List A) →
    (each (λ x. each F (L x) >>= λ ms. Some (set_of ms)) xs >>= union_all) ≡ (each F (concat (map L xs)) >>= λ ms. Some (set_of ms))
sets-together F L xs =
    ap (λ o. o >>= union_all) (collected F L xs) ∙ then-assoc (each (λ x. each F (L x)) xs) (λ mss. Some (map set_of mss)) union_all
    ∙ then-ext (each (λ x. each F (L x)) xs) (λ mss. union_all (map set_of mss)) (λ mss. Some (set_of (concat mss))) (λ mss e. union_all-sets mss)
    ∙ sym (ap (λ o. o >>= λ ms. Some (set_of ms)) (joined F L xs) ∙ then-assoc (each (λ x. each F (L x)) xs) (λ mss. Some (concat mss)) (λ ms. Some (set_of ms)))

-- an index and the body there, where the body has a value
abbrev pub pair_at : Outcomes → List Datum → Term → List ℕ → Option Datum
pair_at V l b at = cden V (push_index at l) b >>= λ w. Some (pair (index_value at) w)

-- The nest over the dimensions that are left gives the pairs of all indices that begin with those so far.
pub nest-value : (V : Outcomes) (b : Term) (l : List Datum) (done before rest : List ℕ) → length done ≡ length before → 1 ≤ length (before ++ rest) →
    cden V (push_index done (push_index (before ++ rest) l))
    (nest (length rest) (gen_term (variable (length (before ++ rest) - 1))) (single_term (tuple_term (sizes_term (index_variables (length (before ++ rest))) ∷ b ∷ []))))
    ≡ (each (pair_at V (push_index (before ++ rest) l) b) (map (λ at. done ++ at) (indices rest)) >>= λ ms. Some (set_of ms))
nest-value V b l done before [] e h = innermost
  where
    all : length (before ++ []) ≡ length done
    all = omega (arith, e, length-append before [])

    at_end : done ++ [] ≡ done
    at_end = append-nil done

    ends : (p : Option Datum) → (p >>= λ w. Some (set_of (pair (index_value done) w ∷ []))) ≡ (((p >>= λ w. Some (pair (index_value done) w)) >>= λ y. Some (y ∷ [])) >>= λ ms. Some (set_of ms))
    ends None = refl
    ends (Some w) = refl

    innermost : cden V (push_index done (push_index (before ++ []) l)) (single_term (tuple_term (sizes_term (index_variables (length (before ++ []))) ∷ b ∷ [])))
        ≡ (each (pair_at V (push_index (before ++ []) l) b) (map (λ at. done ++ at) (indices [])) >>= λ ms. Some (set_of ms))
    innermost =
        ap (λ n. cden V (push_index done (push_index (before ++ []) l)) (single_term (tuple_term (sizes_term (index_variables n) ∷ b ∷ [])))) all
        ∙ single-value V (push_index done (push_index (before ++ []) l)) (sizes_term (index_variables (length done))) b (index_value done) (index-value V done (push_index (before ++ []) l) (omega (arith, h, all)))
        ∙ ends (cden V (push_index done (push_index (before ++ []) l)) b)
        ∙ ap (λ at. each (pair_at V (push_index (before ++ []) l) b) (at ∷ []) >>= λ ms. Some (set_of ms)) (sym at_end)
        ∙ ap (λ ats. each (pair_at V (push_index (before ++ []) l) b) (map (λ at. done ++ at) ats) >>= λ ms. Some (set_of ms)) (sym no_indices)
nest-value V b l done before (d ∷ rest) e h =
    ap (λ o. ((((o >>= λ y. Some (y ∷ [])) >>= strict_value Strict.gen) >>= as_set) >>= each (λ m. cden V (m ∷ env) inner)) >>= union_all) bound
    ∙ ap (λ ms. each (λ m. cden V (m ∷ env) inner) ms >>= union_all) (list_of-data_of (map natural (below d)))
    ∙ ap (λ o. o >>= union_all) (each-map (λ m. cden V (m ∷ env) inner) natural (below d)
    ∙ each-ext (λ i. cden V (natural i ∷ env) inner) (λ i. each F (map (λ at. (done ++ i ∷ []) ++ at) (indices rest)) >>= λ ms. Some (set_of ms)) (below d) (Every-all _ (λ i. further i (nest-value V b l (done ++ i ∷ []) (before ++ d ∷ []) rest (omega (arith, e, length-append done (i ∷ []), length-append before (d ∷ []))) (subst (λ ms. 1 ≤ length ms) regroup h))) (below d)))
    ∙ sets-together F (λ i. map (λ at. (done ++ i ∷ []) ++ at) (indices rest)) (below d)
    ∙ ap (λ ats. each F ats >>= λ ms. Some (set_of ms)) (sym (rows (below d)) ∙ ap (map (λ at. done ++ at)) (sym (indices-cons d rest)))
  where
    ns : List ℕ
    ns = before ++ d ∷ rest

    env : List Datum
    env = push_index done (push_index ns l)

    inner : Term
    inner = nest (length rest) (gen_term (variable (length ns - 1))) (single_term (tuple_term (sizes_term (index_variables (length ns)) ∷ b ∷ [])))

    F : List ℕ → Option Datum
    F = pair_at V (push_index ns l) b

    found : (xs ys : List ℕ) (k : List Datum) → slice_get (push_index (xs ++ d ∷ ys) k) (length ys) ≡ Some (natural d)
    found [] ys k = (let z : length ys ≡ length ys + 0 = omega arith in ap (slice_get (push_index ys (natural d ∷ k))) z) ∙ walked-past ys (natural d ∷ k) 0
    found (x ∷ xs) ys k = found xs ys (natural x ∷ k)

    bound : cden V env (variable (length ns - 1)) ≡ Some (natural d)
    bound = (let z : length ns - 1 ≡ length done + length rest = omega (arith, e, length-append before (d ∷ rest)) in ap (slice_get env) z)
        ∙ walked-past done (push_index ns l) (length rest) ∙ found before rest l

    regroup : before ++ d ∷ rest ≡ (before ++ d ∷ []) ++ rest
    regroup = sym (append_assoc before (d ∷ []) rest)

    further : (i : ℕ) →
        cden V (push_index (done ++ i ∷ []) (push_index ((before ++ d ∷ []) ++ rest) l)) (nest (length rest) (gen_term (variable (length ((before ++ d ∷ []) ++ rest) - 1))) (single_term (tuple_term (sizes_term (index_variables (length ((before ++ d ∷ []) ++ rest))) ∷ b ∷ []))))
        ≡ (each (pair_at V (push_index ((before ++ d ∷ []) ++ rest) l) b) (map (λ at. (done ++ i ∷ []) ++ at) (indices rest)) >>= λ us. Some (set_of us)) →
        cden V (natural i ∷ env) inner ≡ (each F (map (λ at. (done ++ i ∷ []) ++ at) (indices rest)) >>= λ ms. Some (set_of ms))
    further i ih =
        ap (λ x. cden V x inner) (walked-snoc done i (push_index ns l))
        ∙ subst (λ ms. cden V (push_index (done ++ i ∷ []) (push_index ms l)) (nest (length rest) (gen_term (variable (length ms - 1))) (single_term (tuple_term (sizes_term (index_variables (length ms)) ∷ b ∷ []))))
        ≡ (each (pair_at V (push_index ms l) b) (map (λ at. (done ++ i ∷ []) ++ at) (indices rest)) >>= λ us. Some (set_of us))) (sym regroup) ih

    map-twice : (i : ℕ) (ats : List (List ℕ)) → map (λ at. done ++ at) (map (λ at. i ∷ at) ats) ≡ map (λ at. (done ++ i ∷ []) ++ at) ats
    map-twice i [] = refl
    map-twice i (at ∷ ats) = ap (λ x. x ∷ map (λ at. done ++ at) (map (λ at. i ∷ at) ats)) (sym (append_assoc done (i ∷ []) at)) ∙ ap (λ xs. ((done ++ i ∷ []) ++ at) ∷ xs) (map-twice i ats)

    rows : (is : List ℕ) → map (λ at. done ++ at) (concat (map (λ i. map (λ at. i ∷ at) (indices rest)) is)) ≡ concat (map (λ i. map (λ at. (done ++ i ∷ []) ++ at) (indices rest)) is)
    rows [] = refl
    rows (i ∷ is) = map-append (λ at. done ++ at) (map (λ at. i ∷ at) (indices rest)) (concat (map (λ i. map (λ at. i ∷ at) (indices rest)) is))
        ∙ ap (λ x. x ++ map (λ at. done ++ at) (concat (map (λ i. map (λ at. i ∷ at) (indices rest)) is))) (map-twice i (indices rest))
        ∙ ap (λ x. map (λ at. (done ++ i ∷ []) ++ at) (indices rest) ++ x) (rows is)
