-- Turns of lets, of tables, and of the forms that stand for tabulations, subscripts and literals.
use Rattle.std.proofs.Common.{◌≡◌, ℕ, zero, suc, ◌+◌, ◌-◌, ◌*◌, ◌≤◌, Bool, true, false, nat_le, List, [], ◌∷◌, ◌++◌, length, map, Option, Some, None, refl, sym, ap, ◌∙◌, if◌then◌else◌, arith}
use Rattle.std.proofs.lemmas.Bool.{lt-ltb, le-ltb}
use Rattle.std.proofs.Math.Nat.{mul-add, mul_comm}
use Rattle.aql_value.specs.declared.ops.CompareOp.TheVariants as compare_op
use Rattle.aql_value.specs.Datum as datum
use Rattle.aql_value.specs.Datum.{Datum, set, data_of}
use Rattle.aql_value.specs.Indices.{indices, prefix_products}
use Rattle.aql_value.specs.Laws.Datum.{list_of-data_of}
use Rattle.aql_value.specs.Lists.{Every, onto}
use Rattle.aql_value.specs.Laws.Lists.{Every-impl, Every-all}
use Rattle.aql_value.specs.Laws.RowMajor.{indices_lengths}
use Rattle.aql_value.specs.Operations.{as_set, as_truth, push_index}
use Rattle.aql_value.specs.Partial.{◌>>=◌, each, total, if_some}
use Rattle.aql_value.specs.Laws.Partial.{each-length, total-ext, total-map}
use Rattle.aql_value.specs.Strict.{Strict}
use Rattle.nrca_term.specs.Term.{Term, Parts, none, part, plain, Form, WellFormed, terms_in}
use Rattle.nrca_term.specs.Nodes.{variable, number, truth_term, bottom_term, tuple_term, proj_term, single_term, gen_term, empty_term, if_term, big_union_term}
use Rattle.nrca_term.specs.Meaning.{Outcomes, Part, cden, bounds_value}
use Rattle.nrca_term.specs.Places.{entry_values, indices_of}
use Rattle.nrca_term.specs.Turns.{settle, parts_settle}
use Rattle.nrca_term.specs.Subst.{shift_term}
use Rattle.nrca_term.specs.Rules.{lets, sizes_term, index_variables}
use Rattle.nrca_term.specs.Laws.Entering.{length-walked}
use Rattle.nrca_term.specs.Laws.Lets.{onto-naturals, walked-append}
use Rattle.nrca_term.specs.Laws.Shifting.{cden-shift_term}
use Rattle.nrca_term.specs.Laws.TurnsShift.{settle-shift_term}
use Rattle.nrca_term.specs.Laws.Variants.{settle-strict, settle-let, settle-if, settle-big_union, parts_settle-plain}
use Rattle.nrca_term.specs.Laws.WellFormed.{strict-plain}
use Rattle.nrca_graph.specs.ArrayFree.{equal_term, paired_with, product_term, is_filled, index_of_cell, cell_pairs, united_neighbours, union_tree, literal_graph}
use Rattle.nrca_graph.specs.Tabulation.{nest, table_term, tabulation_graph}
use Rattle.nrca_graph.specs.Laws.NestTurns.{nest-turns}
use Rattle.nrca_graph.specs.Laws.Paired.{selection}
use Rattle.nrca_graph.specs.Laws.QuietTerms.{Quiet, quiet-variable, quiet-variables, quiet-sizes, quiet-proj, quiet-compare, quiet-single, quiet-product, quiet-where_zero, quiet-index_of_cell}

-- lets take the turns of their terms, and those of the body where all have values
pub lets-turns : (V : Outcomes) (pre vals : List Datum) (is : List Term) (body : Term) → Every WellFormed is →
    settle V (pre ++ vals) (lets (length pre) is body) ≤ total (settle V vals) is + if_some (each (cden V vals) is) (λ ws. settle V (onto ws pre ++ vals) body)
lets-turns V pre vals [] body h = omega arith
lets-turns V pre vals (i ∷ is) body h =
    omega (
      arith,
      settle-let V (pre ++ vals) (shift_term 0 (length pre) i) (lets (suc (length pre)) is body),
      settle-shift_term V [] pre vals i h.0,
      ap (λ o. if_some o (λ w. settle V (w ∷ (pre ++ vals)) (lets (suc (length pre)) is body))) (cden-shift_term V [] pre vals i),
      of (cden V vals i) (λ w. lets-turns V (w ∷ pre) vals is body h.1),
    )
  where
    inner : (w : Datum) (o : Option (List Datum)) → if_some o (λ ws. settle V (onto ws (w ∷ pre) ++ vals) body) ≡ if_some (o >>= λ ws. Some (w ∷ ws)) (λ ws. settle V (onto ws pre ++ vals) body)
    inner w None = refl
    inner w (Some ws) = refl

    of : (o : Option Datum) →
        ((w : Datum) → settle V (w ∷ (pre ++ vals)) (lets (suc (length pre)) is body) ≤ total (settle V vals) is + if_some (each (cden V vals) is) (λ ws. settle V (onto ws (w ∷ pre) ++ vals) body)) →
        if_some o (λ w. settle V (w ∷ (pre ++ vals)) (lets (suc (length pre)) is body))
        ≤ total (settle V vals) is + if_some (o >>= λ w. each (cden V vals) is >>= λ ws. Some (w ∷ ws)) (λ ws. settle V (onto ws pre ++ vals) body)
    of None k = omega arith
    of (Some w) k = omega (arith, k w, inner w (each (cden V vals) is))

-- a number at each
pub total-same : {A : Type 0} (f : A → ℕ) (n : ℕ) (xs : List A) → Every (λ x. f x ≡ n) xs → total f xs ≡ length xs * n
total-same f n [] h = omega (arith, mul_comm 0 n)
total-same f n (x ∷ xs) h = omega (arith, h.0, total-same f n xs h.1, mul_comm (suc (length xs)) n, mul_comm (length xs) n, mul-add n (length xs) 1)

-- no number is put before
same-indices : (ats : List (List ℕ)) → map (λ at. [] ++ at) ats ≡ ats
same-indices [] = refl
same-indices (at ∷ ats) = ap (λ l. at ∷ l) (same-indices ats)

-- the dimensions and the pairs of each index and the body
pub table-turns : (V : Outcomes) (b : Term) (l : List Datum) (ns : List ℕ) →
    settle V (push_index ns l) (table_term (length ns) b) ≡ 2 * prefix_products ns + total (λ at. settle V (push_index at (push_index ns l)) b) (indices ns)
table-turns V b l ns =
    let vs = index_variables (length ns) in
    let inner = nest (length ns) (gen_term (variable (length ns - 1))) (single_term (tuple_term (sizes_term vs ∷ b ∷ []))) in
    omega (
      arith,
      settle-strict V (push_index ns l) Strict.tuple (sizes_term vs ∷ inner ∷ []),
      quiet-sizes V vs (quiet-variables V (length ns)) (push_index ns l),
      nest-turns V b l [] [] ns refl,
      ap (total (λ at. settle V (push_index at (push_index ns l)) b)) (same-indices (indices ns)),
    )

-- the body of a tabulation under the lets of its bounds
body-turns : (V : Outcomes) (l : List Datum) (b : Term) (ns at : List ℕ) → WellFormed b → length at ≡ length ns →
    settle V (push_index at (push_index ns l)) (shift_term (length ns) (length ns) b) ≡ settle V (push_index at [] ++ l) b
body-turns V l b ns at w e =
    let m : length ns ≡ length (push_index at []) = omega (arith, length-walked at [], e) in
    let n : length ns ≡ length (push_index ns []) = omega (arith, length-walked ns []) in
    ap (λ x. settle V (push_index at x) (shift_term (length ns) (length ns) b)) (sym (walked-append ns [] l))
    ∙ ap (λ x. settle V x (shift_term (length ns) (length ns) b)) (sym (walked-append at [] (push_index ns [] ++ l)))
    ∙ ap (λ k. settle V (push_index at [] ++ (push_index ns [] ++ l)) (shift_term k (length ns) b)) m
    ∙ ap (λ k. settle V (push_index at [] ++ (push_index ns [] ++ l)) (shift_term (length (push_index at [])) k b)) n
    ∙ settle-shift_term V (push_index at []) (push_index ns []) l b w

-- a tabulation whose bounds have values
tabulated-turns : (V : Outcomes) (l : List Datum) (ds : List Term) (b : Term) (ns : List ℕ) → Every WellFormed ds → WellFormed b → each (cden V l) ds ≡ Some (map datum.natural ns) → length ds ≡ length ns →
    settle V l (tabulation_graph ds b) ≤ 2 * prefix_products ns + (total (settle V l) ds + total (λ at. settle V (push_index at [] ++ l) b) (indices ns))
tabulated-turns V l ds b ns h w e n =
    let K = λ (ws : List Datum). settle V (onto ws [] ++ l) (table_term (length ds) (shift_term (length ds) (length ds) b)) in
    omega (
      arith,
      lets-turns V [] l ds (table_term (length ds) (shift_term (length ds) (length ds) b)) h,
      ap (λ o. if_some o K) e
          ∙ ap (λ x. settle V (x ++ l) (table_term (length ds) (shift_term (length ds) (length ds) b))) (onto-naturals ns [])
          ∙ ap (λ x. settle V x (table_term (length ds) (shift_term (length ds) (length ds) b))) (walked-append ns [] l)
          ∙ ap (λ k. settle V (push_index ns l) (table_term k (shift_term k k b))) n
          ∙ table-turns V (shift_term (length ns) (length ns) b) l ns,
      total-ext (λ at. settle V (push_index at (push_index ns l)) (shift_term (length ns) (length ns) b)) (λ at. settle V (push_index at [] ++ l) b) (indices ns)
          (Every-impl (λ at. length at ≡ length ns) _ (λ at k. body-turns V l b ns at w k) (indices ns) (indices_lengths ns)),
    )

-- the parts of a tabulation: the bounds once, and the body at each index
tabulation-parts : (V : Outcomes) (l : List Datum) (ds : List Term) (b : Term) (w : List Part) →
    parts_settle V l (Form.tab (length ds)) w 0 (plain ds (part (length ds) b none))
    ≡ total (settle V l) ds + total (λ at. settle V (push_index at [] ++ l) b) (indices_of (bounds_value (length ds) w))
tabulation-parts V l ds b w =
    let z : 0 + length ds ≡ length ds = omega arith in
    let body : entry_values (Form.tab (length ds)) w (0 + length ds) ≡ map (λ at. push_index at []) (indices_of (bounds_value (length ds) w)) =
    ap (entry_values (Form.tab (length ds)) w) z ∙ rw (le-ltb (length ds) (length ds) (omega arith)) refl in
    omega (
      arith,
      parts_settle-plain V l (Form.tab (length ds)) w 0 ds (part (length ds) b none) (λ j k. (let y : 0 + j ≡ j = omega arith in ap (entry_values (Form.tab (length ds)) w) y) ∙ rw (lt-ltb j (length ds) k) refl),
      ap (total (λ new. settle V (new ++ l) b)) body,
      total-map (λ new. settle V (new ++ l) b) (λ at. push_index at []) (indices_of (bounds_value (length ds) w)),
    )

-- a tabulation by its parts
pub tabulation-turns : (V : Outcomes) (l : List Datum) (ds : List Term) (b : Term) (w : List Part) (o : Option (List ℕ)) → Every WellFormed ds → WellFormed b → bounds_value (length ds) w ≡ o →
    each (cden V l) ds ≡ (o >>= λ ns. Some (map datum.natural ns)) → ((ns : List ℕ) → o ≡ Some ns → length ds ≡ length ns) →
    settle V l (tabulation_graph ds b) ≤ if_some o (λ ns. 2 * prefix_products ns) + parts_settle V l (Form.tab (length ds)) w 0 (plain ds (part (length ds) b none))
tabulation-turns V l ds b w None h k e f n =
    omega (
      arith,
      lets-turns V [] l ds (table_term (length ds) (shift_term (length ds) (length ds) b)) h,
      ap (λ o. if_some o (λ (ws : List Datum). settle V (onto ws [] ++ l) (table_term (length ds) (shift_term (length ds) (length ds) b)))) f,
      tabulation-parts V l ds b w,
    )
tabulation-turns V l ds b w (Some ns) h k e f n =
    omega (
      arith,
      tabulated-turns V l ds b ns h k f (n ns refl),
      tabulation-parts V l ds b w,
      ap (λ o. total (λ at. settle V (push_index at [] ++ l) b) (indices_of o)) e,
    )

-- the selection by an index at one pair takes no turns, where the index takes none
selection-turns : (V : Outcomes) (env : List Datum) (i : Term) → settle V env (shift_term 0 1 i) ≡ 0 → settle V env (selection i) ≡ 0
selection-turns V env i h =
    omega (
      arith,
      settle-if V env (equal_term (proj_term 1 2 (variable 0)) (shift_term 0 1 i)) (single_term (proj_term 2 2 (variable 0))) empty_term,
      settle-strict V env (Strict.compare compare_op.Equal) (proj_term 1 2 (variable 0) ∷ shift_term 0 1 i ∷ []),
      quiet-proj V 1 2 (variable 0) (quiet-variable V 0) env,
      h,
      of (cden V env (equal_term (proj_term 1 2 (variable 0)) (shift_term 0 1 i)) >>= as_truth),
    )
  where
    of : (o : Option Bool) → if_some o (λ t. if t then settle V env (single_term (proj_term 2 2 (variable 0))) else settle V env empty_term) ≡ 0
    of None = refl
    of (Some true) = quiet-single V (proj_term 2 2 (variable 0)) (quiet-proj V 2 2 (variable 0) (quiet-variable V 0)) env
    of (Some false) = refl

-- a loop over a set whose body takes so many turns at each member
pub loop-turns : (V : Outcomes) (env : List Datum) (s b : Term) (ms : List Datum) (n : ℕ) → cden V env s ≡ Some (set (data_of ms)) → settle V env s ≡ 0 → Every (λ m. settle V (m ∷ env) b ≡ n) ms →
    settle V env (big_union_term s b) ≡ length ms + length ms * n
loop-turns V env s b ms n e z h =
    omega (
      arith,
      settle-big_union V env s b,
      z,
      ap (λ o. if_some (o >>= as_set) length) e ∙ ap length (list_of-data_of ms),
      ap (λ o. if_some (o >>= as_set) (total (λ m. settle V (m ∷ env) b))) e ∙ ap (total (λ m. settle V (m ∷ env) b)) (list_of-data_of ms),
      total-same (λ m. settle V (m ∷ env) b) n ms h,
    )

-- the selection over a set of pairs takes a turn for each
pub paired-turns : (V : Outcomes) (env : List Datum) (s i : Term) (ms : List Datum) → cden V env s ≡ Some (set (data_of ms)) → settle V env s ≡ 0 → WellFormed i → settle V env i ≡ 0 →
    settle V env (paired_with s i) ≡ length ms
paired-turns V env s i ms e z w q =
    omega (arith, mul_comm (length ms) 0, loop-turns V env s (selection i) ms 0 e z (Every-all _ (λ m. selection-turns V (m ∷ env) i (settle-shift_term V [] (m ∷ []) env i w ∙ q)) ms))

-- the pairs of a literal take the turns of its cells
pairs-turns : (V : Outcomes) (env : List Datum) (m : ℕ) (vs cs : List Term) → Every (Quiet V) vs → total (settle V env) (cell_pairs m vs cs) ≡ total (settle V env) cs
pairs-turns V env m vs [] h = refl
pairs-turns V env m vs (c ∷ cs) h =
    let at = sizes_term (index_of_cell m vs) in
    omega (
      arith,
      settle-strict V env Strict.single (tuple_term (at ∷ c ∷ []) ∷ []),
      settle-strict V env Strict.tuple (at ∷ c ∷ []),
      quiet-sizes V (index_of_cell m vs) (quiet-index_of_cell V m vs h) env,
      pairs-turns V env (suc m) vs cs h,
    )

neighbours-turns : (V : Outcomes) (env : List Datum) (ts : List Term) → total (settle V env) (united_neighbours ts) ≡ total (settle V env) ts
neighbours-turns V env [] = refl
neighbours-turns V env (t ∷ []) = refl
neighbours-turns V env (t ∷ u ∷ ts) = omega (arith, settle-strict V env Strict.union (t ∷ u ∷ []), neighbours-turns V env ts)

united-turns : (V : Outcomes) (env : List Datum) (n : ℕ) (ts : List Term) → settle V env (union_tree n ts) ≤ total (settle V env) ts
united-turns V env zero [] = omega arith
united-turns V env zero (t ∷ ts) = omega arith
united-turns V env (suc n) ts = omega (arith, united-turns V env n (united_neighbours ts), neighbours-turns V env ts)

length-onto : (ws l : List Datum) → length (onto ws l) ≡ length ws + length l
length-onto [] l = omega arith
length-onto (w ∷ ws) l = omega (arith, length-onto ws (w ∷ l))

shifted-turns : (V : Outcomes) (new env : List Datum) (cs : List Term) → Every WellFormed cs → total (settle V (new ++ env)) (map (shift_term 0 (length new)) cs) ≡ total (settle V env) cs
shifted-turns V new env [] h = refl
shifted-turns V new env (c ∷ cs) h = omega (arith, settle-shift_term V [] new env c h.0, shifted-turns V new env cs h.1)

-- a literal takes at most the turns of its dimensions and its cells
pub literal-turns : (V : Outcomes) (l : List Datum) (ds cs : List Term) → Every WellFormed ds → Every WellFormed cs → settle V l (literal_graph ds cs) ≤ total (settle V l) ds + total (settle V l) cs
literal-turns V l ds cs h k = omega (arith, lets-turns V [] l ds body h, of (each (cden V l) ds) refl)
  where
    vs : List Term
    vs = index_variables (length ds)

    xs : List Term
    xs = map (shift_term 0 (length ds)) cs

    table : Term
    table = tuple_term (sizes_term vs ∷ union_tree (length cs) (cell_pairs 0 vs xs) ∷ [])

    body : Term
    body = if_term (is_filled vs (length cs)) table bottom_term

    table-at : (env : List Datum) → settle V env table ≤ total (settle V env) xs
    table-at env =
        omega (
          arith,
          settle-strict V env Strict.tuple (sizes_term vs ∷ union_tree (length cs) (cell_pairs 0 vs xs) ∷ []),
          quiet-sizes V vs (quiet-variables V (length ds)) env,
          united-turns V env (length cs) (cell_pairs 0 vs xs),
          pairs-turns V env 0 vs xs (quiet-variables V (length ds)),
        )

    branch-at : (env : List Datum) (o : Option Bool) → if_some o (λ t. if t then settle V env table else settle V env bottom_term) ≤ total (settle V env) xs
    branch-at env None = omega arith
    branch-at env (Some true) = table-at env
    branch-at env (Some false) = omega arith

    body-at : (env : List Datum) → settle V env body ≤ total (settle V env) xs
    body-at env =
        omega (
          arith,
          settle-if V env (is_filled vs (length cs)) table bottom_term,
          quiet-where_zero V vs (truth_term (nat_le (length cs) 0)) (equal_term (product_term vs) (number (length cs))) (quiet-variables V (length ds)) (λ e. refl)
              (quiet-compare V compare_op.Equal (product_term vs) (number (length cs)) (quiet-product V vs (quiet-variables V (length ds))) (λ e. refl)) env,
          branch-at env (cden V env (is_filled vs (length cs)) >>= as_truth),
        )

    of : (o : Option (List Datum)) → each (cden V l) ds ≡ o → if_some (each (cden V l) ds) (λ ws. settle V (onto ws [] ++ l) body) ≤ total (settle V l) cs
    of None e = omega (arith, ap (λ o. if_some o (λ (ws : List Datum). settle V (onto ws [] ++ l) body)) e)
    of (Some ws) e =
        let n : length ds ≡ length (onto ws []) = omega (arith, each-length (cden V l) ds ws e, length-onto ws []) in
        omega (
          arith,
          ap (λ o. if_some o (λ (us : List Datum). settle V (onto us [] ++ l) body)) e,
          body-at (onto ws [] ++ l),
          ap (λ m. total (settle V (onto ws [] ++ l)) (map (shift_term 0 m) cs)) n,
          shifted-turns V (onto ws []) l cs k,
        )

-- the parts of a form that evaluates every part, each once
pub strict-parts-turns : (V : Outcomes) (l : List Datum) (s : Strict) (w : List Part) (i : ℕ) (qs : Parts) → parts_settle V l (Form.strict s) w i qs ≡ total (settle V l) (terms_in qs)
strict-parts-turns V l s w i none = refl
strict-parts-turns V l s w i (part k t qs) = omega (arith, strict-parts-turns V l s w (suc i) qs)

-- several terms as one
pub sizes-turns : (V : Outcomes) (l : List Datum) (ts : List Term) → settle V l (sizes_term ts) ≡ total (settle V l) ts
sizes-turns V l [] = refl
sizes-turns V l (t ∷ []) = omega arith
sizes-turns V l (t ∷ u ∷ ts) = omega (arith, settle-strict V l Strict.tuple (t ∷ u ∷ ts))

pub sizes-formed : (ts : List Term) → Every WellFormed ts → WellFormed (sizes_term ts)
sizes-formed [] h = (tt, tt)
sizes-formed (t ∷ []) h = h.0
sizes-formed (t ∷ u ∷ ts) h = (tt, strict-plain Strict.tuple 0 (t ∷ u ∷ ts) none h tt)

pub variables-formed : (k : ℕ) → Every WellFormed (index_variables k)
variables-formed zero = tt
variables-formed (suc k) = ((refl, tt), variables-formed k)
