-- A literal array whose parts mean encoded values means the encoded array, undefined where a part is or the cells are not as many as
-- the product of the dimensions.
use Rattle.std.proofs.Common.{◌≡◌, ◌⊎◌, ℕ, zero, suc, ◌+◌, ◌/◌, ◌%◌, ◌<◌, ◌≤◌, ◌^◌, Bool, true, false, nat_eq, ◌&&◌, cond, List, [], ◌∷◌, ◌++◌, length, map, take, drop, replicate, Option, Some, None, refl, sym, ap, ◌∙◌, if◌then◌else◌, arith, inl, inr}
use Rattle.std.proofs.lemmas.List.{length-map, length-drop, take-append-drop}
use Rattle.std.proofs.Math.Seq.{take-append_seam, drop-append_seam}
use Rattle.std.proofs.Math.Nat.{mod-eq_of_lt, div-lt_iff_lt-mul}
use Rattle.std.proofs.lemmas.Bool.{eqb-true}
use Rattle.std.proofs.lemmas.Option.{slice_get_within}
use Rattle.std.specs.List.{slice_get}
use Rattle.aql_value.specs.declared.ops.ArithOp.TheVariants.{Quotient, Remainder}
use Rattle.aql_value.specs.Datum.{Datum, natural, truth, array, data_of}
use Rattle.aql_value.specs.Indices.{indices, product}
use Rattle.aql_value.specs.Laws.Indices.{length_indices}
use Rattle.aql_value.specs.Lists.{Every, onto}
use Rattle.aql_value.specs.Operations.{as_natural, as_truth, index_value, set_of, array_of, is_rank, literal_of, push_index}
use Rattle.aql_value.specs.Laws.Operations.{each-naturals, array_of-made}
use Rattle.aql_value.specs.Partial.{◌>>=◌, each, concat}
use Rattle.aql_value.specs.Laws.Partial.{each-append, each-length}
use Rattle.aql_value.specs.Strict.{Strict, strict_value}
use Rattle.aql_ty.specs.Types as types
use Rattle.aql_ty.specs.Types.{Ty, IsRank}
use Rattle.nrca_term.specs.Term.{Term, Parts, terms_in}
use Rattle.nrca_term.specs.Nodes.{bottom_term, if_term, tuple_term}
use Rattle.nrca_term.specs.Typing.{Arg, arg}
use Rattle.nrca_term.specs.Meaning.{Outcomes, Part, here, cden, part_values}
use Rattle.nrca_term.specs.Rules.{lets, sizes_term, index_variables}
use Rattle.nrca_term.specs.Laws.Entering.{length-walked}
use Rattle.nrca_term.specs.Laws.Sound.{AllSound}
use Rattle.nrca_term.specs.Subst.{shift_term}
use Rattle.nrca_term.specs.Laws.Shifting.{cden-shift_term}
use Rattle.nrca_graph.specs.Encoding.{pair, graph, encoding, encode_outcome}
use Rattle.nrca_graph.specs.ArrayFree.{product_term, is_filled, over_rest, further_numbers, index_of_cell, cell_pairs, union_tree, literal_graph}
use Rattle.nrca_graph.specs.Laws.EncodingOrder.{encodings-list}
use Rattle.nrca_graph.specs.Laws.KeptForms.{AllMirror}
use Rattle.nrca_graph.specs.Laws.StrictForms.{numbers-kept}
use Rattle.nrca_term.specs.Laws.Lets.{onto-naturals, lets-value, walked-append, index-value}
use Rattle.nrca_graph.specs.Laws.Nests.{pair-value, single-value}
use Rattle.nrca_graph.specs.Laws.SubscriptNode.{sizes-value}
use Rattle.nrca_graph.specs.Laws.Unions.{united-value, united-none}
use Rattle.nrca_graph.specs.Laws.Filled.{NumbersAre, variables-are, numbers-together, Reaches, some-product, product-value, filled-value, some-dimensions, index_at, index-found}
use Rattle.nrca_graph.specs.Laws.TranslatedParts.{BindersFit, first-terms, first-mirror, first-types, rest-terms, rest-mirror, numbers-of}

-- the product of dimensions of 1 or more that is in range
product-is : (W : Outcomes) (env : List Datum) (ts : List Term) (ns : List ℕ) → NumbersAre W env ts ns → Every (λ n. 1 ≤ n) ns → product ns < 2 ^ 128 → cden W env (product_term ts) ≡ Some (natural (product ns))
product-is W env ts ns h s l = of (product-value W env ts ns h s)
  where
    of : Reaches (cden W env (product_term ts)) (product ns) → cden W env (product_term ts) ≡ Some (natural (product ns))
    of (inl e) = e
    of (inr e) = absurd (omega (arith, e.1, l))

-- a number over the product of the dimensions that follow
over-value : (W : Outcomes) (env : List Datum) (m : ℕ) (ts : List Term) (ns : List ℕ) → NumbersAre W env ts ns → Every (λ n. 1 ≤ n) ns → product ns < 2 ^ 128 →
    cden W env (over_rest m ts) ≡ Some (natural (m / product ns))
over-value W env m [] [] h s l = let z : m ≡ m / 1 = omega arith in ap (λ n. Some (natural n)) z
over-value W env m [] (n ∷ ns) h s l = absurd h
over-value W env m (t ∷ ts) [] h s l = absurd h
over-value W env m (t ∷ ts) (n ∷ ns) h s l =
    ap (λ o. ((o >>= λ z. Some (z ∷ [])) >>= λ ys. Some (natural m ∷ ys)) >>= strict_value (Strict.arith Quotient)) (product-is W env (t ∷ ts) (n ∷ ns) h s l)
    ∙ ap (λ b. cond b None (Some (m / product (n ∷ ns))) >>= λ k. Some (natural k)) (divisor (product (n ∷ ns)) (some-product (n ∷ ns) s))
  where
    divisor : (p : ℕ) → 1 ≤ p → nat_eq p 0 ≡ false
    divisor p k = grind (arith, k)

-- the product of fewer dimensions is no greater
product-rest : (n : ℕ) (ns : List ℕ) → 1 ≤ n → product ns ≤ product (n ∷ ns)
product-rest zero ns h = absurd (omega (arith, h))
product-rest (suc n) ns h = grind (arith)

-- the further numbers of an index
further-value : (W : Outcomes) (env : List Datum) (m : ℕ) (ts : List Term) (ns : List ℕ) → NumbersAre W env ts ns → Every (λ n. 1 ≤ n) ns → product ns < 2 ^ 128 →
    NumbersAre W env (further_numbers m ts) (index_at ns m)
further-value W env m [] [] h s l = tt
further-value W env m [] (n ∷ ns) h s l = absurd h
further-value W env m (t ∷ ts) [] h s l = absurd h
further-value W env m (t ∷ ts) (n ∷ ns) h s l =
    let k : product ns < 2 ^ 128 = omega (arith, l, product-rest n ns s.0) in (
      ap (λ o. (o >>= λ y. (cden W env t >>= λ z. Some (z ∷ [])) >>= λ ys. Some (y ∷ ys)) >>= strict_value (Strict.arith Remainder)) (over-value W env m ts ns h.1 s.1 k)
          ∙ ap (λ o. ((o >>= λ z. Some (z ∷ [])) >>= λ ys. Some (natural (m / product ns) ∷ ys)) >>= strict_value (Strict.arith Remainder)) h.0
          ∙ ap (λ b. cond b None (Some (m / product ns % n)) >>= λ i. Some (natural i)) (divisor n s.0),
      further-value W env m ts ns h.1 s.1 k,
    )
  where
    divisor : (p : ℕ) → 1 ≤ p → nat_eq p 0 ≡ false
    divisor p k = grind (arith, k)

-- the index of a cell
index-of-cell : (W : Outcomes) (env : List Datum) (m : ℕ) (ts : List Term) (ns : List ℕ) → NumbersAre W env ts ns → Every (λ n. 1 ≤ n) ns → product ns < 2 ^ 128 → m < product ns →
    NumbersAre W env (index_of_cell m ts) (index_at ns m)
index-of-cell W env m [] [] h s l b = tt
index-of-cell W env m [] (n ∷ ns) h s l b = absurd h
index-of-cell W env m (t ∷ ts) [] h s l b = absurd h
index-of-cell W env m (t ∷ ts) (n ∷ ns) h s l b =
    let k : product ns < 2 ^ 128 = omega (arith, l, product-rest n ns s.0) in
    let d : m / product ns < n = (div-lt_iff_lt-mul (omega (arith, some-product ns s.1))).1 b in
    (over-value W env m ts ns h.1 s.1 k ∙ ap (λ i. Some (natural i)) (sym (mod-eq_of_lt d)), further-value W env m ts ns h.1 s.1 k)

-- the set of one value
abbrev pub singleton : Datum → Datum
singleton x = set_of (x ∷ [])

-- the pairs of cells and of the indices from place m on
pairs-value : (W : Outcomes) (env around : List Datum) (k m : ℕ) (vars cs : List Term) (ats : List (List ℕ)) → length cs ≤ length ats →
    ((j : ℕ) (at : List ℕ) → slice_get ats j ≡ Some at → cden W env (sizes_term (index_of_cell (m + j) vars)) ≡ Some (index_value at)) →
    ((c : Term) → cden W env (shift_term 0 k c) ≡ cden W around c) →
    each (cden W env) (cell_pairs m vars (map (shift_term 0 k) cs)) ≡ (each (cden W around) cs >>= λ ws. Some (map singleton (graph ats ws)))
pairs-value W env around k m vars [] [] l h s = refl
pairs-value W env around k m vars [] (at ∷ ats) l h s = refl
pairs-value W env around k m vars (c ∷ cs) [] l h s = absurd (omega (arith, l))
pairs-value W env around k m vars (c ∷ cs) (at ∷ ats) l h s =
    ap (λ o. o >>= λ y. rest >>= λ ys. Some (y ∷ ys)) (single-value W env (sizes_term (index_of_cell m vars)) (shift_term 0 k c) (index_value at) (first at refl) ∙ ap (λ o. o >>= λ w. Some (singleton (pair (index_value at) w))) (s c))
    ∙ ap (λ o. (cden W around c >>= λ w. Some (singleton (pair (index_value at) w))) >>= λ y. o >>= λ ys. Some (y ∷ ys))
    (pairs-value W env around k (suc m) vars cs ats (omega (arith, l)) (λ j b e. (let z : suc m + j ≡ m + suc j = omega arith in ap (λ i. cden W env (sizes_term (index_of_cell i vars))) z) ∙ h (suc j) b e) s)
    ∙ of (cden W around c) (each (cden W around) cs)
  where
    rest : Option (List Datum)
    rest = each (cden W env) (cell_pairs (suc m) vars (map (shift_term 0 k) cs))

    first : (b : List ℕ) → at ≡ b → cden W env (sizes_term (index_of_cell m vars)) ≡ Some (index_value at)
    first b e = (let z : m ≡ m + 0 = omega arith in ap (λ i. cden W env (sizes_term (index_of_cell i vars))) z) ∙ h 0 at refl

    of : (o : Option Datum) (q : Option (List Datum)) → ((o >>= λ w. Some (singleton (pair (index_value at) w))) >>= λ y. (q >>= λ ws. Some (map singleton (graph ats ws))) >>= λ ys. Some (y ∷ ys))
        ≡ ((o >>= λ y. q >>= λ ys. Some (y ∷ ys)) >>= λ ws. Some (map singleton (graph (at ∷ ats) ws)))
    of None q = refl
    of (Some w) None = refl
    of (Some w) (Some ws) = refl

-- as many pairs as cells
length-pairs : (m : ℕ) (vars cs : List Term) → length (cell_pairs m vars cs) ≡ length cs
length-pairs m vars [] = refl
length-pairs m vars (c ∷ cs) = ap suc (length-pairs (suc m) vars cs)

-- sets of one value each
singles : (xs : List Datum) → (map singleton xs ≡ map set_of (map (λ x. x ∷ []) xs)) × (concat (map (λ x. x ∷ []) xs) ≡ xs)
singles [] = (refl, refl)
singles (x ∷ xs) = (ap (λ l. singleton x ∷ l) (singles xs).0, ap (λ l. x ∷ l) (singles xs).1)

-- as many numbers as dimensions
length-index_at : (ds : List ℕ) (m : ℕ) → length (index_at ds m) ≡ length ds
length-index_at [] m = refl
length-index_at (d ∷ ds) m = ap suc (length-index_at ds m)

-- a literal of dimensions and cells
literal-made : (ns : List ℕ) (bs : List Datum) → literal_of (length ns) (map natural ns ++ bs) ≡ array_of ns bs
literal-made ns bs =
    ap (λ l. each as_natural l >>= λ ds. if nat_eq (length ds) (length ns) then array_of ds (drop (length ns) (map natural ns ++ bs)) else None)
    (ap (λ k. take k (map natural ns ++ bs)) (sym (length-map ns natural)) ∙ take-append_seam (map natural ns) bs)
    ∙ ap (λ o. o >>= λ ds. if nat_eq (length ds) (length ns) then array_of ds (drop (length ns) (map natural ns ++ bs)) else None) (each-naturals ns)
    ∙ ap (λ b. if b then array_of ns (drop (length ns) (map natural ns ++ bs)) else None) (same (length ns))
    ∙ ap (array_of ns) (ap (λ k. drop k (map natural ns ++ bs)) (sym (length-map ns natural)) ∙ drop-append_seam (map natural ns) bs)
  where
    same : (n : ℕ) → nat_eq n n ≡ true
    same n = grind (arith)

-- there is none where the cells are not as many
literal-none : (ns : List ℕ) (bs : List Datum) → nat_eq (product ns) (length bs) ≡ false → array_of ns bs ≡ None
literal-none ns bs e = ap (λ b. if is_rank (length ns) && b then Some (array ns (data_of bs)) else None) e ∙ of (is_rank (length ns))
  where
    of : (b : Bool) → (if b && false then Some (array ns (data_of bs)) else None) ≡ None
    of true = refl
    of false = refl

-- the union of the pairs of the cells, under the dimensions
abbrev pub cells_term : ℕ → List Term → Term
cells_term k cs = union_tree (length cs) (cell_pairs 0 (index_variables k) (map (shift_term 0 k) cs))

-- what stands under the lets of the dimensions
abbrev pub literal_table : ℕ → List Term → Term
literal_table k cs = if_term (is_filled (index_variables k) (length cs)) (tuple_term (sizes_term (index_variables k) ∷ cells_term k cs ∷ [])) bottom_term

-- the pairs of all cells, where they are as many as the indices
cells-each : (W : Outcomes) (around : List Datum) (ns : List ℕ) (cs : List Term) → 1 ≤ length ns → length cs < 2 ^ 128 → product ns ≡ length cs →
    each (cden W (push_index ns around)) (cell_pairs 0 (index_variables (length ns)) (map (shift_term 0 (length ns)) cs)) ≡ (each (cden W around) cs >>= λ ws. Some (map singleton (graph (indices ns) ws)))
cells-each W around ns cs some few full =
    pairs-value W env around (length ns) 0 (index_variables (length ns)) cs (indices ns) (omega (arith, length_indices ns, full)) (λ j at e. index-value-of j at e) shifted
  where
    env : List Datum
    env = push_index ns around

    index-value-of : (j : ℕ) (at : List ℕ) → slice_get (indices ns) j ≡ Some at → cden W env (sizes_term (index_of_cell (0 + j) (index_variables (length ns)))) ≡ Some (index_value at)
    index-value-of j at e =
        let l : j < product ns = omega (arith, length_indices ns, slice_get_within (indices ns) j at e) in
        let h = index-of-cell W env j (index_variables (length ns)) ns (variables-are W ns around) (some-dimensions ns (omega (arith, l))) (omega (arith, few, full)) l in
        (let z : 0 + j ≡ j = omega arith in ap (λ i. cden W env (sizes_term (index_of_cell i (index_variables (length ns))))) z)
        ∙ sizes-value W env (index_of_cell j (index_variables (length ns))) (index_at ns j) (omega (arith, length-index_at ns j, some)) (numbers-together W env (index_of_cell j (index_variables (length ns))) (index_at ns j) h)
        ∙ ap (λ x. Some (index_value x)) (sym (index-found ns j at e))

    shifted : (c : Term) → cden W env (shift_term 0 (length ns) c) ≡ cden W around c
    shifted c =
        ap (λ l. cden W l (shift_term 0 (length ns) c)) (sym (walked-append ns [] around))
        ∙ (let q : length ns ≡ length (push_index ns []) = omega (arith, length-walked ns []) in ap (λ k. cden W (push_index ns [] ++ around) (shift_term 0 k c)) q)
        ∙ cden-shift_term W [] (push_index ns []) around c

-- under dimensions that have these numbers it is the encoded array
table-of-cells : (W : Outcomes) (around : List Datum) (ns : List ℕ) (cs : List Term) (o : Option (List Datum)) → 1 ≤ length ns → length ns ≤ 8 → length cs < 2 ^ 128 →
    each (cden W around) cs ≡ (o >>= λ vs. Some (map encoding vs)) → cden W (push_index ns around) (literal_table (length ns) cs) ≡ encode_outcome (o >>= array_of ns)
table-of-cells W around ns cs o some many few e = of (nat_eq (product ns) (length cs)) refl (filled-value W env (index_variables (length ns)) ns (length cs) few (variables-are W ns around))
  where
    env : List Datum
    env = push_index ns around

    test : Term
    test = is_filled (index_variables (length ns)) (length cs)

    table : Term
    table = tuple_term (sizes_term (index_variables (length ns)) ∷ cells_term (length ns) cs ∷ [])

    left : Option Datum → Option Datum
    left t = t >>= as_truth >>= λ b. if b then cden W env table else None

    filled : (q : Option (List Datum)) → o ≡ q → product ns ≡ length cs → cden W env table ≡ encode_outcome (q >>= array_of ns)
    filled None k full =
        pair-value W env (sizes_term (index_variables (length ns))) (cells_term (length ns) cs) (index_value ns) (index-value W ns around some)
        ∙ ap (λ u. u >>= λ w. Some (pair (index_value ns) w))
        (united-none W env (length cs) (cell_pairs 0 (index_variables (length ns)) (map (shift_term 0 (length ns)) cs))
        (omega (arith, length-pairs 0 (index_variables (length ns)) (map (shift_term 0 (length ns)) cs), length-map cs (shift_term 0 (length ns))))
        (cells-each W around ns cs some few full ∙ ap (λ r. r >>= λ ws. Some (map singleton (graph (indices ns) ws))) (e ∙ ap (λ r. r >>= λ vs. Some (map encoding vs)) k)))
    filled (Some bs) k full =
        let G : List Datum = graph (indices ns) (map encoding bs) in
        let l : length bs ≡ length cs = omega (arith, length-map bs encoding, each-length (cden W around) cs (map encoding bs) (e ∙ ap (λ r. r >>= λ vs. Some (map encoding vs)) k)) in
        pair-value W env (sizes_term (index_variables (length ns))) (cells_term (length ns) cs) (index_value ns) (index-value W ns around some)
        ∙ ap (λ u. u >>= λ w. Some (pair (index_value ns) w))
        (united-value W env (length cs) (cell_pairs 0 (index_variables (length ns)) (map (shift_term 0 (length ns)) cs)) (map (λ x. x ∷ []) G)
        (omega (arith, length-pairs 0 (index_variables (length ns)) (map (shift_term 0 (length ns)) cs), length-map cs (shift_term 0 (length ns))))
        (cells-each W around ns cs some few full ∙ ap (λ r. r >>= λ ws. Some (map singleton (graph (indices ns) ws))) (e ∙ ap (λ r. r >>= λ vs. Some (map encoding vs)) k)
        ∙ ap Some (singles G).0)
        ∙ ap (λ ys. Some (set_of ys)) (singles G).1)
        ∙ sym (ap encode_outcome (array_of-made ns bs some many (full ∙ sym l)) ∙ ap (λ vs. Some (pair (index_value ns) (set_of (graph (indices ns) vs)))) (encodings-list bs))

    unfilled : (q : Option (List Datum)) → o ≡ q → nat_eq (product ns) (length cs) ≡ false → None ≡ encode_outcome (q >>= array_of ns)
    unfilled None k f = refl
    unfilled (Some bs) k f =
        let l : length bs ≡ length cs = omega (arith, length-map bs encoding, each-length (cden W around) cs (map encoding bs) (e ∙ ap (λ r. r >>= λ vs. Some (map encoding vs)) k)) in
        sym (ap encode_outcome (literal-none ns bs (ap (nat_eq (product ns)) l ∙ f)))

    of : (b : Bool) → nat_eq (product ns) (length cs) ≡ b → (cden W env test ≡ Some (truth (nat_eq (product ns) (length cs)))) ⊎ ((cden W env test ≡ None) × (nat_eq (product ns) (length cs) ≡ false)) →
        left (cden W env test) ≡ encode_outcome (o >>= array_of ns)
    of true f (inl t) = ap left (t ∙ ap (λ b. Some (truth b)) f) ∙ filled o refl (eqb-true (product ns) (length cs) f)
    of true f (inr t) = cc
    of false f (inl t) = ap left (t ∙ ap (λ b. Some (truth b)) f) ∙ unfilled o refl f
    of false f (inr t) = ap left t.0 ∙ unfilled o refl f

-- the arguments of a literal: dimensions, and then cells
abbrev pub literal_args : (rank n : ℕ) → Ty → List Arg
literal_args rank n A = replicate rank (arg [] types.natural) ++ map (arg []) (replicate n A)

-- they are those of the rule
pub literal-args : (rank n : ℕ) (A : Ty) → map (arg []) (replicate rank types.natural ++ replicate n A) ≡ literal_args rank n A
literal-args zero n A = refl
literal-args (suc rank) n A = ap (λ l. arg [] types.natural ∷ l) (literal-args rank n A)

-- the node of a literal whose parts are translated
pub literal-node : (W : Outcomes) (around : List Datum) (rank n : ℕ) (A : Ty) (ps : List Part) (qs : Parts) → IsRank rank → length (terms_in qs) < 2 ^ 128 → AllSound (literal_args rank n A) ps →
    AllMirror (literal_args rank n A) ps (part_values W around qs) → BindersFit (literal_args rank n A) qs →
    cden W around (literal_graph (take rank (terms_in qs)) (drop rank (terms_in qs))) ≡ encode_outcome (each here ps >>= strict_value (Strict.literal rank))
literal-node W around rank n A ps qs r few s m b = of (each here (take rank ps)) refl
  where
    ds : List Term
    ds = take rank (terms_in qs)

    cs : List Term
    cs = drop rank (terms_in qs)

    rests : List Arg
    rests = map (arg []) (replicate n A)

    fewer : length cs < 2 ^ 128
    fewer = omega (arith, few, length-drop rank (terms_in qs))

    bounds : each (cden W around) ds ≡ (each here (take rank ps) >>= λ vs. Some (map encoding vs))
    bounds = sym (first-terms W around rank types.natural rests qs b) ∙ first-mirror rank types.natural rests ps (part_values W around qs) m

    cells : each (cden W around) cs ≡ (each here (drop rank ps) >>= λ vs. Some (map encoding vs))
    cells = sym (rest-terms W around rank (arg [] types.natural) (replicate n A) qs b) ∙ rest-mirror rank (arg [] types.natural) (replicate n A) ps (part_values W around qs) m

    whole : each here ps ≡ (each here (take rank ps) >>= λ vs. each here (drop rank ps) >>= λ bs. Some (vs ++ bs))
    whole = ap (each here) (sym (take-append-drop rank ps)) ∙ each-append here (take rank ps) (drop rank ps)

    K : List Datum → Option Datum
    K ws = cden W (onto ws [] ++ around) (literal_table (length ds) cs)

    right : Option (List Datum) → Option Datum
    right o = encode_outcome ((o >>= λ vs. each here (drop rank ps) >>= λ bs. Some (vs ++ bs)) >>= literal_of rank)

    of : (o : Option (List Datum)) → each here (take rank ps) ≡ o → cden W around (lets 0 ds (literal_table (length ds) cs)) ≡ encode_outcome (each here ps >>= literal_of rank)
    of None e =
        lets-value W [] around ds (literal_table (length ds) cs) ∙ ap (λ o. o >>= K) (bounds ∙ ap (λ o. o >>= λ vs. Some (map encoding vs)) e)
        ∙ sym (ap (λ o. encode_outcome (o >>= literal_of rank)) whole ∙ ap right e)
    of (Some vs) e =
        let ns = numbers-of rank vs (first-types rank types.natural rests ps vs s e) in
        let k : each (cden W around) ds ≡ Some (map natural ns.0) = bounds ∙ ap (λ o. o >>= λ us. Some (map encoding us)) e ∙ ap (λ us. Some (map encoding us)) ns.1 ∙ ap Some (numbers-kept ns.0) in
        lets-value W [] around ds (literal_table (length ds) cs)
        ∙ ap (λ o. o >>= K) k
        ∙ ap (λ l. cden W (l ++ around) (literal_table (length ds) cs)) (onto-naturals ns.0 [])
        ∙ ap (λ l. cden W l (literal_table (length ds) cs)) (walked-append ns.0 [] around)
        ∙ (let z : length ds ≡ length ns.0 = omega (arith, each-length (cden W around) ds (map natural ns.0) k, length-map ns.0 natural) in ap (λ i. cden W (push_index ns.0 around) (literal_table i cs)) z)
        ∙ table-of-cells W around ns.0 cs (each here (drop rank ps)) (omega (arith, ns.2, r.0)) (omega (arith, ns.2, r.1)) fewer cells
        ∙ made ns.0 (each here (drop rank ps))
        ∙ sym (ap (λ o. encode_outcome (o >>= literal_of rank)) whole ∙ ap right (e ∙ ap Some ns.1) ∙ ap (λ i. encode_outcome ((each here (drop rank ps) >>= λ bs. Some (map natural ns.0 ++ bs)) >>= literal_of i)) (sym ns.2))
      where
        made : (ns : List ℕ) (o : Option (List Datum)) → encode_outcome (o >>= array_of ns) ≡ encode_outcome ((o >>= λ bs. Some (map natural ns ++ bs)) >>= literal_of (length ns))
        made ns None = refl
        made ns (Some bs) = ap encode_outcome (sym (literal-made ns bs))
