-- The rules A2, a tabulation that copies an array, and A4, dimensions of a bound tabulation: both sides have one value.
use Rattle.std.proofs.Common.{◌≡◌, ℕ, zero, suc, ◌+◌, ◌<◌, ◌≤◌, Bool, true, false, List, [], ◌∷◌, ◌++◌, length, map, Option, Some, None, refl, sym, ap, subst, ◌∙◌, arith, if◌then◌else◌}
use Rattle.std.specs.List.{slice_get}
use Rattle.aql_value.specs.Datum as datum
use Rattle.aql_value.specs.Datum.{Datum, natural, data_of}
use Rattle.aql_value.specs.Laws.Datum.{list_of-data_of}
use Rattle.aql_value.specs.Indices.{indices, product, cell}
use Rattle.aql_value.specs.Laws.Indices.{length_indices}
use Rattle.aql_value.specs.Laws.RowMajor.{cell-offset_of, place_of_index, indices_lengths}
use Rattle.aql_value.specs.Lists.{Every, below}
use Rattle.aql_value.specs.Laws.Lists.{Every-impl, length-below, slice_get-below, slice_get-append_left}
use Rattle.aql_value.specs.Operations.{as_natural, push_index, array_of, cell_of, dim_of, part_of, index_value}
use Rattle.aql_value.specs.Laws.Operations.{array_of-made, array_of-is, part_of-tuple}
use Rattle.aql_value.specs.Partial.{◌>>=◌, each}
use Rattle.aql_value.specs.Laws.Partial.{then-is, then-ext, each-map, each-none, each-each, each-ext}
use Rattle.aql_value.specs.Strict.{Strict}
use Rattle.aql_ty.specs.Types as types
use Rattle.aql_ty.specs.Types.{Ty}
use Rattle.aql_ty.specs.ValueTypes.{HasType}
use Rattle.nrca_term.specs.Term.{Term, Parts, node, none, part, Form}
use Rattle.nrca_term.specs.Nodes.{variable, let_term, tab_term, sub_term, dim_term}
use Rattle.nrca_term.specs.Typing.{Arg, ctyped, parts_typed}
use Rattle.nrca_term.specs.Meaning.{Outcomes, form_value, at_length, cden, part_values}
use Rattle.nrca_term.specs.Laws.Lets.{walked-past}
use Rattle.nrca_term.specs.Subst.{shift_term}
use Rattle.nrca_term.specs.Laws.Shifting.{cden-shifted, at_length-ext}
use Rattle.nrca_term.specs.Laws.Variants.{numbers_of, numbers_of-length, cden-tab}
use Rattle.nrca_term.specs.Rules.{is_dim_of, replace_dims, replace_dims_parts, sizes_term, dimension_term, dimension_terms, index_variables}
use Rattle.nrca_rule_laws.specs.Laws.Beta.{Numeric, number_at, cden-sub}
use Rattle.nrca_rule_laws.specs.Laws.Arrays.{cden-sizes, dims-made}
use Rattle.nrca_term.specs.Laws.Entering.{length-walked}
use Rattle.nrca_rule_laws.specs.Laws.Meanings.{cden-unary}
use Rattle.nrca_rule_laws.specs.Laws.Typed.{dim-is, dim-rank, get-past}
use Rattle.std.proofs.lemmas.Option.{slice_get_within, same_Some}

-- what is known of the variable whose dimensions are replaced: the array that it is, and its dimensions' value, which the size has
abbrev pub Sized : Outcomes → List Datum → (at rank : ℕ) → Term → Type 0
Sized V vals at rank size = (w : Datum) × (d : Datum) × (slice_get vals at ≡ Some w) × (dim_of rank w ≡ Some d) × (cden V vals size ≡ Some d)

-- one node, where its parts are known
one-same : (G : ℕ → Ty → Type 0) (V : Outcomes) (n : ℕ) (A : Ty) (f : Form) (ps : Parts) (env : List Ty) (at : ℕ) (size : Term) (T : Ty) (vals : List Datum) → slice_get env at ≡ Some (types.array_of n A) → ctyped G env (node f ps) T → Sized V vals at n size →
    (b : Bool) → is_dim_of at f ps ≡ b → part_values V vals (replace_dims_parts at size ps) ≡ part_values V vals ps → cden V vals (if b then size else node f (replace_dims_parts at size ps)) ≡ cden V vals (node f ps)
one-same G V n A f ps env at size T vals g ty s true e h =
    let d = dim-is at f ps e in
    let z : node f ps ≡ dim_term d.0 (variable at) = ap (λ x. node x ps) d.1 ∙ ap (node (Form.strict (Strict.dim d.0))) d.2 in
    let r = dim-rank G env at n d.0 A T g (subst (λ x. ctyped G env x T) z ty) in
    s.4 ∙ sym (ap (cden V vals) z ∙ cden-unary V vals (Strict.dim d.0) (variable at) ∙ ap (λ o. o >>= dim_of d.0) s.2 ∙ ap (λ k. dim_of k s.0) r ∙ s.3)
one-same G V n A f ps env at size T vals g ty s false e h = ap (form_value V vals f) h

mutual
  -- the dimensions of a variable, wherever it is an array of them
  pub cden-replaced : (G : ℕ → Ty → Type 0) (V : Outcomes) (n : ℕ) (A : Ty) (t : Term) (env : List Ty) (at : ℕ) (size : Term) (T : Ty) (vals : List Datum) → slice_get env at ≡ Some (types.array_of n A) → ctyped G env t T → Sized V vals at n size →
      cden V vals (replace_dims at size t) ≡ cden V vals t
  cden-replaced G V n A (node f ps) env at size T vals g ty s = one-same G V n A f ps env at size T vals g ty s (is_dim_of at f ps) refl (parts-replaced G V n A ps env at size ty.1 vals g ty.3 s)

  parts-replaced : (G : ℕ → Ty → Type 0) (V : Outcomes) (n : ℕ) (A : Ty) (ps : Parts) (env : List Ty) (at : ℕ) (size : Term) (args : List Arg) (vals : List Datum) → slice_get env at ≡ Some (types.array_of n A) → parts_typed G env ps args → Sized V vals at n size →
      part_values V vals (replace_dims_parts at size ps) ≡ part_values V vals ps
  parts-replaced G V n A none env at size args vals g ty s = refl
  parts-replaced G V n A (part k t ps) env at size args vals g ty s =
      ap (λ p. p ∷ part_values V vals (replace_dims_parts at size ps))
      (at_length-ext k _ _ (λ new l.
      cden-replaced G V n A t (ty.0.own ++ env) (at + k) (shift_term 0 k size) ty.0.has (new ++ vals) (get-past ty.0.own env at k ty.3 ∙ g) ty.4
      (s.0, s.1, get-past new vals at k l ∙ s.2, s.3, ap (λ m. cden V (new ++ vals) (shift_term 0 m size)) (sym l) ∙ cden-shifted V new vals size ∙ s.4)))
      ∙ ap (λ l. at_length k (λ new. cden V (new ++ vals) t) ∷ l) (parts-replaced G V n A ps env at size ty.1 vals g ty.5 s)

-- the dimensions of a let whose bound term is a tabulation
pub keeps-a4 : (G : ℕ → Ty → Type 0) (V : Outcomes) (vals : List Datum) (env : List Ty) (ds : List Term) (c b : Term) (A T : Ty) → 1 ≤ length ds → Every (Numeric V vals) ds → ctyped G (types.array_of (length ds) A ∷ env) b T →
    cden V vals (let_term (tab_term ds c) b) ≡ cden V vals (let_term (tab_term ds c) (replace_dims 0 (shift_term 0 1 (sizes_term ds)) b))
keeps-a4 G V vals env ds c b A T some hd ty =
    then-ext (cden V vals (tab_term ds c)) (λ w. cden V (w ∷ vals) b) (λ w. cden V (w ∷ vals) (replace_dims 0 (shift_term 0 1 (sizes_term ds)) b))
    (λ w e. sym (cden-replaced G V (length ds) A b (types.array_of (length ds) A ∷ env) 0 (shift_term 0 1 (sizes_term ds)) T (w ∷ vals) refl ty (sized w e)))
  where
    sized : (w : Datum) → cden V vals (tab_term ds c) ≡ Some w → Sized V (w ∷ vals) 0 (length ds) (shift_term 0 1 (sizes_term ds))
    sized w e =
        let r = then-is (numbers_of V vals ds) (λ ms. each (λ at. cden V (push_index at [] ++ vals) c) (indices ms) >>= array_of ms) w (sym (cden-tab V vals ds c) ∙ e) in
        let s = then-is (each (λ at. cden V (push_index at [] ++ vals) c) (indices r.0)) (array_of r.0) w r.2 in
        let a = array_of-is r.0 s.0 w s.2 in (
          w,
          index_value r.0,
          refl,
          ap (dim_of (length ds)) a.0 ∙ dims-made (length ds) r.0 s.0 (numbers_of-length V vals ds r.0 r.1),
          cden-shifted V (w ∷ []) vals (sizes_term ds) ∙ cden-sizes V vals ds some hd ∙ ap (λ o. o >>= λ ms. Some (index_value ms)) r.1,
        )

-- a list of results by their places
each-by_place : {A B : Type 0} (f : A → Option B) (xs : List A) (vs : List B) → length xs ≡ length vs → ((p : ℕ) (x : A) → slice_get xs p ≡ Some x → f x ≡ slice_get vs p) → each f xs ≡ Some vs
each-by_place f [] [] l h = refl
each-by_place f [] (v ∷ vs) l h = absurd (omega (arith, l))
each-by_place f (x ∷ xs) [] l h = absurd (omega (arith, l))
each-by_place f (x ∷ xs) (v ∷ vs) l h = rw (h 0 x refl, each-by_place f xs vs (omega (arith, l)) (λ p y e. h (suc p) y e)) refl

-- the cells of an array at its indices in order
pub cells-again : (ms : List ℕ) (vs : List Datum) → product ms ≡ length vs → each (cell_of (datum.array ms (data_of vs))) (indices ms) ≡ Some vs
cells-again ms vs full =
    each-by_place (cell_of (datum.array ms (data_of vs))) (indices ms) vs (length_indices ms ∙ full)
    (λ p at e. ap (λ c. cell (record { dims = ms; cells = c }) at) (list_of-data_of vs) ∙ cell-offset_of (record { dims = ms; cells = vs }) at ∙ ap (λ o. o >>= slice_get vs) (place_of_index ms at p e))

-- the variables of an index are worth the index
pub indices-named : (V : Outcomes) (at : List ℕ) (front vals : List Datum) → numbers_of V (push_index at front ++ vals) (index_variables (length at)) ≡ Some at
indices-named V at front vals = each-each (cden V (push_index at front ++ vals)) as_natural (index_variables (length at)) ∙ go at front
  where
    first : (i : ℕ) (at : List ℕ) (front : List Datum) → slice_get (push_index (i ∷ at) front ++ vals) (length at) ≡ Some (natural i)
    first i at front =
        slice_get-append_left (push_index at (natural i ∷ front)) vals (length at) (omega (arith, length-walked at (natural i ∷ front)))
        ∙ (let e : length at ≡ length at + 0 = omega arith in ap (slice_get (push_index at (natural i ∷ front))) e) ∙ walked-past at (natural i ∷ front) 0

    go : (at : List ℕ) (front : List Datum) → each (number_at V (push_index at front ++ vals)) (index_variables (length at)) ≡ Some at
    go [] front = refl
    go (i ∷ at) front =
        ap (λ o. (o >>= as_natural) >>= λ n. each (number_at V (push_index (i ∷ at) front ++ vals)) (index_variables (length at)) >>= λ ns. Some (n ∷ ns)) (first i at front)
        ∙ ap (λ o. o >>= λ ns. Some (i ∷ ns)) (go at (natural i ∷ front))

-- dimension j of an array as a number
dimension-number : (V : Outcomes) (vals : List Datum) (r : Term) (ms : List ℕ) (vs : List Datum) → 1 ≤ length ms → cden V vals r ≡ Some (datum.array ms (data_of vs)) → (j : ℕ) → j < length ms → number_at V vals (dimension_term (length ms) r (suc j)) ≡ slice_get ms j
dimension-number V vals r [] vs some e j l = absurd (omega (arith, some))
dimension-number V vals r (m ∷ []) vs some e zero l = ap (λ o. o >>= as_natural) (cden-unary V vals (Strict.dim 1) r ∙ ap (λ o. o >>= dim_of 1) e ∙ dims-made 1 (m ∷ []) vs refl)
dimension-number V vals r (m ∷ []) vs some e (suc j) l = absurd (omega (arith, l))
dimension-number V vals r (m ∷ n ∷ ms) vs some e j l =
    ap (λ o. o >>= as_natural)
    (cden-unary V vals (Strict.proj (suc j) (length (m ∷ n ∷ ms))) (dim_term (length (m ∷ n ∷ ms)) r)
    ∙ ap (λ o. o >>= part_of (suc j) (length (m ∷ n ∷ ms))) (cden-unary V vals (Strict.dim (length (m ∷ n ∷ ms))) r ∙ ap (λ o. o >>= dim_of (length (m ∷ n ∷ ms))) e ∙ dims-made (length (m ∷ n ∷ ms)) (m ∷ n ∷ ms) vs refl)
    ∙ part_of-tuple j (length (m ∷ n ∷ ms)) (map natural (m ∷ n ∷ ms)) (lengths (m ∷ n ∷ ms)))
    ∙ got (m ∷ n ∷ ms) j
  where
    lengths : (ns : List ℕ) → length (map natural ns) ≡ length ns
    lengths [] = refl
    lengths (n ∷ ns) = ap suc (lengths ns)

    got : (ns : List ℕ) (j : ℕ) → (slice_get (map natural ns) j >>= as_natural) ≡ slice_get ns j
    got [] j = refl
    got (n ∷ ns) zero = refl
    got (n ∷ ns) (suc j) = got ns j

-- a tabulation that reads each cell of an array is the array
pub keeps-a2 : (V : Outcomes) (vals : List Datum) (k : ℕ) (r : Term) (A : Ty) → 1 ≤ k → k ≤ 8 → ((v : Datum) → cden V vals r ≡ Some v → HasType (types.array_of k A) v) →
    cden V vals (tab_term (dimension_terms k r) (sub_term (shift_term 0 k r) (index_variables k))) ≡ cden V vals r
keeps-a2 V vals k r A some few h = cden-tab V vals (dimension_terms k r) (sub_term (shift_term 0 k r) (index_variables k)) ∙ by (cden V vals r) refl
  where
    body : List ℕ → Option Datum
    body at = cden V (push_index at [] ++ vals) (sub_term (shift_term 0 k r) (index_variables k))

    nowhere : cden V vals r ≡ None → numbers_of V vals (dimension_terms k r) ≡ None
    nowhere e = ap (λ o. o >>= each as_natural) (each-none (cden V vals) (dimension_terms k r) 0 (dimension_term k r 1) (first k some) (missing k))
      where
        first : (k : ℕ) → 1 ≤ k → slice_get (map (λ j. dimension_term k r (suc j)) (below k)) 0 ≡ Some (dimension_term k r 1)
        first zero l = absurd (omega (arith, l))
        first (suc k) l = refl

        missing : (k : ℕ) → cden V vals (dimension_term k r 1) ≡ None
        missing zero = cden-unary V vals (Strict.proj 1 0) (dim_term 0 r) ∙ ap (λ o. o >>= part_of 1 0) (cden-unary V vals (Strict.dim 0) r ∙ ap (λ o. o >>= dim_of 0) e)
        missing (suc zero) = cden-unary V vals (Strict.dim 1) r ∙ ap (λ o. o >>= dim_of 1) e
        missing (suc (suc k)) = cden-unary V vals (Strict.proj 1 (suc (suc k))) (dim_term (suc (suc k)) r) ∙ ap (λ o. o >>= part_of 1 (suc (suc k))) (cden-unary V vals (Strict.dim (suc (suc k))) r ∙ ap (λ o. o >>= dim_of (suc (suc k))) e)

    by : (o : Option Datum) → cden V vals r ≡ o → (numbers_of V vals (dimension_terms k r) >>= λ ms. each (λ at. cden V (push_index at [] ++ vals) (sub_term (shift_term 0 k r) (index_variables k))) (indices ms) >>= array_of ms) ≡ o
    by None e = ap (λ o. o >>= λ ms. each body (indices ms) >>= array_of ms) (nowhere e)
    by (Some w) e =
        let t = h w e in
        let ms = t.0 in
        let v : cden V vals r ≡ Some (datum.array t.0 (data_of t.1)) = e ∙ ap Some t.2 in
        let l : length t.0 ≡ k = t.3 in
        let places : numbers_of V vals (dimension_terms k r) ≡ Some t.0 =
        subst (λ n. numbers_of V vals (dimension_terms n r) ≡ Some t.0) l
        (each-each (cden V vals) as_natural (dimension_terms (length t.0) r) ∙ each-map (number_at V vals) (λ j. dimension_term (length t.0) r (suc j)) (below (length t.0)) ∙ by_numbers t.0 (λ j m. dimension-number V vals r t.0 t.1 (omega (arith, l, some)) v j m)) in
        ap (λ o. o >>= λ ms. each body (indices ms) >>= array_of ms) places
        ∙ ap (λ o. o >>= array_of t.0) (same_bodies t.0 t.1 l v ∙ cells-again t.0 t.1 t.4)
        ∙ array_of-made t.0 t.1 (omega (arith, l, some)) (omega (arith, l, few)) t.4
        ∙ sym (ap Some t.2)
      where
        by_numbers : (ms : List ℕ) → ((j : ℕ) → j < length ms → number_at V vals (dimension_term (length ms) r (suc j)) ≡ slice_get ms j) → each (λ j. number_at V vals (dimension_term (length ms) r (suc j))) (below (length ms)) ≡ Some ms
        by_numbers ms g = each-by_place (λ j. number_at V vals (dimension_term (length ms) r (suc j))) (below (length ms)) ms (length-below (length ms)) (λ p j e. at p j e)
          where
            within : (n p : ℕ) (j : ℕ) → slice_get (below n) p ≡ Some j → p < n
            within n p j e = omega (arith, slice_get_within (below n) p j e, length-below n)

            at : (p j : ℕ) → slice_get (below (length ms)) p ≡ Some j → number_at V vals (dimension_term (length ms) r (suc j)) ≡ slice_get ms p
            at p j e =
                let l = within (length ms) p j e in
                let z : j ≡ p = same_Some j p (sym e ∙ slice_get-below (length ms) p l) in
                g j (omega (arith, z, l)) ∙ ap (slice_get ms) z

        same_bodies : (ms : List ℕ) (vs : List Datum) → length ms ≡ k → cden V vals r ≡ Some (datum.array ms (data_of vs)) → each body (indices ms) ≡ each (cell_of (datum.array ms (data_of vs))) (indices ms)
        same_bodies ms vs l v = each-ext body (cell_of (datum.array ms (data_of vs))) (indices ms) (Every-impl (λ at. length at ≡ length ms) _ (λ at n. one at (n ∙ l)) (indices ms) (indices_lengths ms))
          where
            one : (at : List ℕ) → length at ≡ k → body at ≡ cell_of (datum.array ms (data_of vs)) at
            one at n =
                cden-sub V (push_index at [] ++ vals) (shift_term 0 k r) (index_variables k)
                ∙ ap (λ o. o >>= λ v. numbers_of V (push_index at [] ++ vals) (index_variables k) >>= cell_of v)
                ((let z : k ≡ length (push_index at []) = omega (arith, length-walked at [], n) in ap (λ j. cden V (push_index at [] ++ vals) (shift_term 0 j r)) z) ∙ cden-shifted V (push_index at []) vals r ∙ v)
                ∙ ap (λ o. o >>= cell_of (datum.array ms (data_of vs))) (ap (λ j. numbers_of V (push_index at [] ++ vals) (index_variables j)) (sym n) ∙ indices-named V at [] vals)
