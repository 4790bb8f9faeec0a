-- The rules P1, A3, A5, A6 and K1 on literals: both sides have one value where the other parts are defined.
use Rattle.std.proofs.Common.{◌≡◌, ℕ, suc, ◌+◌, ◌<◌, ◌≤◌, Bool, true, false, not, cond, nat_lt, nat_eq, List, [], ◌∷◌, ◌++◌, length, map, filter, take, drop, Option, Some, None, refl, sym, ap, subst, ◌∙◌, arith, if◌then◌else◌}
use Rattle.std.specs.List.{slice_get}
use Rattle.std.proofs.lemmas.List.{length-map}
use Rattle.std.proofs.lemmas.Bool.{le-ltb, eq-eqb, eqb-true, eqb-false}
use Rattle.aql_value.specs.Datum as datum
use Rattle.aql_value.specs.Datum.{Datum, natural, data_of, list_of}
use Rattle.aql_value.specs.Laws.Datum.{list_of-data_of}
use Rattle.aql_value.specs.Indices.{indices, product, cell, offset_of}
use Rattle.aql_value.specs.Lists.{Every, below}
use Rattle.aql_value.specs.Laws.Lists.{Every-concat, Every-map, Every-append_parts, Every-get, slice_get-below}
use Rattle.aql_value.specs.Operations.{as_natural, push_index, array_of, cell_of, dim_of, literal_of, tuple_of, index_value}
use Rattle.aql_value.specs.Laws.Operations.{array_of-made, array_of-is, each-naturals, part_of-tuple}
use Rattle.aql_value.specs.Partial.{◌>>=◌, each, concat}
use Rattle.aql_value.specs.Laws.Partial.{then-assoc, then-ext, then-none, each-append, each-map, each-get, each-length, each-total, each-defined}
use Rattle.aql_value.specs.Laws.RowMajor.{cell-offset_of, place_of_index, row_major}
use Rattle.aql_value.specs.Strict.{Strict, strict_value}
use Rattle.nrca_term.specs.Term.{Term, Parts, node, none, part, plain, Form, child_of, parts_of}
use Rattle.nrca_term.specs.Nodes.{number, tuple_term, proj_term, tab_term, sub_term, dim_term}
use Rattle.nrca_term.specs.Meaning.{Outcomes, cden, part_values, bounds_value}
use Rattle.nrca_term.specs.Places.{reach, reach_each, indices_of}
use Rattle.nrca_term.specs.Laws.Variants.{child_of-plain_past, child_of-plain_below, cden-strict, literal-parts, numbers_of, bounds_value-tab, cden-tab, numbers_of-length}
use Rattle.nrca_term.specs.Rules.{IsDefined, DefinedAt, in_first, others, sizes_term, constant_literal}
use Rattle.nrca_rule_laws.specs.Laws.Beta.{Numeric, cden-sub}
use Rattle.std.proofs.Math.Seq.{take-append_seam, drop-append_seam}
use Rattle.std.proofs.lemmas.Option.{slice_get_within, same_Some}
use Rattle.nrca_rule_laws.specs.Laws.Operations.{full-cells}

-- the body of a tabulation that is the first part of an operation is reached at each index below the bounds
pub domain-defined : (V : Outcomes) (vals : List Datum) (s : Strict) (ds : List Term) (b : Term) (rest : Parts) → DefinedAt V vals (node (Form.strict s) (part 0 (tab_term ds b) rest)) (0 ∷ length ds ∷ []) →
    (ms : List ℕ) → numbers_of V vals ds ≡ Some ms → Every (λ at. IsDefined V (push_index at [] ++ vals) b) (indices ms)
domain-defined V vals s ds b rest h ms e =
    let here : child_of (plain ds (part (length ds) b none)) (length ds) ≡ Some b = (let z : length ds ≡ length ds + 0 = omega arith in ap (child_of (plain ds (part (length ds) b none))) z) ∙ child_of-plain_past ds (part (length ds) b none) 0 in
    let all = h b (ap (λ o. o >>= λ u. Some u) here) in
    let inner = (Every-append_parts (λ there. IsDefined V there b) (reach V vals (tab_term ds b) (length ds ∷ [])) [] all).0 in
    let k1 = subst (λ o. Every (λ there. IsDefined V there b) (reach_each o (λ u. concat (map (λ new. (new ++ vals) ∷ []) (if nat_lt (length ds) (length ds) then [] ∷ [] else map (λ at. push_index at []) (indices_of (bounds_value (length ds) (part_values V vals (parts_of (tab_term ds b)))))))))) here inner in
    let k2 = subst (λ c. Every (λ there. IsDefined V there b) (concat (map (λ new. (new ++ vals) ∷ []) (if c then [] ∷ [] else map (λ at. push_index at []) (indices_of (bounds_value (length ds) (part_values V vals (parts_of (tab_term ds b))))))))) (le-ltb (length ds) (length ds) (omega arith)) k1 in
    let k3 = subst (λ o. Every (λ there. IsDefined V there b) (concat (map (λ new. (new ++ vals) ∷ []) (map (λ at. push_index at []) (indices_of o))))) (bounds_value-tab V vals ds b ∙ e) k2 in
    singles (λ new. IsDefined V (new ++ vals) b) (indices ms)
    (Every-map (λ new. Every (λ there. IsDefined V there b) ((new ++ vals) ∷ [])) (λ at. push_index at []) (indices ms) (Every-concat (λ there. IsDefined V there b) (λ new. (new ++ vals) ∷ []) (map (λ at. push_index at []) (indices ms)) k3))
  where
    singles : (P : List Datum → Type 0) (xs : List (List ℕ)) → Every (λ at. P (push_index at []) × Unit {0}) xs → Every (λ at. P (push_index at [])) xs
    singles P [] k = tt
    singles P (x ∷ xs) k = (k.0.0, singles P xs k.1)

-- a part of an operation's first part, where that is an operation too
pub inner-defined : (V : Outcomes) (vals : List Datum) (s q : Strict) (qs rest : Parts) (i : ℕ) (t : Term) → child_of qs i ≡ Some t → DefinedAt V vals (node (Form.strict s) (part 0 (node (Form.strict q) qs) rest)) (0 ∷ i ∷ []) → IsDefined V vals t
inner-defined V vals s q qs rest i t e h =
    let all = h t (ap (λ o. o >>= λ u. Some u) e) in
    let inner = (Every-append_parts (λ there. IsDefined V there t) (reach V vals (node (Form.strict q) qs) (i ∷ [])) [] all).0 in
    (subst (λ o. Every (λ there. IsDefined V there t) (reach_each o (λ u. vals ∷ []))) e inner).0

-- a property of each part to which a way leads
pub inners-defined : (V : Outcomes) (vals : List Datum) (l : Term) (P : ℕ → Type 0) → ((i : ℕ) → DefinedAt V vals l (0 ∷ i ∷ []) → P i) → (is : List ℕ) → Every (DefinedAt V vals l) (in_first is) → Every P is
inners-defined V vals l P h [] k = tt
inners-defined V vals l P h (i ∷ is) k = (h i k.0, inners-defined V vals l P h is k.1)

-- a property of each number but one
every-other : (P : ℕ → Type 0) (j : ℕ) (xs : List ℕ) → Every P (filter (λ i. not (nat_eq i j)) xs) → Every (λ i. (i ≡ j → ⊥) → P i) xs
every-other P j [] h = tt
every-other P j (x ∷ xs) h = at (λ k. every-other P j xs k) (nat_eq x j) refl h
  where
    at : (Every P (filter (λ i. not (nat_eq i j)) xs) → Every (λ i. (i ≡ j → ⊥) → P i) xs) → (b : Bool) → nat_eq x j ≡ b → Every P (cond (not b) (x ∷ filter (λ i. not (nat_eq i j)) xs) (filter (λ i. not (nat_eq i j)) xs)) → ((x ≡ j → ⊥) → P x) × Every (λ i. (i ≡ j → ⊥) → P i) xs
    at rest true e k = ((λ n. absurd (n (eqb-true x j e))), rest k)
    at rest false e k = ((λ n. k.0), rest k.1)

-- what holds of each number below n but j
pub others-hold : (P : ℕ → Type 0) (j n : ℕ) → Every P (others j n) → (i : ℕ) → i < n → (i ≡ j → ⊥) → P i
others-hold P j n h i l = Every-get (λ i. (i ≡ j → ⊥) → P i) (below n) i i (every-other P j (below n) h) (slice_get-below n i l)

-- where all but one have a value, and that one too, all have
each-but : {A B : Type 0} (f : A → Option B) (xs : List A) (j : ℕ) → ((i : ℕ) (x : A) → (i ≡ j → ⊥) → slice_get xs i ≡ Some x → (y : B) × (f x ≡ Some y)) → (x : A) → slice_get xs j ≡ Some x → each f xs ≡ None → f x ≡ None
each-but {A} {B} f xs j h x g e = at (f x) refl
  where
    all : (y : B) → f x ≡ Some y → (ys : List A) (k : ℕ) → ((i : ℕ) (z : A) → slice_get ys i ≡ Some z → slice_get xs (k + i) ≡ Some z) → Every (λ z. (w : B) × (f z ≡ Some w)) ys
    all y q [] k s = tt
    all y q (z ∷ ys) k s = (first (nat_eq k j) refl, all y q ys (suc k) (λ i w r. (let n : suc k + i ≡ k + suc i = omega arith in ap (slice_get xs) n) ∙ s (suc i) w r))
      where
        here : slice_get xs k ≡ Some z
        here = (let n : k ≡ k + 0 = omega arith in ap (slice_get xs) n) ∙ s 0 z refl

        first : (b : Bool) → nat_eq k j ≡ b → (w : B) × (f z ≡ Some w)
        first true r = let m : z ≡ x = same_Some z x (sym here ∙ ap (slice_get xs) (eqb-true k j r) ∙ g) in (y, ap f m ∙ q)
        first false r = h k z (eqb-false k j r) here

    at : (o : Option B) → f x ≡ o → f x ≡ None
    at None q = q
    at (Some y) q = let t = each-total f xs (all y q xs 0 (λ i z r. (let n : 0 + i ≡ i = omega arith in ap (slice_get xs) n) ∙ r)) in absurd (never t.0 (sym e ∙ t.1))
      where
        never : (ys : List B) → None ≡ Some ys → ⊥
        never ys r = cc

-- a component of a tuple whose other components are defined
pub keeps-p1 : (V : Outcomes) (vals : List Datum) (j : ℕ) (ts : List Term) (r : Term) → slice_get ts j ≡ Some r → 2 ≤ length ts → Every (DefinedAt V vals (proj_term (suc j) (length ts) (tuple_term ts))) (in_first (others j (length ts))) →
    cden V vals (proj_term (suc j) (length ts) (tuple_term ts)) ≡ cden V vals r
keeps-p1 V vals j ts r g two h = cden-strict V vals (Strict.proj (suc j) (length ts)) (tuple_term ts ∷ []) ∙ ap outer (cden-strict V vals Strict.tuple ts) ∙ by (each (cden V vals) ts) refl
  where
    outer : Option Datum → Option Datum
    outer o = (o >>= λ y. Some (y ∷ [])) >>= strict_value (Strict.proj (suc j) (length ts))

    defined : (i : ℕ) (x : Term) → (i ≡ j → ⊥) → slice_get ts i ≡ Some x → IsDefined V vals x
    defined i x n e =
        others-hold (λ i. (x : Term) → slice_get ts i ≡ Some x → IsDefined V vals x) j (length ts)
        (inners-defined V vals (proj_term (suc j) (length ts) (tuple_term ts)) (λ i. (x : Term) → slice_get ts i ≡ Some x → IsDefined V vals x)
        (λ i k x e. inner-defined V vals (Strict.proj (suc j) (length ts)) Strict.tuple (plain ts none) none i x (child_of-plain_below ts none i x e) k) (others j (length ts)) h)
        i (slice_get_within ts i x e) n x e

    tuple_made : (vs : List Datum) → 2 ≤ length vs → tuple_of vs ≡ Some (datum.tuple (data_of vs))
    tuple_made [] l = absurd (omega (arith, l))
    tuple_made (v ∷ []) l = absurd (omega (arith, l))
    tuple_made (v ∷ w ∷ vs) l = refl

    by : (o : Option (List Datum)) → each (cden V vals) ts ≡ o → outer (o >>= tuple_of) ≡ cden V vals r
    by None e = sym (each-but (cden V vals) ts j defined r g e)
    by (Some vs) e =
        let n : length vs ≡ length ts = each-length (cden V vals) ts vs e in
        ap outer (tuple_made vs (omega (arith, n, two))) ∙ part_of-tuple j (length ts) vs n ∙ each-get (cden V vals) ts vs j r e g

-- numbers as terms are worth themselves
each-numbers : (V : Outcomes) (vals : List Datum) (ns : List ℕ) → each (cden V vals) (map number ns) ≡ Some (map natural ns)
each-numbers V vals ns = each-map (cden V vals) number ns ∙ each-defined natural ns

-- dimensions and cells out of a list of both
take-map : {A : Type 0} (xs ys : List A) (n : ℕ) → n ≡ length xs → take n (xs ++ ys) ≡ xs
take-map xs ys n e = ap (λ k. take k (xs ++ ys)) e ∙ take-append_seam xs ys

drop-map : {A : Type 0} (xs ys : List A) (n : ℕ) → n ≡ length xs → drop n (xs ++ ys) ≡ ys
drop-map xs ys n e = ap (λ k. drop k (xs ++ ys)) e ∙ drop-append_seam xs ys

-- a literal with constant dimensions
pub cden-literal : (V : Outcomes) (vals : List Datum) (ns : List ℕ) (cs : List Term) → cden V vals (constant_literal ns cs) ≡ (each (cden V vals) cs >>= array_of ns)
cden-literal V vals ns cs =
    ap (cden V vals) (literal-parts (map number ns) cs)
    ∙ cden-strict V vals (Strict.literal (length (map number ns))) (map number ns ++ cs)
    ∙ ap (λ o. o >>= literal_of (length (map number ns))) (each-append (cden V vals) (map number ns) cs)
    ∙ ap (λ o. (o >>= λ as'. each (cden V vals) cs >>= λ bs. Some (as' ++ bs)) >>= literal_of (length (map number ns))) (each-numbers V vals ns)
    ∙ then-assoc (each (cden V vals) cs) (λ bs. Some (map natural ns ++ bs)) (literal_of (length (map number ns)))
    ∙ then-ext (each (cden V vals) cs) (λ bs. literal_of (length (map number ns)) (map natural ns ++ bs)) (array_of ns) (λ vs e. made vs)
  where
    same : length (map number ns) ≡ length (map natural ns)
    same = length-map ns number ∙ sym (length-map ns natural)

    made : (vs : List Datum) → literal_of (length (map number ns)) (map natural ns ++ vs) ≡ array_of ns vs
    made vs =
        ap (λ l. each as_natural l >>= λ ds. if nat_eq (length ds) (length (map number ns)) then array_of ds (drop (length (map number ns)) (map natural ns ++ vs)) else None) (take-map (map natural ns) vs (length (map number ns)) same)
        ∙ ap (λ o. o >>= λ ds. if nat_eq (length ds) (length (map number ns)) then array_of ds (drop (length (map number ns)) (map natural ns ++ vs)) else None) (each-naturals ns)
        ∙ ap (λ b. if b then array_of ns (drop (length (map number ns)) (map natural ns ++ vs)) else None) (eq-eqb (length ns) (length (map number ns)) (sym (length-map ns number)))
        ∙ ap (array_of ns) (drop-map (map natural ns) vs (length (map number ns)) same)

-- a literal with another number of cells than its dimensions ask has no value
pub keeps-misshapen : (V : Outcomes) (vals : List Datum) (ns : List ℕ) (cs : List Term) → (product ns ≡ length cs → ⊥) → cden V vals (constant_literal ns cs) ≡ None
keeps-misshapen V vals ns cs h = cden-literal V vals ns cs ∙ then-none (each (cden V vals) cs) (array_of ns) (λ vs e. no_array vs (λ q. h (q ∙ each-length (cden V vals) cs vs e)))
  where
    no_array : (vs : List Datum) → (product ns ≡ length vs → ⊥) → array_of ns vs ≡ None
    no_array vs n = at (array_of ns vs) refl
      where
        at : (o : Option Datum) → array_of ns vs ≡ o → o ≡ None
        at None e = refl
        at (Some v) e = absurd (n (array_of-is ns vs v e).3)

-- the same, as a list of numbers
numbers-are : (V : Outcomes) (vals : List Datum) (ns : List ℕ) → numbers_of V vals (map number ns) ≡ Some ns
numbers-are V vals ns = ap (λ o. o >>= each as_natural) (each-numbers V vals ns) ∙ each-naturals ns

-- a subscript of a literal is the cell at the offset of the index
subscript-value : (V : Outcomes) (vals : List Datum) (ns : List ℕ) (cs : List Term) (is : List ℕ) → product ns ≡ length cs → 1 ≤ length ns → length ns ≤ 8 →
    cden V vals (sub_term (constant_literal ns cs) (map number is)) ≡ (each (cden V vals) cs >>= λ vs. offset_of ns is >>= slice_get vs)
subscript-value V vals ns cs is full some few =
    cden-sub V vals (constant_literal ns cs) (map number is)
    ∙ ap (λ o. o >>= λ v. numbers_of V vals (map number is) >>= cell_of v) (cden-literal V vals ns cs)
    ∙ ap (λ q. (each (cden V vals) cs >>= array_of ns) >>= λ v. q >>= cell_of v) (numbers-are V vals is)
    ∙ then-assoc (each (cden V vals) cs) (array_of ns) (λ v. cell_of v is)
    ∙ then-ext (each (cden V vals) cs) (λ vs. array_of ns vs >>= λ v. cell_of v is) (λ vs. offset_of ns is >>= slice_get vs)
    (λ vs e. ap (λ o. o >>= λ v. cell_of v is) (array_of-made ns vs some few (full ∙ sym (each-length (cden V vals) cs vs e))) ∙ ap (λ l. cell (record { dims = ns; cells = l }) is) (list_of-data_of vs) ∙ cell-offset_of (record { dims = ns; cells = vs }) is)

-- A5 in range
pub keeps-a5_inside : (V : Outcomes) (vals : List Datum) (ns : List ℕ) (cs : List Term) (is : List ℕ) (p : ℕ) (r : Term) → product ns ≡ length cs → 1 ≤ length ns → length ns ≤ 8 → slice_get (indices ns) p ≡ Some is → slice_get cs p ≡ Some r →
    ((i : ℕ) (x : Term) → (i ≡ p → ⊥) → slice_get cs i ≡ Some x → IsDefined V vals x) → cden V vals (sub_term (constant_literal ns cs) (map number is)) ≡ cden V vals r
keeps-a5_inside V vals ns cs is p r full some few at g h =
    subscript-value V vals ns cs is full some few
    ∙ then-ext (each (cden V vals) cs) (λ vs. offset_of ns is >>= slice_get vs) (λ vs. slice_get vs p) (λ vs e. ap (λ o. o >>= slice_get vs) (place_of_index ns is p at))
    ∙ by (each (cden V vals) cs) refl
  where
    by : (o : Option (List Datum)) → each (cden V vals) cs ≡ o → (o >>= λ vs. slice_get vs p) ≡ cden V vals r
    by None e = sym (each-but (cden V vals) cs p h r g e)
    by (Some vs) e = each-get (cden V vals) cs vs p r e g

-- A5 out of range
pub keeps-a5_outside : (V : Outcomes) (vals : List Datum) (ns : List ℕ) (cs : List Term) (is : List ℕ) → product ns ≡ length cs → 1 ≤ length ns → length ns ≤ 8 → ((p : ℕ) → slice_get (indices ns) p ≡ Some is → ⊥) →
    cden V vals (sub_term (constant_literal ns cs) (map number is)) ≡ None
keeps-a5_outside V vals ns cs is full some few h =
    subscript-value V vals ns cs is full some few ∙ then-none (each (cden V vals) cs) (λ vs. offset_of ns is >>= slice_get vs) (λ vs e. at (offset_of ns is) refl vs)
  where
    at : (o : Option ℕ) → offset_of ns is ≡ o → (vs : List Datum) → (o >>= slice_get vs) ≡ None
    at None q vs = refl
    at (Some p) q vs = absurd (h p (row_major ns is p q))

-- terms that are numbers, as values and as numbers
numeric-each : (V : Outcomes) (vals : List Datum) (ds : List Term) → Every (Numeric V vals) ds → each (cden V vals) ds ≡ (numbers_of V vals ds >>= λ ms. Some (map natural ms))
numeric-each V vals [] h = refl
numeric-each V vals (d ∷ ds) h = by (cden V vals d) h.0 (each (cden V vals) ds) (numeric-each V vals ds h.1)
  where
    by : (o : Option Datum) → ((v : Datum) → o ≡ Some v → (n : ℕ) × (v ≡ natural n)) → (q : Option (List Datum)) → q ≡ ((q >>= each as_natural) >>= λ ms. Some (map natural ms)) →
        (o >>= λ y. q >>= λ ys. Some (y ∷ ys)) ≡ (((o >>= λ y. q >>= λ ys. Some (y ∷ ys)) >>= each as_natural) >>= λ ms. Some (map natural ms))
    by None k q e = refl
    by (Some v) k None e = refl
    by (Some v) k (Some vs) e =
        let n = k v refl in
        subst (λ w. Some (w ∷ vs) ≡ ((as_natural w >>= λ m. each as_natural vs >>= λ ms. Some (m ∷ ms)) >>= λ ms. Some (map natural ms))) (sym n.1) (more n.0 (each as_natural vs) e)
      where
        more : (n : ℕ) (q : Option (List ℕ)) → Some vs ≡ (q >>= λ ms. Some (map natural ms)) → Some (natural n ∷ vs) ≡ ((q >>= λ ms. Some (n ∷ ms)) >>= λ ms. Some (map natural ms))
        more n None e = cc
        more n (Some ms) e = ap (λ l. Some (natural n ∷ l)) (same_Some vs (map natural ms) e)

-- the sizes of a tabulation are the index value of its bounds
pub cden-sizes : (V : Outcomes) (vals : List Datum) (ds : List Term) → 1 ≤ length ds → Every (Numeric V vals) ds → cden V vals (sizes_term ds) ≡ (numbers_of V vals ds >>= λ ms. Some (index_value ms))
cden-sizes V vals [] l h = absurd (omega (arith, l))
cden-sizes V vals (d ∷ []) l h = by (cden V vals d) h.0
  where
    by : (o : Option Datum) → ((v : Datum) → o ≡ Some v → (n : ℕ) × (v ≡ natural n)) → o ≡ (((o >>= λ y. Some (y ∷ [])) >>= each as_natural) >>= λ ms. Some (index_value ms))
    by None k = refl
    by (Some v) k = let n = k v refl in subst (λ w. Some w ≡ ((as_natural w >>= λ m. Some (m ∷ [])) >>= λ ms. Some (index_value ms))) (sym n.1) refl
cden-sizes V vals (d ∷ e ∷ ds) l h =
    cden-strict V vals Strict.tuple (d ∷ e ∷ ds)
    ∙ ap (λ o. o >>= tuple_of) (numeric-each V vals (d ∷ e ∷ ds) h)
    ∙ then-assoc (numbers_of V vals (d ∷ e ∷ ds)) (λ ms. Some (map natural ms)) tuple_of
    ∙ then-ext (numbers_of V vals (d ∷ e ∷ ds)) (λ ms. tuple_of (map natural ms)) (λ ms. Some (index_value ms)) (λ ms k. made ms (numbers_of-length V vals (d ∷ e ∷ ds) ms k))
  where
    made : (ms : List ℕ) → length ms ≡ suc (suc (length ds)) → tuple_of (map natural ms) ≡ Some (index_value ms)
    made [] q = absurd (omega (arith, q))
    made (m ∷ []) q = absurd (omega (arith, q))
    made (m ∷ n ∷ ms) q = refl

-- the dimensions of an array
pub dims-made : (k : ℕ) (ms : List ℕ) (vs : List Datum) → length ms ≡ k → dim_of k (datum.array ms (data_of vs)) ≡ Some (index_value ms)
dims-made k ms vs e = ap (λ b. (if b then Some ms else None) >>= λ ds. Some (index_value ds)) (eq-eqb (length ms) k e)

-- the dimensions of a tabulation
pub keeps-a3 : (V : Outcomes) (vals : List Datum) (ds : List Term) (b : Term) → 1 ≤ length ds → length ds ≤ 8 → Every (Numeric V vals) ds → ((ms : List ℕ) → numbers_of V vals ds ≡ Some ms → Every (λ at. IsDefined V (push_index at [] ++ vals) b) (indices ms)) →
    cden V vals (dim_term (length ds) (tab_term ds b)) ≡ cden V vals (sizes_term ds)
keeps-a3 V vals ds b some few hd total =
    cden-strict V vals (Strict.dim (length ds)) (tab_term ds b ∷ [])
    ∙ ap (λ o. (o >>= λ y. Some (y ∷ [])) >>= strict_value (Strict.dim (length ds))) (cden-tab V vals ds b)
    ∙ by (numbers_of V vals ds) refl
    ∙ sym (cden-sizes V vals ds some hd)
  where
    by : (o : Option (List ℕ)) → numbers_of V vals ds ≡ o →
        (((o >>= λ ms. each (λ at. cden V (push_index at [] ++ vals) b) (indices ms) >>= array_of ms) >>= λ y. Some (y ∷ [])) >>= strict_value (Strict.dim (length ds))) ≡ (o >>= λ ms. Some (index_value ms))
    by None k = refl
    by (Some ms) k =
        let cells = each-total (λ at. cden V (push_index at [] ++ vals) b) (indices ms) (total ms k) in
        let many = numbers_of-length V vals ds ms k in
        let full : product ms ≡ length cells.0 = full-cells (λ at. cden V (push_index at [] ++ vals) b) ms cells.0 cells.1 in
        ap (λ o. ((o >>= array_of ms) >>= λ y. Some (y ∷ [])) >>= strict_value (Strict.dim (length ds))) cells.1
        ∙ ap (λ o. (o >>= λ y. Some (y ∷ [])) >>= strict_value (Strict.dim (length ds))) (array_of-made ms cells.0 (omega (arith, many, some)) (omega (arith, many, few)) full)
        ∙ dims-made (length ds) ms cells.0 many

-- the dimensions of a literal with constant dimensions
pub keeps-a6 : (V : Outcomes) (vals : List Datum) (ns : List ℕ) (cs : List Term) → product ns ≡ length cs → 1 ≤ length ns → length ns ≤ 8 → ((i : ℕ) (x : Term) → slice_get cs i ≡ Some x → IsDefined V vals x) →
    cden V vals (dim_term (length ns) (constant_literal ns cs)) ≡ cden V vals (sizes_term (map number ns))
keeps-a6 V vals ns cs full some few h =
    let cells = each-total (cden V vals) cs (all cs h) in
    cden-strict V vals (Strict.dim (length ns)) (constant_literal ns cs ∷ [])
    ∙ ap (λ o. (o >>= λ y. Some (y ∷ [])) >>= strict_value (Strict.dim (length ns))) (cden-literal V vals ns cs ∙ ap (λ o. o >>= array_of ns) cells.1 ∙ array_of-made ns cells.0 some few (full ∙ sym (each-length (cden V vals) cs cells.0 cells.1)))
    ∙ dims-made (length ns) ns cells.0 refl
    ∙ sym (cden-sizes V vals (map number ns) (omega (arith, some, length-map ns number)) (numeric ns) ∙ ap (λ o. o >>= λ ms. Some (index_value ms)) (numbers-are V vals ns))
  where
    all : (cs : List Term) → ((i : ℕ) (x : Term) → slice_get cs i ≡ Some x → IsDefined V vals x) → Every (λ x. (y : Datum) × (cden V vals x ≡ Some y)) cs
    all [] h = tt
    all (c ∷ cs) h = (h 0 c refl, all cs (λ i x e. h (suc i) x e))

    numeric : (ns : List ℕ) → Every (Numeric V vals) (map number ns)
    numeric [] = tt
    numeric (n ∷ ns) = ((λ v e. (n, sym (same_Some (natural n) v e))), numeric ns)
