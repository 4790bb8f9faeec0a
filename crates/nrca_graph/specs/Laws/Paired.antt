-- What the selection by an index is worth, and subscripts and dimensions of encoded arrays.
use Rattle.std.proofs.Common.{◌≡◌, ℕ, Bool, true, false, nat_eq, ◌&&◌, cond, List, [], ◌∷◌, ◌++◌, length, map, Option, Some, refl, sym, ap, ◌∙◌, if◌then◌else◌, arith, zip}
use Rattle.std.specs.declared.cmp.Ordering.{Ordering}
use Rattle.std.specs.declared.cmp.Ordering.TheVariants.{Less, Equal, Greater}
use Rattle.std.specs.Ordering.{nat_cmp, ordering_then, is_eq}
use Rattle.std.specs.Cmp.Lexicographic.{slice_cmp, pointwise}
use Rattle.std.specs.List.Sorted.{IsStrictlySortedBy}
use Rattle.aql_value.specs.declared.ops.CompareOp.TheVariants as compare_op
use Rattle.aql_value.specs.Datum.{Datum, truth, set, nil, data_of}
use Rattle.aql_value.specs.Laws.Datum.{list_of-data_of}
use Rattle.aql_value.specs.Canon.{canon}
use Rattle.std.proofs.lemmas.Bool.{eqb-true}
use Rattle.aql_value.specs.Indices.{paired_value}
use Rattle.aql_value.specs.Lists.{Every}
use Rattle.aql_value.specs.Laws.Lists.{Every-impl, Every-all}
use Rattle.aql_value.specs.Operations.{as_set, as_truth, index_value, set_of, union_all, only}
use Rattle.aql_value.specs.Laws.Operations.{union_all-sets}
use Rattle.aql_value.specs.Ops.{compare_by}
use Rattle.aql_value.specs.Order.{datum_cmp}
use Rattle.aql_value.specs.Partial.{◌>>=◌, each, concat}
use Rattle.aql_value.specs.Laws.Partial.{each-map, each-ext, each-defined}
use Rattle.aql_value.specs.Strict.{Strict, strict_value}
use Rattle.nrca_term.specs.Term.{Term}
use Rattle.nrca_term.specs.Nodes.{variable, proj_term, single_term, empty_term, if_term}
use Rattle.nrca_term.specs.Meaning.{Outcomes, cden}
use Rattle.nrca_term.specs.Subst.{shift_term}
use Rattle.nrca_term.specs.Laws.Shifting.{cden-shift_term}
use Rattle.nrca_graph.specs.Encoding.{pair, graph, encoding, encode_outcome}
use Rattle.nrca_graph.specs.ArrayFree.{equal_term, paired_with}
use Rattle.nrca_graph.specs.Laws.IndexOrder.{index-order}

-- pairs by their two parts
abbrev pub pair_of : Datum × Datum → Datum
pair_of p = pair p.0 p.1

-- the second part of a pair whose first part is this value
abbrev pub second_if : Datum → Datum × Datum → List Datum
second_if x p = if compare_by compare_op.Equal (datum_cmp p.0 x) then p.1 ∷ [] else []

-- the selection at one pair
abbrev pub selection : Term → Term
selection index = if_term (equal_term (proj_term 1 2 (variable 0)) (shift_term 0 1 index)) (single_term (proj_term 2 2 (variable 0))) empty_term

-- it is the set of what is chosen
selection-value : (W : Outcomes) (env : List Datum) (i : Term) (x : Datum) (p : Datum × Datum) → cden W env i ≡ Some x →
    cden W (pair_of p ∷ env) (selection i) ≡ Some (set_of (second_if x p))
selection-value W env i x p e =
    ap (λ o. (((o >>= λ y. Some (y ∷ [])) >>= λ ys. Some (p.0 ∷ ys)) >>= strict) >>= as_truth >>= branch) (cden-shift_term W [] (pair_of p ∷ []) env i ∙ e)
    ∙ of (compare_by compare_op.Equal (datum_cmp p.0 x))
  where
    strict : List Datum → Option Datum
    strict vs = strict_value (Strict.compare compare_op.Equal) vs

    branch : Bool → Option Datum
    branch b = if b then Some (set_of (p.1 ∷ [])) else Some (set nil)

    of : (b : Bool) → (Some (truth b) >>= as_truth >>= branch) ≡ Some (set_of (if b then p.1 ∷ [] else []))
    of true = refl
    of false = refl

-- the selection over a set of pairs: the set of the second parts of those that are chosen
pub paired-value : (W : Outcomes) (env : List Datum) (s i : Term) (x : Datum) (ps : List (Datum × Datum)) → cden W env s ≡ Some (set (data_of (map pair_of ps))) → cden W env i ≡ Some x →
    cden W env (paired_with s i) ≡ Some (set_of (concat (map (second_if x) ps)))
paired-value W env s i x ps e h =
    ap (λ o. (o >>= as_set >>= each (λ m. cden W (m ∷ env) (selection i))) >>= union_all) e
    ∙ ap (λ ms. each (λ m. cden W (m ∷ env) (selection i)) ms >>= union_all) (list_of-data_of (map pair_of ps))
    ∙ ap (λ o. o >>= union_all) (each-map (λ m. cden W (m ∷ env) (selection i)) pair_of ps
    ∙ each-ext (λ p. cden W (pair_of p ∷ env) (selection i)) (λ p. Some (set_of (second_if x p))) ps (Every-all _ (λ p. selection-value W env i x p h) ps)
    ∙ each-defined (λ p. set_of (second_if x p)) ps)
    ∙ ap union_all (sym (map-twice ps))
    ∙ union_all-sets (map (second_if x) ps)
  where
    map-twice : (qs : List (Datum × Datum)) → map set_of (map (second_if x) qs) ≡ map (λ p. set_of (second_if x p)) qs
    map-twice [] = refl
    map-twice (q ∷ qs) = ap (λ l. set_of (second_if x q) ∷ l) (map-twice qs)

-- the graph as pairs of two parts
abbrev pub key_cells : List (List ℕ) → List Datum → List (Datum × Datum)
key_cells [] cs = []
key_cells (at ∷ ats) [] = []
key_cells (at ∷ ats) (c ∷ cs) = (index_value at, c) ∷ key_cells ats cs

-- both are one list
pub graph-keyed : (ats : List (List ℕ)) (cs : List Datum) → graph ats cs ≡ map pair_of (key_cells ats cs)
graph-keyed [] cs = refl
graph-keyed (at ∷ ats) [] = refl
graph-keyed (at ∷ ats) (c ∷ cs) = ap (λ l. pair (index_value at) c ∷ l) (graph-keyed ats cs)

-- indices of one rank are equal as values where their numbers are
pub equal-indices : (b at : List ℕ) → length b ≡ length at → compare_by compare_op.Equal (datum_cmp (index_value b) (index_value at)) ≡ pointwise nat_eq at b
equal-indices b at e = ap is_eq (index-order b at e) ∙ lists b at
  where
    lists : (b at : List ℕ) → is_eq (slice_cmp nat_cmp b at) ≡ pointwise nat_eq at b
    lists [] [] = refl
    lists [] (n ∷ at) = refl
    lists (m ∷ b) [] = refl
    lists (m ∷ b) (n ∷ at) = split (nat_cmp m n) (slice_cmp nat_cmp b at) ∙ (λ j. numbers j && lists b at j)
      where
        split : (o p : Ordering) → is_eq (ordering_then o p) ≡ (is_eq o && is_eq p)
        split Less p = refl
        split Equal p = refl
        split Greater p = refl

        numbers : is_eq (nat_cmp m n) ≡ nat_eq n m
        numbers = grind (arith)

-- an index that comes before another differs from it
less-differs : (at y : List ℕ) → slice_cmp nat_cmp at y ≡ Less → pointwise nat_eq at y ≡ false
less-differs at y h = sym (lists at y) ∙ ap is_eq h
  where
    lists : (b at : List ℕ) → is_eq (slice_cmp nat_cmp b at) ≡ pointwise nat_eq b at
    lists [] [] = refl
    lists [] (n ∷ at) = refl
    lists (m ∷ b) [] = refl
    lists (m ∷ b) (n ∷ at) = split (nat_cmp m n) (slice_cmp nat_cmp b at) ∙ (λ j. numbers j && lists b at j)
      where
        split : (o p : Ordering) → is_eq (ordering_then o p) ≡ (is_eq o && is_eq p)
        split Less p = refl
        split Equal p = refl
        split Greater p = refl

        numbers : is_eq (nat_cmp m n) ≡ nat_eq m n
        numbers = grind (arith)

-- equal numbers are one index
same-index : (at b : List ℕ) → pointwise nat_eq at b ≡ true → at ≡ b
same-index [] [] e = refl
same-index [] (n ∷ b) e = cc
same-index (m ∷ at) [] e = cc
same-index (m ∷ at) (n ∷ b) e = of (same-index at b) (nat_eq m n) refl e
  where
    of : (pointwise nat_eq at b ≡ true → at ≡ b) → (t : Bool) → nat_eq m n ≡ t → (t && pointwise nat_eq at b) ≡ true → m ∷ at ≡ n ∷ b
    of ih false f k = cc
    of ih true f k = let z : m ≡ n = eqb-true m n f in (λ j. z j ∷ ih k j)

-- where no index is the one, nothing is chosen
none-chosen : (at : List ℕ) (ats : List (List ℕ)) (cs : List Datum) → Every (λ b. length b ≡ length at) ats → Every (λ b. pointwise nat_eq at b ≡ false) ats →
    concat (map (second_if (index_value at)) (key_cells ats cs)) ≡ []
none-chosen at [] cs n h = refl
none-chosen at (b ∷ ats) [] n h = refl
none-chosen at (b ∷ ats) (c ∷ cs) n h =
    ap (λ t. (if t then c ∷ [] else []) ++ concat (map (second_if (index_value at)) (key_cells ats cs))) (equal-indices b at n.0 ∙ h.0) ∙ none-chosen at ats cs n.1 h.1

-- the one that is chosen among the pairs of an array is the cell
pub cell-chosen : (at : List ℕ) (ats : List (List ℕ)) (cs : List Datum) → Every (λ b. length b ≡ length at) ats → IsStrictlySortedBy (slice_cmp nat_cmp) ats →
    only (canon (concat (map (second_if (index_value at)) (key_cells ats (map encoding cs))))) ≡ encode_outcome (paired_value at (zip ats cs))
unfolding IsStrictlySortedBy
cell-chosen at [] cs n s = refl
cell-chosen at (b ∷ ats) [] n s = refl
cell-chosen at (b ∷ ats) (c ∷ cs) n s = of (pointwise nat_eq at b) refl (cell-chosen at ats cs n.1 s.1)
  where
    rest : List Datum
    rest = concat (map (second_if (index_value at)) (key_cells ats (map encoding cs)))

    of : (t : Bool) → pointwise nat_eq at b ≡ t → only (canon rest) ≡ encode_outcome (paired_value at (zip ats cs)) →
        only (canon (second_if (index_value at) (index_value b, encoding c) ++ rest)) ≡ encode_outcome (cond (pointwise nat_eq at b) (Some c) (paired_value at (zip ats cs)))
    of true e ih =
        ap (λ u. only (canon ((if u then encoding c ∷ [] else []) ++ rest))) (equal-indices b at n.0 ∙ e)
        ∙ ap (λ l. only (canon (encoding c ∷ l))) (none-chosen at ats (map encoding cs) n.1
        (Every-impl (λ y. slice_cmp nat_cmp b y ≡ Less) (λ y. pointwise nat_eq at y ≡ false) (λ y l. less-differs at y (ap (λ x. slice_cmp nat_cmp x y) (same-index at b e) ∙ l)) ats s.0))
        ∙ sym (ap (λ u. encode_outcome (cond u (Some c) (paired_value at (zip ats cs)))) e)
    of false e ih =
        ap (λ u. only (canon ((if u then encoding c ∷ [] else []) ++ rest))) (equal-indices b at n.0 ∙ e) ∙ ih
        ∙ sym (ap (λ u. encode_outcome (cond u (Some c) (paired_value at (zip ats cs)))) e)
