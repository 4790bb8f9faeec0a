-- How high the variables of an array-free form are.
use Rattle.std.proofs.Common.{◌≡◌, ℕ, zero, suc, ◌+◌, ◌-◌, ◌*◌, ◌≤◌, max, Bool, true, false, nat_le, List, [], ◌∷◌, length, map, take, drop, if◌then◌else◌, refl, arith}
use Rattle.std.proofs.lemmas.List.{length-take, length-map}
use Rattle.aql_value.specs.Lists.{Every, below}
use Rattle.aql_value.specs.Laws.Lists.{Every-all, Every-onto, Every-take, Every-drop, length-below}
use Rattle.aql_value.specs.Operations.{is_rank}
use Rattle.aql_value.specs.Strict.{Strict}
use Rattle.nrca_term.specs.Term.{Term, Parts, node, none, part, plain, Form, count, form_weight, weight_of, parts_weight, terms_in}
use Rattle.nrca_term.specs.Laws.Measure.{form-positive, parts_weight-count, weight_of-positive}
use Rattle.nrca_term.specs.Nodes.{variable, gen_term, single_term, number, truth_term, bottom_term, if_term, tuple_term, proj_term, get_term}
use Rattle.nrca_term.specs.Subst.{shift_term, form_top, top_var, parts_top}
use Rattle.nrca_term.specs.Laws.Shift.{top_var-shift_le}
use Rattle.nrca_term.specs.Rules.{lets, sizes_term, index_variables}
use Rattle.nrca_graph.specs.Tabulation.{nest, table_term}
use Rattle.nrca_graph.specs.ArrayFree.{equal_term, term_at, paired_with, subscript_graph, number_at, dimension_above, index_graph, times, product_term, where_zero, is_filled, over_rest, further_numbers, index_of_cell, cell_pairs, united_neighbours, union_tree, literal_graph, array_free_node, array_free, array_free_parts}
use Rattle.nrca_graph.specs.Laws.TranslatedParts.{length-terms}

-- no variable of the term is above n
abbrev pub TopAtMost : ℕ → Term → Type 0
TopAtMost n t = top_var t ≤ n

-- a higher bound
higher : (m n : ℕ) (ts : List Term) → m ≤ n → Every (TopAtMost m) ts → Every (TopAtMost n) ts
higher m n [] l h = tt
higher m n (t ∷ ts) l h = (omega (arith, l, h.0), higher m n ts l h.1)

-- shifted terms
shifted-tops : (n from by : ℕ) (ts : List Term) → Every (TopAtMost n) ts → Every (TopAtMost (n + by)) (map (shift_term from by) ts)
shifted-tops n from by [] h = tt
shifted-tops n from by (t ∷ ts) h = (omega (arith, h.0, top_var-shift_le from by t), shifted-tops n from by ts h.1)

-- parts whose terms are bounded
tops-parts : (n : ℕ) (ps : Parts) → Every (TopAtMost n) (terms_in ps) → parts_top ps ≤ n
tops-parts n none h = omega arith
tops-parts n (part k t ps) h = omega (arith, h.0, tops-parts n ps h.1)

-- one of several terms, or Bottom
tops-at : (n : ℕ) (ts : List Term) (i : ℕ) → Every (TopAtMost n) ts → TopAtMost n (term_at ts i)
tops-at n [] i h = omega arith
tops-at n (t ∷ ts) zero h = h.0
tops-at n (t ∷ ts) (suc i) h = tops-at n ts i h.1

-- terms as parts
tops-plain : (n : ℕ) (ts : List Term) → Every (TopAtMost n) ts → parts_top (plain ts none) ≤ n
tops-plain n [] h = omega arith
tops-plain n (t ∷ ts) h = omega (arith, h.0, tops-plain n ts h.1)

-- one term, or a tuple
pub tops-sizes : (n : ℕ) (ts : List Term) → Every (TopAtMost n) ts → TopAtMost n (sizes_term ts)
tops-sizes n [] h = omega arith
tops-sizes n (t ∷ []) h = h.0
tops-sizes n (t ∷ u ∷ ts) h = omega (arith, tops-plain n (t ∷ u ∷ ts) h)

-- the variables of an index
pub tops-variables : (n k : ℕ) → k ≤ n → Every (TopAtMost n) (index_variables k)
tops-variables n zero h = tt
tops-variables n (suc k) h = (omega (arith, h), tops-variables n k (omega (arith, h)))

-- lets of terms
tops-lets : (n m : ℕ) (ts : List Term) (b : Term) → Every (TopAtMost n) ts → TopAtMost (n + m + length ts) b → TopAtMost (n + m + length ts) (lets m ts b)
tops-lets n m [] b h k = k
tops-lets n m (t ∷ ts) b h k = omega (arith, h.0, top_var-shift_le 0 m t, tops-lets n (suc m) ts b h.1 (omega (arith, k)))

-- nested loops
tops-nest : (n k : ℕ) (g b : Term) → TopAtMost n g → TopAtMost n b → TopAtMost n (nest k g b)
tops-nest n zero g b h k = k
tops-nest n (suc m) g b h k = omega (arith, h, tops-nest n m g b h k)

-- dimensions and pairs
tops-table : (n k : ℕ) (b : Term) → k ≤ n → TopAtMost n b → TopAtMost n (table_term k b)
tops-table n k b l h =
    let v = tops-sizes n (index_variables k) (tops-variables n k l) in
    omega (arith, v, tops-nest n k (gen_term (variable (k - 1))) (single_term (tuple_term (sizes_term (index_variables k) ∷ b ∷ []))) (omega (arith, l)) (omega (arith, v, h)))

-- a selection
tops-paired : (n : ℕ) (s i : Term) → TopAtMost n s → top_var i + 1 ≤ n → TopAtMost n (paired_with s i)
tops-paired n s i h k = omega (arith, h, k, top_var-shift_le 0 1 i)

-- a subscript
tops-subscript : (n : ℕ) (ts : List Term) → Every (TopAtMost n) ts → TopAtMost (n + 2) (subscript_graph ts)
tops-subscript n [] h = omega arith
tops-subscript n (a ∷ is) h =
    omega (arith, tops-lets n 0 (a ∷ sizes_term is ∷ []) (get_term (paired_with (proj_term 2 2 (variable 1)) (variable 0))) (h.0, (tops-sizes n is h.1, tt)) (omega arith))

-- a number of an index
tops-number : (n rank j i : ℕ) → i ≤ n → TopAtMost n (number_at rank j (variable i))
tops-number n zero j i h = omega (arith, h)
tops-number n (suc zero) j i h = omega (arith, h)
tops-number n (suc (suc rank)) j i h = omega (arith, h)

-- a dimension of an index
pub tops-dimension : (rank j : ℕ) → TopAtMost 1 (dimension_above rank j)
tops-dimension rank j = omega (arith, tops-number 1 rank j 0 (omega arith), tops-number 1 rank j 1 (omega arith))

-- a rank is at most 8
pub rank-few : (n : ℕ) → is_rank n ≡ true → n ≤ 8
rank-few n h = grind (arith, h)

-- the dimensions of an index
pub tops-dimensions : (rank : ℕ) → Every (TopAtMost 1) (map (λ j. dimension_above rank (suc j)) (below rank))
tops-dimensions rank = Every-onto (TopAtMost 1) (λ j. dimension_above rank (suc j)) (below rank) (Every-all _ (λ j. tops-dimension rank (suc j)) (below rank))

-- an index
tops-index : (n rank : ℕ) (s : Term) → TopAtMost n s → TopAtMost (n + 24) (index_graph rank s)
tops-index n rank s h = omega (arith, h, of (is_rank rank) refl)
  where
    of : (b : Bool) → is_rank rank ≡ b →
        TopAtMost 24 (if b then lets 0 (map (λ j. dimension_above rank (suc j)) (below rank)) (table_term rank (paired_with (variable (2 * rank)) (sizes_term (index_variables rank)))) else bottom_term)
    of false e = omega arith
    of true e =
        let r = rank-few rank e in
        let l = length-map (below rank) (λ j. dimension_above rank (suc j)) in
        let i = tops-sizes 8 (index_variables rank) (tops-variables 8 rank r) in
        let b = tops-table 16 rank (paired_with (variable (2 * rank)) (sizes_term (index_variables rank))) (omega (arith, r)) (tops-paired 16 (variable (2 * rank)) (sizes_term (index_variables rank)) (omega (arith, r)) (omega (arith, i))) in
        omega (arith, l, r, length-below rank, tops-lets 16 0 (map (λ j. dimension_above rank (suc j)) (below rank)) (table_term rank (paired_with (variable (2 * rank)) (sizes_term (index_variables rank)))) (higher 1 16 _ (omega arith) (tops-dimensions rank)) (omega (arith, b)))

-- a product of factors
tops-times : (n : ℕ) (p : Term) (ts : List Term) → TopAtMost n p → Every (TopAtMost n) ts → TopAtMost n (times p ts)
tops-times n p [] h k = h
tops-times n p (t ∷ ts) h k = tops-times n _ ts (omega (arith, h, k.0)) k.1

-- the product of dimensions
tops-product : (n : ℕ) (ts : List Term) → Every (TopAtMost n) ts → TopAtMost n (product_term ts)
tops-product n [] h = omega arith
tops-product n (t ∷ ts) h = tops-times n t ts h.0 h.1

-- the test of a literal
tops-where_zero : (n : ℕ) (ts : List Term) (z t : Term) → Every (TopAtMost n) ts → TopAtMost n z → TopAtMost n t → TopAtMost n (where_zero ts z t)
tops-where_zero n [] z t h k l = l
tops-where_zero n (d ∷ ts) z t h k l = omega (arith, h.0, k, tops-where_zero n ts z t h.1 k l)

-- the first number of a cell's index
tops-over : (n m : ℕ) (ts : List Term) → Every (TopAtMost n) ts → TopAtMost n (over_rest m ts)
tops-over n m [] h = omega arith
tops-over n m (t ∷ ts) h = omega (arith, tops-product n (t ∷ ts) h)

-- the further numbers
tops-further : (n m : ℕ) (ts : List Term) → Every (TopAtMost n) ts → Every (TopAtMost n) (further_numbers m ts)
tops-further n m [] h = tt
tops-further n m (t ∷ ts) h = (omega (arith, h.0, tops-over n m ts h.1), tops-further n m ts h.1)

-- all numbers
tops-index_of_cell : (n m : ℕ) (ts : List Term) → Every (TopAtMost n) ts → Every (TopAtMost n) (index_of_cell m ts)
tops-index_of_cell n m [] h = tt
tops-index_of_cell n m (t ∷ ts) h = (tops-over n m ts h.1, tops-further n m ts h.1)

-- the pairs of a literal
tops-pairs : (n m : ℕ) (ts cs : List Term) → Every (TopAtMost n) ts → Every (TopAtMost n) cs → Every (TopAtMost n) (cell_pairs m ts cs)
tops-pairs n m ts [] h k = tt
tops-pairs n m ts (c ∷ cs) h k = (omega (arith, k.0, tops-sizes n (index_of_cell m ts) (tops-index_of_cell n m ts h)), tops-pairs n (suc m) ts cs h k.1)

-- a round of unions
tops-neighbours : (n : ℕ) (ts : List Term) → Every (TopAtMost n) ts → Every (TopAtMost n) (united_neighbours ts)
tops-neighbours n [] h = tt
tops-neighbours n (t ∷ []) h = h
tops-neighbours n (t ∷ u ∷ ts) h = (omega (arith, h.0, h.1.0), tops-neighbours n ts h.1.1)

-- all rounds
tops-united : (n m : ℕ) (ts : List Term) → Every (TopAtMost n) ts → TopAtMost n (union_tree m ts)
tops-united n zero [] h = omega arith
tops-united n zero (t ∷ ts) h = h.0
tops-united n (suc m) ts h = tops-united n m (united_neighbours ts) (tops-neighbours n ts h)

-- a literal
tops-literal : (n : ℕ) (ds cs : List Term) → Every (TopAtMost n) ds → Every (TopAtMost n) cs → TopAtMost (n + length ds) (literal_graph ds cs)
tops-literal n ds cs h k =
    let vs = tops-variables (n + length ds) (length ds) (omega arith) in
    let v = tops-sizes (n + length ds) (index_variables (length ds)) vs in
    let u = tops-united (n + length ds) (length cs) (cell_pairs 0 (index_variables (length ds)) (map (shift_term 0 (length ds)) cs)) (tops-pairs (n + length ds) 0 (index_variables (length ds)) (map (shift_term 0 (length ds)) cs) vs (shifted-tops n 0 (length ds) cs k)) in
    let p = tops-product (n + length ds) (index_variables (length ds)) vs in
    let w = tops-where_zero (n + length ds) (index_variables (length ds)) (truth_term (nat_le (length cs) 0)) (equal_term (product_term (index_variables (length ds))) (number (length cs))) vs (omega arith) (omega (arith, p)) in
    omega (arith, tops-lets n 0 ds (if_term (is_filled (index_variables (length ds)) (length cs)) (tuple_term (sizes_term (index_variables (length ds)) ∷ union_tree (length cs) (cell_pairs 0 (index_variables (length ds)) (map (shift_term 0 (length ds)) cs)) ∷ [])) bottom_term) h (omega (arith, v, u, w)))

-- a node of a form that evaluates every part
tops-strict : (n : ℕ) (s : Strict) (ps : Parts) → Every (TopAtMost n) (terms_in ps) → TopAtMost (n + 24 + length (terms_in ps)) (array_free_node (Form.strict s) ps)
tops-strict n (Strict.nat m) ps h = omega (arith, tops-parts n ps h)
tops-strict n (Strict.bool b) ps h = omega (arith, tops-parts n ps h)
tops-strict n (Strict.text s) ps h = omega (arith, tops-parts n ps h)
tops-strict n Strict.bottom ps h = omega (arith, tops-parts n ps h)
tops-strict n Strict.tuple ps h = omega (arith, tops-parts n ps h)
tops-strict n (Strict.proj at of) ps h = omega (arith, tops-parts n ps h)
tops-strict n (Strict.arith op) ps h = omega (arith, tops-parts n ps h)
tops-strict n (Strict.compare op) ps h = omega (arith, tops-parts n ps h)
tops-strict n Strict.empty ps h = omega (arith, tops-parts n ps h)
tops-strict n Strict.single ps h = omega (arith, tops-parts n ps h)
tops-strict n Strict.union ps h = omega (arith, tops-parts n ps h)
tops-strict n Strict.gen ps h = omega (arith, tops-parts n ps h)
tops-strict n Strict.get ps h = omega (arith, tops-parts n ps h)
tops-strict n Strict.sub ps h = omega (arith, tops-subscript n (terms_in ps) h)
tops-strict n (Strict.dim rank) ps h = omega (arith, tops-at n (terms_in ps) 0 h)
tops-strict n (Strict.index rank) ps h = omega (arith, tops-index n rank (term_at (terms_in ps) 0) (tops-at n (terms_in ps) 0 h))
tops-strict n (Strict.literal rank) ps h =
    omega (arith, length-take rank (terms_in ps), tops-literal n (take rank (terms_in ps)) (drop rank (terms_in ps)) (Every-take (TopAtMost n) rank (terms_in ps) h) (Every-drop (TopAtMost n) rank (terms_in ps) h))

-- a node of any form
tops-node : (n : ℕ) (f : Form) (ps : Parts) → form_top f ≤ n → Every (TopAtMost n) (terms_in ps) → TopAtMost (n + 24 * form_weight f + length (terms_in ps)) (array_free_node f ps)
tops-node n (Form.var i) ps l h = omega (arith, l, tops-parts n ps h)
tops-node n (Form.global m) ps l h = omega (arith, tops-parts n ps h)
tops-node n Form.bind ps l h = omega (arith, tops-parts n ps h)
tops-node n Form.choose ps l h = omega (arith, tops-parts n ps h)
tops-node n Form.default ps l h = omega (arith, tops-parts n ps h)
tops-node n Form.big_union ps l h = omega (arith, tops-parts n ps h)
tops-node n Form.sum ps l h = omega (arith, tops-parts n ps h)
tops-node n (Form.strict s) ps l h = omega (arith, form-positive (Form.strict s), tops-strict n s ps h)
tops-node n (Form.tab rank) ps l h =
    let ds = take rank (terms_in ps) in
    let b = term_at (terms_in ps) rank in
    let s = top_var-shift_le (length ds) (length ds) b in
    let t = tops-table (n + length ds) (length ds) (shift_term (length ds) (length ds) b) (omega arith) (omega (arith, s, tops-at n (terms_in ps) rank h)) in
    omega (arith, length-take rank (terms_in ps), tops-lets n 0 ds (table_term (length ds) (shift_term (length ds) (length ds) b)) (Every-take (TopAtMost n) rank (terms_in ps) h) (omega (arith, t)))

mutual
  -- the variables of the array-free form are at most those of the term and 25 for each unit of its weight
  pub array_free-top : (t : Term) → top_var (array_free t) ≤ top_var t + 25 * weight_of t
  array_free-top (node f ps) =
      let n = max (form_top f) (parts_top ps + 25 * parts_weight ps + 1 - count ps) in
      omega (
        arith,
        form-positive f,
        parts_weight-count ps,
        length-terms ps,
        tops-node n f (array_free_parts ps) (omega arith) (higher (parts_top ps + 25 * parts_weight ps + 1 - count ps) n _ (omega arith) (parts-tops ps)),
      )

  parts-tops : (ps : Parts) → Every (TopAtMost (parts_top ps + 25 * parts_weight ps + 1 - count ps)) (terms_in (array_free_parts ps))
  parts-tops none = tt
  parts-tops (part k t ps) = (
    omega (arith, array_free-top t, parts_weight-count ps),
    higher (parts_top ps + 25 * parts_weight ps + 1 - count ps) (max (top_var t) (parts_top ps) + 25 * (weight_of t + parts_weight ps) + 1 - suc (count ps)) _ (omega (arith, weight_of-positive t, parts_weight-count ps)) (parts-tops ps),
  )

-- the parts of a term whose parts are translated
pub parts_free-top : (ps : Parts) → parts_top (array_free_parts ps) ≤ parts_top ps + 25 * parts_weight ps
parts_free-top none = omega arith
parts_free-top (part k t ps) = omega (arith, array_free-top t, parts_free-top ps)

-- they are as many as before, and each weighs something
pub parts_free-few : (ps : Parts) → count (array_free_parts ps) ≤ parts_weight ps
parts_free-few none = omega arith
parts_free-few (part k (node f us) ps) = omega (arith, form-positive f, parts_free-few ps)
