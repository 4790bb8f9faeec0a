-- What follows from the definitions of `NoArrays`.
use Rattle.std.proofs.Common.{ℕ, zero, suc, ◌+◌, ◌*◌, Bool, true, false, List, [], ◌∷◌, length, map, take, drop, if◌then◌else◌}
use Rattle.aql_value.specs.Lists.{Every, below}
use Rattle.aql_value.specs.Laws.Lists.{Every-all, Every-onto, Every-take, Every-drop}
use Rattle.aql_value.specs.Operations.{is_rank}
use Rattle.aql_value.specs.Strict.{Strict}
use Rattle.nrca_term.specs.Term.{Term, Parts, node, none, part, plain, Form, terms_in}
use Rattle.nrca_term.specs.Nodes.{variable, bottom_term, proj_term, get_term}
use Rattle.nrca_term.specs.Subst.{shift_form, shift_term, shift_parts}
use Rattle.nrca_term.specs.Rules.{lets, sizes_term, index_variables}
use Rattle.nrca_graph.specs.Tabulation.{nest, table_term}
use Rattle.nrca_graph.specs.ArrayFree.{term_at, paired_with, subscript_graph, number_at, greater, greatest, dimension_above, index_graph, times, product_term, where_zero, over_rest, further_numbers, index_of_cell, cell_pairs, united_neighbours, union_tree, literal_graph, array_free_node, array_free, array_free_parts}
use Rattle.nrca_graph.specs.NoArrays.{IsKeptForm, HasNoArrays, PartsHaveNoArrays}

-- a shifted form
kept-shift : (from by : ℕ) (f : Form) → IsKeptForm f → IsKeptForm (shift_form from by f)
kept-shift from by (Form.var i) h = h
kept-shift from by (Form.global n) h = h
kept-shift from by Form.bind h = h
kept-shift from by Form.choose h = h
kept-shift from by Form.default h = h
kept-shift from by Form.big_union h = h
kept-shift from by Form.sum h = h
kept-shift from by (Form.tab rank) h = h
kept-shift from by (Form.strict s) h = h

mutual
  -- a shifted term
  without-shift : (from by : ℕ) (t : Term) → HasNoArrays t → HasNoArrays (shift_term from by t)
  without-shift from by (node f ps) h = (kept-shift from by f h.0, without-shift_parts from by ps h.1)

  without-shift_parts : (from by : ℕ) (ps : Parts) → PartsHaveNoArrays ps → PartsHaveNoArrays (shift_parts from by ps)
  without-shift_parts from by none h = tt
  without-shift_parts from by (part k t ps) h = (without-shift (from + k) by t h.0, without-shift_parts from by ps h.1)

-- the terms of parts
without-terms : (ps : Parts) → PartsHaveNoArrays ps → Every HasNoArrays (terms_in ps)
without-terms none h = tt
without-terms (part k t ps) h = (h.0, without-terms ps h.1)

-- one of several terms, or Bottom
without-at : (ts : List Term) (i : ℕ) → Every HasNoArrays ts → HasNoArrays (term_at ts i)
without-at [] i h = (tt, tt)
without-at (t ∷ ts) zero h = h.0
without-at (t ∷ ts) (suc i) h = without-at ts i h.1

-- terms as parts
without-plain : (ts : List Term) → Every HasNoArrays ts → PartsHaveNoArrays (plain ts none)
without-plain [] h = tt
without-plain (t ∷ ts) h = (h.0, without-plain ts h.1)

-- one term, or a tuple
without-sizes : (ts : List Term) → Every HasNoArrays ts → HasNoArrays (sizes_term ts)
without-sizes [] h = (tt, tt)
without-sizes (t ∷ []) h = h.0
without-sizes (t ∷ u ∷ ts) h = (tt, without-plain (t ∷ u ∷ ts) h)

-- the variables of an index
without-variables : (k : ℕ) → Every HasNoArrays (index_variables k)
without-variables zero = tt
without-variables (suc k) = ((tt, tt), without-variables k)

-- lets of terms
without-lets : (n : ℕ) (ts : List Term) (b : Term) → Every HasNoArrays ts → HasNoArrays b → HasNoArrays (lets n ts b)
without-lets n [] b h k = k
without-lets n (t ∷ ts) b h k = (tt, (without-shift 0 n t h.0, (without-lets (suc n) ts b h.1 k, tt)))

-- nested loops
without-nest : (n : ℕ) (g b : Term) → HasNoArrays g → HasNoArrays b → HasNoArrays (nest n g b)
without-nest zero g b h k = k
without-nest (suc n) g b h k = (tt, (h, (without-nest n g b h k, tt)))

-- dimensions and pairs
without-table : (k : ℕ) (b : Term) → HasNoArrays b → HasNoArrays (table_term k b)
without-table k b h =
    let v = without-sizes (index_variables k) (without-variables k) in
    (tt, (v, (without-nest k _ _ (tt, ((tt, tt), tt)) (tt, ((tt, (v, (h, tt))), tt)), tt)))

-- a selection
without-paired : (s i : Term) → HasNoArrays s → HasNoArrays i → HasNoArrays (paired_with s i)
without-paired s i h k =
    (tt, (h, ((tt, ((tt, ((tt, ((tt, tt), tt)), (without-shift 0 1 i k, tt))), ((tt, ((tt, ((tt, tt), tt)), tt)), ((tt, tt), tt)))), tt)))

-- a subscript
without-subscript : (ts : List Term) → Every HasNoArrays ts → HasNoArrays (subscript_graph ts)
without-subscript [] h = (tt, tt)
without-subscript (a ∷ is) h =
    without-lets 0 (a ∷ sizes_term is ∷ []) (get_term (paired_with (proj_term 2 2 (variable 1)) (variable 0))) (h.0, (without-sizes is h.1, tt)) (tt, (without-paired (proj_term 2 2 (variable 1)) (variable 0) (tt, ((tt, tt), tt)) (tt, tt), tt))

-- a number of an index
without-number : (rank j i : ℕ) → HasNoArrays (number_at rank j (variable i))
without-number zero j i = (tt, ((tt, ((tt, tt), tt)), tt))
without-number (suc zero) j i = (tt, ((tt, tt), tt))
without-number (suc (suc rank)) j i = (tt, ((tt, ((tt, tt), tt)), tt))

-- the numbers that are greater
without-greater : (rank j : ℕ) → HasNoArrays (greater rank j)
without-greater rank j =
    (tt, ((tt, tt), ((tt, ((tt, (without-number rank j 1, (without-number rank j 0, tt))), ((tt, (without-number rank j 0, tt)), ((tt, tt), tt)))), tt)))

-- a dimension of an index
without-dimension : (rank j : ℕ) → HasNoArrays (dimension_above rank j)
without-dimension rank j =
    let g : HasNoArrays (greatest rank j) = (tt, ((tt, tt), ((tt, ((tt, (without-greater rank j, ((tt, tt), tt))), ((tt, (without-number rank j 0, tt)), ((tt, tt), tt)))), tt))) in
    (tt, ((tt, ((tt, tt), ((tt, tt), tt))), ((tt, tt), ((tt, ((tt, tt), ((tt, (g, tt)), tt))), tt))))

-- an index
without-index : (rank : ℕ) (s : Term) → HasNoArrays s → HasNoArrays (index_graph rank s)
without-index rank s h = (tt, (h, (of (is_rank rank), tt)))
  where
    inner : HasNoArrays (lets 0 (map (λ j. dimension_above rank (suc j)) (below rank)) (table_term rank (paired_with (variable (2 * rank)) (sizes_term (index_variables rank)))))
    inner = without-lets 0 (map (λ j. dimension_above rank (suc j)) (below rank)) _ (Every-onto HasNoArrays (λ j. dimension_above rank (suc j)) (below rank) (Every-all _ (λ j. without-dimension rank (suc j)) (below rank)))
        (without-table rank _ (without-paired (variable (2 * rank)) (sizes_term (index_variables rank)) (tt, tt) (without-sizes (index_variables rank) (without-variables rank))))

    of : (b : Bool) → HasNoArrays (if b then lets 0 (map (λ j. dimension_above rank (suc j)) (below rank)) (table_term rank (paired_with (variable (2 * rank)) (sizes_term (index_variables rank)))) else bottom_term)
    of true = inner
    of false = (tt, tt)

-- a product of factors
without-times : (p : Term) (ts : List Term) → HasNoArrays p → Every HasNoArrays ts → HasNoArrays (times p ts)
without-times p [] h k = h
without-times p (t ∷ ts) h k = without-times _ ts (tt, (h, (k.0, tt))) k.1

-- the product of dimensions
without-product : (ts : List Term) → Every HasNoArrays ts → HasNoArrays (product_term ts)
without-product [] h = (tt, tt)
without-product (t ∷ ts) h = without-times t ts h.0 h.1

-- the test of a literal
without-where_zero : (ts : List Term) (z t : Term) → Every HasNoArrays ts → HasNoArrays z → HasNoArrays t → HasNoArrays (where_zero ts z t)
without-where_zero [] z t h k l = l
without-where_zero (d ∷ ts) z t h k l = (tt, ((tt, (h.0, ((tt, tt), tt))), (k, (without-where_zero ts z t h.1 k l, tt))))

-- the first number of a cell's index
without-over : (m : ℕ) (ts : List Term) → Every HasNoArrays ts → HasNoArrays (over_rest m ts)
without-over m [] h = (tt, tt)
without-over m (t ∷ ts) h = (tt, ((tt, tt), (without-product (t ∷ ts) h, tt)))

-- the further numbers
without-further : (m : ℕ) (ts : List Term) → Every HasNoArrays ts → Every HasNoArrays (further_numbers m ts)
without-further m [] h = tt
without-further m (t ∷ ts) h = ((tt, (without-over m ts h.1, (h.0, tt))), without-further m ts h.1)

-- all numbers
without-index_of_cell : (m : ℕ) (ts : List Term) → Every HasNoArrays ts → Every HasNoArrays (index_of_cell m ts)
without-index_of_cell m [] h = tt
without-index_of_cell m (t ∷ ts) h = (without-over m ts h.1, without-further m ts h.1)

-- the pairs of a literal
without-pairs : (m : ℕ) (ts cs : List Term) → Every HasNoArrays ts → Every HasNoArrays cs → Every HasNoArrays (cell_pairs m ts cs)
without-pairs m ts [] h k = tt
without-pairs m ts (c ∷ cs) h k = ((tt, ((tt, (without-sizes (index_of_cell m ts) (without-index_of_cell m ts h), (k.0, tt))), tt)), without-pairs (suc m) ts cs h k.1)

-- a round of unions
without-neighbours : (ts : List Term) → Every HasNoArrays ts → Every HasNoArrays (united_neighbours ts)
without-neighbours [] h = tt
without-neighbours (t ∷ []) h = h
without-neighbours (t ∷ u ∷ ts) h = ((tt, (h.0, (h.1.0, tt))), without-neighbours ts h.1.1)

-- all rounds
without-united : (n : ℕ) (ts : List Term) → Every HasNoArrays ts → HasNoArrays (union_tree n ts)
without-united zero [] h = (tt, tt)
without-united zero (t ∷ ts) h = h.0
without-united (suc n) ts h = without-united n (united_neighbours ts) (without-neighbours ts h)

-- a literal
without-literal : (ds cs : List Term) → Every HasNoArrays ds → Every HasNoArrays cs → HasNoArrays (literal_graph ds cs)
without-literal ds cs h k =
    let vs = without-variables (length ds) in
    without-lets 0 ds _ h (
      tt,
      (
        without-where_zero (index_variables (length ds)) _ _ vs (tt, tt) (tt, (without-product (index_variables (length ds)) vs, ((tt, tt), tt))),
        ((tt, (without-sizes (index_variables (length ds)) vs, (without-united (length cs) _ (without-pairs 0 (index_variables (length ds)) (map (shift_term 0 (length ds)) cs) vs (shifted cs k)), tt))), ((tt, tt), tt)),
      ),
    )
  where
    shifted : (us : List Term) → Every HasNoArrays us → Every HasNoArrays (map (shift_term 0 (length ds)) us)
    shifted [] l = tt
    shifted (u ∷ us) l = (without-shift 0 (length ds) u l.0, shifted us l.1)

-- a node of a form that evaluates every part
without-strict : (s : Strict) (ps : Parts) → PartsHaveNoArrays ps → HasNoArrays (array_free_node (Form.strict s) ps)
without-strict (Strict.nat n) ps h = (tt, h)
without-strict (Strict.bool b) ps h = (tt, h)
without-strict (Strict.text s) ps h = (tt, h)
without-strict Strict.bottom ps h = (tt, h)
without-strict Strict.tuple ps h = (tt, h)
without-strict (Strict.proj at of) ps h = (tt, h)
without-strict (Strict.arith op) ps h = (tt, h)
without-strict (Strict.compare op) ps h = (tt, h)
without-strict Strict.empty ps h = (tt, h)
without-strict Strict.single ps h = (tt, h)
without-strict Strict.union ps h = (tt, h)
without-strict Strict.gen ps h = (tt, h)
without-strict Strict.get ps h = (tt, h)
without-strict Strict.sub ps h = without-subscript (terms_in ps) (without-terms ps h)
without-strict (Strict.dim rank) ps h = (tt, (without-at (terms_in ps) 0 (without-terms ps h), tt))
without-strict (Strict.index rank) ps h = without-index rank (term_at (terms_in ps) 0) (without-at (terms_in ps) 0 (without-terms ps h))
without-strict (Strict.literal rank) ps h =
    without-literal (take rank (terms_in ps)) (drop rank (terms_in ps)) (Every-take HasNoArrays rank (terms_in ps) (without-terms ps h)) (Every-drop HasNoArrays rank (terms_in ps) (without-terms ps h))

-- a node of any form
without-node : (f : Form) (ps : Parts) → PartsHaveNoArrays ps → HasNoArrays (array_free_node f ps)
without-node (Form.var i) ps h = (tt, h)
without-node (Form.global n) ps h = (tt, h)
without-node Form.bind ps h = (tt, h)
without-node Form.choose ps h = (tt, h)
without-node Form.default ps h = (tt, h)
without-node Form.big_union ps h = (tt, h)
without-node Form.sum ps h = (tt, h)
without-node (Form.strict s) ps h = without-strict s ps h
without-node (Form.tab rank) ps h =
    let ds = take rank (terms_in ps) in
    let b = term_at (terms_in ps) rank in
    without-lets 0 ds _ (Every-take HasNoArrays rank (terms_in ps) (without-terms ps h)) (without-table (length ds) _ (without-shift (length ds) (length ds) b (without-at (terms_in ps) rank (without-terms ps h))))

mutual
  -- the array-free form has none of the five
  pub array_free-has_none : (t : Term) → HasNoArrays (array_free t)
  array_free-has_none (node f ps) = without-node f (array_free_parts ps) (parts-have_none ps)

  parts-have_none : (ps : Parts) → PartsHaveNoArrays (array_free_parts ps)
  parts-have_none none = tt
  parts-have_none (part k t ps) = (array_free-has_none t, parts-have_none ps)
