-- How many loops an array-free form has.
use Rattle.std.proofs.Common.{◌≡◌, ℕ, zero, suc, ◌+◌, ◌-◌, ◌*◌, ◌≤◌, nat_le, Bool, true, false, List, [], ◌∷◌, ◌++◌, length, map, take, drop, replicate, if◌then◌else◌, refl, sym, ap, subst, ◌∙◌, arith, length-append}
use Rattle.std.proofs.lemmas.List.{length-map, length-replicate}
use Rattle.aql_value.specs.declared.ops.ArithOp.TheVariants.{Mul}
use Rattle.aql_value.specs.Lists.{Every, below}
use Rattle.aql_value.specs.Laws.Lists.{length-below}
use Rattle.aql_value.specs.Operations.{is_rank}
use Rattle.aql_value.specs.Strict.{Strict}
use Rattle.aql_ty.specs.Types as types
use Rattle.aql_ty.specs.Types.{Ty}
use Rattle.nrca_term.specs.Term.{Term, Parts, node, none, part, plain, Form, terms_in}
use Rattle.nrca_term.specs.Typing.{Arg, arg, ctyped, parts_typed, form_rule}
use Rattle.nrca_term.specs.Nodes.{variable, gen_term, single_term, number, truth_term, bottom_term, if_term, tuple_term, proj_term, get_term, arith_term}
use Rattle.nrca_term.specs.Subst.{shift_form, shift_term, shift_parts}
use Rattle.nrca_term.specs.Rules.{lets, sizes_term, index_variables}
use Rattle.nrca_graph.specs.Counts.{loop_number, loops_of, parts_loops, sums_of, big_unions_of, own_rank, ranks_of, parts_ranks}
use Rattle.nrca_graph.specs.Tabulation.{nest, table_term}
use Rattle.nrca_graph.specs.ArrayFree.{equal_term, term_at, paired_with, subscript_graph, number_at, dimension_above, index_graph, times, product_term, where_zero, is_filled, over_rest, further_numbers, index_of_cell, cell_pairs, united_neighbours, union_tree, literal_graph, array_free_node, array_free, array_free_parts}

-- so many times a weight
abbrev copies : ℕ → ℕ → ℕ
copies zero c = 0
copies (suc k) c = c + copies k c

-- the loops of some terms
abbrev list_loops : (a b : ℕ) → List Term → ℕ
list_loops a b [] = 0
list_loops a b (t ∷ ts) = loops_of a b t + list_loops a b ts

-- a term has no loop
abbrev NoLoop : (a b : ℕ) → Term → Type 0
NoLoop a b t = loops_of a b t ≡ 0

loop_number-shift : (a b from by : ℕ) (f : Form) → loop_number a b (shift_form from by f) ≡ loop_number a b f
loop_number-shift a b from by (Form.var i) = refl
loop_number-shift a b from by (Form.global n) = refl
loop_number-shift a b from by Form.bind = refl
loop_number-shift a b from by Form.choose = refl
loop_number-shift a b from by Form.default = refl
loop_number-shift a b from by Form.big_union = refl
loop_number-shift a b from by Form.sum = refl
loop_number-shift a b from by (Form.tab rank) = refl
loop_number-shift a b from by (Form.strict s) = refl

mutual
  -- a shifted term
  loops-shift : (a b from by : ℕ) (t : Term) → loops_of a b (shift_term from by t) ≡ loops_of a b t
  loops-shift a b from by (node f ps) = omega (arith, loop_number-shift a b from by f, loops-shift_parts a b from by ps)

  loops-shift_parts : (a b from by : ℕ) (ps : Parts) → parts_loops a b (shift_parts from by ps) ≡ parts_loops a b ps
  loops-shift_parts a b from by none = refl
  loops-shift_parts a b from by (part k t ps) = omega (arith, loops-shift a b (from + k) by t, loops-shift_parts a b from by ps)

loops-shifted : (a b from by : ℕ) (ts : List Term) → list_loops a b (map (shift_term from by) ts) ≡ list_loops a b ts
loops-shifted a b from by [] = refl
loops-shifted a b from by (t ∷ ts) = omega (arith, loops-shift a b from by t, loops-shifted a b from by ts)

-- the terms of parts
loops-terms : (a b : ℕ) (ps : Parts) → list_loops a b (terms_in ps) ≡ parts_loops a b ps
loops-terms a b none = refl
loops-terms a b (part k t ps) = omega (arith, loops-terms a b ps)

-- terms as parts
loops-plain : (a b : ℕ) (ts : List Term) → parts_loops a b (plain ts none) ≡ list_loops a b ts
loops-plain a b [] = refl
loops-plain a b (t ∷ ts) = omega (arith, loops-plain a b ts)

-- one term, or a tuple
loops-sizes : (a b : ℕ) (ts : List Term) → loops_of a b (sizes_term ts) ≡ list_loops a b ts
loops-sizes a b [] = refl
loops-sizes a b (t ∷ []) = omega arith
loops-sizes a b (t ∷ u ∷ ts) = omega (arith, loops-plain a b (t ∷ u ∷ ts))

-- the variables of an index
loops-variables : (a b k : ℕ) → list_loops a b (index_variables k) ≡ 0
loops-variables a b zero = refl
loops-variables a b (suc k) = omega (arith, loops-variables a b k)

no-variables : (a b k : ℕ) → Every (NoLoop a b) (index_variables k)
no-variables a b zero = tt
no-variables a b (suc k) = (refl, no-variables a b k)

-- terms without a loop
list-none : (a b : ℕ) (ts : List Term) → Every (NoLoop a b) ts → list_loops a b ts ≡ 0
list-none a b [] h = refl
list-none a b (t ∷ ts) h = omega (arith, h.0, list-none a b ts h.1)

-- lets of terms
loops-lets : (a b n : ℕ) (ts : List Term) (u : Term) → loops_of a b (lets n ts u) ≡ list_loops a b ts + loops_of a b u
loops-lets a b n [] u = omega arith
loops-lets a b n (t ∷ ts) u = omega (arith, loops-shift a b 0 n t, loops-lets a b (suc n) ts u)

-- nested loops over the numbers below a variable
loops-nest : (a b k i : ℕ) (u : Term) → loops_of a b (nest k (gen_term (variable i)) u) ≡ copies k b + loops_of a b u
loops-nest a b zero i u = omega arith
loops-nest a b (suc k) i u = omega (arith, loops-nest a b k i u)

-- dimensions and pairs
loops-table : (a b k : ℕ) (u : Term) → loops_of a b (table_term k u) ≡ copies k b + loops_of a b u
loops-table a b k u =
    let v = loops-sizes a b (index_variables k) in
    omega (arith, v, loops-variables a b k, loops-nest a b k (k - 1) (single_term (tuple_term (sizes_term (index_variables k) ∷ u ∷ []))))

-- a selection
loops-paired : (a b : ℕ) (s i : Term) → loops_of a b (paired_with s i) ≡ b + loops_of a b s + loops_of a b i
loops-paired a b s i = omega (arith, loops-shift a b 0 1 i)

-- a subscript
loops-subscript : (a b : ℕ) (t : Term) (is : List Term) → loops_of a b (subscript_graph (t ∷ is)) ≡ b + list_loops a b (t ∷ is)
loops-subscript a b t is =
    omega (arith, loops-lets a b 0 (t ∷ sizes_term is ∷ []) (get_term (paired_with (proj_term 2 2 (variable 1)) (variable 0))), loops-sizes a b is)

-- a number of an index
loops-number : (a b rank j i : ℕ) → loops_of a b (number_at rank j (variable i)) ≡ 0
loops-number a b zero j i = refl
loops-number a b (suc zero) j i = refl
loops-number a b (suc (suc rank)) j i = refl

-- a dimension of an index
loops-dimension : (a b rank j : ℕ) → loops_of a b (dimension_above rank j) ≡ b + b
loops-dimension a b rank j = omega (arith, loops-number a b rank j 0, loops-number a b rank j 1)

loops-dimensions : (a b rank : ℕ) (js : List ℕ) → list_loops a b (map (λ j. dimension_above rank (suc j)) js) ≡ copies (length js) (b + b)
loops-dimensions a b rank [] = refl
loops-dimensions a b rank (j ∷ js) = omega (arith, loops-dimension a b rank (suc j), loops-dimensions a b rank js)

-- the loops of an index beside those of its set
abbrev index_loops : (b rank : ℕ) → ℕ
index_loops b rank = if is_rank rank then copies rank (b + b) + (copies rank b + b) else 0

-- an index
loops-index : (a b rank : ℕ) (s : Term) → loops_of a b (index_graph rank s) ≡ loops_of a b s + index_loops b rank
loops-index a b rank s = omega (arith, of (is_rank rank))
  where
    of : (r : Bool) →
        loops_of a b (if r then lets 0 (map (λ j. dimension_above rank (suc j)) (below rank)) (table_term rank (paired_with (variable (2 * rank)) (sizes_term (index_variables rank)))) else bottom_term)
        ≡ (if r then copies rank (b + b) + (copies rank b + b) else 0)
    of false = refl
    of true =
        omega (
          arith,
          loops-lets a b 0 (map (λ j. dimension_above rank (suc j)) (below rank)) (table_term rank (paired_with (variable (2 * rank)) (sizes_term (index_variables rank)))),
          loops-dimensions a b rank (below rank),
          ap (λ n. copies n (b + b)) (length-below rank),
          loops-table a b rank (paired_with (variable (2 * rank)) (sizes_term (index_variables rank))),
          loops-paired a b (variable (2 * rank)) (sizes_term (index_variables rank)),
          loops-sizes a b (index_variables rank),
          loops-variables a b rank,
        )

-- a product of factors
loops-times : (a b : ℕ) (p : Term) (ts : List Term) → loops_of a b (times p ts) ≡ loops_of a b p + list_loops a b ts
loops-times a b p [] = omega arith
loops-times a b p (t ∷ ts) = omega (arith, loops-times a b (arith_term Mul p t) ts)

-- the product of dimensions
loops-product : (a b : ℕ) (ts : List Term) → loops_of a b (product_term ts) ≡ list_loops a b ts
loops-product a b [] = refl
loops-product a b (t ∷ ts) = loops-times a b t ts

-- the test of a literal
loops-where_zero : (a b : ℕ) (ts : List Term) (z t : Term) → NoLoop a b z → loops_of a b (where_zero ts z t) ≡ list_loops a b ts + loops_of a b t
loops-where_zero a b [] z t h = omega arith
loops-where_zero a b (d ∷ ts) z t h = omega (arith, h, loops-where_zero a b ts z t h)

-- the numbers of a cell's index
no-over : (a b m : ℕ) (ts : List Term) → Every (NoLoop a b) ts → NoLoop a b (over_rest m ts)
no-over a b m [] h = refl
no-over a b m (t ∷ ts) h = omega (arith, loops-product a b (t ∷ ts), h.0, list-none a b ts h.1)

no-further : (a b m : ℕ) (ts : List Term) → Every (NoLoop a b) ts → Every (NoLoop a b) (further_numbers m ts)
no-further a b m [] h = tt
no-further a b m (t ∷ ts) h = (omega (arith, no-over a b m ts h.1, h.0), no-further a b m ts h.1)

no-index_of_cell : (a b m : ℕ) (ts : List Term) → Every (NoLoop a b) ts → Every (NoLoop a b) (index_of_cell m ts)
no-index_of_cell a b m [] h = tt
no-index_of_cell a b m (t ∷ ts) h = (no-over a b m ts h.1, no-further a b m ts h.1)

-- the pairs of a literal
loops-pairs : (a b m : ℕ) (ts cs : List Term) → Every (NoLoop a b) ts → list_loops a b (cell_pairs m ts cs) ≡ list_loops a b cs
loops-pairs a b m ts [] h = refl
loops-pairs a b m ts (c ∷ cs) h =
    omega (arith, loops-sizes a b (index_of_cell m ts), list-none a b (index_of_cell m ts) (no-index_of_cell a b m ts h), loops-pairs a b (suc m) ts cs h)

-- a round of unions
loops-neighbours : (a b : ℕ) (ts : List Term) → list_loops a b (united_neighbours ts) ≡ list_loops a b ts
loops-neighbours a b [] = refl
loops-neighbours a b (t ∷ []) = refl
loops-neighbours a b (t ∷ u ∷ ts) = omega (arith, loops-neighbours a b ts)

-- a round leaves half of the sets, rounded up
neighbours-fewer : (n : ℕ) (ts : List Term) → length ts ≤ suc (suc n) → length (united_neighbours ts) ≤ suc n
neighbours-fewer n [] h = omega arith
neighbours-fewer n (t ∷ []) h = omega arith
neighbours-fewer zero (t ∷ u ∷ []) h = omega arith
neighbours-fewer zero (t ∷ u ∷ v ∷ ts) h = absurd (omega (arith, h))
neighbours-fewer (suc n) (t ∷ u ∷ ts) h = omega (arith, neighbours-fewer n ts (omega (arith, h)))

-- all rounds
loops-united : (a b n : ℕ) (ts : List Term) → length ts ≤ suc n → loops_of a b (union_tree n ts) ≡ list_loops a b ts
loops-united a b zero [] h = refl
loops-united a b zero (t ∷ []) h = omega arith
loops-united a b zero (t ∷ u ∷ ts) h = absurd (omega (arith, h))
loops-united a b (suc n) ts h = loops-united a b n (united_neighbours ts) (neighbours-fewer n ts h) ∙ loops-neighbours a b ts

-- as many pairs as cells
pairs-many : (m : ℕ) (ts cs : List Term) → length (cell_pairs m ts cs) ≡ length cs
pairs-many m ts [] = refl
pairs-many m ts (c ∷ cs) = ap suc (pairs-many (suc m) ts cs)

-- a literal
loops-literal : (a b : ℕ) (ds cs : List Term) → loops_of a b (literal_graph ds cs) ≡ list_loops a b ds + list_loops a b cs
loops-literal a b ds cs =
    let vs = index_variables (length ds) in
    let xs = map (shift_term 0 (length ds)) cs in
    omega (
      arith,
      loops-lets a b 0 ds (if_term (is_filled vs (length cs)) (tuple_term (sizes_term vs ∷ union_tree (length cs) (cell_pairs 0 vs xs) ∷ [])) bottom_term),
      loops-where_zero a b vs (truth_term (nat_le (length cs) 0)) (equal_term (product_term vs) (number (length cs))) refl,
      loops-product a b vs,
      loops-variables a b (length ds),
      loops-sizes a b vs,
      loops-united a b (length cs) (cell_pairs 0 vs xs) (omega (arith, pairs-many 0 vs xs, length-map cs (shift_term 0 (length ds)))),
      loops-pairs a b 0 vs xs (no-variables a b (length ds)),
      loops-shifted a b 0 (length ds) cs,
    )

-- the loops that a node has instead of its own
abbrev made_loops : (b : ℕ) → Form → ℕ
made_loops b (Form.tab rank) = copies rank b
made_loops b (Form.strict Strict.sub) = b
made_loops b (Form.strict (Strict.index rank)) = index_loops b rank
made_loops b _ = 0

-- a node has as many parts as its form asks for
abbrev HasItsParts : Form → ℕ → Type 0
HasItsParts (Form.tab rank) n = n ≡ suc rank
HasItsParts (Form.strict Strict.sub) n = 1 ≤ n
HasItsParts (Form.strict (Strict.dim rank)) n = n ≡ 1
HasItsParts (Form.strict (Strict.index rank)) n = n ≡ 1
HasItsParts _ n = Unit {0}

-- the first terms, and those behind them
loops-split : (a b k : ℕ) (ts : List Term) → list_loops a b (take k ts) + list_loops a b (drop k ts) ≡ list_loops a b ts
loops-split a b zero ts = omega arith
loops-split a b (suc k) [] = refl
loops-split a b (suc k) (t ∷ ts) = omega (arith, loops-split a b k ts)

-- the first terms, and the last one
loops-last : (a b k : ℕ) (ts : List Term) → length ts ≡ suc k → list_loops a b (take k ts) + loops_of a b (term_at ts k) ≡ list_loops a b ts
loops-last a b zero [] h = absurd (omega (arith, h))
loops-last a b zero (t ∷ []) h = omega arith
loops-last a b zero (t ∷ u ∷ ts) h = absurd (omega (arith, h))
loops-last a b (suc k) [] h = absurd (omega (arith, h))
loops-last a b (suc k) (t ∷ ts) h = omega (arith, loops-last a b k ts (omega (arith, h)))

take-short : (k : ℕ) (ts : List Term) → length ts ≡ suc k → length (take k ts) ≡ k
take-short zero ts h = refl
take-short (suc k) [] h = absurd (omega (arith, h))
take-short (suc k) (t ∷ ts) h = ap suc (take-short k ts (omega (arith, h)))

loops-only : (a b : ℕ) (ts : List Term) → length ts ≡ 1 → loops_of a b (term_at ts 0) ≡ list_loops a b ts
loops-only a b [] h = absurd (omega (arith, h))
loops-only a b (t ∷ []) h = omega arith
loops-only a b (t ∷ u ∷ ts) h = absurd (omega (arith, h))

loops-first : (a b : ℕ) (ts : List Term) → 1 ≤ length ts → loops_of a b (subscript_graph ts) ≡ b + list_loops a b ts
loops-first a b [] h = absurd (omega (arith, h))
loops-first a b (t ∷ ts) h = loops-subscript a b t ts

-- a node of a form that evaluates every part
loops-strict : (a b : ℕ) (s : Strict) (ps : Parts) → HasItsParts (Form.strict s) (length (terms_in ps)) → loops_of a b (array_free_node (Form.strict s) ps) ≡ made_loops b (Form.strict s) + parts_loops a b ps
loops-strict a b (Strict.nat n) ps h = refl
loops-strict a b (Strict.bool c) ps h = refl
loops-strict a b (Strict.text s) ps h = refl
loops-strict a b Strict.bottom ps h = refl
loops-strict a b Strict.tuple ps h = refl
loops-strict a b (Strict.proj at of) ps h = refl
loops-strict a b (Strict.arith op) ps h = refl
loops-strict a b (Strict.compare op) ps h = refl
loops-strict a b Strict.empty ps h = refl
loops-strict a b Strict.single ps h = refl
loops-strict a b Strict.union ps h = refl
loops-strict a b Strict.gen ps h = refl
loops-strict a b Strict.get ps h = refl
loops-strict a b Strict.sub ps h = omega (arith, loops-first a b (terms_in ps) h, loops-terms a b ps)
loops-strict a b (Strict.dim rank) ps h = omega (arith, loops-only a b (terms_in ps) h, loops-terms a b ps)
loops-strict a b (Strict.index rank) ps h = omega (arith, loops-index a b rank (term_at (terms_in ps) 0), loops-only a b (terms_in ps) h, loops-terms a b ps)
loops-strict a b (Strict.literal rank) ps h = omega (arith, loops-literal a b (take rank (terms_in ps)) (drop rank (terms_in ps)), loops-split a b rank (terms_in ps), loops-terms a b ps)

-- a node of any form
loops-node : (a b : ℕ) (f : Form) (ps : Parts) → HasItsParts f (length (terms_in ps)) → loops_of a b (array_free_node f ps) ≡ loop_number a b f + made_loops b f + parts_loops a b ps
loops-node a b (Form.var i) ps h = omega arith
loops-node a b (Form.global n) ps h = omega arith
loops-node a b Form.bind ps h = omega arith
loops-node a b Form.choose ps h = omega arith
loops-node a b Form.default ps h = omega arith
loops-node a b Form.big_union ps h = omega arith
loops-node a b Form.sum ps h = omega arith
loops-node a b (Form.strict s) ps h = omega (arith, loops-strict a b s ps h)
loops-node a b (Form.tab rank) ps h =
    let ds = take rank (terms_in ps) in
    let u = term_at (terms_in ps) rank in
    omega (
      arith,
      loops-lets a b 0 ds (table_term (length ds) (shift_term (length ds) (length ds) u)),
      loops-table a b (length ds) (shift_term (length ds) (length ds) u),
      loops-shift a b (length ds) (length ds) u,
      ap (λ n. copies n b) (take-short rank (terms_in ps) h),
      loops-last a b rank (terms_in ps) h,
      loops-terms a b ps,
    )

-- as many parts as arguments
parts-counted : (G : ℕ → Ty → Type 0) (env : List Ty) (ps : Parts) (args : List Arg) → parts_typed G env ps args → length (terms_in (array_free_parts ps)) ≡ length args
parts-counted G env none args h = sym (ap length h)
parts-counted G env (part k t ps) args h = omega (arith, parts-counted G env ps h.1 h.5, ap length h.2)

-- a typed node of a form that evaluates every part has its parts
strict-parts : (G : ℕ → Ty → Type 0) (env : List Ty) (s : Strict) (args : List Arg) (T : Ty) → form_rule G env (Form.strict s) args T → HasItsParts (Form.strict s) (length args)
strict-parts G env Strict.sub args T r = omega (arith, ap length (r.1 ∙ ap (map (arg [])) r.2.2))
strict-parts G env (Strict.dim rank) args T r = ap length (r.1 ∙ ap (map (arg [])) r.2.2)
strict-parts G env (Strict.index rank) args T r = ap length (r.1 ∙ ap (map (arg [])) r.2.2)
strict-parts G env (Strict.literal rank) args T r = tt
strict-parts G env (Strict.nat n) args T r = tt
strict-parts G env (Strict.bool b) args T r = tt
strict-parts G env (Strict.text s) args T r = tt
strict-parts G env Strict.bottom args T r = tt
strict-parts G env Strict.tuple args T r = tt
strict-parts G env (Strict.proj at of) args T r = tt
strict-parts G env (Strict.arith op) args T r = tt
strict-parts G env (Strict.compare op) args T r = tt
strict-parts G env Strict.empty args T r = tt
strict-parts G env Strict.single args T r = tt
strict-parts G env Strict.union args T r = tt
strict-parts G env Strict.gen args T r = tt
strict-parts G env Strict.get args T r = tt

-- a typed node has its parts
typed-parts : (G : ℕ → Ty → Type 0) (env : List Ty) (f : Form) (args : List Arg) (T : Ty) → form_rule G env f args T → HasItsParts f (length args)
typed-parts G env (Form.var n) args T r = tt
typed-parts G env (Form.global n) args T r = tt
typed-parts G env Form.bind args T r = tt
typed-parts G env Form.choose args T r = tt
typed-parts G env Form.default args T r = tt
typed-parts G env Form.big_union args T r = tt
typed-parts G env Form.sum args T r = tt
typed-parts G env (Form.strict s) args T r = strict-parts G env s args T r
typed-parts G env (Form.tab rank) args T r =
    omega (arith, ap length r.2, length-append (replicate rank (arg [] types.natural)) (arg (replicate rank types.natural) r.0 ∷ []), length-replicate rank (arg [] types.natural))

abbrev mutual
  -- the loops that an array-free form has beside those of the term
  more_loops : (b : ℕ) → Term → ℕ
  more_loops b (node f ps) = made_loops b f + parts_more b ps

  -- those that the forms of the parts have
  parts_more : (b : ℕ) → Parts → ℕ
  parts_more b none = 0
  parts_more b (part k t ps) = more_loops b t + parts_more b ps

mutual
  -- the loops of an array-free form
  array_free-loops : (a b : ℕ) (G : ℕ → Ty → Type 0) (env : List Ty) (t : Term) (T : Ty) → ctyped G env t T → loops_of a b (array_free t) ≡ loops_of a b t + more_loops b t
  array_free-loops a b G env (node f ps) T t =
      let h = subst (HasItsParts f) (sym (parts-counted G env ps t.1 t.3)) (typed-parts G env f t.1 T t.2) in
      omega (arith, loops-node a b f (array_free_parts ps) h, parts_free-loops a b G env ps t.1 t.3)

  parts_free-loops : (a b : ℕ) (G : ℕ → Ty → Type 0) (env : List Ty) (ps : Parts) (args : List Arg) → parts_typed G env ps args → parts_loops a b (array_free_parts ps) ≡ parts_loops a b ps + parts_more b ps
  parts_free-loops a b G env none args t = refl
  parts_free-loops a b G env (part k u ps) args t = omega (arith, array_free-loops a b G (t.0.own ++ env) u t.0.has t.4, parts_free-loops a b G env ps t.1 t.5)

copies-none : (k : ℕ) → copies k 0 ≡ 0
copies-none zero = refl
copies-none (suc k) = omega (arith, copies-none k)

copies-one : (k : ℕ) → copies k 1 ≡ k
copies-one zero = refl
copies-one (suc k) = omega (arith, copies-one k)

-- no sums are made
made-no_sums : (f : Form) → made_loops 0 f ≡ 0
made-no_sums (Form.var n) = refl
made-no_sums (Form.global n) = refl
made-no_sums Form.bind = refl
made-no_sums Form.choose = refl
made-no_sums Form.default = refl
made-no_sums Form.big_union = refl
made-no_sums Form.sum = refl
made-no_sums (Form.tab rank) = copies-none rank
made-no_sums (Form.strict Strict.sub) = refl
made-no_sums (Form.strict (Strict.dim rank)) = refl
made-no_sums (Form.strict (Strict.index rank)) = of (is_rank rank)
  where
    of : (r : Bool) → (if r then copies rank (0 + 0) + (copies rank 0 + 0) else 0) ≡ 0
    of true = omega (arith, copies-none rank, ap (copies rank) (let z : 0 + 0 ≡ 0 = omega arith in z))
    of false = refl
made-no_sums (Form.strict (Strict.literal rank)) = refl
made-no_sums (Form.strict (Strict.nat n)) = refl
made-no_sums (Form.strict (Strict.bool b)) = refl
made-no_sums (Form.strict (Strict.text s)) = refl
made-no_sums (Form.strict Strict.bottom) = refl
made-no_sums (Form.strict Strict.tuple) = refl
made-no_sums (Form.strict (Strict.proj at of)) = refl
made-no_sums (Form.strict (Strict.arith op)) = refl
made-no_sums (Form.strict (Strict.compare op)) = refl
made-no_sums (Form.strict Strict.empty) = refl
made-no_sums (Form.strict Strict.single) = refl
made-no_sums (Form.strict Strict.union) = refl
made-no_sums (Form.strict Strict.gen) = refl
made-no_sums (Form.strict Strict.get) = refl

mutual
  more-no_sums : (t : Term) → more_loops 0 t ≡ 0
  more-no_sums (node f ps) = omega (arith, made-no_sums f, parts-no_sums ps)

  parts-no_sums : (ps : Parts) → parts_more 0 ps ≡ 0
  parts-no_sums none = refl
  parts-no_sums (part k t ps) = omega (arith, more-no_sums t, parts-no_sums ps)

-- a loop for each rank
made-ranks : (f : Form) → own_rank f ≤ made_loops 1 f
made-ranks (Form.var n) = omega arith
made-ranks (Form.global n) = omega arith
made-ranks Form.bind = omega arith
made-ranks Form.choose = omega arith
made-ranks Form.default = omega arith
made-ranks Form.big_union = omega arith
made-ranks Form.sum = omega arith
made-ranks (Form.tab rank) = omega (arith, copies-one rank)
made-ranks (Form.strict s) = omega arith

mutual
  more-ranks : (t : Term) → ranks_of t ≤ more_loops 1 t
  more-ranks (node f ps) = omega (arith, made-ranks f, parts-more_ranks ps)

  parts-more_ranks : (ps : Parts) → parts_ranks ps ≤ parts_more 1 ps
  parts-more_ranks none = omega arith
  parts-more_ranks (part k t ps) = omega (arith, more-ranks t, parts-more_ranks ps)

-- the array-free form of a typed term has as many sums
pub array_free-sums : (G : ℕ → Ty → Type 0) (env : List Ty) (t : Term) (T : Ty) → ctyped G env t T → sums_of (array_free t) ≡ sums_of t
array_free-sums G env t T h = omega (arith, array_free-loops 1 0 G env t T h, more-no_sums t)

-- it has at least the big unions of the term, and one for each rank of a tabulation
pub array_free-big_unions : (G : ℕ → Ty → Type 0) (env : List Ty) (t : Term) (T : Ty) → ctyped G env t T → big_unions_of t + ranks_of t ≤ big_unions_of (array_free t)
array_free-big_unions G env t T h = omega (arith, array_free-loops 0 1 G env t T h, more-ranks t)
